pub mod StreamsLemmas
pub mod WordLemmas
pub mod EndLemmas
