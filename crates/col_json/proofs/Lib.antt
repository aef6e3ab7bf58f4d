pub mod BeginsLemmas
pub mod CursorLemmas
pub mod DigitLemmas
pub mod GrammarLemmas
pub mod LexLemmas
pub mod NumberLemmas
pub mod ValueLemmas
