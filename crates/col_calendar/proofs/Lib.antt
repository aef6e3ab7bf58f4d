pub mod CivilLemmas
pub mod InstantLemmas
pub mod KnownLemmas
pub mod PartLemmas
pub mod WeekLemmas
