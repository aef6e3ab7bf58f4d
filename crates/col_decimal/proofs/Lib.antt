pub mod AdaptiveLemmas
pub mod DecimalLemmas
pub mod PrecisionLemmas
pub mod StepLemmas
