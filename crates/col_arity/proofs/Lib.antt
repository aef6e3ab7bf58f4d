pub mod BeneathLemmas
pub mod KernelLemmas
pub mod RowLemmas
pub mod StepLemmas
mod StoredLemmas
