pub mod BitLemmas
pub mod FormLemmas
pub mod LawLemmas
pub mod StepLemmas
pub mod UnaryLemmas
