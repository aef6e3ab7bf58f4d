pub mod CheckedLemmas
pub mod LawLemmas
pub mod ListLemmas
pub mod MaskLemmas
pub mod SumLemmas
