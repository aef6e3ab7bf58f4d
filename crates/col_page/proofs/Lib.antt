pub mod PageLemmas
pub mod GeneratorLemmas
