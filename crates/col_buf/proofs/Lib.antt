pub mod BitLemmas
pub mod ChunkLemmas
pub mod CutLemmas
pub mod NumberLemmas
pub mod PackedLemmas
