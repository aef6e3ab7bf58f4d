pub use Rattle.col_types.specs.Answer
pub use Rattle.col_types.specs.Column
pub use Rattle.col_flat.specs.Parts
pub mod Answered
pub mod Rows
