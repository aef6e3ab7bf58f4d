pub use Rattle.col_types.specs.Answer
pub use Rattle.col_types.specs.Column
pub use Rattle.col_basic.specs.Flagged
pub use Rattle.col_decimal.specs.DecimalStep
pub use Rattle.col_flat.specs.Parts
pub mod Operators
