pub mod CellCode
