pub mod Operand
pub mod Sources
pub mod Rows
pub mod Store
