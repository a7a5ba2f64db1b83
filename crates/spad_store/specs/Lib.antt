pub mod Cells
pub mod Sizes
pub mod Packed
pub mod Queue
pub mod Tagged
