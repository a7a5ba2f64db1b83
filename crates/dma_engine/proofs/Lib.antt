pub mod Currents
pub mod Kept
pub mod Copies
pub mod Beaten
pub mod Rows
