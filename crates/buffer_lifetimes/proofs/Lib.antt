pub mod Slots
pub mod Values
pub mod Trees
pub mod Counts
pub mod Parts
pub mod Lawful
pub mod Evaluation
pub mod Types
