pub mod Pass
pub mod Step
