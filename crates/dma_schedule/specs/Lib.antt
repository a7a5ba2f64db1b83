pub mod Blocks
pub mod PipeList
pub mod Pipelined
pub mod Zone
pub mod Plan
pub mod Laws
pub mod Examples
