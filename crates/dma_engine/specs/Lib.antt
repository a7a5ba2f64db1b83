pub mod Direction
pub mod Transfers
pub mod Current
pub mod Channel
pub mod Laws
pub mod Rows
