pub mod Queues
pub mod Bits
pub mod Words
pub mod Packing
pub mod Rounds
