pub mod Order
pub mod Held
pub mod BestOrder
pub mod Fault
pub mod Walk
pub mod Laws
