pub mod Step
pub mod Order
pub mod OrderOf
pub mod Laws
