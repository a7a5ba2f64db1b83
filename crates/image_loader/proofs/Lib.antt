pub mod Slots
pub mod Entries
pub mod Stops
pub mod Spelled
pub mod WholeImages
pub mod FewBytes
pub mod Appending
pub mod OneFault
