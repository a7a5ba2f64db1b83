pub mod Blocks
pub mod Exprs
pub mod Programs
pub mod Codes
pub mod Settings
pub mod Rooms
