pub mod Tables
pub mod FirstInputs
pub mod Images
pub mod Runs
pub mod Bytes
pub mod Lower
pub mod Lists
pub mod Goods
