pub mod Table
pub mod Image
pub mod Reading
pub mod Faults
pub mod Loading
pub mod EntryFields
pub mod Clear
