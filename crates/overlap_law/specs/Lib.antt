pub mod Runs
pub mod Kept
pub mod Ends
pub mod Flights
pub mod Laws
pub mod Search
