pub mod Lists
pub mod Readings
pub mod Fields
pub mod Growing
pub mod Accepted
pub mod Encoded
pub mod Placed
pub mod Sized
