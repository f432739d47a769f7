pub mod Fields
pub mod Places
pub mod Represents
pub mod Effects
pub mod Bursts
pub mod Firings
pub mod Entry
pub mod EntrySettles
