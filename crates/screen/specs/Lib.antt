pub mod Put
pub mod Text
pub mod Shows
pub mod Displayed
pub mod Fits
pub mod Examples
