pub mod Fits
pub mod Canonical
pub mod RoundTrip
