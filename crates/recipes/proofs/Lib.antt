pub mod Counts
pub mod Cuts
pub mod Lists
