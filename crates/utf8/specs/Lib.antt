pub mod Octets
pub mod Rows
