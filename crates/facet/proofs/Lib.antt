pub mod Bytes
pub mod Octets
pub mod Paths
pub mod Texts
