pub mod Pieces
pub mod Paths
pub mod Text
pub mod Faults
pub mod Reading
pub mod Padded
pub mod Facets
pub mod Laws
