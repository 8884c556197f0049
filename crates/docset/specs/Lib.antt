pub mod Pairs
pub mod Faults
pub mod Checks
pub mod Rises
pub mod Walks
