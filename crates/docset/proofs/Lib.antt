pub mod Rising
pub mod Checks
pub mod Walks
pub mod Blocks
