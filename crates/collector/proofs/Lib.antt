pub mod Gathered
pub mod Joined
pub mod Alone
