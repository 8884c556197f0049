pub mod Firsts
pub mod Segments
pub mod Sounds
pub mod Spans
pub mod Steps
pub mod Ordinals
