pub mod Recipes
pub mod Counting
pub mod Lines
