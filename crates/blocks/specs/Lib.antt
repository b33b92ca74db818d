pub mod Layout
pub mod Ranges
pub mod Memories
pub mod Patches
