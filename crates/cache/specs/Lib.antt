pub mod Lines
pub mod Caches
