pub mod Ranges
pub mod Checks
pub mod Changes
pub mod Images
pub mod Standing
pub mod Patched
