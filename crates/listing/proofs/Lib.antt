pub mod Clips
