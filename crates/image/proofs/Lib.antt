pub mod Contents
pub mod Bytes
pub mod Sums
pub mod Format
pub mod Chunked
pub mod Written
pub mod Openings
