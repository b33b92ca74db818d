pub mod Registers
pub mod Operations
pub mod Refusals
pub mod Words
pub mod Meanings
pub mod Programs
