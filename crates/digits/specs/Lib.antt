-- Digits, decimal and hexadecimal.
pub mod Times
