-- Laws of the loops over a line.
pub mod Digits
