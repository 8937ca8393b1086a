-- Equality and order of the machine's values.
pub mod Comparison
