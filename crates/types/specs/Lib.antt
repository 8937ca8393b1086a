-- A byte that is a number or none.
pub mod Opt
