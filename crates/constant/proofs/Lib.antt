-- The laws of this crate's definitions: a value in a register.
pub mod Registers
