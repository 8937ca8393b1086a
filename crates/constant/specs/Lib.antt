-- What the machine's values are, arithmetic and bit operations on them, and whom their errors name.
pub mod Values
pub mod Named
pub mod Operators
