-- What a line of a list says.
pub mod Lines
