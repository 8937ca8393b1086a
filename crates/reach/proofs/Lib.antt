-- What the rules leave of a decoded instruction, and how far the effect of one reaches.
pub mod Decoding
pub mod Capturing
pub mod Reaching
