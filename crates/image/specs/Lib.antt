-- What an image is: document 01, "The image: lines of hexadecimal, one frame a line". Read in this order.
pub mod Hex
pub mod Lines
pub mod Instruction
pub mod Frames
pub mod Judge
pub mod Write
