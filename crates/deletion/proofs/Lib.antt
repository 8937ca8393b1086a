-- Laws of what the program says, of putting it into the output, that it always fits there, and of what its words stand for.
pub mod Said
pub mod Fits
pub mod Puts
pub mod Outputs
pub mod Spoken
