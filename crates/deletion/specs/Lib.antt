-- What the program writes: the bytes of its lines, and from an image's bytes all of it; and what its words stand for.
pub mod Lines
pub mod Output
pub mod Words
