-- The laws behind the decoder and the search, and what the checker's answer says.
pub mod Places
pub mod Shapes
pub mod Lowest
pub mod Turns
pub mod Past
pub mod Exact
