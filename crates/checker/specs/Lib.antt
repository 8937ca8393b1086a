-- What the checker demands: document 01's section of that name, and document 02, 6/12. Read in this order; Steps is for the code alone.
pub mod Operations
pub mod Rules
pub mod Decode
pub mod Captures
pub mod Check
pub mod Kept
pub mod Steps
