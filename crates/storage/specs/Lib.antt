-- How a read image lies in the lent slices, and which contents of them no image leaves.
pub mod Layout
pub mod Fields
pub mod Stored
pub mod Cursor
