-- What a decoded instruction names, and how far its effect reaches.
pub mod Within
pub mod Suits
