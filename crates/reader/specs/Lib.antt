-- What reading an image answers, and what it leaves; Steps is for the code's own functions.
pub mod Reading
pub mod Steps
