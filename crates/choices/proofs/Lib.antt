-- Laws of choices and tests.
pub mod Choices
pub mod Below
