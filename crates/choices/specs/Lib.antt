-- A test at every number below another.
pub mod Below
