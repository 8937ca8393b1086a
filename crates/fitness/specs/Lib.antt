-- When a machine's state is fit to run.
pub mod Fit
pub mod Facts
pub mod Held
