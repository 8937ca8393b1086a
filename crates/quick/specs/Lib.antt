-- What the quick loop counts on and leaves, and what a run comes to.
pub mod Quick
pub mod Drive
