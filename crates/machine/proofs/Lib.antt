-- The laws behind the entry points and the C face; Inside says that what a host is told lies inside what was lent.
pub mod Faces
pub mod Returns
pub mod Spans
pub mod Inside
