-- The public entry points: answers as numbers, what a host fetches, and the C face.
pub mod Answers
pub mod Results
pub mod Face
