-- The laws of the storage: what the test behind 6 means (Six). The others serve Six and the test's code.
pub mod Six
pub mod Places
pub mod Runs
pub mod Lies
pub mod Described
pub mod Seen
pub mod Order
pub mod Reading
pub mod Sizes
pub mod Heads
pub mod Sound
pub mod Walk
pub mod Answer
