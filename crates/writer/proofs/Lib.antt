-- The laws behind the writer, and the round trip of reader and writer.
pub mod Puts
pub mod HexPuts
pub mod FramePuts
pub mod Narrow
pub mod Answers
pub mod OneLine
pub mod RoundTrip
