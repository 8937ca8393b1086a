-- The pure round trip: image and frames, there and back.
pub mod HexLaws
pub mod Packing
pub mod Said
pub mod Back
pub mod Trip
pub mod Sizes
