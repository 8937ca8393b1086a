-- Laws of reading, from the digits up to the whole image.
pub mod HexLaws
pub mod LineLaws
pub mod JudgeLaws
pub mod PutLaws
pub mod Parts
pub mod Bounds
pub mod Described
pub mod Contents
