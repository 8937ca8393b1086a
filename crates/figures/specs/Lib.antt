-- What a text reads as, and which number a decimal fraction is. `Grammar` says it as the request's sentence does; `Figures` as a function, which the code
-- is proved against; `Statements`, that both are one. Assumes nothing.
pub mod Decimal
pub mod Closest
pub mod Texts
pub mod Figures
pub mod Steps
pub mod Figured
pub mod Grammar
pub mod Statements
