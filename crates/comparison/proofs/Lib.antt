-- The laws of this crate's definitions: the order of strings (`TextLaws`), equality and NaN (`EqualLaws`), comparison by exact value (`ExactLaws`); and
-- what the functions' proofs cite.
pub mod TextLaws
pub mod EqualLaws
pub mod ExactLaws
mod Orders
