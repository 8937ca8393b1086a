-- What a start answers, and the state that it leaves.
pub mod Start
