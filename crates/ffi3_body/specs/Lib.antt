pub mod MoveOf
