pub mod FaultOf
pub mod Tells
pub mod SnapshotOf
pub mod AnswerOf
