pub mod CommandParts
pub mod WordAnswers
