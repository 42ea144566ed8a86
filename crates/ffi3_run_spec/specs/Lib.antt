pub mod CallSteps
pub mod RunMatches
pub mod RunInterrupted
