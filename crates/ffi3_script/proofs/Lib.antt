mod Numbering
mod Steps
mod Given
mod Arguments
mod Loops
mod Conditions
mod BodyParts
mod FunctionParts
mod RootParts
mod ReadResults
mod ReadShapes
mod ReadTypes
mod OwnTypes
mod ReadValues
pub mod Standing
mod Few
mod Making
mod Refusals
