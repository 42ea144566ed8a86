pub mod BenchText
pub mod FaultLines
pub mod Commands
pub mod Declarations
pub mod Outcome
pub mod Top
