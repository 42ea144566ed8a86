pub mod Saying
pub mod Never
pub mod Completes
pub mod Fixed
pub mod Shapes
pub mod Lists
pub mod PlainRest
pub mod PlainSound
pub mod WideRest
pub mod Rounds
pub mod WideSound
pub mod Sound
pub mod Ways
pub mod Alike
pub mod Kept
pub mod Judged
pub mod OnePass
pub mod Spellable
pub mod Written
pub mod Spoken
pub mod SpokenNumbers
pub mod SpokenTexts
pub mod Widened
pub mod Readings
pub mod Tokenwise
pub mod Identifiers
pub mod WideNames
pub mod PrototypeTexts
pub mod Prototypes
pub mod Followed
pub mod Expecting
pub mod Tracking
pub mod Told
mod Rows
mod WideRows
mod ToldRows
