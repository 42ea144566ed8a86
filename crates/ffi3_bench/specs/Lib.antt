pub mod LineState
