mod Recorded
mod Ended
