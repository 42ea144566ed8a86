mod Entered
mod Moving
mod Popped
mod Right
mod Shown
mod Single
