pub mod Numerals
pub mod Scripts
mod Walks
mod Rows
mod Runs
mod KitCalls
pub mod Turns
pub mod Follows
pub mod Refusals
pub mod Deeds
pub mod Since
pub mod Sessions
pub mod Told
pub mod Streams
pub mod Progress
pub mod Undoing
pub mod Echoes
pub mod Players
