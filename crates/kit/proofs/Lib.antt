pub mod WorkedCases
mod Empty
pub mod Beginnings
mod Nodes
mod Numbers
mod Playing
mod SameKits
mod Runs
mod Starting
mod OneItem
mod Forced
