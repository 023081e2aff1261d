pub mod Zeros
pub mod Bytewise
pub mod WordBytes
pub mod Asking
pub mod Undoing
pub mod Reading
pub mod Damages
pub mod WorkedRecords
