pub mod Forms
pub mod Numbers
pub mod Layouts
pub mod Laws
pub mod WorkedRecords
