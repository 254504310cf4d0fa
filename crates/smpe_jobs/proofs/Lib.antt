pub mod Courses
pub mod Early
pub mod Listing
pub mod Closing
mod ZoneLines
mod Adding
mod Defining
mod FirstFault
mod HeadLookups
mod ListFile
mod ListRecords
mod Found
mod Returning
