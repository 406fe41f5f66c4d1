-- The rules of documents 01 and 02 on orders, in their order, and last what a run of words means as a book.
pub mod Orders
pub mod Matching
pub mod Fill
pub mod Sound
pub mod OrderRecords
pub mod Depth
pub mod Words
