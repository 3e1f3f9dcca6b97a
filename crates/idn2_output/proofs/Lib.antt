-- What is written, line by line.
pub mod WrittenOutputLines
