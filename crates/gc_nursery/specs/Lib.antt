pub mod Minor
pub mod Encoding
pub mod Major
pub mod Rows
