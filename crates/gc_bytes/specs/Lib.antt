pub mod Changed
pub mod ChangedTops
pub mod Text
pub mod Vector
