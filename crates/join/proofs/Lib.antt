pub mod Seen
pub mod Scattered
pub mod Following
pub mod Merging
pub mod MergedLists
pub mod Joined
pub mod Handed
