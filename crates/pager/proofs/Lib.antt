mod Stack
mod Looks
mod Saves
pub mod Pages
mod Views
mod SavedRows
mod Keeps
mod Passes
mod Since
mod Stacks
mod Fresh
pub mod Counted
pub mod Sizes
mod Walks
pub mod Members
pub mod Lands
mod Cases
