pub mod Every
pub mod Contents
pub mod Numbers
pub mod Tested
pub mod Whole
pub mod Weaker
pub mod Cases
