mod Restored
mod Cases
