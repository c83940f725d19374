pub mod Bytes
pub mod Memory
pub mod Puts
pub mod Report
