pub mod Gather
pub mod Graph
pub mod Order
pub mod Search
pub mod Shortest
pub mod Turns
