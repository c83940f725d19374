pub mod Machine
pub mod Pipe
pub mod Flow
pub mod Count
pub mod World
pub mod Play
pub mod Slots
