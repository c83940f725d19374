pub mod RoomLemmas
pub mod SizeLemmas
