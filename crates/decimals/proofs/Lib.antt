pub mod DigitLaws
pub mod RoomLaws
pub mod SignLaws
pub mod WordLaws
