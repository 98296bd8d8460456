pub mod Forms
pub mod Written
pub mod Whole
pub mod OnlyOne
pub mod PlaceLaws
pub mod WayLaws
