pub mod Reports
pub mod OnlyOne
pub mod Totals
