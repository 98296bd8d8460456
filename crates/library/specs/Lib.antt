pub mod Reports
pub mod Totals
