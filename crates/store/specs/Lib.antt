pub mod Cells
pub mod Nodes
pub mod Store
pub mod Makers
