-- Laws of the tree table.
pub mod RowKinds
pub mod Trees
pub mod Leaves
