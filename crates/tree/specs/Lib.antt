-- The tree table: its rows, their kinds, and what the table holds.
pub mod RowKinds
pub mod TreeTable
pub mod internal
