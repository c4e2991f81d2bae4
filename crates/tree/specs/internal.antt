-- How rows are put into a tree table one by one, and the kinds of rows as constants. The promise of `nurl` does not depend on it.
pub mod RowKindNumbers
pub mod RowKinds
pub mod Trees
