-- The operators of types and of expressions: by the number of the alternative, how many operands each has and which row it makes.
-- And the expressions that are a type and its elements: which marks stand around the elements, and which row is made.
use Rattle.std.specs.Prelude.{ℕ}
use Rattle.lexer.specs.internal.Kinds.{bar, right_bracket, left_brace, right_brace}
use Rattle.tree.specs.internal.RowKinds.{pointer_row, optional_row, slice_type_row, result_row, binary_row, not_row, return_row, complement_row}
use Rattle.tree.specs.internal.RowKinds.{conditional_row, member_row, slice_row, aggregate_row}
use Rattle.grammar.specs.internal.Forms.{pointer_type, optional_type, slice_type, result_type, binary_expression, not_expression}
use Rattle.grammar.specs.internal.Forms.{return_expression, complement_expression, conditional_expression, member_expression}

pub data TypeOperator : ℕ → ℕ → ℕ → Type 0 where
  pointer : TypeOperator pointer_type 1 pointer_row
  optional : TypeOperator optional_type 1 optional_row
  slice : TypeOperator slice_type 1 slice_type_row
  result : TypeOperator result_type 2 result_row

pub data Operation : ℕ → ℕ → ℕ → Type 0 where
  binary : Operation binary_expression 2 binary_row
  negation : Operation not_expression 1 not_row
  return : Operation return_expression 1 return_row
  complement : Operation complement_expression 1 complement_row
  conditional : Operation conditional_expression 3 conditional_row
  member : Operation member_expression 2 member_row

-- the alternatives of an expression that are a slice and an aggregate
abbrev pub slice_expression : ℕ
slice_expression = 12

abbrev pub aggregate_expression : ℕ
aggregate_expression = 13

pub data Elements : ℕ → ℕ → ℕ → ℕ → Type 0 where
  slice_elements : Elements slice_expression bar right_bracket slice_row
  aggregate_elements : Elements aggregate_expression left_brace right_brace aggregate_row
