-- The constants of row kinds are the positions of their names. Assumes nothing.
use mathlib.Core.Path.{◌≡◌, refl}
use mathlib.Core.List.{[], ◌∷◌, map}
use Rattle.tree.specs.RowKinds.{row_kinds, row_kind}
use Rattle.tree.specs.internal.RowKinds.{
  program_row,
  import_row,
  foreign_row,
  trait_row,
  impl_row,
  function_row,
  struct_row,
  enum_row,
  constant_row,
  header_row,
  parameter_row,
  variant_row,
  list_row,
  block_row,
  let_row,
  set_name_row,
  set_element_row,
  defer_row,
  while_row,
  foreach_row,
  literal_row,
  name_row,
  binary_row,
  not_row,
  return_row,
  complement_row,
  try_row,
  closure_row,
  sizeof_row,
  aggregate_row,
  slice_row,
  conditional_row,
  call_row,
  member_row,
  cast_row,
  match_row,
  arm_row,
  payload_row,
  base_type_row,
  pointer_row,
  optional_row,
  slice_type_row,
  result_row,
  function_type_row,
  instance_row,
  named_type_row,
}

pub row_kinds_named : map row_kind row_kinds ≡
    program_row ∷ import_row ∷ foreign_row ∷ trait_row ∷ impl_row ∷ function_row ∷ struct_row ∷ enum_row ∷ constant_row ∷ header_row ∷
    parameter_row ∷ variant_row ∷ list_row ∷ block_row ∷ let_row ∷ set_name_row ∷ set_element_row ∷ defer_row ∷ while_row ∷ foreach_row ∷
    literal_row ∷ name_row ∷ binary_row ∷ not_row ∷ return_row ∷ complement_row ∷ try_row ∷ closure_row ∷ sizeof_row ∷ aggregate_row ∷ slice_row ∷
    conditional_row ∷ call_row ∷ member_row ∷ cast_row ∷ match_row ∷ arm_row ∷ payload_row ∷ base_type_row ∷ pointer_row ∷ optional_row ∷
    slice_type_row ∷ result_row ∷ function_type_row ∷ instance_row ∷ named_type_row ∷ []
row_kinds_named = refl
