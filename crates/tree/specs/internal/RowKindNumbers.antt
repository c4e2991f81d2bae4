-- The kinds of rows by their names in the code, and the number of each in the tree table.
use Rattle.std.specs.Prelude.{ℕ}
use Rattle.tree.specs.internal.RowKinds.{program_row, import_row, foreign_row, trait_row, impl_row, function_row, struct_row, enum_row, constant_row}
use Rattle.tree.specs.internal.RowKinds.{header_row, parameter_row, variant_row, list_row, block_row, let_row, set_name_row, set_element_row}
use Rattle.tree.specs.internal.RowKinds.{defer_row, while_row, foreach_row, literal_row, name_row, binary_row, not_row, return_row, complement_row}
use Rattle.tree.specs.internal.RowKinds.{try_row, closure_row, sizeof_row, aggregate_row, slice_row, conditional_row, call_row, member_row, cast_row}
use Rattle.tree.specs.internal.RowKinds.{match_row, arm_row, payload_row, base_type_row, pointer_row, optional_row, slice_type_row, result_row}
use Rattle.tree.specs.internal.RowKinds.{function_type_row, instance_row, named_type_row}
use Rattle.tree.specs.declared.row_kinds.RowKind.{RowKind}
use Rattle.tree.specs.declared.row_kinds.RowKind.TheVariants.{Program, Import, Foreign, Trait, Impl, Function, Struct, Enum, Constant, Header}
use Rattle.tree.specs.declared.row_kinds.RowKind.TheVariants.{Parameter, Variant, List, Block, Let, SetName, SetElement, Defer, While, Foreach}
use Rattle.tree.specs.declared.row_kinds.RowKind.TheVariants.{Literal, Name, Binary, Not, Return, Complement, Try, Closure, Sizeof, Aggregate, Slice}
use Rattle.tree.specs.declared.row_kinds.RowKind.TheVariants.{Conditional, Call, Member, Cast, Match, Arm, Payload, BaseType, Pointer, Optional}
use Rattle.tree.specs.declared.row_kinds.RowKind.TheVariants.{SliceType, Result, FunctionType, Instance, NamedType}

abbrev pub row_kind_number : RowKind → ℕ
row_kind_number Program = program_row
row_kind_number Import = import_row
row_kind_number Foreign = foreign_row
row_kind_number Trait = trait_row
row_kind_number Impl = impl_row
row_kind_number Function = function_row
row_kind_number Struct = struct_row
row_kind_number Enum = enum_row
row_kind_number Constant = constant_row
row_kind_number Header = header_row
row_kind_number Parameter = parameter_row
row_kind_number Variant = variant_row
row_kind_number List = list_row
row_kind_number Block = block_row
row_kind_number Let = let_row
row_kind_number SetName = set_name_row
row_kind_number SetElement = set_element_row
row_kind_number Defer = defer_row
row_kind_number While = while_row
row_kind_number Foreach = foreach_row
row_kind_number Literal = literal_row
row_kind_number Name = name_row
row_kind_number Binary = binary_row
row_kind_number Not = not_row
row_kind_number Return = return_row
row_kind_number Complement = complement_row
row_kind_number Try = try_row
row_kind_number Closure = closure_row
row_kind_number Sizeof = sizeof_row
row_kind_number Aggregate = aggregate_row
row_kind_number Slice = slice_row
row_kind_number Conditional = conditional_row
row_kind_number Call = call_row
row_kind_number Member = member_row
row_kind_number Cast = cast_row
row_kind_number Match = match_row
row_kind_number Arm = arm_row
row_kind_number Payload = payload_row
row_kind_number BaseType = base_type_row
row_kind_number Pointer = pointer_row
row_kind_number Optional = optional_row
row_kind_number SliceType = slice_type_row
row_kind_number Result = result_row
row_kind_number FunctionType = function_type_row
row_kind_number Instance = instance_row
row_kind_number NamedType = named_type_row
