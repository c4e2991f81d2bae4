-- The tag of a kind is its number: by each of them.
use Prim.Native.Nat.{◌+◌}
use mathlib.Core.Path.{◌≡◌, refl}
use denote.Enum.Declared.{tag_of}
use Rattle.tree.specs.internal.RowKindNumbers.{row_kind_number}
use Rattle.tree.specs.contracts.row_kinds.RowKind.{the_type}
use Rattle.tree.specs.declared.row_kinds.RowKind.{RowKind}
use Rattle.tree.specs.declared.row_kinds.RowKind.TheVariants.{Program, Import, Foreign, Trait, Impl, Function, Struct, Enum, Constant, Header}
use Rattle.tree.specs.declared.row_kinds.RowKind.TheVariants.{Parameter, Variant, List, Block, Let, SetName, SetElement, Defer, While, Foreach}
use Rattle.tree.specs.declared.row_kinds.RowKind.TheVariants.{Literal, Name, Binary, Not, Return, Complement, Try, Closure, Sizeof, Aggregate, Slice}
use Rattle.tree.specs.declared.row_kinds.RowKind.TheVariants.{Conditional, Call, Member, Cast, Match, Arm, Payload, BaseType, Pointer, Optional}
use Rattle.tree.specs.declared.row_kinds.RowKind.TheVariants.{SliceType, Result, FunctionType, Instance, NamedType}
use Rattle.tree.proofs.row_kinds.RowKind.number.Goals as goal

tag_says : (kind : RowKind) → tag_of the_type kind + 1 ≡ row_kind_number kind
tag_says Program = refl
tag_says Import = refl
tag_says Foreign = refl
tag_says Trait = refl
tag_says Impl = refl
tag_says Function = refl
tag_says Struct = refl
tag_says Enum = refl
tag_says Constant = refl
tag_says Header = refl
tag_says Parameter = refl
tag_says Variant = refl
tag_says List = refl
tag_says Block = refl
tag_says Let = refl
tag_says SetName = refl
tag_says SetElement = refl
tag_says Defer = refl
tag_says While = refl
tag_says Foreach = refl
tag_says Literal = refl
tag_says Name = refl
tag_says Binary = refl
tag_says Not = refl
tag_says Return = refl
tag_says Complement = refl
tag_says Try = refl
tag_says Closure = refl
tag_says Sizeof = refl
tag_says Aggregate = refl
tag_says Slice = refl
tag_says Conditional = refl
tag_says Call = refl
tag_says Member = refl
tag_says Cast = refl
tag_says Match = refl
tag_says Arm = refl
tag_says Payload = refl
tag_says BaseType = refl
tag_says Pointer = refl
tag_says Optional = refl
tag_says SliceType = refl
tag_says Result = refl
tag_says FunctionType = refl
tag_says Instance = refl
tag_says NamedType = refl

pub returns : goal.returns
returns c = tag_says c.args.self
