-- The classes of tokens that the table of NURL speaks of. A class is a token's kind, but an IDENT in N has a class of its own. So
-- the classes are 0, the end, to 43.
use Rattle.std.specs.Prelude.{ℕ, List, [], ◌∷◌, ◌++◌}
use Prim.Native.String.{String}
use lib.Text.{eqt}
use Rattle.lexer.specs.Tests.{pick}
use Rattle.lexer.specs.Kinds.{token_kind}

-- an IDENT in N; as a class, IDENT is then an IDENT that is not in N
abbrev pub type_name : ℕ
type_name = 43

-- the classes of the tokens of some kinds
abbrev pub classes_of : List String → List ℕ
classes_of [] = []
classes_of (kind ∷ more) = token_kind kind ∷ pick (eqt kind "IDENT") (type_name ∷ []) [] ++ classes_of more
