-- A name read byte by byte, "with `::` read as `__`", from places each of which may be inside of a `::`.
use Prim.Native.Char.{code}
use Rattle.std.specs.Prelude.{ℕ, Bool, true, false, List, [], ◌∷◌}
use Rattle.lexer.specs.Words.{as_name}
use Rattle.typenames.specs.declared.compare.Read.{Read}

-- what some bytes of a name are read as, where the first of them may be inside
abbrev pub read_from : Bool → List ℕ → List ℕ
read_from true [] = []
read_from true (b ∷ s) = code "_" ∷ as_name s
read_from false s = as_name s

-- what is still to be read of a name
abbrev pub read_left : Read → List ℕ
read_left r = read_from r.inside r.rest.now
