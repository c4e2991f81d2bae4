-- Where a byte of a source stands: "line and column, both from 1, a column being one byte and a line ending after byte 10".
use Rattle.std.specs.Prelude.{ℕ, suc, List, [], ◌∷◌, take}
use Rattle.lexer.specs.Tests.{pick}
use Rattle.lexer.specs.Bytes.{is_in_line}
use Rattle.lexer.specs.declared.Location.{Location}

-- where the first byte stands
abbrev pub origin : Location
origin = record { line = 1; column = 1 }

-- where the byte after a byte stands
unfoldable pub next : Location → ℕ → Location
next at b = pick (is_in_line b) (record { line = at.line; column = suc at.column }) (record { line = suc at.line; column = 1 })

-- where the byte after some bytes stands; `after_append` in proofs/ says it for bytes in two parts
unfoldable pub after : Location → List ℕ → Location
after at [] = at
after at (b ∷ s) = after (next at b) s

-- where the byte at an offset of a source stands; from the length on, where the byte past the end stands
abbrev pub location_of : List ℕ → ℕ → Location
location_of source offset = after origin (take offset source)
