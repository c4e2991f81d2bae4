-- The kinds of rows, from 1 to 46, in the words and in the order of document 01's section "Rows".
use Rattle.std.specs.Prelude.{ℕ, List, [], ◌∷◌}
use Prim.Native.String.{String}
use Rattle.lexer.specs.Positions.{position_from}

abbrev pub row_kinds : List String
row_kinds =
    "program" ∷ "import" ∷ "foreign" ∷ "trait" ∷ "impl" ∷ "function" ∷ "struct" ∷ "enum" ∷ "constant" ∷ "header" ∷ "parameter or field" ∷
    "variant" ∷ "bracketed name list" ∷ "block" ∷ "let" ∷ "set name" ∷ "set element" ∷ "defer" ∷ "while" ∷ "foreach" ∷ "literal" ∷
    "name as expression" ∷ "binary" ∷ "not" ∷ "return" ∷ "complement" ∷ "try" ∷ "closure" ∷ "sizeof" ∷ "aggregate" ∷ "slice literal" ∷
    "conditional" ∷ "call" ∷ "member" ∷ "cast" ∷ "match" ∷ "arm" ∷ "payload" ∷ "base type" ∷ "pointer" ∷ "optional" ∷ "slice type" ∷
    "result" ∷ "function type" ∷ "generic instance" ∷ "named type" ∷ []

abbrev pub row_kind : String → ℕ
row_kind name = position_from 1 row_kinds name
