-- "Token kinds: IDENT 1, keyword 2, boolean 3, Z 4, INT 5, FLOAT 6, STR 7, then in this order from 8 to 42" the marks. A kind's number
-- is its position.
use Rattle.std.specs.Prelude.{ℕ, List, [], ◌∷◌}
use Prim.Native.String.{String}
use Rattle.lexer.specs.Positions.{position_from}

abbrev pub mark_names : List String
mark_names =
    "$" ∷ "&" ∷ "@" ∷ "%" ∷ ":" ∷ "|" ∷ "=" ∷ ";" ∷ "~" ∷ "{" ∷ "}" ∷ "(" ∷ ")" ∷ "[" ∷ "]" ∷ "!" ∷ "^" ∷ "\\" ∷ "?" ∷
    "." ∷ "#" ∷ "*" ∷ "+" ∷ "-" ∷ "/" ∷ "<" ∷ ">" ∷ "==" ∷ "!=" ∷ "<=" ∷ ">=" ∷ "<<" ∷ ">>" ∷ "??" ∷ "→" ∷ []

abbrev pub token_kinds : List String
token_kinds = "IDENT" ∷ "keyword" ∷ "boolean" ∷ "Z" ∷ "INT" ∷ "FLOAT" ∷ "STR" ∷ mark_names

abbrev pub token_kind : String → ℕ
token_kind name = position_from 1 token_kinds name
