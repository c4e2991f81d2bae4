-- The sets of tokens of the table of NURL as constants.
use Rattle.std.specs.Prelude.{ℕ, List, [], ◌∷◌}
use Rattle.lexer.specs.internal.Kinds.{ident, keyword, boolean, int, float, string, ampersand, percent, bar, star, plus, minus, slash}
use Rattle.lexer.specs.internal.Kinds.{less, greater, equal_equal, bang_equal, less_equal, greater_equal, less_less, greater_greater}
use Rattle.grammar.specs.Classes.{type_name}

-- any IDENT
abbrev pub name : List ℕ
name = ident ∷ type_name ∷ []

-- rule 2: "IDENT, `T`, `F`"; also rule 1's type names and rule 10's arm heads
abbrev pub declared_word : List ℕ
declared_word = ident ∷ type_name ∷ boolean ∷ []

-- rule 2: "at a call, and in `( Name .. )`, keywords too"
abbrev pub any_word : List ℕ
any_word = ident ∷ type_name ∷ boolean ∷ keyword ∷ []

-- match_payload = IDENT | INT
abbrev pub payload_token : List ℕ
payload_token = ident ∷ type_name ∷ int ∷ []

-- literal = INT | FLOAT | STR | BOOL
abbrev pub literals : List ℕ
literals = int ∷ float ∷ string ∷ boolean ∷ []

-- BIN_OP = '+' | '-' | '*' | '/' | '%' | '<' | '>' | '==' | '!=' | '<=' | '>=' | '<<' | '>>' | '&' | '|'
abbrev pub operators : List ℕ
operators =
    plus ∷ minus ∷ star ∷ slash ∷ percent ∷ less ∷ greater ∷ equal_equal ∷ bang_equal ∷ less_equal ∷ greater_equal ∷
    less_less ∷ greater_greater ∷ ampersand ∷ bar ∷ []
