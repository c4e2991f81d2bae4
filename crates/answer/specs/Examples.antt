-- The bench examples M1 to M11 of document 01 as one table: a source, the extra names, and what the answer and both tables are to
-- be. The claim that the answer is so, for each entry, is `examples_hold` in proofs/.
use Rattle.std.specs.Prelude.{ℕ, List, [], ◌∷◌, length, replicate}
use Prim.Native.String.{String}
use Rattle.lexer.specs.Text.{bytes}
use Rattle.lexer.specs.Tokens.{Token}
use Rattle.lexer.specs.Examples.{token_from}
use Rattle.lexer.specs.Table.{filled}
use Rattle.tree.specs.RowKinds.{row_kind}
use Rattle.tree.specs.TreeTable.{Row, placed, cleared}
use Rattle.answer.specs.Results.{Result}
use Rattle.answer.specs.declared.Answer.TheVariants.{Accepted, Refused}

-- what is to come of a source
pub data Expected : Type 0 where
  -- accepted, with these tokens and these rows
  accepts : List Token → List Row → Expected
  -- refused with a number from 1 to 5 and a place: both tables unchanged
  refused_early : ℕ → ℕ → Expected
  -- refused with a number from 6 to 8 and a place: all tokens in the token table, and the tree table cleared
  refused_late : ℕ → ℕ → List Token → Expected

pub record Example : Type 0 where
  pub source : List ℕ
  pub names : List ℕ
  pub expected : Expected

abbrev pub node : String → ℕ → ℕ → ℕ → Row
node k f c n = record { kind = row_kind k; first = f; cover = c; count = n }

-- the lent tables: 20 token rows and 12 tree rows of sevens, and in each two numbers more
unfoldable pub lent_tokens : List ℕ
lent_tokens = replicate 62 7

unfoldable pub lent_rows : List ℕ
lent_rows = replicate 50 7

-- what that is for a source
unfoldable pub result_of : List ℕ → Expected → Result
result_of source (accepts ts rs) =
    record { answer = Accepted (length ts) (length rs); tokens = filled source ts lent_tokens; rows = placed rs lent_rows }
result_of source (refused_early number place) = record { answer = Refused number place; tokens = lent_tokens; rows = lent_rows }
result_of source (refused_late number place ts) =
    record { answer = Refused number place; tokens = filled source ts lent_tokens; rows = cleared lent_rows }

-- a source that is a text, with no extra names
unfoldable pub example : String → Expected → Example
unfolding bytes
example text expected = record { source = bytes text; names = []; expected = expected }

unfoldable pub examples : List Example
unfolding example bytes
examples =
    -- M1
    example "" (accepts
    []
    (node "program" 0 0 1 ∷ [])) ∷
    -- M2
    example ": i floor -40" (accepts
    (token_from ":" 0 1 ∷ token_from "keyword" 2 1 ∷ token_from "IDENT" 4 5 ∷ token_from "INT" 10 3 ∷ [])
    (node "program" 0 4 4 ∷ node "constant" 0 4 3 ∷ node "base type" 1 1 1 ∷ node "literal" 3 1 1 ∷ [])) ∷
    -- M3
    example ": i a - 4" (refused_late 6 3
    (token_from ":" 0 1 ∷ token_from "keyword" 2 1 ∷ token_from "IDENT" 4 1 ∷ token_from "-" 6 1 ∷ token_from "INT" 8 1 ∷ [])) ∷
    -- M4
    example "@ g → v { [ i | -40 60 ] }" (accepts
    (token_from "@" 0 1 ∷ token_from "IDENT" 2 1 ∷ token_from "→" 4 3 ∷ token_from "keyword" 8 1 ∷ token_from "{" 10 1 ∷ token_from "[" 12 1 ∷
    token_from "keyword" 14 1 ∷ token_from "|" 16 1 ∷ token_from "INT" 18 3 ∷ token_from "INT" 22 2 ∷ token_from "]" 25 1 ∷ token_from "}" 27 1 ∷ [])
    (node "program" 0 12 8 ∷ node "function" 0 12 7 ∷ node "base type" 3 1 1 ∷ node "block" 4 8 5 ∷ node "slice literal" 5 6 4 ∷
    node "base type" 6 1 1 ∷ node "literal" 8 1 1 ∷ node "literal" 9 1 1 ∷ [])) ∷
    example "@ g → v { [ i | - 40 60 ] }" (accepts
    (token_from "@" 0 1 ∷ token_from "IDENT" 2 1 ∷ token_from "→" 4 3 ∷ token_from "keyword" 8 1 ∷ token_from "{" 10 1 ∷ token_from "[" 12 1 ∷
    token_from "keyword" 14 1 ∷ token_from "|" 16 1 ∷ token_from "-" 18 1 ∷ token_from "INT" 20 2 ∷ token_from "INT" 23 2 ∷ token_from "]" 26 1 ∷
    token_from "}" 28 1 ∷ [])
    (node "program" 0 13 9 ∷ node "function" 0 13 8 ∷ node "base type" 3 1 1 ∷ node "block" 4 9 6 ∷ node "slice literal" 5 7 5 ∷
    node "base type" 6 1 1 ∷ node "binary" 8 3 3 ∷ node "literal" 9 1 1 ∷ node "literal" 10 1 1 ∷ [])) ∷
    -- M5, for `??` is one token
    example "@ g ??i x → v { }" (refused_late 6 2
    (token_from "@" 0 1 ∷ token_from "IDENT" 2 1 ∷ token_from "??" 4 2 ∷ token_from "keyword" 6 1 ∷ token_from "IDENT" 8 1 ∷ token_from "→" 10 3 ∷
    token_from "keyword" 14 1 ∷ token_from "{" 16 1 ∷ token_from "}" 18 1 ∷ [])) ∷
    -- M6
    example "m::alloc" (refused_late 6 0
    (token_from "IDENT" 0 8 ∷ [])) ∷
    example "m::i" (refused_late 6 0
    (token_from "IDENT" 0 1 ∷ token_from ":" 1 1 ∷ token_from ":" 2 1 ∷ token_from "keyword" 3 1 ∷ [])) ∷
    -- M7
    example "`" (refused_early 4 0) ∷
    -- M8
    example "," (refused_early 3 0) ∷
    -- M9: one statement with the declaration, and two without
    example ": Foo { } @ g → v { : Foo x 1 }" (accepts
    (token_from ":" 0 1 ∷ token_from "IDENT" 2 3 ∷ token_from "{" 6 1 ∷ token_from "}" 8 1 ∷ token_from "@" 10 1 ∷ token_from "IDENT" 12 1 ∷
    token_from "→" 14 3 ∷ token_from "keyword" 18 1 ∷ token_from "{" 20 1 ∷ token_from ":" 22 1 ∷ token_from "IDENT" 24 3 ∷ token_from "IDENT" 28 1 ∷
    token_from "INT" 30 1 ∷ token_from "}" 32 1 ∷ [])
    (node "program" 0 14 8 ∷ node "struct" 0 4 1 ∷ node "function" 4 10 6 ∷ node "base type" 7 1 1 ∷ node "block" 8 6 4 ∷
    node "let" 9 4 3 ∷ node "named type" 10 1 1 ∷ node "literal" 12 1 1 ∷ [])) ∷
    example "@ g → v { : Foo x 1 }" (accepts
    (token_from "@" 0 1 ∷ token_from "IDENT" 2 1 ∷ token_from "→" 4 3 ∷ token_from "keyword" 8 1 ∷ token_from "{" 10 1 ∷ token_from ":" 12 1 ∷
    token_from "IDENT" 14 3 ∷ token_from "IDENT" 18 1 ∷ token_from "INT" 20 1 ∷ token_from "}" 22 1 ∷ [])
    (node "program" 0 10 7 ∷ node "function" 0 10 6 ∷ node "base type" 3 1 1 ∷ node "block" 4 6 4 ∷ node "let" 5 3 2 ∷
    node "name as expression" 7 1 1 ∷ node "literal" 8 1 1 ∷ [])) ∷
    -- and one with Foo among the extra names
    record {
      source = bytes "@ g → v { : Foo x 1 }";
      names = bytes "Foo";
      expected = accepts
          (token_from "@" 0 1 ∷ token_from "IDENT" 2 1 ∷ token_from "→" 4 3 ∷ token_from "keyword" 8 1 ∷ token_from "{" 10 1 ∷ token_from ":" 12 1 ∷
          token_from "IDENT" 14 3 ∷ token_from "IDENT" 18 1 ∷ token_from "INT" 20 1 ∷ token_from "}" 22 1 ∷ [])
          (node "program" 0 10 7 ∷ node "function" 0 10 6 ∷ node "base type" 3 1 1 ∷ node "block" 4 6 4 ∷ node "let" 5 4 3 ∷
          node "named type" 6 1 1 ∷ node "literal" 8 1 1 ∷ []);
    } ∷
    -- M10: a loop, a foreach, and two statements
    example "@ g → v { ~ x { } }" (accepts
    (token_from "@" 0 1 ∷ token_from "IDENT" 2 1 ∷ token_from "→" 4 3 ∷ token_from "keyword" 8 1 ∷ token_from "{" 10 1 ∷ token_from "~" 12 1 ∷
    token_from "IDENT" 14 1 ∷ token_from "{" 16 1 ∷ token_from "}" 18 1 ∷ token_from "}" 20 1 ∷ [])
    (node "program" 0 10 7 ∷ node "function" 0 10 6 ∷ node "base type" 3 1 1 ∷ node "block" 4 6 4 ∷ node "while" 5 4 3 ∷
    node "name as expression" 6 1 1 ∷ node "block" 7 2 1 ∷ [])) ∷
    example "@ g → v { ~ x y { } }" (accepts
    (token_from "@" 0 1 ∷ token_from "IDENT" 2 1 ∷ token_from "→" 4 3 ∷ token_from "keyword" 8 1 ∷ token_from "{" 10 1 ∷ token_from "~" 12 1 ∷
    token_from "IDENT" 14 1 ∷ token_from "IDENT" 16 1 ∷ token_from "{" 18 1 ∷ token_from "}" 20 1 ∷ token_from "}" 22 1 ∷ [])
    (node "program" 0 11 7 ∷ node "function" 0 11 6 ∷ node "base type" 3 1 1 ∷ node "block" 4 7 4 ∷ node "foreach" 5 5 3 ∷
    node "name as expression" 7 1 1 ∷ node "block" 8 2 1 ∷ [])) ∷
    example "@ g → v { ~ x 1 }" (accepts
    (token_from "@" 0 1 ∷ token_from "IDENT" 2 1 ∷ token_from "→" 4 3 ∷ token_from "keyword" 8 1 ∷ token_from "{" 10 1 ∷ token_from "~" 12 1 ∷
    token_from "IDENT" 14 1 ∷ token_from "INT" 16 1 ∷ token_from "}" 18 1 ∷ [])
    (node "program" 0 9 7 ∷ node "function" 0 9 6 ∷ node "base type" 3 1 1 ∷ node "block" 4 5 4 ∷ node "complement" 5 2 2 ∷
    node "name as expression" 6 1 1 ∷ node "literal" 7 1 1 ∷ [])) ∷
    -- M11, by rule 7
    example "@ g → v { ?? r { X → \\ a B → 1 } }" (refused_late 6 14
    (token_from "@" 0 1 ∷ token_from "IDENT" 2 1 ∷ token_from "→" 4 3 ∷ token_from "keyword" 8 1 ∷ token_from "{" 10 1 ∷ token_from "??" 12 2 ∷
    token_from "IDENT" 15 1 ∷ token_from "{" 17 1 ∷ token_from "IDENT" 19 1 ∷ token_from "→" 21 3 ∷ token_from "\\" 25 1 ∷ token_from "IDENT" 27 1 ∷
    token_from "IDENT" 29 1 ∷ token_from "→" 31 3 ∷ token_from "INT" 35 1 ∷ token_from "}" 37 1 ∷ token_from "}" 39 1 ∷ [])) ∷
    []
