-- Examples of the papers about bytes and tokens, as a table for each edition: a source, its tokens up to its first fault, and how it
-- ends. The claim that `scan` gives what the table says, for each of its rows, is `examples_hold` and `examples_hold11` in proofs/.
use Rattle.std.specs.Prelude.{ℕ, List, [], ◌∷◌}
use Prim.Native.String.{String}
use Rattle.lexer.specs.Text.{bytes}
use Rattle.lexer.specs.Kinds.{token_kind}
use Rattle.lexer.specs.Tokens.{Token}
use Rattle.lexer.specs.executable.Scans.{Scan, cleanly, fault_after}

pub record TokenExample : Type 0 where
  pub source : List ℕ
  pub outcome : Scan

-- a token: its kind, its first byte and its size
abbrev pub token_from : String → ℕ → ℕ → Token
token_from k s n = record { kind = token_kind k; start = s; size = n }

-- a source that is a text
unfoldable pub token_example : String → Scan → TokenExample
unfolding bytes
token_example text outcome = record { source = bytes text; outcome = outcome }

unfoldable pub token_examples : List TokenExample
unfolding token_example
token_examples =
    -- M1, M2 and the tokens of M5
    token_example "" (cleanly []) ∷
    token_example ": i floor -40" (cleanly (token_from ":" 0 1 ∷ token_from "keyword" 2 1 ∷ token_from "IDENT" 4 5 ∷ token_from "INT" 10 3 ∷ [])) ∷
    token_example "??i" (cleanly (token_from "??" 0 2 ∷ token_from "keyword" 2 1 ∷ [])) ∷
    -- M6: a join takes an IDENT and no keyword, and no space
    token_example "m::alloc" (cleanly (token_from "IDENT" 0 8 ∷ [])) ∷
    token_example "m::i" (cleanly (token_from "IDENT" 0 1 ∷ token_from ":" 1 1 ∷ token_from ":" 2 1 ∷ token_from "keyword" 3 1 ∷ [])) ∷
    token_example "a :: xx" (cleanly (token_from "IDENT" 0 1 ∷ token_from ":" 2 1 ∷ token_from ":" 3 1 ∷ token_from "IDENT" 5 2 ∷ [])) ∷
    token_example "a::xx::i" (cleanly (token_from "IDENT" 0 5 ∷ token_from ":" 5 1 ∷ token_from ":" 6 1 ∷ token_from "keyword" 7 1 ∷ [])) ∷
    token_example "a:::xx" (cleanly (token_from "IDENT" 0 1 ∷ token_from ":" 1 1 ∷ token_from ":" 2 1 ∷ token_from ":" 3 1 ∷ token_from "IDENT" 4 2 ∷ [])) ∷
    token_example "T::xx" (cleanly (token_from "boolean" 0 1 ∷ token_from ":" 1 1 ∷ token_from ":" 2 1 ∷ token_from "IDENT" 3 2 ∷ [])) ∷
    token_example "Z m::_" (cleanly (token_from "Z" 0 1 ∷ token_from "IDENT" 2 4 ∷ [])) ∷
    -- M7 and M8; an arrow that is cut short
    token_example "`" (fault_after [] 4 0) ∷
    token_example "," (fault_after [] 3 0) ∷
    record { source = 0x20 ∷ 0xE2 ∷ 0x86 ∷ []; outcome = fault_after [] 3 1 } ∷
    -- the minus of a number
    token_example "5-3" (cleanly (token_from "INT" 0 1 ∷ token_from "INT" 1 2 ∷ [])) ∷
    token_example "--3" (cleanly (token_from "-" 0 1 ∷ token_from "INT" 1 2 ∷ [])) ∷
    token_example "- 4" (cleanly (token_from "-" 0 1 ∷ token_from "INT" 2 1 ∷ [])) ∷
    token_example "-.5" (cleanly (token_from "-" 0 1 ∷ token_from "." 1 1 ∷ token_from "INT" 2 1 ∷ [])) ∷
    -- numbers that stop before what is not all there
    token_example "1.0e" (cleanly (token_from "FLOAT" 0 3 ∷ token_from "IDENT" 3 1 ∷ [])) ∷
    token_example "1.0e+x" (cleanly (token_from "FLOAT" 0 3 ∷ token_from "IDENT" 3 1 ∷ token_from "+" 4 1 ∷ token_from "IDENT" 5 1 ∷ [])) ∷
    token_example "-1.50E-03" (cleanly (token_from "FLOAT" 0 9 ∷ [])) ∷
    token_example "3." (cleanly (token_from "INT" 0 1 ∷ token_from "." 1 1 ∷ [])) ∷
    token_example "1e5" (cleanly (token_from "INT" 0 1 ∷ token_from "IDENT" 1 2 ∷ [])) ∷
    -- the longest mark
    token_example "===" (cleanly (token_from "==" 0 2 ∷ token_from "=" 2 1 ∷ [])) ∷
    token_example "???" (cleanly (token_from "??" 0 2 ∷ token_from "?" 2 1 ∷ [])) ∷
    token_example "<<<" (cleanly (token_from "<<" 0 2 ∷ token_from "<" 2 1 ∷ [])) ∷
    token_example "→→" (cleanly (token_from "→" 0 3 ∷ token_from "→" 3 3 ∷ [])) ∷
    -- strings and comments, and which fault is met first
    token_example "`a,→`x//`," (cleanly (token_from "STR" 0 7 ∷ token_from "IDENT" 7 1 ∷ [])) ∷
    token_example "/ / //" (cleanly (token_from "/" 0 1 ∷ token_from "/" 2 1 ∷ [])) ∷
    token_example "a ,`" (fault_after (token_from "IDENT" 0 1 ∷ []) 3 2) ∷
    token_example "a `," (fault_after (token_from "IDENT" 0 1 ∷ []) 4 2) ∷
    []

-- Under 1.1 "`-5` is a mark and 5", and there is "no `<<` or `>>`". All else is as above.
unfoldable pub token_examples11 : List TokenExample
unfolding token_example
token_examples11 =
    token_example "a -4" (cleanly (token_from "IDENT" 0 1 ∷ token_from "-" 2 1 ∷ token_from "INT" 3 1 ∷ [])) ∷
    token_example "<<=" (cleanly (token_from "<" 0 1 ∷ token_from "<=" 1 2 ∷ [])) ∷
    token_example ">>" (cleanly (token_from ">" 0 1 ∷ token_from ">" 1 1 ∷ [])) ∷
    token_example "1.5e-3" (cleanly (token_from "FLOAT" 0 6 ∷ [])) ∷
    token_example "??" (cleanly (token_from "??" 0 2 ∷ [])) ∷
    []
