-- The tokens of a source: it is gaps and tokens in turn, up to its end or its first fault, so that every byte is accounted for once.
use Prim.Native.Char.{code}
use Rattle.std.specs.Prelude.{ℕ, suc, ◌+◌, ◌≡◌, true, List, [], ◌∷◌, ◌++◌, length}
use Rattle.lexer.specs.Refusals.{refusal_number}
use Rattle.lexer.specs.Bytes.{is_space, is_in_line, run}
use Rattle.lexer.specs.Editions.{Edition}
use Rattle.lexer.specs.Lexemes.{Lexeme, BadByte, OpenString, lexeme}

-- a token: its kind, the offset of its first byte, and its size in bytes
pub record Token : Type 0 where
  pub kind : ℕ
  pub start : ℕ
  pub size : ℕ

-- how a source ends: clean, or at its first fault, with the fault's number in document 01's table and its offset
pub data Ending : Type 0 where
  clean : Ending
  fault : ℕ → ℕ → Ending

-- `Tiles e at s ts x`: the bytes s, the first of them at offset `at`, are gaps and the tokens ts in turn, and end as x says. A gap is
-- spaces and comments and nothing else, and may be empty.
pub data Tiles (e : Edition) : ℕ → List ℕ → List Token → Ending → Type 0 where
  ended : {at : ℕ} → Tiles e at [] [] clean
  -- "Skipped: bytes 32, 9, 10, 13"
  skips_space : {at b : ℕ} {s : List ℕ} {ts : List Token} {x : Ending}
      → is_space b ≡ true → Tiles e (suc at) s ts x → Tiles e at (b ∷ s) ts x
  -- "`//` up to byte 10 or the end"
  skips_comment : {at : ℕ} (line : List ℕ) {s : List ℕ} {ts : List Token} {x : Ending} → run is_in_line (line ++ s) ≡ length line
      → Tiles e (at + (2 + length line)) s ts x → Tiles e at (code "/" ∷ code "/" ∷ (line ++ s)) ts x
  -- A token: its kind is the kind of its text, which is as long as it can be where it stands. An empty text has no kind.
  finds_token : {at kind : ℕ} (text : List ℕ) {s : List ℕ} {ts : List Token} {x : Ending}
      → lexeme e text ≡ Lexeme.Token kind (length text) → lexeme e (text ++ s) ≡ Lexeme.Token kind (length text)
      → Tiles e (at + length text) s ts x → Tiles e at (text ++ s) (record { kind = kind; start = at; size = length text } ∷ ts) x
  -- "a byte begins no token, space or comment", "a string is not closed"
  meets_bad_byte : {at : ℕ} {s : List ℕ} → lexeme e s ≡ BadByte → Tiles e at s [] (fault (refusal_number "bad byte") at)
  meets_open_string : {at : ℕ} {s : List ℕ} → lexeme e s ≡ OpenString → Tiles e at s [] (fault (refusal_number "open string") at)
