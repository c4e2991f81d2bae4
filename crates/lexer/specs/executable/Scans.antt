-- The tokens of a source, up to its first fault, and how it ends, computed lexeme by lexeme.
use Rattle.std.specs.Prelude.{ℕ, zero, suc, ◌+◌, List, [], ◌∷◌, length, drop}
use Rattle.lexer.specs.Refusals.{refusal_number}
use Rattle.lexer.specs.Editions.{Edition}
use Rattle.lexer.specs.Lexemes.{Lexeme, End, Skipped, BadByte, OpenString, lexeme}
use Rattle.lexer.specs.Tokens.{Token, Ending, clean, fault}

-- how many bytes a lexeme takes
unfoldable pub lexeme_size : Lexeme → ℕ
lexeme_size End = 0
lexeme_size (Skipped n) = n
lexeme_size (Lexeme.Token k n) = n
lexeme_size BadByte = 0
lexeme_size OpenString = 0

-- a lexeme before those of the bytes after it; a fault ends the list
unfoldable pub follow : Lexeme → List Lexeme → List Lexeme
follow End rest = []
follow (Skipped n) rest = Skipped n ∷ rest
follow (Lexeme.Token k n) rest = Lexeme.Token k n ∷ rest
follow BadByte rest = BadByte ∷ []
follow OpenString rest = OpenString ∷ []

-- the lexemes of some bytes in order, at most so many
unfoldable pub lexemes_within : Edition → ℕ → List ℕ → List Lexeme
lexemes_within e zero s = []
lexemes_within e (suc m) s =
    let rest = lexemes_within e m (drop (lexeme_size (lexeme e s)) s) in
    follow (lexeme e s) rest

-- each lexeme takes a byte at least, so that the length bounds their number
unfoldable pub lexemes : Edition → List ℕ → List Lexeme
lexemes e s = lexemes_within e (length s) s

-- what a source is: the tokens found, up to its first fault if it has one, and how it ends
pub record Scan : Type 0 where
  pub found : List Token
  pub ending : Ending

-- these tokens, and no fault
abbrev pub cleanly : List Token → Scan
cleanly ts = record { found = ts; ending = clean }

-- these tokens, and then a fault
abbrev pub fault_after : List Token → ℕ → ℕ → Scan
fault_after ts number place = record { found = ts; ending = fault number place }

unfoldable pub with_token : Token → Scan → Scan
with_token t x = record { found = t ∷ x.found; ending = x.ending }

-- lexemes in order, the first of them at an offset, as tokens in their places
unfoldable pub located : ℕ → List Lexeme → Scan
located at [] = cleanly []
located at (End ∷ ls) = cleanly []
located at (Skipped n ∷ ls) = located (at + n) ls
located at (Lexeme.Token k n ∷ ls) = with_token (record { kind = k; start = at; size = n }) (located (at + n) ls)
located at (BadByte ∷ ls) = fault_after [] (refusal_number "bad byte") at
located at (OpenString ∷ ls) = fault_after [] (refusal_number "open string") at

-- the tokens of a source, up to its first fault, and how it ends
unfoldable pub scan : Edition → List ℕ → Scan
scan e s = located 0 (lexemes e s)
