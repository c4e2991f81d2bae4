-- The classes of bytes that the lexical rules speak of, and how far a class runs.
use Prim.Native.Char.{code}
use Rattle.std.specs.Prelude.{ℕ, suc, Bool, false, not, List, [], ◌∷◌, eqb}
use Rattle.lexer.specs.Tests.{or, between, pick}

-- "Skipped: bytes 32, 9, 10, 13"
unfoldable pub is_space : ℕ → Bool
is_space b = or (eqb b 32) (or (eqb b 9) (or (eqb b 10) (eqb b 13)))

unfoldable pub is_digit : ℕ → Bool
is_digit b = between (code "0") (code "9") b

-- "an ASCII letter or `_`"
unfoldable pub is_letter : ℕ → Bool
is_letter b = or (between (code "A") (code "Z") b) (or (between (code "a") (code "z") b) (eqb b (code "_")))

-- "then letters, digits, `_`"
unfoldable pub is_word_byte : ℕ → Bool
is_word_byte b = or (is_letter b) (is_digit b)

-- what a comment goes on over: "up to byte 10"
unfoldable pub is_in_line : ℕ → Bool
is_in_line b = not (eqb b 10)

-- what a string goes on over: "to next backtick"
unfoldable pub is_in_string : ℕ → Bool
is_in_string b = not (eqb b (code "`"))

-- whether one of two bytes stands at the front
unfoldable pub begins_either : ℕ → ℕ → List ℕ → Bool
begins_either a b [] = false
begins_either a b (c ∷ s) = or (eqb c a) (eqb c b)

-- whether a byte stands at the front
abbrev pub begins : ℕ → List ℕ → Bool
begins a = begins_either a a

-- how many bytes at the front pass a test, as many as possible
unfoldable pub run : (ℕ → Bool) → List ℕ → ℕ
run p [] = 0
run p (b ∷ s) = let n = run p s in pick (p b) (suc n) 0
