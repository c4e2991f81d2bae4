-- When a choice of rules gives the same for two lists of bytes: where each rule does, so far as it is asked. Assumes nothing.
use Prim.Native.Nat.{ℕ, ◌≤◌, zero-le}
use mathlib.Core.Path.{◌≡◌}
use Rattle.lexer.specs.Lexemes.{Lexeme, End, Skipped, Token, BadByte, OpenString, or_else}
use Rattle.lexer.specs.executable.Scans.{lexeme_size}

-- a token, or that a rule does not fit
abbrev pub Plain : Lexeme → Type 0
Plain End = ⊥
Plain (Skipped n) = ⊥
Plain (Token k n) = Unit
Plain BadByte = Unit
Plain OpenString = ⊥

-- one rule gives for other bytes what it gives for some, where that is a token of at most so many bytes or where it does not fit
abbrev pub Kept : ℕ → Lexeme → Lexeme → Type 0
Kept n l other = lexeme_size l ≤ n → Plain l → other ≡ l

pub kept_else : (n : ℕ) (l l2 m m2 : Lexeme) → Kept n l l2 → Kept n m m2 → Kept n (or_else l m) (or_else l2 m2)
unfolding or_else lexeme_size
kept_else n End l2 m m2 p q small plain = absurd plain
kept_else n (Skipped k) l2 m m2 p q small plain = absurd plain
kept_else n (Token k j) l2 m m2 p q small plain = rw (p small tt)
kept_else n BadByte l2 m m2 p q small plain = rw (p zero-le tt) (q small plain)
kept_else n OpenString l2 m m2 p q small plain = absurd plain
