-- The number of a kind is one more than its tag, and so it is not 0. Assumes nothing.
use Prim.Native.Nat.{ℕ, ◌+◌}
use mathlib.Core.Path.{◌≡◌, refl, sym, ap}
use mathlib.Core.Bool.{true, false, not}
use native.Mathlib.Omega.{arith}
use native.Mathlib.Numerals.{unary_clauses}
use lib.Dec.{eqb, eqb-suc-suc}
use denote.Enum.Declared.{tag_of}
use denote.Enum.Bare.{sameb, tag_one, differs_true, differs_false}
use Rattle.lexer.specs.internal.Kinds.{ident}
use Rattle.lexer.specs.internal.KindNumbers.{kind_number}
use Rattle.lexer.specs.contracts.kinds.TokenKind.{the_type}
use Rattle.lexer.specs.declared.kinds.TokenKind.{TokenKind}
use Rattle.lexer.specs.declared.kinds.TokenKind.TheVariants.{Ident, Keyword, Boolean, Sizeof, Int, Float, String, Dollar, Ampersand, At, Percent}
use Rattle.lexer.specs.declared.kinds.TokenKind.TheVariants.{Colon, Bar, Equal, Semicolon, Tilde, LeftBrace, RightBrace, LeftParen, RightParen}
use Rattle.lexer.specs.declared.kinds.TokenKind.TheVariants.{LeftBracket, RightBracket, Bang, Caret, Backslash, Question, Dot, Hash, Star, Plus}
use Rattle.lexer.specs.declared.kinds.TokenKind.TheVariants.{Minus, Slash, Less, Greater, EqualEqual, BangEqual, LessEqual, GreaterEqual, LessLess}
use Rattle.lexer.specs.declared.kinds.TokenKind.TheVariants.{GreaterGreater, QuestionQuestion, Arrow}

pub tag_says : (kind : TokenKind) → tag_of the_type kind + 1 ≡ kind_number kind
tag_says Ident = refl
tag_says Keyword = refl
tag_says Boolean = refl
tag_says Sizeof = refl
tag_says Int = refl
tag_says Float = refl
tag_says String = refl
tag_says Dollar = refl
tag_says Ampersand = refl
tag_says At = refl
tag_says Percent = refl
tag_says Colon = refl
tag_says Bar = refl
tag_says Equal = refl
tag_says Semicolon = refl
tag_says Tilde = refl
tag_says LeftBrace = refl
tag_says RightBrace = refl
tag_says LeftParen = refl
tag_says RightParen = refl
tag_says LeftBracket = refl
tag_says RightBracket = refl
tag_says Bang = refl
tag_says Caret = refl
tag_says Backslash = refl
tag_says Question = refl
tag_says Dot = refl
tag_says Hash = refl
tag_says Star = refl
tag_says Plus = refl
tag_says Minus = refl
tag_says Slash = refl
tag_says Less = refl
tag_says Greater = refl
tag_says EqualEqual = refl
tag_says BangEqual = refl
tag_says LessEqual = refl
tag_says GreaterEqual = refl
tag_says LessLess = refl
tag_says GreaterGreater = refl
tag_says QuestionQuestion = refl
tag_says Arrow = refl

pub some_kind : (kind : TokenKind) → kind_number kind ≡ 0 → ⊥
some_kind kind none = let tag = tag_says kind in omega arith

shifted : (m n : ℕ) → eqb m n ≡ eqb (m + 1) (n + 1)
shifted m n = simp unary_clauses (sym (eqb-suc-suc m n))

-- two kinds are the same where their numbers are
pub same_kind : (a b : TokenKind) → sameb the_type a b ≡ eqb (kind_number a) (kind_number b)
same_kind a b = rw (← tag_says a, ← tag_says b) (shifted (tag_of the_type a) (tag_of the_type b))

-- whether a kind is another than IDENT
pub is_ident : (kind : TokenKind) → not (sameb the_type kind Ident) ≡ false → kind_number kind ≡ ident
is_ident kind h = ap kind_number (differs_false the_type tt kind Ident h)

pub not_ident : (kind : TokenKind) → not (sameb the_type kind Ident) ≡ true → kind_number kind ≡ ident → ⊥
not_ident kind h e =
    let tag = tag_says kind in
    differs_true the_type kind Ident h (tag_one the_type tt kind Ident (omega arith))
