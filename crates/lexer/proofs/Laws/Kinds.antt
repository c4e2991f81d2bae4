-- The constants of the kinds of tokens are the positions of their names. Assumes nothing.
use mathlib.Core.Path.{◌≡◌, refl}
use mathlib.Core.List.{[], ◌∷◌, map}
use Rattle.lexer.specs.Kinds.{token_kinds, token_kind}
use Rattle.lexer.specs.internal.Kinds.{ident, keyword, boolean, sizeof, int, float, string, dollar, ampersand, at, percent, colon}
use Rattle.lexer.specs.internal.Kinds.{bar, equal, semicolon, tilde, left_brace, right_brace, left_paren, right_paren, left_bracket}
use Rattle.lexer.specs.internal.Kinds.{right_bracket, bang, caret, backslash, question, dot, hash, star, plus, minus, slash, less}
use Rattle.lexer.specs.internal.Kinds.{greater, equal_equal, bang_equal, less_equal, greater_equal, less_less, greater_greater}
use Rattle.lexer.specs.internal.Kinds.{question_question, arrow}

pub kinds_named : map token_kind token_kinds ≡
    ident ∷ keyword ∷ boolean ∷ sizeof ∷ int ∷ float ∷ string ∷ dollar ∷ ampersand ∷ at ∷ percent ∷ colon ∷ bar ∷ equal ∷ semicolon ∷
    tilde ∷ left_brace ∷ right_brace ∷ left_paren ∷ right_paren ∷ left_bracket ∷ right_bracket ∷ bang ∷ caret ∷ backslash ∷ question ∷ dot ∷
    hash ∷ star ∷ plus ∷ minus ∷ slash ∷ less ∷ greater ∷ equal_equal ∷ bang_equal ∷ less_equal ∷ greater_equal ∷ less_less ∷ greater_greater ∷
    question_question ∷ arrow ∷ []
kinds_named = refl
