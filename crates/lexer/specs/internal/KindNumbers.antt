-- The kinds of tokens by their names in the code, and the number of each in the token table.
use Rattle.std.specs.Prelude.{ℕ, Option, Some, None}
use Rattle.lexer.specs.internal.Kinds.{ident, keyword, boolean, sizeof, int, float, string, dollar, ampersand, at, percent, colon, bar, equal}
use Rattle.lexer.specs.internal.Kinds.{semicolon, tilde, left_brace, right_brace, left_paren, right_paren, left_bracket, right_bracket, bang, caret}
use Rattle.lexer.specs.internal.Kinds.{backslash, question, dot, hash, star, plus, minus, slash, less, greater, equal_equal, bang_equal, less_equal}
use Rattle.lexer.specs.internal.Kinds.{greater_equal, less_less, greater_greater, question_question, arrow}
use Rattle.lexer.specs.declared.kinds.TokenKind.{TokenKind}
use Rattle.lexer.specs.declared.kinds.TokenKind.TheVariants.{Ident, Keyword, Boolean, Sizeof, Int, Float, String, Dollar, Ampersand, At, Percent}
use Rattle.lexer.specs.declared.kinds.TokenKind.TheVariants.{Colon, Bar, Equal, Semicolon, Tilde, LeftBrace, RightBrace, LeftParen, RightParen}
use Rattle.lexer.specs.declared.kinds.TokenKind.TheVariants.{LeftBracket, RightBracket, Bang, Caret, Backslash, Question, Dot, Hash, Star, Plus}
use Rattle.lexer.specs.declared.kinds.TokenKind.TheVariants.{Minus, Slash, Less, Greater, EqualEqual, BangEqual, LessEqual, GreaterEqual, LessLess}
use Rattle.lexer.specs.declared.kinds.TokenKind.TheVariants.{GreaterGreater, QuestionQuestion, Arrow}

abbrev pub kind_number : TokenKind → ℕ
kind_number Ident = ident
kind_number Keyword = keyword
kind_number Boolean = boolean
kind_number Sizeof = sizeof
kind_number Int = int
kind_number Float = float
kind_number String = string
kind_number Dollar = dollar
kind_number Ampersand = ampersand
kind_number At = at
kind_number Percent = percent
kind_number Colon = colon
kind_number Bar = bar
kind_number Equal = equal
kind_number Semicolon = semicolon
kind_number Tilde = tilde
kind_number LeftBrace = left_brace
kind_number RightBrace = right_brace
kind_number LeftParen = left_paren
kind_number RightParen = right_paren
kind_number LeftBracket = left_bracket
kind_number RightBracket = right_bracket
kind_number Bang = bang
kind_number Caret = caret
kind_number Backslash = backslash
kind_number Question = question
kind_number Dot = dot
kind_number Hash = hash
kind_number Star = star
kind_number Plus = plus
kind_number Minus = minus
kind_number Slash = slash
kind_number Less = less
kind_number Greater = greater
kind_number EqualEqual = equal_equal
kind_number BangEqual = bang_equal
kind_number LessEqual = less_equal
kind_number GreaterEqual = greater_equal
kind_number LessLess = less_less
kind_number GreaterGreater = greater_greater
kind_number QuestionQuestion = question_question
kind_number Arrow = arrow

-- the number of a kind, or 0 where there is none: 0 is not a kind
abbrev pub kind_or_0 : Option TokenKind → ℕ
kind_or_0 (Some kind) = kind_number kind
kind_or_0 None = 0
