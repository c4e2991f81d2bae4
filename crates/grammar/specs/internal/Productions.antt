-- Productions, their parts and the questions by constants, as proofs and contracts of inner functions write them.
use Rattle.std.specs.Prelude.{ℕ, List, [], ◌∷◌}
use Rattle.lexer.specs.internal.Kinds.{tilde, left_brace, star}
use Rattle.grammar.specs.Grammars.{Condition, next, Symbol, token, Makes, Production}
use Rattle.grammar.specs.Questions.{Piece, one_of}

abbrev pub kind_token : ℕ → Symbol
kind_token kind = token (kind ∷ [])

abbrev pub rule_of : ℕ → Makes → List Symbol → Production
rule_of left makes right = record { left = left; makes = makes; right = right }

abbrev pub a_tilde : Condition
a_tilde = next (tilde ∷ [])

abbrev pub a_brace : Condition
a_brace = next (left_brace ∷ [])

abbrev pub a_star : Condition
a_star = next (star ∷ [])

abbrev pub opens_names : ℕ
opens_names = 1

abbrev pub opens_words : ℕ
opens_words = 2

abbrev pub opens_struct : ℕ
opens_struct = 3

abbrev pub two_names : ℕ
two_names = 4

abbrev pub opens_closure : ℕ
opens_closure = 5

abbrev pub zero_or_one : ℕ
zero_or_one = 6

abbrev pub opens_struct_names : ℕ
opens_struct_names = 7

abbrev pub kind_piece : ℕ → Piece
kind_piece kind = one_of (kind ∷ [])
