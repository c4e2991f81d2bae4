-- The leftmost reading of the tokens of a source under a list of names.
use Rattle.std.specs.Prelude.{ℕ, List, length}
use Rattle.lexer.specs.Tokens.{Token}
use Rattle.grammar.specs.Languages.{Language}
use Rattle.grammar.specs.Sources.{names_of, view_of}
use Rattle.grammar.specs.executable.Reading.{Outcome, reading}

-- the leftmost reading of the tokens, with n levels
unfoldable pub read_tokens : Language → ℕ → List ℕ → List ℕ → List Token → Outcome
read_tokens l n source names ts = reading l.productions (view_of l source ts) (length ts) (names_of l source names ts) n l.start
