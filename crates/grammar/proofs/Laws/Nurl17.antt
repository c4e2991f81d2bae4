-- NURL 1.7 is fit, so that the theorems hold of the tokens of any source under any list of names. Assumes nothing.
use Prim.Native.Nat.{ℕ}
use mathlib.Core.Path.{◌≡◌}
use mathlib.Core.List.{List}
use Rattle.lexer.specs.Editions.{edition17}
use Rattle.lexer.specs.Tokens.{Token}
use Rattle.lexer.specs.executable.Scans.{cleanly, scan}
use Rattle.lexer.proofs.Laws.Editions.{spelled17}
use Rattle.tree.specs.internal.RowKinds.{program_row, named_type_row}
use Rattle.grammar.specs.Languages.{language17}
use Rattle.grammar.proofs.Laws.Table17.{hints17, passes17, steady17}
use Rattle.grammar.proofs.Laws.Sources.{Fit, Theorems, theorems}

unfoldable pub fit17 : Fit language17
fit17 = record { marks = spelled17; hints = hints17; tests = passes17; steady = steady17 }

-- the kinds of rows are from 1 to that of a named type, and the program's row is above all others
pub theorems17 : (source names : List ℕ) (ts : List Token) → scan edition17 source ≡ cleanly ts
    → Theorems language17 source names ts named_type_row program_row
unfolding fit17 hints17
theorems17 = theorems language17 fit17
