-- `lexer::scanner::Scanner::ident` meets its contract: only a `:` can begin what joins an IDENT. Assumes nothing.
use Prim.Native.Nat.{ℕ, ◌<◌}
use mathlib.Core.Path.{◌≡◌}
use mathlib.Core.List.{List}
use native.Mathlib.Nat.{add-zero}
use lib.ListN.{length, drop, get_or}
use Rattle.lexer.specs.Words.{joins}
use Rattle.lexer.proofs.Laws.Fronts.{front_one}
use Rattle.lexer.proofs.Laws.Words.{colons_other, joins_none}
use Rattle.lexer.proofs.scanner.Scanner.ident.Goals as goal

-- nothing joins where no `:` stands
none-joins : (s : List ℕ) (end : ℕ) → end < length s → (get_or s end 0 ≡ 0x3A → ⊥) → joins (drop end s) ≡ 0
none-joins s end inside other = rw (front_one s end inside) (joins_none _ (colons_other _ _ other))

pub returns : goal.returns
returns c = rw (none-joins c.args.self.now.source.now c.args.end c.requires.1 c.if-source-end-eq58.false, add-zero)
