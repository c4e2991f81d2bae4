-- `lexer::Edition::has_shifts` meets its contract: the marks of each edition, by computation. Assumes nothing.
use mathlib.Core.Path.{◌≡◌, refl, ◌∙◌}
use denote.Enum.Bare.{sameb}
use Rattle.lexer.specs.Tests.{and}
use Rattle.lexer.specs.Spellings.{same, kind_of, spelled_marks}
use Rattle.lexer.specs.internal.Editions.{edition_of, has_shifts}
use Rattle.lexer.specs.contracts.Edition.{the_type}
use Rattle.lexer.specs.declared.Edition.{Edition}
use Rattle.lexer.specs.declared.Edition.TheVariants.{V11, V17}
use Rattle.lexer.proofs.Edition.has_shifts.Goals as goal

by-name : (e : Edition) → sameb the_type e V17 ≡ has_shifts (edition_of e)
unfolding and same kind_of spelled_marks
by-name V11 = refl
by-name V17 = refl

pub returns : goal.returns
returns c = c.eq.ensures ∙ by-name c.args.self
