-- `typenames::names::is_listed` meets its contract: it asks every entry. Assumes nothing.
use mathlib.Core.Path.{◌∙◌}
use Rattle.std.proofs.Common.{rules, tests}
use Rattle.std.proofs.lemmas.Iterator.Search.{any_from_yields_List}
use Rattle.std.proofs.lemmas.Iterator.Consumers.{YieldsList-from_first}
use Rattle.lexer.specs.Words.{same_name}
use Rattle.typenames.specs.internal.Entries.{entries_left}
use Rattle.typenames.proofs.Laws.Named.{any_named}
use Rattle.typenames.proofs.names.is_listed.Goals as goal

pub returns : goal.returns
returns c =
    any_from_yields_List (λ n. same_name n c.args.word.now) _ _ _ c.any.ensures.ran
    (YieldsList-from_first (λ x. x.now) entries_left _ c.of.ensures) (λ x b q k. search (rules, tests))
    ∙ any_named _ _
