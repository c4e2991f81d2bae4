-- `typenames::compare::same_name` meets its contract: two names of one length are the same where each byte is read as the one at its
-- place. Assumes nothing.
use mathlib.Core.Path.{sym, ◌∙◌}
use Rattle.std.proofs.Common.{rules, tests}
use Rattle.std.proofs.lemmas.Iterator.{same_from_all, YieldsList-from_zip}
use Rattle.std.proofs.lemmas.Iterator.Consumers.{YieldsList-from_first}
use Rattle.lexer.specs.Words.{as_name}
use Rattle.typenames.specs.internal.Pairs.{read_left}
use Rattle.typenames.proofs.Laws.Compared.{lengths_differ, name_length, same_of}
use Rattle.typenames.proofs.compare.same_name.Goals as goal

pub returns-then-a-b : goal.returns-then-a-b
returns-then-a-b c = sym (lengths_differ c.args.a.now c.args.b.now c.if-a-b.true)

pub returns : goal.returns
returns c =
    same_of _ _ _ (same_from_all {s = c.zip.result} c.all.new.self _ _ (as_name c.args.a.now) (as_name c.args.b.now) c.all.ensures.ran
    (YieldsList-from_zip (YieldsList-from_first (λ x. x) read_left _ cc) (YieldsList-from_first (λ x. x) read_left _ cc))
    (name_length c.args.a.now ∙ c.if-a-b.false ∙ sym (name_length c.args.b.now)) (λ x q k. search (rules, tests))
    (λ x q k. search (rules, tests)))
