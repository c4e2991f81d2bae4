-- `nurl::text::write_answer` meets its contract. Assumes nothing.
use Rattle.std.proofs.Common.{rules, refl, ◌∙◌}
use Rattle.nurl.proofs.Laws.Texts.{writes_all}
use Rattle.nurl.proofs.text.write_answer.Goals as goal

pub returns-in_err-put_answer : goal.returns-in_err-put_answer
returns-in_err-put_answer c =
    let all = writes_all refl c.in_err-put_answer.ensures in
    record { written = c.from_residual.ensures ∙ all.0; output = search (rules, all.1) }

pub returns : goal.returns
returns c =
    let all = writes_all refl c.in_ok-put_answer.ensures in
    record { written = all.0; output = search (rules, all.1) }
