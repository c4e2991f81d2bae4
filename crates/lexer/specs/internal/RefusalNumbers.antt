-- The refusals of document 01 by their names in the code, and the number of each.
use Rattle.std.specs.Prelude.{ℕ}
use Rattle.lexer.specs.Refusals.{refusal_number}
use Rattle.lexer.specs.declared.refusals.Reason.{Reason}
use Rattle.lexer.specs.declared.refusals.Reason.TheVariants.{LongSource, BadNames, BadByte, OpenString, FewTokenRows, NoProgram, TooDeep}
use Rattle.lexer.specs.declared.refusals.Reason.TheVariants.{FewTreeRows}

abbrev pub reason_number : Reason → ℕ
reason_number LongSource = refusal_number "long source"
reason_number BadNames = refusal_number "bad names"
reason_number BadByte = refusal_number "bad byte"
reason_number OpenString = refusal_number "open string"
reason_number FewTokenRows = refusal_number "few token rows"
reason_number NoProgram = refusal_number "no program"
reason_number TooDeep = refusal_number "too deep"
reason_number FewTreeRows = refusal_number "few tree rows"
