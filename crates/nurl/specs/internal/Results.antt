-- What comes of the tokens of a source, once they stand in the token table.
use Rattle.std.specs.Prelude.{ℕ, List, Result as Either, Ok, Err}
use Rattle.lexer.specs.internal.TokenRows.{rows_of}
use Rattle.lexer.specs.internal.RefusalNumbers.{reason_number}
use Rattle.lexer.specs.declared.refusals.Refusal.{Refusal}
use Rattle.tree.specs.TreeTable.{tree_room}
use Rattle.grammar.specs.Languages.{language17}
use Rattle.grammar.specs.executable.ReadTokens.{read_tokens}
use Rattle.answer.specs.executable.Answers.{judged, result}
use Rattle.answer.specs.Results.{level_limit, Result}
use Rattle.answer.specs.declared.Answer.{Answer}
use Rattle.answer.specs.declared.Answer.TheVariants.{Accepted, Refused}
use Rattle.parser.specs.declared.Place.{Place}

-- No. 6 to 8 of document 01's table, or acceptance: the answer, and what the tree table holds afterwards
abbrev pub tree_result : List ℕ → List ℕ → List ℕ → List ℕ → Result
tree_result source names tokens rows =
    result source (judged (tree_room rows) (rows_of tokens) (read_tokens language17 level_limit source names (rows_of tokens))) tokens rows

-- the answer of a reading that came to the place after its last token and row, or that was refused
abbrev pub answered : Either Place Refusal → Answer
answered (Ok end) = Accepted end.token end.row
answered (Err refusal) = Refused (reason_number refusal.reason) refusal.place
