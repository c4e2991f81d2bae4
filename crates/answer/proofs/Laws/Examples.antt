-- The bench examples hold of the answer's definition: one claim, by computation. Assumes nothing.
use mathlib.Core.Path.{◌≡◌, refl}
use mathlib.Core.List.{map}
use Rattle.lexer.specs.Table.{token_row, token_rows, filled}
use Rattle.typenames.specs.NameList.{is_ident, is_name, first_bad, checked}
use Rattle.tree.specs.TreeTable.{tree_rows, placed, cleared}
use Rattle.grammar.proofs.Laws.Lists17.{reads_to}
use Rattle.answer.specs.executable.Answers.{judged, scanned_tokens, checked_names, verdict, result, answered, answer17}
use Rattle.answer.specs.Results.{Result}
use Rattle.answer.specs.Examples.{lent_tokens, lent_rows, Example, result_of, examples}

-- the answer, opened down to its parts: whoever computes with it unfolds this one name
unfoldable pub answers_to : Example → Result
unfolding reads_to token_row token_rows filled is_ident is_name first_bad checked tree_rows placed cleared judged scanned_tokens checked_names
    verdict result answered lent_tokens lent_rows
answers_to x = answer17 x.source x.names lent_tokens lent_rows

pub examples_hold : map answers_to examples ≡ map (λ x. result_of x.source x.expected) examples
unfolding answers_to result_of examples
examples_hold = refl
