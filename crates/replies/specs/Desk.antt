-- "The desk program reads standard input, at most 65,535 bytes (more is refused 1), with 5,000 token rows, 4,000 tree rows and no extra
-- names."
use Rattle.std.specs.Prelude.{ℕ, ◌*◌, List, [], ltb, length, replicate}
use Rattle.lexer.specs.Refusals.{refusal_number}
use Rattle.lexer.specs.Tests.{pick}
use Rattle.lexer.specs.Table.{token_width}
use Rattle.tree.specs.TreeTable.{tree_width}
use Rattle.answer.specs.executable.Answers.{answer17}
use Rattle.answer.specs.Results.{Result}
use Rattle.answer.specs.declared.Answer.TheVariants.{Refused}
use Rattle.nurl.specs.Texts.{answer_text}

abbrev pub script_limit : ℕ
script_limit = 65535

abbrev pub desk_token_rows : ℕ
desk_token_rows = 5000

abbrev pub desk_tree_rows : ℕ
desk_tree_rows = 4000

-- the two tables before a script is read
unfoldable pub desk_tokens : List ℕ
desk_tokens = replicate (desk_token_rows * token_width) 0

unfoldable pub desk_tree : List ℕ
desk_tree = replicate (desk_tree_rows * tree_width) 0

-- the answer for a script, and what two tables hold after it
unfoldable pub desk_result : List ℕ → List ℕ → List ℕ → Result
desk_result script tokens rows =
    let refused : Result = record { answer = Refused (refusal_number "long source") 0; tokens = tokens; rows = rows } in
    pick (ltb script_limit (length script)) refused (answer17 script [] tokens rows)

-- the text that is printed for a script
unfoldable pub desk_text : List ℕ → List ℕ
desk_text script =
    let result = desk_result script desk_tokens desk_tree in
    answer_text result.answer result.rows

-- the room for it: 20 bytes for each row, and 64 for the first line (`reply_fits` in proofs/)
abbrev pub text_room : ℕ
text_room = 80064
