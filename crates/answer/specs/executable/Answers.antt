-- The answer for any source, list of names and two lent tables, and what both tables hold afterwards, computed: document 01's table
-- of refusals, in its order.
use Rattle.std.specs.Prelude.{ℕ, List, leb, ltb, length}
use Rattle.lexer.specs.Refusals.{refusal_number}
use Rattle.lexer.specs.Tests.{pick}
use Rattle.lexer.specs.Tokens.{Token, Ending, clean, fault}
use Rattle.lexer.specs.executable.Scans.{scan}
use Rattle.lexer.specs.Table.{source_limit, token_room, filled}
use Rattle.typenames.specs.NameList.{Checked, Good, checked}
use Rattle.tree.specs.TreeTable.{Row, tree_room, placed, cleared}
use Rattle.grammar.specs.executable.Reading.{Outcome, ok, stuck, deep, spent}
use Rattle.grammar.specs.Languages.{Language, language17}
use Rattle.grammar.specs.executable.ReadTokens.{read_tokens}
use Rattle.answer.specs.Results.{level_limit, values, Result}
use Rattle.answer.specs.declared.Answer.TheVariants.{Accepted, Refused}

-- what is found out about a source
pub data Verdict : Type 0 where
  -- refusals 1 to 5: a number and a place
  early : ℕ → ℕ → Verdict
  -- refusals 6 to 8: a number and a place, and the tokens
  late : ℕ → ℕ → List Token → Verdict
  accept : List Token → List Row → Verdict

-- No. 6 to 8, of 6 and 7 the one that the reading meets first; its fuel is never spent
unfoldable pub judged : ℕ → List Token → Outcome → Verdict
judged treeSpace ts (ok j rows said) = pick (leb (length rows) treeSpace) (accept ts rows) (late (refusal_number "few tree rows") (length rows) ts)
judged treeSpace ts (stuck i) = late (refusal_number "no program") i ts
judged treeSpace ts (deep i) = late (refusal_number "too deep") i ts
judged treeSpace ts spent = late (refusal_number "no program") 0 ts

-- No. 3 to 5, of 3 and 4 the one met first
unfoldable pub scanned_tokens : Language → ℕ → List ℕ → List ℕ → ℕ → ℕ → List Token → Ending → Verdict
scanned_tokens l limit source names tokenSpace treeSpace ts (fault number place) = early number place
scanned_tokens l limit source names tokenSpace treeSpace ts clean =
    let judgement = judged treeSpace ts (read_tokens l limit source names ts) in
    pick (leb (length ts) tokenSpace) judgement (early (refusal_number "few token rows") (length ts))

-- No. 2
unfoldable pub checked_names : Checked → Verdict → Verdict
checked_names Good v = v
checked_names (Checked.Refused number place) v = early number place

-- No. 1 to 8, for tables with space for so many whole rows
unfoldable pub verdict : Language → ℕ → List ℕ → List ℕ → ℕ → ℕ → Verdict
verdict l limit source names tokenSpace treeSpace =
    let scanned = scan l.lexical source in
    let decided = scanned_tokens l limit source names tokenSpace treeSpace scanned.found scanned.ending in
    let named = checked_names (checked l.lexical names) decided in
    pick (ltb source_limit (length source)) (early (refusal_number "long source") 0) named

-- "unchanged", "all tokens" and "whole rows all zero", for a source
unfoldable pub result : List ℕ → Verdict → List ℕ → List ℕ → Result
result source (early number place) tokens rows = record { answer = Refused number place; tokens = tokens; rows = rows }
result source (late number place ts) tokens rows =
    record { answer = Refused number place; tokens = filled source ts tokens; rows = cleared rows }
result source (accept ts rs) tokens rows =
    record { answer = Accepted (length ts) (length rs); tokens = filled source ts tokens; rows = placed rs rows }

-- the answer for a source, a list of names, a token table and a tree table
unfoldable pub answered : Language → ℕ → List ℕ → List ℕ → List ℕ → List ℕ → Result
answered l limit source names tokens rows =
    result source (verdict l limit source names (token_room tokens) (tree_room rows)) tokens rows

-- for grammar 1.7
abbrev pub answer17 : List ℕ → List ℕ → List ℕ → List ℕ → Result
answer17 = answered language17 level_limit

-- document 01's number and values of that answer
abbrev pub answer_values : List ℕ → List ℕ → List ℕ → List ℕ → List ℕ
answer_values source names tokens rows = values (answer17 source names tokens rows).answer
