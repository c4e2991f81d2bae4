-- `Reading::opens_list` meets its contract. Assumes nothing.
use Prim.Native.Nat.{ℕ, ◌+◌, ◌<◌}
use mathlib.Core.List.{List}
use Rattle.lexer.specs.Table.{token_room}
use Rattle.parser.specs.internal.Steps.{Within}
use Rattle.parser.specs.internal.Steps.{Read, inside}
use mathlib.Core.Path.{refl, sym, ◌∙◌}
use mathlib.Core.Bool.{not}
use native.Mathlib.Omega.{arith}
use lib.Dec.{eqb}
use borrow.Author.Tests.{eqb-true, eqb-false, eq-eqb, ne_eqb}
use Rattle.lexer.specs.internal.Kinds.{left_bracket, right_bracket}
use Rattle.lexer.specs.internal.TokenRows.{kind_at}
use Rattle.lexer.specs.Tests.{and, pick}
use Rattle.grammar.specs.Grammars.{query}
use Rattle.grammar.specs.internal.Productions.{opens_names, opens_words}
use Rattle.parser.specs.internal.Steps.{AnswersKinds, next_kind, step_at}
use Rattle.parser.specs.internal.Words.{with_keywords}
use Rattle.parser.proofs.Laws.Views.{kind-inside}
use Rattle.parser.proofs.Laws.Questions.{no_list, list_opens}
use Rattle.parser.proofs.reading.Reading.opens_list.Goals as goal
use Rattle.parser.proofs.reading.Reading.opens_list.Goals.{After-more_words-end}

-- at the token after one of the table no more rows are asked for than before it
next_within : (tokens : List ℕ) {at row : ℕ} → Within tokens 0 (Read at row) → at < token_room tokens → Within tokens 0 (Read (at + 1) row)
next_within tokens (inside few to) room = inside (omega arith) (omega arith)

pub more_words-end-requires : goal.more_words-end-requires
unfolding next_kind
more_words-end-requires c =
    next_within _ c.requires (kind-inside c.args.self.now.tokens.now c.args.from.token left_bracket
    (eqb-true _ _ (sym c.next_is.ensures ∙ c.if-next_is.true)) (omega arith))

-- what is answered where a `[` comes next, by where the words after it end
answer : (c : After-more_words-end) → let args = c.args in
    AnswersKinds (query (pick (with_keywords args.words) opens_words opens_names)) args.self.now.tokens.now (step_at args.from)
    (and (not (eqb c.more_words-end.result.token (args.from.token + 1))) (eqb (kind_at args.self.now.tokens.now c.more_words-end.result.token) right_bracket))
unfolding next_kind
answer c =
    let args = c.args in
    list_opens args.self.now.tokens.now (step_at args.from) args.from.token args.from.row refl (with_keywords args.words)
    (eqb-true _ _ (sym c.next_is.ensures ∙ c.if-next_is.true)) _ c.more_words-end.ensures.ends

pub returns-then-end-first : goal.returns-then-end-first
unfolding and next_kind
returns-then-end-first c = λ source e.
    rw (← answer ((goal.at.returns-then-end-first c).After-more_words-end) source e, ne_eqb _ _ c.if-end-first.true) c.next_is-then-end-first.ensures

pub returns-else-end-first : goal.returns-else-end-first
unfolding and
returns-else-end-first c = λ source e.
    rw (← answer ((goal.at.returns-else-end-first c).After-more_words-end) source e, eq-eqb _ _ c.if-end-first.false)

pub returns : goal.returns
unfolding next_kind
returns c =
    no_list c.args.self.now.tokens.now (step_at c.args.from) c.args.from.token c.args.from.row refl (with_keywords c.args.words)
    (eqb-false _ _ (sym c.next_is.ensures ∙ c.if-next_is.false))
