-- `Reading::more_words` meets its contract. Assumes nothing.
use mathlib.Core.List.{[]}
use native.Mathlib.Omega.{arith}
use Rattle.lexer.specs.Tests.{among}
use Rattle.grammar.specs.Nurl.{productions}
use Rattle.parser.specs.internal.Steps.{word_kinds, next_kind, taken_by}
use Rattle.parser.specs.internal.Words.{with_keywords}
use Rattle.parser.proofs.Laws.After.{start, done, after_within}
use Rattle.parser.proofs.Laws.Views.{names_fixed}
use Rattle.parser.proofs.Laws.Kinds.{word-inside}
use Rattle.parser.proofs.Laws.Words.{words_more, words_done}
use Rattle.parser.proofs.Laws.Loops.{ahead}
use Rattle.parser.proofs.reading.Reading.more_words.Goals as goal
use Rattle.parser.proofs.reading.Reading.more_words.Goals.{In-loop-words}
use Rattle.lexer.specs.internal.TokenRows.{kind_at}
use mathlib.Core.Path.{◌≡◌, refl, sym, ◌∙◌}
use Rattle.parser.proofs.Laws.Questions.{words_go_on, words_stop}
use mathlib.Core.Bool.{true}

-- what the loop's test tells where it holds
word : (c : In-loop-words) → among (word_kinds (with_keywords c.args.words)) (kind_at c.args.self.now.tokens.now c.loop-words.place.token) ≡ true
unfolding next_kind
word c = rw (← c.kind.ensures, ← c.has.ensures) c.loop-words-test.true

pub loop-words-init : goal.loop-words-init
loop-words-init c =
    ((λ n table source e. start productions _ _ e (names_fixed source _ c.args.self.now.tokens_good e) c.requires), (λ source. refl))

pub overflow_add-place : goal.overflow_add-place
overflow_add-place c =
    omega (
      arith,
      word-inside (with_keywords c.args.words) c.args.self.now.tokens.now c.loop-words.place.token
          (word (goal.at.overflow_add-place c).In-loop-words),
    )

pub loop-words-smaller : goal.loop-words-smaller
unfolding ahead
loop-words-smaller c =
    omega (
      arith,
      word-inside (with_keywords c.args.words) c.args.self.now.tokens.now c.loop-words.place.token
          (word (goal.at.loop-words-smaller c).In-loop-words),
    )

pub loop-words-preserved : goal.loop-words-preserved
unfolding taken_by next_kind
loop-words-preserved c =
    let is = word (goal.at.loop-words-preserved c).In-loop-words in (
      (λ n table source e.
          words_more source _ c.args.self.now.tokens_good e (with_keywords c.args.words) (c.loop-words.invariant.0 n table source e) is (rw is)),
      (λ source. words_go_on (with_keywords c.args.words) source c.args.self.now.tokens.now c.loop-words.place.token is
          ∙ c.loop-words.invariant.1 source),
    )

pub returns-clause-reads : goal.returns-clause-reads
returns-clause-reads c = λ n table source e.
    done productions _ _ e (names_fixed source _ c.args.self.now.tokens_good e)
    (words_done source _ c.args.self.now.tokens_good e (with_keywords c.args.words) (c.loop-words.invariant.0 n table source e)
    (rw (← c.kind.ensures, ← c.has.ensures) c.loop-words-test.false))

pub returns-clause-stands : goal.returns-clause-stands
returns-clause-stands c =
    after_within productions _ _ [] (names_fixed [] _ c.args.self.now.tokens_good []) (c.loop-words.invariant.0 0 [] [] [])

pub returns-clause-ends : goal.returns-clause-ends
unfolding next_kind
returns-clause-ends c = λ source.
    sym (words_stop (with_keywords c.args.words) source c.args.self.now.tokens.now c.loop-words.place.token
    (rw (← c.kind.ensures, ← c.has.ensures) c.loop-words-test.false))
    ∙ c.loop-words.invariant.1 source
