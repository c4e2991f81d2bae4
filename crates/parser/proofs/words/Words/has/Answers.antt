-- `Words::has` meets its contract. Assumes nothing.
use mathlib.Core.Path.{sym}
use native.Mathlib.Omega.{arith}
use mathlib.Core.Logic.{inl, inr}
use Rattle.parser.specs.internal.Words.{with_keywords}
use Rattle.parser.proofs.Laws.Kinds.{word_ident, word_boolean, word_keyword, no_word}
use Rattle.parser.proofs.words.Words.has.Goals as goal

pub returns-in-1 : goal.returns-in-1
returns-in-1 c = elim c.in-1.is [ inl q ↦ rw (q, word_ident) | inr q ↦ rw (q, word_boolean) ]

pub returns-in-WithKeywords : goal.returns-in-WithKeywords
returns-in-WithKeywords c = rw (c.in-2.is, c.in-WithKeywords.is, word_keyword)

pub returns-in_default-matches : goal.returns-in_default-matches
returns-in_default-matches c = rw (c.in-2.is, c.in_default-matches.is, word_keyword)

pub returns-in_default : goal.returns-in_default
returns-in_default c = sym (no_word (with_keywords c.args.self) c.args.kind (grind arith) (grind arith) (grind arith))
