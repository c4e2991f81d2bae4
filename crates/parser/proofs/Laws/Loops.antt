-- The loops of the readers: each turn takes a token at least, so that the tokens ahead grow fewer. Assumes nothing.
use Prim.Native.Nat.{ℕ, suc, ◌-◌, ◌<◌}
use mathlib.Core.Path.{◌≡◌, ap, ◌∙◌}
use mathlib.Core.Bool.{Bool, true}
use mathlib.Core.List.{List}
use native.Mathlib.Nat.{pos_of_ne-zero}
use native.Mathlib.Omega.{arith}
use Rattle.lexer.specs.Tests.{among}
use Rattle.lexer.specs.Table.{token_room}
use Rattle.grammar.specs.Grammars.{Symbol, Production, Names, View}
use Rattle.grammar.specs.internal.Alternatives.{kind_alternative}
use Rattle.parser.specs.internal.Readings.{Reads, read, refused6, refused7}
use Rattle.parser.specs.internal.Steps.{next_kind, begins_part, taken_by, word_kinds, taken_word}
use Rattle.parser.specs.internal.Steps.{Step}
use Rattle.parser.specs.internal.Steps.{Read, Refused}
use Rattle.parser.specs.internal.Readings as readings
use Rattle.parser.proofs.Laws.Kinds.{word_kind, word-inside}
use Rattle.parser.proofs.Laws.Readers.{begins_some}

-- the tokens ahead and one more; none after a refusal
unfoldable pub ahead : List ℕ → Step → ℕ
ahead tokens (Read at row) = suc (token_room tokens - at)
ahead tokens (Refused number place) = 0

-- a reader that takes a token leaves fewer ahead
pub reads_falls : (tokens : List ℕ) {g : List Production} {v : View} {e : Names} {n more : ℕ} {ss : List Symbol} {s s' : Step} {t t' :
    List ℕ}
    → Reads g v (token_room tokens) e n 1 more ss s t s' t' → 0 < next_kind tokens s → ahead tokens s' < ahead tokens s
unfolding ahead next_kind
reads_falls tokens (read {i = i} {r = r} {j = j} {k = k} d at is from few to) some = omega arith
reads_falls tokens (refused6 d l) some = omega arith
reads_falls tokens (refused7 d l) some = omega arith
reads_falls tokens (readings.refused_before l) some = absurd (omega arith)

-- and so does a word that is taken
pub word_falls : (tokens : List ℕ) (keywords : Bool) (s : Step) → among (word_kinds keywords) (next_kind tokens s) ≡ true
    → ahead tokens (taken_word tokens keywords s) < ahead tokens s
unfolding ahead next_kind taken_by
word_falls tokens keywords (Read at row) is = let room = word-inside keywords tokens at is in rw is (omega arith)
word_falls tokens keywords (Refused number place) is = let some = word_kind keywords 0 is in absurd (omega arith)

-- what begins something has a kind
pub begins_kind : (x : ℕ) → kind_alternative x 0 ≡ 0 → (tokens : List ℕ) (s : Step) → begins_part x tokens s ≡ true → 0 < next_kind tokens s
begins_kind x ends tokens s is =
    let some = begins_some x tokens s is in
    pos_of_ne-zero (λ (z : next_kind tokens s ≡ 0). let gone = ap (kind_alternative x) z ∙ ends in absurd (omega arith))
