-- The production that a reading takes is the one whose number `alternative` computes from the class of the token, where all questions
-- that matter have one answer. Assumes nothing.
use Prim.Native.Nat.{ℕ, zero, suc, ◌+◌, ◌<◌, ◌≤◌}
use mathlib.Core.Path.{◌≡◌, refl, sym, ap}
use mathlib.Core.Bool.{Bool, true, false, false≢true}
use mathlib.Core.List.{List, [], ◌∷◌}
use native.Mathlib.Nat.{zero-add}
use native.Mathlib.Omega.{arith}
use lib.Dec.{eqb}
use borrow.Author.Tests.{eqb-true, ne_eqb, lt-leb}
use Rattle.lexer.specs.Tests.{and, pick, among}
use Rattle.lexer.specs.internal.Kinds.{ident, last_kind}
use Rattle.lexer.specs.Items.{Item}
use Rattle.lexer.proofs.Laws.Tests.{and_left, and_right}
use Rattle.typenames.specs.TypeNames.{is_named}
use Rattle.grammar.specs.Grammars.{next, query, Symbol, token, derived, condition, Production, Names, View, agrees, asked, met}
use Rattle.grammar.specs.executable.First.{can_begin, can_skip}
use Rattle.grammar.specs.executable.Reading.{ready, Choice, none, selected, find, otherwise, choice}
use Rattle.grammar.specs.Classes.{type_name}
use Rattle.grammar.specs.Languages.{class_of}
use Rattle.grammar.specs.internal.Alternatives.{shown, alternative_number, number_else, alternative, nth, kind_of_class, kind_alternative}
use Rattle.grammar.proofs.Laws.Checks.{implies, every}

-- the conditions at the front ask only questions that pass a test
unfoldable pub asks_some : (ℕ → Bool) → List Symbol → Bool
asks_some some [] = true
asks_some some (token cs ∷ ss) = true
asks_some some (derived x ∷ ss) = true
asks_some some (condition b (next cs) ∷ ss) = asks_some some ss
asks_some some (condition b (query q) ∷ ss) = and (some q) (asks_some some ss)

-- ... those of every production of x
unfoldable pub asks_within : (ℕ → Bool) → ℕ → List Production → Bool
asks_within some x g = every (λ (p : Production). implies (eqb p.left x) (asks_some some p.right)) g

-- the productions of x ask no question but q
abbrev pub asks_only : ℕ → ℕ → List Production → Bool
asks_only q x g = asks_within (λ (r : ℕ). eqb r q) x g

-- the productions of x ask no question
abbrev pub asks_none : ℕ → List Production → Bool
asks_none x g = asks_within (λ (r : ℕ). false) x g

-- a choice and its number among the productions of x, where the first of these has number k + 1
data Numbered (x k : ℕ) (g : List Production) : Choice → ℕ → Type 0 where
  absent : Numbered x k g none 0
  present : (n : ℕ) {m : ℕ} {p : Production} → m ≡ suc (k + n) → nth x (suc n) g ≡ selected p → Numbered x k g (selected p) m

-- before them stands a production of something else ..
numbered_rest : {x k m : ℕ} {ps : List Production} {c : Choice} (p : Production) → eqb p.left x ≡ false
    → Numbered x k ps c m → Numbered x k (p ∷ ps) c m
unfolding nth
numbered_rest p s absent = absent
numbered_rest p s (present zero {m = m} {p = q} a b) = present zero {m = m} {p = q} a (rw s b)
numbered_rest p s (present (suc n) {m = m} {p = q} a b) = present (suc n) {m = m} {p = q} a (rw s b)

-- .. or one of x
numbered_later : {x k m : ℕ} {ps : List Production} {c : Choice} (p : Production) → eqb p.left x ≡ true
    → Numbered x (suc k) ps c m → Numbered x k (p ∷ ps) c m
unfolding nth
numbered_later p s absent = absent
numbered_later p s (present n {m = m} {p = q} a b) = present (suc n) {m = m} {p = q} (omega (arith, a)) (rw s b)

-- one choice or else the other has one number or else the other
numbered_else : {x : ℕ} {g : List Production} {a b : Choice} {m n : ℕ} → Numbered x 0 g a m → Numbered x 0 g b n
    → otherwise a b ≡ nth x (number_else m n) g
unfolding otherwise number_else nth
numbered_else absent absent = refl
numbered_else absent (present n s t) = rw (s, zero-add) (sym t)
numbered_else (present n {m = m} s t) second =
    let number : m ≡ suc n = rw zero-add at s in
    rw number (sym t)

module _ (v : View) (e : Names) (i : ℕ) (some : ℕ → Bool) (b : Bool) (heard : (q : ℕ) → some q ≡ true → v.holds q i ≡ b) where
  abbrev c : ℕ
  c = v.class e i

  -- the conditions are met before the token alone just where they are met
  ready-shown : (ss : List Symbol) → asks_some some ss ≡ true → ready v e i ss ≡ ready (shown c b) [] 0 ss
  unfolding asks_some ready met asked
  ready-shown [] h = refl
  ready-shown (token cs ∷ ss) h = refl
  ready-shown (derived x ∷ ss) h = refl
  ready-shown (condition a (next cs) ∷ ss) h = ap (and (agrees a (among cs c))) (ready-shown ss h)
  ready-shown (condition a (query q) ∷ ss) h =
      rw (heard q (and_left (some q) (asks_some some ss) h), ready-shown ss (and_right (some q) (asks_some some ss) h))

  module _ (x : ℕ) (test : Production → Bool) where
    numbered_here : (k : ℕ) (p : Production) (ps : List Production) → eqb p.left x ≡ true → (fits : Bool)
        → Numbered x (suc k) ps (find v e i x test ps) (alternative_number (shown c b) [] 0 x test (suc (suc k)) ps)
        → Numbered x k (p ∷ ps) (pick fits (selected p) (find v e i x test ps))
        (pick fits (suc k) (alternative_number (shown c b) [] 0 x test (suc (suc k)) ps))
    unfolding nth
    numbered_here k p ps s true later = present 0 {m = suc k} {p = p} (omega arith) (rw s)
    numbered_here k p ps s false later = numbered_later p s later

    numbered_by : (k : ℕ) (p : Production) (ps : List Production) (t : Bool) → eqb p.left x ≡ t
        → implies t (asks_some some p.right) ≡ true
        → Numbered x k ps (find v e i x test ps) (alternative_number (shown c b) [] 0 x test (suc k) ps)
        → Numbered x (suc k) ps (find v e i x test ps) (alternative_number (shown c b) [] 0 x test (suc (suc k)) ps)
        → Numbered x k (p ∷ ps) (pick (and t (and (test p) (ready v e i p.right))) (selected p) (find v e i x test ps))
        (pick t (pick (and (test p) (ready (shown c b) [] 0 p.right)) (suc k) (alternative_number (shown c b) [] 0 x test (suc (suc k)) ps))
        (alternative_number (shown c b) [] 0 x test (suc k) ps))
    unfolding and implies
    numbered_by k p ps true s h rest later =
        rw (ready-shown p.right h) (numbered_here k p ps s (and (test p) (ready (shown c b) [] 0 p.right)) later)
    numbered_by k p ps false s h rest later = numbered_rest p s rest

    -- the production that is found has the number that is computed
    numbered : (k : ℕ) (g : List Production) → asks_within some x g ≡ true
        → Numbered x k g (find v e i x test g) (alternative_number (shown c b) [] 0 x test (suc k) g)
    unfolding find alternative_number asks_within every
    numbered k [] h = absent
    numbered k (p ∷ ps) h =
        let more = and_right (implies (eqb p.left x) (asks_some some p.right)) (asks_within some x ps) h in
        numbered_by k p ps (eqb p.left x) refl (and_left _ (asks_within some x ps) h) (numbered k ps more) (numbered (suc k) ps more)

  choice_heard : (g : List Production) (x : ℕ) → asks_within some x g ≡ true → choice g v e x i ≡ nth x (alternative g c b x) g
  unfolding choice alternative
  choice_heard g x h = numbered_else (numbered x (can_begin g c) 0 g h) (numbered x (can_skip g c) 0 g h)

-- where the productions of x ask no question but q, its answer decides ..
pub choice-nth : (g : List Production) (v : View) (e : Names) (x i q : ℕ) → asks_only q x g ≡ true
    → choice g v e x i ≡ nth x (alternative g (v.class e i) (v.holds q i) x) g
choice-nth g v e x i q h =
    choice_heard v e i (λ (r : ℕ). eqb r q) (v.holds q i)
    (λ (r : ℕ) (s : eqb r q ≡ true). ap (λ (n : ℕ). v.holds n i) (eqb-true r q s)) g x h

-- .. and where they ask none, no answer matters
pub choice_plain : (g : List Production) (v : View) (e : Names) (x i : ℕ) (b : Bool) → asks_none x g ≡ true
    → choice g v e x i ≡ nth x (alternative g (v.class e i) b x) g
choice_plain g v e x i b h =
    choice_heard v e i (λ (r : ℕ). false) b (λ (r : ℕ) (s : false ≡ true). absurd (false≢true s)) g x h

-- what is not a kind begins nothing
pub kind_past : (x kind : ℕ) → last_kind < kind → kind_alternative x kind ≡ 0
unfolding kind_alternative
kind_past x kind h = rw (lt-leb kind last_kind h)

-- a token's class tells its kind
pub kind_of_class_lem : (e : Names) (t : Item) → t.kind ≤ last_kind → kind_of_class (class_of e t) ≡ t.kind
unfolding class_of
kind_of_class_lem e t high = cases (and (eqb t.kind ident) (is_named e t.text)) refl
  where
    cases : (b : Bool) → and (eqb t.kind ident) (is_named e t.text) ≡ b → kind_of_class (pick b type_name t.kind) ≡ t.kind
    cases true s = sym (eqb-true t.kind ident (and_left _ _ s))
    cases false s = rw (ne_eqb t.kind type_name (λ (q : t.kind ≡ type_name). omega arith))
