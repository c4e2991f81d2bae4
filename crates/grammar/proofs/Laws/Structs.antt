-- The conditions on `opens_struct` in the table of NURL lose no derivation: where the other symbols of a struct derive anything, the
-- answer is yes, and where those of a constant do, it is no. It holds in any edition with these productions whose questions are
-- as `Opens` says; 1.7 is one (`opens17`). Assumes nothing.
use Prim.Native.Nat.{ℕ, zero, suc, ◌≤◌}
use mathlib.Core.Path.{◌≡◌, refl, ◌∙◌, sym, ap}
use mathlib.Core.Bool.{Bool, true, false, false≢true}
use mathlib.Core.List.{List, [], ◌∷◌}
use native.Mathlib.Omega.{arith}
use lib.Dec.{eqb}
use lib.ListN.{get_or}
use borrow.Author.Tests.{eqb-true, eq-eqb, ne_eqb}
use Rattle.lexer.specs.Tests.{and, or, pick, among}
use Rattle.lexer.specs.internal.Kinds.{ident, left_brace, left_bracket, last_kind}
use Rattle.lexer.specs.Items.{Item}
use Rattle.lexer.proofs.Laws.Tests.{or-false, and_left, or_left, or_right}
use Rattle.typenames.specs.TypeNames.{opening17, is_named}
use Rattle.tree.specs.TreeTable.{Row}
use Rattle.tree.specs.internal.RowKinds.{named_type_row}
use Rattle.grammar.specs.Grammars.{query, Symbol, token, derived, condition, when, unless, gives_row, no_row, Production, Names, View}
use Rattle.grammar.specs.Grammars.{agrees, asked, met}
use Rattle.grammar.specs.Derivations.{Has, here, there, Derives, end, taken, held, entered}
use Rattle.grammar.specs.internal.Nonterminals.{mutable, name_list, type, struct_parameters}
use Rattle.grammar.specs.Classes.{type_name}
use Rattle.grammar.specs.internal.Classes.{name, declared_word}
use Rattle.grammar.specs.Questions.{one_of, fits, fits_one, answer_to}
use Rattle.grammar.specs.Nurl.{questions17, productions}
use Rattle.grammar.specs.internal.Productions.{kind_token, rule_of, opens_struct, opens_struct_names}
use Rattle.grammar.specs.Languages.{Language, language17, no_item, class_of, view}
use Rattle.grammar.proofs.Laws.Views.{Kinds, kinds_none, kinds_more}
use Rattle.grammar.proofs.Laws.Patterns.{among_one, fits_at}

-- a token of some classes: its kind is among them, or it is an IDENT and the class of type names is
taken_by : {P : Type 0} (cs : List ℕ) (e : Names) (t : Item) → among cs (class_of e t) ≡ true
    → (among cs t.kind ≡ true → P) → (t.kind ≡ ident → among cs type_name ≡ true → P) → P
unfolding class_of
taken_by {P} cs e t h plain named = cases (and (eqb t.kind ident) (is_named e t.text)) refl h
  where
    cases : (b : Bool) → and (eqb t.kind ident) (is_named e t.text) ≡ b → among cs (pick b type_name t.kind) ≡ true → P
    cases true s = named (eqb-true t.kind ident (and_left _ _ s))
    cases false s = plain

name-kind : (e : Names) (t : Item) → t.kind ≤ last_kind → among name (class_of e t) ≡ true → t.kind ≡ ident
unfolding among or
name-kind e t low h =
    let other = ne_eqb type_name t.kind (λ (q : type_name ≡ t.kind). omega arith) in
    taken_by name e t h (λ s. among_one ident t.kind (rw other at s)) (λ k s. k)

brace_kind : (e : Names) (t : Item) → among (left_brace ∷ []) (class_of e t) ≡ true → t.kind ≡ left_brace
unfolding among or
brace_kind e t h = taken_by (left_brace ∷ []) e t h (among_one left_brace t.kind) (λ k s. absurd (false≢true s))

kind_below : {ts : List Item} → Kinds ts → (i : ℕ) → (get_or ts i no_item).kind ≤ last_kind
kind_below kinds_none i = omega arith
kind_below (kinds_more low high k) zero = high
kind_below (kinds_more low high k) (suc i) = kind_below k i

-- the productions of a nonterminal whose right sides pass a test
module _ (x : ℕ) (test : List Symbol → Bool) where
  unfoldable those : List Production → List Production
  those [] = []
  those (p ∷ ps) =
      let rest = those ps in
      pick (and (eqb p.left x) (test p.right)) (p ∷ rest) rest

  has_those : {g : List Production} {p : Production} → Has g p → p.left ≡ x → test p.right ≡ true → Has (those g) p
  unfolding those and
  has_those (here {p = p}) left t = rw (eq-eqb p.left x left, t) here
  has_those {p = p} (there {q = q} {ps = ps} has) left t = cases (and (eqb q.left x) (test q.right)) (has_those has left t)
    where
      cases : (b : Bool) → Has (those ps) p → Has (pick b (q ∷ those ps) (those ps)) p
      cases true more = there more
      cases false more = more

-- symbols that may derive something where an IDENT is next
unfoldable at_name : List Symbol → Bool
at_name [] = true
at_name (token cs ∷ ss) = or (among cs ident) (among cs type_name)
at_name (derived x ∷ ss) = true
at_name (condition b q ∷ ss) = true

-- there `mutable` has only its empty production and `type` only the named type
mutable17 : those mutable at_name productions ≡ rule_of mutable no_row [] ∷ []
unfolding and or among productions those at_name
mutable17 = refl

type17 : those type at_name productions ≡ rule_of type (gives_row named_type_row) (token declared_word ∷ []) ∷ []
unfolding and or among productions those at_name
type17 = refl

none-taken : {g : List Production} {v : View} {e : Names} {n i j said : ℕ} {p : Production} {rows : List Row}
    → Has (rule_of mutable no_row [] ∷ []) p → Derives g v e n p.right i j rows said → j ≡ i
none-taken here end = refl
none-taken (there has) _ = elim has [ ]

one_taken : {g : List Production} {v : View} {e : Names} {n i j said : ℕ} {p : Production} {rows : List Row}
    → Has (rule_of type (gives_row named_type_row) (token declared_word ∷ []) ∷ []) p → Derives g v e n p.right i j rows said → j ≡ suc i
one_taken here (taken h end) = refl
one_taken (there has) _ = elim has [ ]

-- the productions of `struct_parameters`
abbrev lists : List Production
lists =
    rule_of struct_parameters no_row (when (query opens_struct_names) ∷ derived name_list ∷ []) ∷
    rule_of struct_parameters no_row (unless (query opens_struct_names) ∷ []) ∷ []

lists17 : those struct_parameters (λ ss. true) productions ≡ lists
unfolding and productions those
lists17 = refl

abbrev kind_at : List Item → ℕ → ℕ
kind_at ts i = (get_or ts i no_item).kind

-- what is asked of an edition
pub record Opens (l : Language) : Type 0 where
  -- `{` is one of the opening kinds, and IDENT is none
  pub brace : among l.opening left_brace ≡ true
  pub apart : among l.opening ident ≡ false
  -- a struct's name stands before one of them
  pub struct : (ts : List Item) (i : ℕ)
      → (view l ts).holds opens_struct i ≡ and (among (ident ∷ []) (kind_at ts i)) (and (among l.opening (kind_at ts (suc i))) true)
  -- a struct's list begins with one
  pub list : (ts : List Item) (i : ℕ) → (view l ts).holds opens_struct_names i ≡ true → among l.opening (kind_at ts i) ≡ true

module _ (l : Language) (opens : Opens l) (ts : List Item) where
  at_name_lem : {g : List Production} {e : Names} {n i j said : ℕ} {ss : List Symbol} {rows : List Row}
      → Derives g (view l ts) e n ss i j rows said → kind_at ts i ≡ ident → at_name ss ≡ true
  unfolding at_name view
  at_name_lem end k = refl
  at_name_lem (taken {e = e} {i = i} {cs = cs} h d) k =
      taken_by cs e (get_or ts i no_item) h (λ s. or_left _ _ (rw k at s)) (λ k s. or_right (among cs ident) _ s)
  at_name_lem (held h d) k = refl
  at_name_lem (entered has left level inner rest) k = refl

  -- a struct's list before a `{` begins with an opening kind or is nothing
  list_opens : {g : List Production} {e : Names} {n i j said : ℕ} {p : Production} {rows : List Row} → Has lists p
      → Derives g (view l ts) e n p.right i j rows said → kind_at ts j ≡ left_brace → among l.opening (kind_at ts i) ≡ true
  unfolding met asked agrees
  list_opens here (held {i = i} h d) brace = opens.list ts i h
  list_opens (there here) (held h end) brace = rw brace opens.brace
  list_opens (there (there has)) _ brace = elim has [ ]

  -- a struct
  pub struct_asked : Kinds ts → {e : Names} {n i j said : ℕ} {ss : List Symbol} {rows : List Row}
      → Derives productions (view l ts) e n (token name ∷ derived struct_parameters ∷ kind_token left_brace ∷ ss) i j rows said
      → (view l ts).holds opens_struct i ≡ true
  unfolding view and among or
  struct_asked kinds (taken {e = e} {i = i} h (entered {j = j} has left level inner (taken b d))) =
      let list = rw lists17 at (has_those struct_parameters (λ ss. true) has left refl) in
      let opening = list_opens list inner (brace_kind e (get_or ts j no_item) b) in
      rw (opens.struct ts i, name-kind e (get_or ts i no_item) (kind_below kinds i) h, opening)

  -- a constant: if its first token is an IDENT, so is the second
  pub constant_asked : Kinds ts → {e : Names} {n i j said : ℕ} {ss : List Symbol} {rows : List Row}
      → Derives productions (view l ts) e n (derived mutable ∷ derived type ∷ token name ∷ ss) i j rows said
      → (view l ts).holds opens_struct i ≡ false
  unfolding view and among or
  constant_asked kinds (entered {e = e} {i = i} m left level first (entered {j = k} t also deep second (taken h d))) =
      opens.struct ts i ∙ cases (among (ident ∷ []) (kind_at ts i)) refl
    where
      cases : (b : Bool) → among (ident ∷ []) (kind_at ts i) ≡ b → and b (and (among l.opening (kind_at ts (suc i))) true) ≡ false
      cases true a =
          let front = among_one ident (kind_at ts i) a in
          let none = none-taken (rw mutable17 at (has_those mutable at_name m left (at_name_lem first front))) first in
          let single = one_taken (rw type17 at (has_those type at_name t also (at_name_lem second (rw none front)))) second in
          rw (← none, ← single, name-kind e (get_or ts k no_item) (kind_below kinds k) h, opens.apart)
      cases false a = refl

-- grammar 1.7
bracket17 : (ts : List Item) (i : ℕ) → (view language17 ts).holds opens_struct_names i ≡ true → kind_at ts i ≡ left_bracket
unfolding view answer_to questions17 fits_one among or
bracket17 ts i h =
    among_one left_bracket (kind_at ts i) (and_left _ _ (sym (fits_at (left_bracket ∷ []) _ ts i refl) ∙ sym (or-false _) ∙ h))

struct17 : (ts : List Item) (i : ℕ)
    → (view language17 ts).holds opens_struct i ≡ and (among (ident ∷ []) (kind_at ts i)) (and (among opening17 (kind_at ts (suc i))) true)
unfolding view answer_to questions17 fits_one fits among or
struct17 ts i =
    or-false _ ∙ fits_at (ident ∷ []) (one_of opening17 ∷ []) ts i refl ∙ ap (and _) (fits_at opening17 [] ts (suc i) refl)

pub opens17 : Opens language17
unfolding among or
opens17 = record { brace = refl; apart = refl; struct = struct17; list = λ ts i h. rw (bracket17 ts i h) }
