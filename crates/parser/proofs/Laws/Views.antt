-- What the items and the view of the tokens of a table show: the item and the class of each token go with its kind in the table.
-- Assumes nothing.
use Prim.Native.Nat.{ℕ, zero, suc, ◌<◌, ◌≤◌}
use mathlib.Core.Path.{◌≡◌, refl, ◌∙◌}
use mathlib.Core.Bool.{Bool, true, false}
use mathlib.Core.List.{List, [], ◌∷◌}
use native.Mathlib.Omega.{arith}
use lib.Dec.{eqb, ltb}
use lib.ListN.{get_or}
use borrow.Author.Tests.{ltb-true, ltb-false}
use Rattle.lexer.specs.Tests.{and, pick}
use Rattle.lexer.specs.internal.Kinds.{ident, last_kind}
use Rattle.lexer.specs.Tokens.{Token}
use Rattle.lexer.specs.Table.{token_room}
use Rattle.lexer.specs.internal.TokenRows.{rows_of, no_token, row_at, kind_at, item_at}
use Rattle.lexer.specs.Items.{item_of, items}
use Rattle.lexer.proofs.Laws.Tests.{between_range}
use Rattle.lexer.proofs.Laws.Rows.{no_row}
use Rattle.typenames.specs.TypeNames.{is_named}
use Rattle.grammar.specs.Grammars.{Names}
use Rattle.grammar.specs.Classes.{type_name}
use Rattle.grammar.specs.Languages.{language17, no_item, class_of, view}
use Rattle.grammar.specs.Sources.{view_of}
use Rattle.grammar.specs.internal.Alternatives.{kind_of_class}
use Rattle.grammar.proofs.Laws.Alternatives.{kind_of_class_lem}
use Rattle.grammar.proofs.Laws.Views.{classes}
use Rattle.grammar.proofs.Laws.Checks.{below}
use Rattle.grammar.proofs.Laws.CheckLaws.{below_at}
use Rattle.parser.specs.internal.Steps.{Tokens}

-- an item of a source is the token in its row, past the last too
item_by : (source : List ℕ) (ts : List Token) (at : ℕ) → get_or (items source ts) at no_item ≡ item_of source (get_or ts at no_token)
unfolding items item_of
item_by source [] zero = refl
item_by source [] (suc at) = refl
item_by source (t ∷ ts) zero = refl
item_by source (t ∷ ts) (suc at) = item_by source ts at

pub item_here : (source tokens : List ℕ) (at : ℕ) → get_or (items source (rows_of tokens)) at no_item ≡ item_at source tokens at
unfolding row_at
item_here source tokens at = item_by source (rows_of tokens) at

pub kind_here : (source tokens : List ℕ) (at : ℕ) → (get_or (items source (rows_of tokens)) at no_item).kind ≡ kind_at tokens at
unfolding item_of
kind_here source tokens at = rw (item_here source tokens at)

-- a row with a kind is one of the table
pub kind-inside : (tokens : List ℕ) (at k : ℕ) → kind_at tokens at ≡ k → 0 < k → at < token_room tokens
kind-inside tokens at k is some = inside_by (ltb at (token_room tokens)) refl
  where
    inside_by : (b : Bool) → ltb at (token_room tokens) ≡ b → at < token_room tokens
    inside_by true h = ltb-true _ _ h
    inside_by false h = let none = no_row tokens at 0 (omega arith) (ltb-false _ _ h) in absurd (omega arith)

module _ (source tokens : List ℕ) (good : Tokens tokens) (e : Names) where
  kind_low : (j : ℕ) → kind_at tokens j ≤ last_kind
  kind_low j = low_by (ltb j (token_room tokens)) refl
    where
      low_by : (b : Bool) → ltb j (token_room tokens) ≡ b → kind_at tokens j ≤ last_kind
      low_by true h = (between_range _ _ _ (good.kinds j (ltb-true _ _ h))).1
      low_by false h = let z = no_row tokens j 0 (omega arith) (ltb-false _ _ h) in omega arith

  -- the class of a token shows its kind
  pub class-kind : (j : ℕ) → kind_of_class ((view_of language17 source (rows_of tokens)).class e j) ≡ kind_at tokens j
  unfolding view
  class-kind j =
      let same = kind_here source tokens j in
      kind_of_class_lem e (get_or (items source (rows_of tokens)) j no_item) (rw same (kind_low j)) ∙ same

  class_by : (b : Bool) (kind : ℕ) → kind ≤ last_kind → pick b type_name kind < classes
  class_by true kind low = omega arith
  class_by false kind low = omega arith

  -- there are so many classes
  pub class_low : (j : ℕ) → (view_of language17 source (rows_of tokens)).class e j < classes
  unfolding view class_of
  class_low j =
      let t = get_or (items source (rows_of tokens)) j no_item in
      class_by (and (eqb t.kind ident) (is_named e t.text)) t.kind (rw (kind_here source tokens j) (kind_low j))

  -- no nonterminal changes the names in force
  pub names_fixed : (x i : ℕ) → (view_of language17 source (rows_of tokens)).inside x i e ≡ e
  unfolding view
  names_fixed x i = refl

  -- a computed test of all classes holds of each token's
  pub class_shows : (test : ℕ → Bool) → below test classes ≡ true → (j : ℕ)
      → test ((view_of language17 source (rows_of tokens)).class e j) ≡ true
  class_shows test all j = below_at test classes _ all (class_low j)
