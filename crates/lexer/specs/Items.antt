-- Tokens with their texts.
use Rattle.std.specs.Prelude.{ℕ, List, [], ◌∷◌, take, drop}
use Rattle.lexer.specs.Tokens.{Token}

-- a token by what the grammar asks of it: its kind and its bytes
pub record Item : Type 0 where
  pub kind : ℕ
  pub text : List ℕ

unfoldable pub item_of : List ℕ → Token → Item
item_of source t = record { kind = t.kind; text = take t.size (drop t.start source) }

-- the tokens of a source with their texts
unfoldable pub items : List ℕ → List Token → List Item
items source [] = []
items source (t ∷ ts) = item_of source t ∷ items source ts
