-- The type names of a source: the set N of document 01.
use Rattle.std.specs.Prelude.{ℕ, zero, suc, ◌-◌, Bool, false, List, [], ◌∷◌, ◌++◌, eqb}
use Rattle.lexer.specs.Tests.{and, or, pick, among}
use Rattle.lexer.specs.Kinds.{token_kind}
use Rattle.lexer.specs.Words.{same_name}
use Rattle.lexer.specs.Items.{Item}

-- whether a name is one of some names
unfoldable pub is_named : List (List ℕ) → List ℕ → Bool
is_named [] w = false
is_named (n ∷ ns) w = or (same_name n w) (is_named ns w)

-- the third of three tokens, where they are `:` `|` IDENT
unfoldable pub enum_name : Item → Item → Item → List (List ℕ)
enum_name a b c =
    pick (and (eqb a.kind (token_kind ":")) (and (eqb b.kind (token_kind "|")) (eqb c.kind (token_kind "IDENT")))) (c.text ∷ []) []

-- the second of three tokens, where they are `:` IDENT and one of some kinds; nothing is asked of what follows, so that `: Foo [`
-- counts without a list after it
unfoldable pub struct_name : List ℕ → Item → Item → Item → List (List ℕ)
struct_name opening a b c =
    pick (and (eqb a.kind (token_kind ":")) (and (eqb b.kind (token_kind "IDENT")) (among opening c.kind))) (b.text ∷ []) []

-- "Depth counts `{` and `}` tokens and does not go below zero": the depth after a token
unfoldable pub deeper : ℕ → ℕ → ℕ
deeper depth kind = pick (eqb kind (token_kind "{")) (suc depth) (pick (eqb kind (token_kind "}")) (depth - 1) depth)

-- what three tokens declare, the first of them at a depth: "at brace depth zero"; the tokens before the IDENT are not braces
unfoldable pub names_at : List ℕ → ℕ → Item → Item → Item → List (List ℕ)
names_at opening zero a b c = struct_name opening a b c ++ enum_name a b c
names_at opening (suc depth) a b c = []

-- "each IDENT that stands directly after `:` and before `{` or `[`, or directly after `:` `|`, at brace depth zero", from a
-- depth on
unfoldable pub declared : List ℕ → ℕ → List Item → List (List ℕ)
declared opening depth [] = []
declared opening depth (a ∷ []) = []
declared opening depth (a ∷ b ∷ []) = []
declared opening depth (a ∷ b ∷ c ∷ ts) = names_at opening depth a b c ++ declared opening (deeper depth a.kind) (b ∷ c ∷ ts)

-- the kinds that can follow a struct's name in grammar 1.7: "before `{` or `[`"
abbrev pub opening17 : List ℕ
opening17 = token_kind "{" ∷ token_kind "[" ∷ []

-- The set N (document 01, "Type names of a source"): "the extra names" and the names declared in the whole token list.
unfoldable pub type_names : List ℕ → List (List ℕ) → List Item → List (List ℕ)
type_names opening extra ts = extra ++ declared opening zero ts
