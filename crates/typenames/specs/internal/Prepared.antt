-- A prepared list: the slots of a filter, and after them the list of extra type names. A word whose slot is 0 is not a type name; any
-- other is looked for. This is a means of the code: what is promised to callers of the whole library does not depend on it.
use Prim.Native.Char.{code}
use Rattle.std.specs.Prelude.{ℕ, ◌+◌, ◌*◌, ◌%◌, Bool, List, [], ◌∷◌, eqb, ltb, drop, get_or, set}
use Rattle.lexer.specs.Tests.{pick}
use Rattle.lexer.specs.Items.{Item}
use Rattle.typenames.specs.NameList.{entries}
use Rattle.typenames.specs.TypeNames.{type_names}

-- how many bytes the filter has
abbrev pub slots : ℕ
slots = 4096

-- a byte with `:` taken as `_`, so that names that are the same have the same slot
unfoldable pub folded : ℕ → ℕ
folded b = pick (eqb b (code ":")) (code "_") b

-- the slot of a name, given what the bytes before these make
unfoldable pub hash_from : ℕ → List ℕ → ℕ
hash_from h [] = h
hash_from h (b ∷ w) = hash_from ((h * 31 + folded b) % slots) w

unfoldable pub slot_of : List ℕ → ℕ
slot_of w = hash_from 0 w

-- whether the slot of a name is set
unfoldable pub passes : List ℕ → List ℕ → Bool
passes p w = ltb 0 (get_or p (slot_of w) 0)

-- a prepared list with the slot of a name set
unfoldable pub marked : List ℕ → List ℕ → List ℕ
marked p w = set p (slot_of w) 1

-- .. with the slots of some names set
unfoldable pub marked_all : List ℕ → List (List ℕ) → List ℕ
marked_all p [] = p
marked_all p (n ∷ ns) = marked_all (marked p n) ns

-- the names that pass a test, in their order
unfoldable pub passing : (List ℕ → Bool) → List (List ℕ) → List (List ℕ)
passing f [] = []
passing f (n ∷ ns) =
    let rest = passing f ns in
    pick (f n) (n ∷ rest) rest

-- the type names that a prepared list lets through: where each of them is marked, all type names
unfoldable pub prepared_names : List ℕ → List ℕ → List Item → List (List ℕ)
prepared_names opening p ts = passing (passes p) (type_names opening (entries (drop slots p)) ts)
