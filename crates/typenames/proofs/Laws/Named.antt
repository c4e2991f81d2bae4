-- Whether a name is one of some names: of two lists together, and as a search through them says. Assumes nothing.
use Prim.Native.Nat.{ℕ}
use mathlib.Core.Path.{◌≡◌, refl, sym}
use mathlib.Core.Bool.{Bool, true, false, ◌||◌}
use mathlib.Core.List.{List, [], ◌∷◌, ◌++◌}
use Rattle.std.specs.List.{list_any}
use Rattle.lexer.specs.Tests.{or}
use Rattle.lexer.specs.Words.{same_name}
use Rattle.typenames.specs.TypeNames.{is_named}

or_assoc : (a b c : Bool) → or (or a b) c ≡ or a (or b c)
unfolding or
or_assoc true b c = refl
or_assoc false b c = refl

-- a name of two lists together is one of the first or of the second
pub named_append : (ns ms : List (List ℕ)) (w : List ℕ) → is_named (ns ++ ms) w ≡ or (is_named ns w) (is_named ms w)
unfolding is_named or
named_append [] ms w = refl
named_append (n ∷ ns) ms w = rw (named_append ns ms w) (sym (or_assoc (same_name n w) (is_named ns w) (is_named ms w)))

-- a search through names
or_is : (a b : Bool) → (a || b) ≡ or a b
unfolding or
or_is true b = refl
or_is false b = refl

pub any_named : (ns : List (List ℕ)) (w : List ℕ) → list_any (λ n. same_name n w) ns ≡ is_named ns w
unfolding is_named
any_named [] w = refl
any_named (n ∷ ns) w = rw (or_is (same_name n w) (list_any (λ n. same_name n w) ns), any_named ns w)
