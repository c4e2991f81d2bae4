-- Tests and choices by a test, which the definitions here and in the crates above are written with.
use Rattle.std.specs.Prelude.{Bool, true, false, List, [], ◌∷◌, ℕ, eqb, leb}

unfoldable pub and : Bool → Bool → Bool
and true b = b
and false b = false

unfoldable pub or : Bool → Bool → Bool
or true b = true
or false b = b

-- the first value where the test holds, else the second
abbrev pub pick {ℓ} : {A : Type ℓ} → Bool → A → A → A
pick true a b = a
pick false a b = b

unfoldable pub between : ℕ → ℕ → ℕ → Bool
unfolding and
between low high n = and (leb low n) (leb n high)

-- whether a number is one of some numbers
unfoldable pub among : List ℕ → ℕ → Bool
among [] n = false
among (k ∷ ks) n = or (eqb k n) (among ks n)
