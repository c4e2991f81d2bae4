-- "INT: digits, with a `-` taken in front when a digit follows it at once. FLOAT: the same, a point, digits, then `e` or `E`,
-- an optional sign and digits if all of that is there."
use Prim.Native.Char.{code}
use Rattle.std.specs.Prelude.{ℕ, zero, suc, ◌+◌, List, drop}
use Rattle.lexer.specs.Tests.{pick}
use Rattle.lexer.specs.Bytes.{is_digit, begins, begins_either, run}

-- the digits at the front
abbrev pub digits : List ℕ → ℕ
digits = run is_digit

-- so many bytes and what follows them, where digits follow; else nothing
unfoldable pub with_digits : ℕ → ℕ → ℕ
with_digits n zero = 0
with_digits n (suc d) = n + suc d

-- a point and digits at the front, 0 where not all of that is there
unfoldable pub fraction : List ℕ → ℕ
fraction s = let n = with_digits 1 (digits (drop 1 s)) in pick (begins (code ".") s) n 0

-- an optional sign at the front
unfoldable pub sign : List ℕ → ℕ
sign s = pick (begins_either (code "+") (code "-") s) 1 0

-- `e` or `E`, an optional sign and digits at the front, 0 where not all of that is there
unfoldable pub exponent : List ℕ → ℕ
exponent s =
    let signed = 1 + sign (drop 1 s) in
    let n = with_digits signed (digits (drop signed s)) in
    pick (begins_either (code "e") (code "E") s) n 0
