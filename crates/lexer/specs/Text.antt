-- The bytes of a quoted text, in UTF-8, so that a spelling can be written as document 01 writes it.
use Rattle.std.specs.Prelude.{ℕ, ◌+◌, ◌/◌, ◌%◌, List, [], ◌∷◌, ltb}
use Prim.Native.Char.{code}
use Prim.Native.String.{String, [] as empty, ◌∷◌ as ◌before◌}
use Rattle.lexer.specs.Tests.{pick}

-- one character in front of other bytes: one byte below 128, two below 2048, else three (no text here needs four)
unfoldable pub encode : ℕ → List ℕ → List ℕ
encode c rest =
    pick (ltb c 128) (c ∷ rest)
    (pick (ltb c 2048) ((192 + c / 64) ∷ (128 + c % 64) ∷ rest)
    ((224 + c / 4096) ∷ (128 + c / 64 % 64) ∷ (128 + c % 64) ∷ rest))

unfoldable pub bytes : String → List ℕ
unfolding encode
bytes empty = []
bytes (c before s) = encode (code c) (bytes s)
