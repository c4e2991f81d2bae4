-- What serving an input does to two writers, where the bytes that the input will bring and those that the writers hold are known.
use Rattle.std.specs.Prelude.{ℕ, ◌⊎◌, Option, IfSome, List, [], ◌∷◌, ◌++◌, codes}
use Rattle.std.specs.Io.KnownBytes.{Keeps, Appends}
use Rattle.replies.specs.Desk.{desk_text}

-- the line that says that an input cannot be read
abbrev pub unreadable_line : List ℕ
unreadable_line = codes "unreadable" ++ (10 ∷ [])

-- All that the input will bring is a script, whose text is printed to the output and nothing to the errors; or the input cannot be read,
-- which is printed to the errors and nothing to the output.
abbrev pub Served : Option (List ℕ) → Option (List ℕ) → Option (List ℕ) → Option (List ℕ) → Option (List ℕ) → Type 0
Served input output output' errors errors' =
    (IfSome input (λ script. Appends output output' (desk_text script)) × Keeps errors errors')
    ⊎ (Keeps output output' × Appends errors errors' unreadable_line)
