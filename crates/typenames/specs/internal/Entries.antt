-- The entries of a name list one after the other: what the code's walk over a list is stated by.
use Rattle.std.specs.Prelude.{ℕ, Option, Some, None, List, []}
use denote.Ref.{Bor}
use Rattle.typenames.specs.declared.entries.Entries.{Entries}
use Rattle.typenames.specs.NameList.{split}

-- the entries of what is left of a list, none where nothing is left
abbrev pub entries_of_rest : Option (Bor (List ℕ)) → List (List ℕ)
entries_of_rest None = []
entries_of_rest (Some rest) = split rest.now

-- the entries that are still to come
abbrev pub entries_left : Entries → List (List ℕ)
entries_left e = entries_of_rest e.rest
