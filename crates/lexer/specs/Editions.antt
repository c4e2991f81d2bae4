-- What the lexical rules of one edition of the grammar differ by from another's.
use Prim.Native.String.{String}
use Rattle.std.specs.Prelude.{Bool, true, false, List, [], ◌∷◌}
use lib.Text.{eqt}
use Rattle.lexer.specs.Tests.{pick}
use Rattle.lexer.specs.Kinds.{mark_names}
use Rattle.lexer.specs.Spellings.{Spelling, spelled_marks}

pub record Edition : Type 0 where
  -- whether a `-` at once before a digit belongs to the number
  pub signed : Bool
  pub marks : List Spelling

-- grammar 1.7, document 009
abbrev pub edition17 : Edition
edition17 = record { signed = true; marks = spelled_marks mark_names }

-- some names but one
abbrev pub but : String → List String → List String
but name [] = []
but name (other ∷ more) = let rest = but name more in pick (eqt other name) rest (other ∷ rest)

-- grammar 1.1, document 008: "no `-` taken in front of a number", "no `<<` or `>>`"
abbrev pub edition11 : Edition
edition11 = record { signed = false; marks = spelled_marks (but "<<" (but ">>" mark_names)) }
