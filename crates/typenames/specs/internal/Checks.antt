-- Document 01's number and place of the answer for a list.
use Rattle.std.specs.Prelude.{ℕ, List, [], ◌∷◌, Result, Ok, Err}
use Rattle.lexer.specs.Editions.{Edition}
use Rattle.lexer.specs.internal.RefusalNumbers.{reason_number}
use Rattle.lexer.specs.declared.refusals.Refusal.{Refusal}
use Rattle.typenames.specs.NameList.{Checked, Good, Refused, checked}

-- the code's answer as one of the specification's
abbrev pub as_checked : Result Unit Refusal → Checked
as_checked (Ok good) = Good
as_checked (Err refusal) = Refused (reason_number refusal.reason) refusal.place

-- document 01's number and values for each case of the answer, as two numbers: 0 and 0, or the refusal's number and its place
unfoldable pub checked_values : Checked → List ℕ
checked_values Good = 0 ∷ 0 ∷ []
checked_values (Refused number place) = number ∷ place ∷ []

-- its numbers
abbrev pub list_values : Edition → List ℕ → List ℕ
list_values e list = checked_values (checked e list)
