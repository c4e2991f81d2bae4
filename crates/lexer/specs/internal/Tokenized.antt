-- What the tokeniser answers, and what it leaves in the token table.
use Rattle.std.specs.Prelude.{ℕ, List, [], ◌∷◌, Result, Ok, Err, ltb, leb, length}
use Rattle.lexer.specs.Refusals.{refusal_number}
use Rattle.lexer.specs.Tests.{pick}
use Rattle.lexer.specs.Editions.{Edition}
use Rattle.lexer.specs.Tokens.{Token, Ending, clean, fault}
use Rattle.lexer.specs.executable.Scans.{Scan, scan}
use Rattle.lexer.specs.Lexemes.{Lexeme, End, Skipped, BadByte, OpenString}
use Rattle.lexer.specs.Table.{source_limit, token_room, filled}
use Rattle.lexer.specs.internal.RefusalNumbers.{reason_number}
use Rattle.lexer.specs.declared.refusals.Refusal.{Refusal}

-- the answer of a pass over a whole source: the number of its tokens, or a refusal's number and place
pub data Scanned : Type 0 where
  Tokens : ℕ → Scanned
  Refused : ℕ → ℕ → Scanned

-- the code's answer as one of these
abbrev pub as_scanned : Result ℕ Refusal → Scanned
as_scanned (Ok count) = Tokens count
as_scanned (Err refusal) = Refused (reason_number refusal.reason) refusal.place

-- so many tokens, or the fault
unfoldable pub ended_with : ℕ → Ending → Scanned
ended_with count clean = Tokens count
ended_with count (fault number place) = Refused number place

-- the number of tokens, or the fault
unfoldable pub scanned : Scan → Scanned
scanned x = ended_with (length x.found) x.ending

-- what is answered where a lexeme at a place ends the tokens, so many of which have been met
unfoldable pub ended_by : Lexeme → ℕ → ℕ → Scanned
ended_by End at count = Tokens count
ended_by (Skipped n) at count = Tokens count
ended_by (Lexeme.Token k n) at count = Tokens count
ended_by BadByte at count = Refused (refusal_number "bad byte") at
ended_by OpenString at count = Refused (refusal_number "open string") at

-- refusal 1, else what the source's tokens are
unfoldable pub counted : Edition → List ℕ → Scanned
counted e s = pick (ltb source_limit (length s)) (Refused (refusal_number "long source") 0) (scanned (scan e s))

-- document 01's number and values for each case of the tokeniser's answer, as two numbers: 0 and the number of tokens, or the
-- refusal's number and its place
unfoldable pub scanned_values : Scanned → List ℕ
scanned_values (Tokens count) = 0 ∷ count ∷ []
scanned_values (Refused number place) = number ∷ place ∷ []

-- these numbers for a source
abbrev pub counted_values : Edition → List ℕ → List ℕ
counted_values e s = scanned_values (counted e s)

-- "more tokens than rows": refusal 5, place the tokens needed, where there is no other
unfoldable pub with_room : ℕ → Scanned → Scanned
with_room rows (Tokens n) = pick (leb n rows) (Tokens n) (Refused (refusal_number "few token rows") n)
with_room rows (Refused number place) = Refused number place

-- what the tokeniser answers for a source and a table
unfoldable pub tokenized : Edition → List ℕ → List ℕ → Scanned
tokenized e s table = with_room (token_room table) (counted e s)

-- these numbers for a source and a table
abbrev pub tokenized_values : Edition → List ℕ → List ℕ → List ℕ
tokenized_values e s table = scanned_values (tokenized e s table)

-- on 1, 3, 4 and 5 the table is unchanged
unfoldable pub after_answer : Scanned → List ℕ → List Token → List ℕ → List ℕ
after_answer (Tokens n) source ts table = filled source ts table
after_answer (Refused number place) source ts table = table

-- what it leaves in the table
unfoldable pub table_after : Edition → List ℕ → List ℕ → List ℕ
table_after e s table = after_answer (tokenized e s table) s (scan e s).found table
