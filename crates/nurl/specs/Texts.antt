-- The text of an answer, as the desk program prints it, and what a lent output holds when a text is written into it.
use Prim.Native.Char.{code}
use Rattle.std.specs.Prelude.{ℕ, zero, suc, ◌+◌, ◌/◌, ◌%◌, min, List, [], ◌∷◌, ◌++◌, leb, ltb, length, take, drop, Option, Some, None}
use Rattle.lexer.specs.Tests.{pick}
use Rattle.lexer.specs.Text.{bytes}
use Rattle.tree.specs.TreeTable.{Row, tree_room, tree_row_at}
use Rattle.answer.specs.declared.Answer.{Answer}
use Rattle.answer.specs.declared.Answer.TheVariants.{Accepted, Refused}

-- the digit of a number below ten
abbrev pub digit : ℕ → ℕ
digit n = n % 10 + code "0"

-- the decimal digits of a number, of which there are at most so many and one
unfoldable pub digits_within : ℕ → ℕ → List ℕ
digits_within zero n = digit n ∷ []
digits_within (suc m) n =
    let front = digits_within m (n / 10) in
    pick (ltb n 10) (digit n ∷ []) (front ++ (digit n ∷ []))

-- a number in decimal: it has no more digits than it counts
unfoldable pub decimal : ℕ → List ℕ
decimal n = digits_within n n

abbrev pub space : ℕ
space = 32

abbrev pub newline : ℕ
newline = 10

-- a number and the byte after it
abbrev pub number_text : ℕ → ℕ → List ℕ
number_text n end = decimal n ++ (end ∷ [])

-- a line of a word and two numbers
abbrev pub line : List ℕ → ℕ → ℕ → List ℕ
line word a b = word ++ (number_text a space ++ number_text b newline)

-- the line of a row
abbrev pub row_line : Row → List ℕ
row_line r =
    let last = number_text r.cover space ++ number_text r.count newline in
    number_text r.kind space ++ (number_text r.first space ++ last)

-- the lines of the first rows of a tree table, so many of them
unfoldable pub row_lines : List ℕ → ℕ → List ℕ
row_lines table zero = []
row_lines table (suc n) = row_lines table n ++ row_line (tree_row_at table n)

-- a line `accepted T R` and then a line for each of the R rows, or one line `refused N P`; a table with fewer whole rows has no more
-- to print
unfoldable pub answer_text : Answer → List ℕ → List ℕ
answer_text (Accepted tokens rows) table = line (bytes "accepted ") tokens rows ++ row_lines table (min rows (tree_room table))
answer_text (Refused number_text place) table = line (bytes "refused ") number_text place

-- how much of a text is written into so many bytes: all of it, of that size, or only its front
unfoldable pub written : List ℕ → ℕ → Option ℕ
written text room = pick (leb (length text) room) (Some (length text)) None

-- how many bytes of an output with so much room hold a text, by how much of it is written
unfoldable pub bytes_written : Option ℕ → ℕ → ℕ
bytes_written (Some size) room = size
bytes_written None room = room

-- an output that a text was written into: as much of the text as it has room for, and what it held after that
unfoldable pub overwritten : List ℕ → List ℕ → List ℕ
overwritten text output = take (length output) text ++ drop (length text) output
