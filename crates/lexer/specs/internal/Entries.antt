-- The table of bytes: what each entry says of its byte, and where words end.
use Rattle.std.specs.Prelude.{ℕ, ◌+◌, ◌<◌, Bool, true, not, List, [], ◌∷◌, eqb, length, drop}
use Rattle.lexer.specs.Tests.{and}
use Rattle.lexer.specs.Bytes.{is_word_byte, run}
use Rattle.lexer.specs.Spellings.{Spelling, kind_of}
use Rattle.lexer.specs.Editions.{edition17}
use Rattle.lexer.specs.Words.{word_kind}
use Rattle.lexer.specs.internal.Leaves.{byte_class}
use Rattle.lexer.specs.internal.KindNumbers.{kind_number}
use Rattle.lexer.specs.declared.entries.ByteEntry.{ByteEntry}

-- whether no spelling of two bytes or more begins with a byte
unfoldable pub begins_not : ℕ → List ℕ → Bool
begins_not b [] = true
begins_not b (a ∷ []) = true
begins_not b (a ∷ c ∷ t) = not (eqb b a)

unfoldable pub begins_none : ℕ → List Spelling → Bool
begins_none b [] = true
begins_none b (m ∷ ms) = and (begins_not b m.text) (begins_none b ms)

-- whether a byte alone is a mark of a kind
abbrev pub alone_is : ℕ → ℕ → Bool
alone_is b kind = eqb (kind_of edition17.marks (b ∷ [])) kind

-- the class of the bytes that have an entry
abbrev pub entry_class : ByteEntry → ℕ
entry_class ByteEntry.Digit = 0
entry_class (ByteEntry.Letter alone) = 1
entry_class ByteEntry.Space = 2
entry_class ByteEntry.Minus = 3
entry_class ByteEntry.Slash = 4
entry_class ByteEntry.Backtick = 5
entry_class (ByteEntry.Mark kind) = 6
entry_class (ByteEntry.Longer alone) = 6
entry_class ByteEntry.Other = 6

-- whether a byte alone has the kind that an entry has, or none where the entry says so, and whether a longer mark begins with it as the
-- entry says
unfoldable pub says_kind : ByteEntry → ℕ → Bool
says_kind (ByteEntry.Letter alone) b = eqb (word_kind (b ∷ [])) (kind_number alone)
says_kind (ByteEntry.Mark kind) b = and (alone_is b (kind_number kind)) (begins_none b edition17.marks)
says_kind (ByteEntry.Longer alone) b = and (alone_is b (kind_number alone)) (not (begins_none b edition17.marks))
says_kind ByteEntry.Digit b = true
says_kind ByteEntry.Other b = alone_is b 0
says_kind ByteEntry.Slash b = true
says_kind ByteEntry.Backtick b = true
says_kind ByteEntry.Space b = true
says_kind ByteEntry.Minus b = true

-- whether an entry is true of a byte
unfoldable pub says : ByteEntry → ℕ → Bool
says entry b = and (eqb (byte_class b) (entry_class entry)) (says_kind entry b)

-- the bytes from a place on that a word goes on over end before the bytes do
abbrev pub Bounded : List ℕ → ℕ → Type 0
Bounded s at = at + run is_word_byte (drop at s) < length s

-- a place before which that is so of every place and of the next
abbrev pub Stop : List ℕ → ℕ → Type 0
Stop s stop = (at : ℕ) → at < stop → Bounded s at × Bounded s (at + 1)
