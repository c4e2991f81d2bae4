-- The classes of bytes by their names in the code.
use Rattle.std.specs.Prelude.{ℕ, Bool}
use Rattle.lexer.specs.declared.Class.{Class}
use Rattle.lexer.specs.declared.Class.TheVariants.{Space, Digit, Word, Line, Text}
use Rattle.lexer.specs.Bytes.{is_space, is_digit, is_word_byte, is_in_line, is_in_string}

-- each class by its name
abbrev pub member : Class → ℕ → Bool
member Space = is_space
member Digit = is_digit
member Word = is_word_byte
member Line = is_in_line
member Text = is_in_string
