-- The tables of examples hold of the definitions: one claim for each edition, by computation. Assumes nothing.
use mathlib.Core.Path.{◌≡◌, refl}
use mathlib.Core.List.{map}
use Rattle.lexer.specs.Tests.{and, or, between}
use Rattle.lexer.specs.Bytes.{is_space, is_digit, is_letter, is_word_byte, is_in_line, is_in_string, begins_either, run}
use Rattle.lexer.specs.Spellings.{same, kind_of, longest, reserved, spelled_marks}
use Rattle.lexer.specs.Editions.{Edition, edition11, edition17}
use Rattle.lexer.specs.Words.{word_length, or_ident, word_kind, ident_length, two_colons, joins}
use Rattle.lexer.specs.Numbers.{with_digits, fraction, sign, exponent}
use Rattle.lexer.specs.Lexemes.{skipped_spaces, spaces, comment, word_of, word, number_of, unsigned_number, with_minus, number, text}
use Rattle.lexer.specs.Lexemes.{mark_of, mark_up_to, mark, or_else, lexeme}
use Rattle.lexer.specs.executable.Scans.{lexeme_size, follow, lexemes_within, lexemes, Scan, with_token, located, scan}
use Rattle.lexer.specs.Examples.{TokenExample, token_examples, token_examples11}

-- `scan`, opened down to its parts: whoever computes with the lexical rules unfolds this one name
unfoldable pub scans : Edition → TokenExample → Scan
unfolding and or between is_space is_digit is_letter is_word_byte is_in_line is_in_string begins_either run same kind_of longest
    reserved spelled_marks word_length or_ident word_kind ident_length two_colons joins with_digits fraction
    sign exponent skipped_spaces spaces comment word_of word number_of unsigned_number with_minus number text mark_of
    mark_up_to mark or_else lexeme lexeme_size follow lexemes_within lexemes with_token located scan
scans e x = scan e x.source

pub examples_hold : map (scans edition17) token_examples ≡ map (λ x. x.outcome) token_examples
unfolding scans token_examples
examples_hold = refl

pub examples_hold11 : map (scans edition11) token_examples11 ≡ map (λ x. x.outcome) token_examples11
unfolding scans token_examples11
examples_hold11 = refl
