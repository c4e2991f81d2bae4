-- `lexer::scanner::Scanner::lexeme_by_entry` meets its contract: the entry of the first byte decides the rule. Assumes nothing.
use Prim.Native.Nat.{◌<◌}
use mathlib.Core.Path.{◌∙◌, sym}
use native.Mathlib.Omega.{arith}
use lib.ListN.{length, get_or}
use Rattle.lexer.proofs.Laws.Editions.{fits}
use Rattle.lexer.proofs.Laws.Entries.{letter_there, digit_there, space_there, minus_there, slash_there, backtick_there, letter_kind, longer_kind}
use Rattle.lexer.proofs.Laws.Entries.{letter_lexeme, digit_lexeme, space_lexeme, minus_lexeme, slash-lexeme, backtick_lexeme, mark_lexeme}
use Rattle.lexer.proofs.Laws.Entries.{longer-lexeme, other_lexeme}
use Rattle.lexer.proofs.scanner.Scanner.lexeme_by_entry.Goals as goal
use Rattle.lexer.proofs.scanner.Scanner.lexeme_by_entry.Goals.{After-of}

-- what is known where the lexeme begins
module _ (c : After-of) where
  byte : get_or c.args.self.now.source.now c.args.at 0 < 256
  byte = (c.type_inv.source c.args.at).fits

  inside : c.args.at < length c.args.self.now.source.now
  inside = let bounded = c.requires in omega arith

pub word-requires-clause-letter : goal.word-requires-clause-letter
word-requires-clause-letter c = letter_there _ (byte (goal.at.word-requires-clause-letter c).After-of) c.in-Letter.alone c.in-Letter.ensures

pub word-requires-clause-alone : goal.word-requires-clause-alone
word-requires-clause-alone c = letter_kind _ c.in-Letter.alone c.in-Letter.ensures

pub digits-requires-clause-digit : goal.digits-requires-clause-digit
digits-requires-clause-digit c = digit_there _ (byte (goal.at.digits-requires-clause-digit c).After-of) c.in-Digit.ensures

pub longer_mark-requires-clause-alone : goal.longer_mark-requires-clause-alone
longer_mark-requires-clause-alone c = longer_kind _ c.in-Longer.alone c.in-Longer.ensures

pub slash_at-requires : goal.slash_at-requires
slash_at-requires c =
    let start = (goal.at.slash_at-requires c).After-of in
    (inside start, slash_there _ (byte start) c.in-Slash.ensures)

pub string_at-requires : goal.string_at-requires
string_at-requires c =
    let start = (goal.at.string_at-requires c).After-of in
    (inside start, backtick_there _ (byte start) c.in-Backtick.ensures)

pub spaces_at-requires : goal.spaces_at-requires
spaces_at-requires c =
    let start = (goal.at.spaces_at-requires c).After-of in
    (inside start, space_there _ (byte start) c.in-Space.ensures)

pub minus_at-requires : goal.minus_at-requires
minus_at-requires c =
    let start = (goal.at.minus_at-requires c).After-of in
    (inside start, minus_there _ (byte start) c.in-Minus.ensures)

pub returns-in-Letter : goal.returns-in-Letter
returns-in-Letter c =
    let start = (goal.at.returns-in-Letter c).After-of in
    c.word.ensures ∙ sym (letter_lexeme _ _ _ (inside start) (byte start) c.in-Letter.alone c.in-Letter.ensures)

pub returns-in-Digit : goal.returns-in-Digit
returns-in-Digit c =
    let start = (goal.at.returns-in-Digit c).After-of in
    c.digits.ensures ∙ sym (digit_lexeme _ _ _ (inside start) (byte start) c.in-Digit.ensures)

pub returns-in-Mark : goal.returns-in-Mark
returns-in-Mark c =
    let start = (goal.at.returns-in-Mark c).After-of in
    sym (mark_lexeme _ _ _ (inside start) (byte start) (fits c.args.edition) c.in-Mark.kind c.in-Mark.ensures)

pub returns-in-Longer : goal.returns-in-Longer
returns-in-Longer c =
    let start = (goal.at.returns-in-Longer c).After-of in
    c.longer_mark.ensures ∙ sym (longer-lexeme _ _ _ (inside start) (byte start) c.in-Longer.alone c.in-Longer.ensures)

pub returns-in-Other : goal.returns-in-Other
returns-in-Other c =
    let start = (goal.at.returns-in-Other c).After-of in
    c.mark_at.ensures ∙ sym (other_lexeme _ _ _ (inside start) (byte start) c.in-Other.ensures)

pub returns-in-Slash : goal.returns-in-Slash
returns-in-Slash c =
    let start = (goal.at.returns-in-Slash c).After-of in
    c.slash_at.ensures ∙ sym (slash-lexeme _ _ _ (inside start) (byte start) (fits c.args.edition) c.in-Slash.ensures)

pub returns-in-Backtick : goal.returns-in-Backtick
returns-in-Backtick c =
    let start = (goal.at.returns-in-Backtick c).After-of in
    c.string_at.ensures ∙ sym (backtick_lexeme _ _ _ (inside start) (byte start) c.in-Backtick.ensures)

pub returns-in-Space : goal.returns-in-Space
returns-in-Space c =
    let start = (goal.at.returns-in-Space c).After-of in
    c.spaces_at.ensures ∙ sym (space_lexeme _ _ _ (inside start) (byte start) c.in-Space.ensures)

pub returns-in-Minus : goal.returns-in-Minus
returns-in-Minus c =
    let start = (goal.at.returns-in-Minus c).After-of in
    c.minus_at.ensures ∙ sym (minus_lexeme _ _ _ (inside start) (byte start) c.in-Minus.ensures)
