-- `lexer::entries::ByteEntry::of` meets its contract: each entry of the table of bytes is true of its byte, by computation. Assumes nothing.
use Rattle.lexer.specs.Tests.{and, or, between, among}
use Rattle.lexer.specs.Bytes.{is_space, is_digit, is_letter}
use Rattle.lexer.specs.Spellings.{same, kind_of, reserved, spelled_marks}
use Rattle.lexer.specs.Words.{or_ident, word_kind}
use Rattle.lexer.specs.internal.Leaves.{byte_class}
use Rattle.lexer.specs.internal.Entries.{begins_not, begins_none, says_kind, says}
use Rattle.lexer.specs.declared.entries.TheConstants.{ENTRIES}
use Rattle.lexer.proofs.Laws.Entries.{said_at}
use Rattle.lexer.proofs.entries.ByteEntry.of.Goals as goal

pub returns : goal.returns
unfolding says says_kind begins_not begins_none byte_class is_space is_digit is_letter word_kind or_ident kind_of reserved same spelled_marks
    and or between among
returns c = said_at ENTRIES tt _ _ c.ranges.b.fits
