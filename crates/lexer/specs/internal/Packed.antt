-- A lexeme as one number, out of which it comes again (`unpack_token` and its like in proofs/). No function of the code goes by it.
use Rattle.std.specs.Prelude.{ℕ, ◌+◌, ◌*◌}
use Rattle.lexer.specs.Lexemes.{Lexeme, End, Skipped, Token, BadByte, OpenString}

-- more than any place in a source
abbrev pub packing : ℕ
packing = 4294967296

-- a lexeme that begins at a place: a token's kind times `packing`, and where the lexeme ends; 0 where there is none
unfoldable pub packed : ℕ → Lexeme → ℕ
packed at End = 0
packed at (Skipped n) = at + n
packed at (Token k n) = k * packing + (at + n)
packed at BadByte = 0
packed at OpenString = 0
