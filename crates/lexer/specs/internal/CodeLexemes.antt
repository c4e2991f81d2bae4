-- The code's lexemes as those of the lexical rules, which have a token's kind by its number.
use Rattle.lexer.specs.Lexemes.{Lexeme, End, Skipped, Token, BadByte, OpenString}
use Rattle.lexer.specs.internal.KindNumbers.{kind_number}
use Rattle.lexer.specs.declared.Lexeme.{Lexeme as CodeLexeme}

abbrev pub as_lexeme : CodeLexeme → Lexeme
as_lexeme CodeLexeme.End = End
as_lexeme (CodeLexeme.Skipped len) = Skipped len
as_lexeme (CodeLexeme.Token kind len) = Token (kind_number kind) len
as_lexeme CodeLexeme.BadByte = BadByte
as_lexeme CodeLexeme.OpenString = OpenString
