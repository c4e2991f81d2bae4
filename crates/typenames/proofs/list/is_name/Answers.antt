-- `typenames::list::is_name` meets its contract. Assumes nothing.
use Prim.Native.Nat.{ℕ}
use mathlib.Core.Path.{◌≡◌, refl, ◌∙◌, sym}
use mathlib.Core.Bool.{false}
use lib.ListN.{length}
use Rattle.lexer.specs.Tests.{and}
use Rattle.lexer.specs.declared.kinds.TokenKind.{TokenKind}
use Rattle.lexer.specs.declared.Lexeme.{Lexeme as CodeLexeme}
use Rattle.lexer.specs.internal.CodeLexemes.{as_lexeme}
use Rattle.lexer.proofs.Laws.KindNumbers.{same_kind}
use Rattle.typenames.specs.NameList.{is_ident, is_name}
use Rattle.typenames.proofs.list.is_name.Goals as goal

pub returns-then-eq : goal.returns-then-eq
unfolding is_name is_ident and
returns-then-eq c =
    let ident = sym (same_kind c.in-Token.kind TokenKind.Ident) ∙ sym c.eq.ensures ∙ c.if-eq.true in
    rw (← c.in-Token.ensures, ident)

pub returns-else-eq : goal.returns-else-eq
unfolding is_name is_ident and
returns-else-eq c =
    let other = sym (same_kind c.in-Token.kind TokenKind.Ident) ∙ sym c.eq.ensures ∙ c.if-eq.false in
    rw (← c.in-Token.ensures, other) c.if-eq.false

-- what is no token is no name
no_token : (l : CodeLexeme) (n : ℕ) → ((kind : TokenKind) (len : ℕ) → l ≡ CodeLexeme.Token kind len → ⊥) → false ≡ is_ident n (as_lexeme l)
unfolding is_ident
no_token CodeLexeme.End n other = refl
no_token (CodeLexeme.Skipped m) n other = refl
no_token (CodeLexeme.Token k m) n other = absurd (other k m refl)
no_token CodeLexeme.BadByte n other = refl
no_token CodeLexeme.OpenString n other = refl

pub returns-in_default : goal.returns-in_default
unfolding is_name
returns-in_default c = rw (← c.lexeme_at-first.ensures) (no_token c.lexeme_at-first.result (length c.args.entry.now) c.in_default.not-Token)
