-- `typenames::names::is_type_name` meets its contract. Assumes nothing.
use mathlib.Core.Path.{◌∙◌, sym}
use Rattle.lexer.specs.Tests.{or}
use Rattle.typenames.proofs.Laws.Prepared.{refused, passed}
use Rattle.typenames.proofs.names.is_type_name.Goals as goal

pub returns-then-is_listed : goal.returns-then-is_listed
unfolding or
returns-then-is_listed c =
    let args = c.args in
    let pass = sym c.may_be_named.ensures ∙ c.if-may_be_named.true in
    let listed = sym c.is_listed.ensures ∙ c.if-is_listed.true in
    rw (← c.text_at-word.ensures, passed _ args.prepared.now _ _ args.scope pass, ← c.list_after.ensures, listed) c.if-is_listed.true

pub returns-else-is_listed : goal.returns-else-is_listed
unfolding or
returns-else-is_listed c =
    let args = c.args in
    let pass = sym c.may_be_named.ensures ∙ c.if-may_be_named.true in
    let unlisted = sym c.is_listed.ensures ∙ c.if-is_listed.false in
    rw (← c.text_at-word.ensures, passed _ args.prepared.now _ _ args.scope pass, ← c.list_after.ensures, unlisted)
    c.is_declared.ensures

pub returns-else-may_be_named : goal.returns-else-may_be_named
returns-else-may_be_named c =
    let args = c.args in
    let out = sym c.may_be_named.ensures ∙ c.if-may_be_named.false in
    rw (← c.text_at-word.ensures) (c.if-may_be_named.false ∙ sym (refused _ args.prepared.now _ _ args.scope out))
