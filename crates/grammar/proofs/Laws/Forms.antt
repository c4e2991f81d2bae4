-- The forms of the code: a table has the alternatives that the productions have, and what begins one has a number above 0. Assumes nothing.
use Prim.Native.Nat.{ℕ}
use mathlib.Core.Path.{◌≡◌, refl, ◌∙◌, sym, ap}
use mathlib.Core.Bool.{Bool, true, false}
use mathlib.Core.List.{List}
use lib.Dec.{ltb}
use lib.ListN.{get_or}
use borrow.Author.Tests.{ltb-true, ltb-false}
use Rattle.std.specs.Prelude.{Option, Some, None, is_some, map}
use Rattle.std.proofs.Math.ListN.{get_or-map, get_or-eq_default}
use Rattle.lexer.proofs.Laws.Computed.{table, entry}
use Rattle.grammar.specs.internal.Alternatives.{kind_alternative}
use Rattle.grammar.specs.internal.Forms.{type_form_number, expression_form_number, statement_form_number, declaration_form_number}
use Rattle.grammar.specs.declared.forms.TypeForm.{TypeForm}
use Rattle.grammar.specs.declared.forms.TypeForm.TheVariants.{Base, Pointer, Optional, Slice, Result, Parenthesized, Named}
use Rattle.grammar.specs.declared.forms.ExpressionForm.{ExpressionForm}
use Rattle.grammar.specs.declared.forms.ExpressionForm.TheVariants.{Literal, Name, Binary, Not, Return, Complement, Try, Sizeof, Conditional, Block}
use Rattle.grammar.specs.declared.forms.ExpressionForm.TheVariants.{Call, Slice as SliceExpression, Aggregate, Member, Cast, Match}
use Rattle.grammar.specs.declared.forms.StatementForm.{StatementForm}
use Rattle.grammar.specs.declared.forms.StatementForm.TheVariants.{Expression, Let, Assignment, Defer, Tilde}
use Rattle.grammar.specs.declared.forms.DeclarationForm.{DeclarationForm}
use Rattle.grammar.specs.declared.forms.DeclarationForm.TheVariants.{Import, Foreign, Function, Definition, Interface}
use Rattle.grammar.proofs.Laws.Alternatives.{kind_past}
use Rattle.grammar.proofs.Laws.Groups17.{kind_number, kind_same}

-- What a table has for any number at all, kind or not, is what the productions give, where the numbers of its entries are those that they
-- give for the kinds, as computed.
module _ {F : Type 0} (number : Option F → ℕ) (x : ℕ) (forms : List (Option F)) (none : number None ≡ 0)
    (same : map number forms ≡ table (kind_number x) 0 43) (kind : ℕ) where
  read : number (get_or forms kind None) ≡ get_or (table (kind_number x) 0 43) kind 0
  read =
      sym (get_or-map number forms kind None)
      ∙ ap (λ (d : ℕ). get_or (map number forms) kind d) none
      ∙ ap (λ (l : List ℕ). get_or l kind 0) same

  cases : (b : Bool) → ltb kind 43 ≡ b → number (get_or forms kind None) ≡ kind_alternative x kind
  cases true h =
      read ∙ entry (kind_number x) 43 kind (ltb-true kind 43 h) ∙ ap (λ (look : ℕ → ℕ → ℕ). look x kind) kind_same
  cases false h =
      let past = ltb-false kind 43 h in
      read ∙ get_or-eq_default (table (kind_number x) 0 43) 0 past ∙ sym (kind_past x kind past)

  pub form_by_table : number (get_or forms kind None) ≡ kind_alternative x kind
  form_by_table = cases (ltb kind 43) refl

-- a form that a token begins has a number above 0
pub type_begins : (form : Option TypeForm) → is_some form ≡ ltb 0 (type_form_number form)
type_begins None = refl
type_begins (Some Base) = refl
type_begins (Some Pointer) = refl
type_begins (Some Optional) = refl
type_begins (Some Slice) = refl
type_begins (Some Result) = refl
type_begins (Some Parenthesized) = refl
type_begins (Some Named) = refl

pub expression_begins : (form : Option ExpressionForm) → is_some form ≡ ltb 0 (expression_form_number form)
expression_begins None = refl
expression_begins (Some Literal) = refl
expression_begins (Some Name) = refl
expression_begins (Some Binary) = refl
expression_begins (Some Not) = refl
expression_begins (Some Return) = refl
expression_begins (Some Complement) = refl
expression_begins (Some Try) = refl
expression_begins (Some Sizeof) = refl
expression_begins (Some Conditional) = refl
expression_begins (Some Block) = refl
expression_begins (Some Call) = refl
expression_begins (Some SliceExpression) = refl
expression_begins (Some Aggregate) = refl
expression_begins (Some Member) = refl
expression_begins (Some Cast) = refl
expression_begins (Some Match) = refl

pub statement_begins : (form : Option StatementForm) → is_some form ≡ ltb 0 (statement_form_number form)
statement_begins None = refl
statement_begins (Some Expression) = refl
statement_begins (Some Let) = refl
statement_begins (Some Assignment) = refl
statement_begins (Some Defer) = refl
statement_begins (Some Tilde) = refl

pub declaration_begins : (form : Option DeclarationForm) → is_some form ≡ ltb 0 (declaration_form_number form)
declaration_begins None = refl
declaration_begins (Some Import) = refl
declaration_begins (Some Foreign) = refl
declaration_begins (Some Function) = refl
declaration_begins (Some Definition) = refl
declaration_begins (Some Interface) = refl
