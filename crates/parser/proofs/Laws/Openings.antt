-- Which tokens begin the alternatives of types, expressions, statements and declarations that begin with a token: one computed test
-- for each; and the number of the alternative whose form the code knows. Assumes nothing.
use Prim.Native.Nat.{ℕ}
use mathlib.Core.Path.{◌≡◌, refl, ap, sym, ◌∙◌}
use mathlib.Core.Bool.{true}
use mathlib.Core.List.{List, [], ◌∷◌}
use native.Mathlib.Omega.{arith}
use lib.Dec.{eqb, ltb}
use borrow.Author.Tests.{ltb-true}
use Rattle.std.specs.Prelude.{Option, Some, None, is_some}
use Rattle.lexer.specs.Tests.{and, or, among}
use Rattle.lexer.specs.internal.Kinds.{keyword, sizeof, dollar, ampersand, at, colon, equal, semicolon, tilde, left_paren, left_bracket}
use Rattle.lexer.specs.internal.Kinds.{bang, caret, backslash, question, dot, hash, star, question_question}
use Rattle.grammar.specs.internal.Nonterminals.{type, expression, statement, declaration}
use Rattle.grammar.specs.internal.Classes.{name, declared_word, operators}
use Rattle.grammar.specs.internal.Alternatives.{kind_alternative}
use Rattle.grammar.proofs.Laws.Checks.{below, implies}
use Rattle.grammar.proofs.Laws.Groups17.{kind_number, kind_same}
use Rattle.parser.proofs.Laws.Readers.{opens_with}

-- a token that begins this alternative of x is of these classes
abbrev pub Begins : ℕ → ℕ → List ℕ → Type 0
Begins x number cs = opens_with (λ (k : ℕ). eqb (kind_alternative x k) number) cs ≡ true

begins_same : (x number : ℕ) (cs : List ℕ) → opens_with (λ (k : ℕ). eqb (kind_number x k) number) cs ≡ true → Begins x number cs
begins_same x number cs h = rw (← kind_same) h

-- no token begins none
no_kind : (x : ℕ) → kind_number x 0 ≡ 0 → kind_alternative x 0 ≡ 0
no_kind x h = rw (← kind_same) h

pub no_type : kind_alternative type 0 ≡ 0
unfolding kind_number
no_type = no_kind type refl

pub no_expression : kind_alternative expression 0 ≡ 0
unfolding kind_number
no_expression = no_kind expression refl

pub no_statement : kind_alternative statement 0 ≡ 0
unfolding kind_number
no_statement = no_kind statement refl

pub no_declaration : kind_alternative declaration 0 ≡ 0
unfolding kind_number
no_declaration = no_kind declaration refl

pub type_base_begins : Begins type 1 (keyword ∷ [])
unfolding opens_with below implies and or among kind_number
type_base_begins = begins_same type 1 (keyword ∷ []) refl

pub type_pointer_begins : Begins type 2 (star ∷ [])
unfolding opens_with below implies and or among kind_number
type_pointer_begins = begins_same type 2 (star ∷ []) refl

pub type_optional_begins : Begins type 3 (question ∷ [])
unfolding opens_with below implies and or among kind_number
type_optional_begins = begins_same type 3 (question ∷ []) refl

pub type_slice_begins : Begins type 4 (left_bracket ∷ [])
unfolding opens_with below implies and or among kind_number
type_slice_begins = begins_same type 4 (left_bracket ∷ []) refl

pub type_result_begins : Begins type 5 (bang ∷ [])
unfolding opens_with below implies and or among kind_number
type_result_begins = begins_same type 5 (bang ∷ []) refl

pub type_parenthesized_begins : Begins type 6 (left_paren ∷ [])
unfolding opens_with below implies and or among kind_number
type_parenthesized_begins = begins_same type 6 (left_paren ∷ []) refl

pub type_named_begins : Begins type 7 declared_word
unfolding opens_with below implies and or among kind_number
type_named_begins = begins_same type 7 declared_word refl

pub expression_name_begins : Begins expression 2 name
unfolding opens_with below implies and or among kind_number
expression_name_begins = begins_same expression 2 name refl

pub expression_binary_begins : Begins expression 3 operators
unfolding opens_with below implies and or among kind_number
expression_binary_begins = begins_same expression 3 operators refl

pub expression_not_begins : Begins expression 4 (bang ∷ [])
unfolding opens_with below implies and or among kind_number
expression_not_begins = begins_same expression 4 (bang ∷ []) refl

pub expression_return_begins : Begins expression 5 (caret ∷ [])
unfolding opens_with below implies and or among kind_number
expression_return_begins = begins_same expression 5 (caret ∷ []) refl

pub expression_complement_begins : Begins expression 6 (tilde ∷ [])
unfolding opens_with below implies and or among kind_number
expression_complement_begins = begins_same expression 6 (tilde ∷ []) refl

pub expression_backslash_begins : Begins expression 7 (backslash ∷ [])
unfolding opens_with below implies and or among kind_number
expression_backslash_begins = begins_same expression 7 (backslash ∷ []) refl

pub expression_sizeof_begins : Begins expression 8 (sizeof ∷ [])
unfolding opens_with below implies and or among kind_number
expression_sizeof_begins = begins_same expression 8 (sizeof ∷ []) refl

pub expression_conditional_begins : Begins expression 9 (question ∷ [])
unfolding opens_with below implies and or among kind_number
expression_conditional_begins = begins_same expression 9 (question ∷ []) refl

pub expression_call_begins : Begins expression 11 (left_paren ∷ [])
unfolding opens_with below implies and or among kind_number
expression_call_begins = begins_same expression 11 (left_paren ∷ []) refl

pub expression_slice_begins : Begins expression 12 (left_bracket ∷ [])
unfolding opens_with below implies and or among kind_number
expression_slice_begins = begins_same expression 12 (left_bracket ∷ []) refl

pub expression_aggregate_begins : Begins expression 13 (at ∷ [])
unfolding opens_with below implies and or among kind_number
expression_aggregate_begins = begins_same expression 13 (at ∷ []) refl

pub expression_member_begins : Begins expression 14 (dot ∷ [])
unfolding opens_with below implies and or among kind_number
expression_member_begins = begins_same expression 14 (dot ∷ []) refl

pub expression_cast_begins : Begins expression 15 (hash ∷ [])
unfolding opens_with below implies and or among kind_number
expression_cast_begins = begins_same expression 15 (hash ∷ []) refl

pub expression_match_begins : Begins expression 16 (question_question ∷ [])
unfolding opens_with below implies and or among kind_number
expression_match_begins = begins_same expression 16 (question_question ∷ []) refl

pub statement_let_begins : Begins statement 2 (colon ∷ [])
unfolding opens_with below implies and or among kind_number
statement_let_begins = begins_same statement 2 (colon ∷ []) refl

pub statement_assignment_begins : Begins statement 3 (equal ∷ [])
unfolding opens_with below implies and or among kind_number
statement_assignment_begins = begins_same statement 3 (equal ∷ []) refl

pub statement_defer_begins : Begins statement 4 (semicolon ∷ [])
unfolding opens_with below implies and or among kind_number
statement_defer_begins = begins_same statement 4 (semicolon ∷ []) refl

pub statement_tilde_begins : Begins statement 5 (tilde ∷ [])
unfolding opens_with below implies and or among kind_number
statement_tilde_begins = begins_same statement 5 (tilde ∷ []) refl

pub declaration_import_begins : Begins declaration 1 (dollar ∷ [])
unfolding opens_with below implies and or among kind_number
declaration_import_begins = begins_same declaration 1 (dollar ∷ []) refl

pub declaration_foreign_begins : Begins declaration 2 (ampersand ∷ [])
unfolding opens_with below implies and or among kind_number
declaration_foreign_begins = begins_same declaration 2 (ampersand ∷ []) refl

pub declaration_definition_begins : Begins declaration 4 (colon ∷ [])
unfolding opens_with below implies and or among kind_number
declaration_definition_begins = begins_same declaration 4 (colon ∷ []) refl

-- The form that the code knows of the next token, and the number of the alternative that begins there. A table of forms gives a number as
-- `number` says it, and `begins` says that a form has one above 0.
module _ {F : Type 0} (number : Option F → ℕ) (x : ℕ) {kind next : ℕ} {known : Option F} where
  pub form_number : {form it : F} → kind ≡ next → number known ≡ kind_alternative x kind → known ≡ Some form → form ≡ it
      → kind_alternative x next ≡ number (Some it)
  form_number here made some is =
      ap (kind_alternative x) (sym here) ∙ sym made ∙ ap number some ∙ ap (λ (f : F). number (Some f)) is

  pub none_number : kind ≡ next → number known ≡ kind_alternative x kind → known ≡ None → kind_alternative x next ≡ number None
  none_number here made none = ap (kind_alternative x) (sym here) ∙ sym made ∙ ap number none

  pub some_number : {form : F} → ((o : Option F) → is_some o ≡ ltb 0 (number o)) → kind ≡ next → number known ≡ kind_alternative x kind
      → known ≡ Some form → kind_alternative x next ≡ 0 → ⊥
  some_number {form} begins here made some zero =
      let above = ltb-true 0 (number (Some form)) (sym (begins (Some form))) in
      let same = form_number here made some refl in
      omega (arith, above, same, zero)
