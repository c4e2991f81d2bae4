-- The numbers of the alternatives in the order of the table of productions: of the types and expressions that are operators as constants, and
-- of each alternative by its name in the code.
use Rattle.std.specs.Prelude.{ℕ, Option, Some, None}
use Rattle.grammar.specs.declared.forms.TypeForm.{TypeForm}
use Rattle.grammar.specs.declared.forms.TypeForm.TheVariants.{Base, Pointer, Optional, Slice, Result, Parenthesized, Named}
use Rattle.grammar.specs.declared.forms.ExpressionForm.{ExpressionForm}
use Rattle.grammar.specs.declared.forms.ExpressionForm.TheVariants.{Literal, Name, Binary, Not, Return, Complement, Try, Sizeof, Conditional, Block}
use Rattle.grammar.specs.declared.forms.ExpressionForm.TheVariants.{Call, Slice as SliceExpression, Aggregate, Member, Cast, Match}
use Rattle.grammar.specs.declared.forms.StatementForm.{StatementForm}
use Rattle.grammar.specs.declared.forms.StatementForm.TheVariants.{Expression, Let, Assignment, Defer, Tilde}
use Rattle.grammar.specs.declared.forms.DeclarationForm.{DeclarationForm}
use Rattle.grammar.specs.declared.forms.DeclarationForm.TheVariants.{Import, Foreign, Function, Definition, Interface}

abbrev pub pointer_type : ℕ
pointer_type = 2

abbrev pub optional_type : ℕ
optional_type = 3

abbrev pub slice_type : ℕ
slice_type = 4

abbrev pub result_type : ℕ
result_type = 5

abbrev pub binary_expression : ℕ
binary_expression = 3

abbrev pub not_expression : ℕ
not_expression = 4

abbrev pub return_expression : ℕ
return_expression = 5

abbrev pub complement_expression : ℕ
complement_expression = 6

abbrev pub conditional_expression : ℕ
conditional_expression = 9

abbrev pub member_expression : ℕ
member_expression = 14

-- the number of the alternative that a token begins; 0 where it begins none
abbrev pub type_form_number : Option TypeForm → ℕ
type_form_number None = 0
type_form_number (Some Base) = 1
type_form_number (Some Pointer) = pointer_type
type_form_number (Some Optional) = optional_type
type_form_number (Some Slice) = slice_type
type_form_number (Some Result) = result_type
type_form_number (Some Parenthesized) = 6
type_form_number (Some Named) = 7

abbrev pub expression_form_number : Option ExpressionForm → ℕ
expression_form_number None = 0
expression_form_number (Some Literal) = 1
expression_form_number (Some Name) = 2
expression_form_number (Some Binary) = binary_expression
expression_form_number (Some Not) = not_expression
expression_form_number (Some Return) = return_expression
expression_form_number (Some Complement) = complement_expression
expression_form_number (Some Try) = 7
expression_form_number (Some Sizeof) = 8
expression_form_number (Some Conditional) = conditional_expression
expression_form_number (Some Block) = 10
expression_form_number (Some Call) = 11
expression_form_number (Some SliceExpression) = 12
expression_form_number (Some Aggregate) = 13
expression_form_number (Some Member) = member_expression
expression_form_number (Some Cast) = 15
expression_form_number (Some Match) = 16

abbrev pub statement_form_number : Option StatementForm → ℕ
statement_form_number None = 0
statement_form_number (Some Expression) = 1
statement_form_number (Some Let) = 2
statement_form_number (Some Assignment) = 3
statement_form_number (Some Defer) = 4
statement_form_number (Some Tilde) = 5

abbrev pub declaration_form_number : Option DeclarationForm → ℕ
declaration_form_number None = 0
declaration_form_number (Some Import) = 1
declaration_form_number (Some Foreign) = 2
declaration_form_number (Some Function) = 3
declaration_form_number (Some Definition) = 4
declaration_form_number (Some Interface) = 5
