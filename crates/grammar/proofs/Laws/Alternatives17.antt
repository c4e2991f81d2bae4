-- Which production of grammar 1.7 is taken before a token, by its class and its kind: one computed test for each nonterminal.
-- Printed by `tools/alternatives laws`. Assumes nothing.
use Prim.Native.Nat.{ℕ, zero, suc, ◌<◌}
use mathlib.Core.Path.{◌≡◌, refl, ◌∙◌, ap}
use mathlib.Core.Bool.{Bool, true, false}
use mathlib.Core.List.{[], ◌∷◌}
use lib.Dec.{eqb}
use borrow.Author.Tests.{eqb-true}
use Rattle.lexer.specs.Tests.{and, or, among}
use Rattle.lexer.specs.internal.Kinds.{ident, keyword, boolean, sizeof, int, string, dollar, ampersand, at, percent, colon, bar, equal}
use Rattle.lexer.specs.internal.Kinds.{semicolon, tilde, left_brace, right_brace, left_paren, right_paren, left_bracket, right_bracket}
use Rattle.lexer.specs.internal.Kinds.{bang, caret, backslash, question, dot, hash, star, question_question, arrow}
use Rattle.lexer.proofs.Laws.Tests.{and_left, and_right}
use Rattle.tree.specs.internal.RowKinds.{program_row, import_row, foreign_row, trait_row, impl_row, function_row, struct_row, enum_row}
use Rattle.tree.specs.internal.RowKinds.{constant_row, header_row, parameter_row, variant_row, list_row, block_row, let_row}
use Rattle.tree.specs.internal.RowKinds.{set_name_row, set_element_row, defer_row, while_row, foreach_row, literal_row, name_row}
use Rattle.tree.specs.internal.RowKinds.{binary_row, not_row, return_row, complement_row, try_row, closure_row, sizeof_row}
use Rattle.tree.specs.internal.RowKinds.{aggregate_row, slice_row, conditional_row, call_row, member_row, cast_row, match_row, arm_row}
use Rattle.tree.specs.internal.RowKinds.{payload_row, base_type_row, pointer_row, optional_row, slice_type_row, result_row}
use Rattle.tree.specs.internal.RowKinds.{function_type_row, instance_row, named_type_row}
use Rattle.grammar.specs.Grammars.{query, token, derived, when, unless, gives_row, row_of, gives_kind, no_row, Names, View}
use Rattle.grammar.specs.internal.Nonterminals.{program, declarations, declaration, alias, interface, interface_rest, methods, method}
use Rattle.grammar.specs.internal.Nonterminals.{body, functions, function, definition, mutable, fields, field, field_name, parameters}
use Rattle.grammar.specs.internal.Nonterminals.{parameter, variants, variant, payload_types, type_parameters, name_list, more_names}
use Rattle.grammar.specs.internal.Nonterminals.{block, statements, statement, binding, assignment, tilde_statement, loop_or_complement}
use Rattle.grammar.specs.internal.Nonterminals.{expressions, expression, literal, try_or_closure, type_arguments, word_list, more_words}
use Rattle.grammar.specs.internal.Nonterminals.{cast_rest, selector, arms, arm, payloads3, payloads2, payloads1, payload, types, type}
use Rattle.grammar.specs.internal.Nonterminals.{parenthesized, struct_parameters}
use Rattle.grammar.specs.internal.Classes.{name, declared_word, any_word, payload_token, literals, operators}
use Rattle.grammar.specs.executable.Reading.{none, selected, choice}
use Rattle.grammar.specs.Nurl.{any_name, plain_name, productions}
use Rattle.grammar.specs.internal.Productions.{kind_token, rule_of, a_tilde, a_brace, a_star, opens_names, opens_words, opens_struct}
use Rattle.grammar.specs.internal.Productions.{two_names, opens_closure, zero_or_one, opens_struct_names}
use Rattle.grammar.specs.internal.Alternatives.{alternative, nth, kind_of_class, kind_alternative}
use Rattle.grammar.proofs.Laws.Checks.{implies, every, below}
use Rattle.grammar.proofs.Laws.CheckLaws.{below_at}
use Rattle.grammar.proofs.Laws.Alternatives.{asks_some, asks_within, choice-nth, choice_plain}
use Rattle.grammar.proofs.Laws.Groups17.{number17, number_same, kind_number, kind_same}
use Rattle.grammar.proofs.Laws.Views.{classes}

-- a number by a test ..
unfoldable whether : Bool → ℕ → ℕ → ℕ
whether true m n = m
whether false m n = n

whether-true : {t : Bool} (m n : ℕ) → t ≡ true → whether t m n ≡ m
unfolding whether
whether-true m n h = ap (λ (s : Bool). whether s m n) h

whether-false : {t : Bool} (m n : ℕ) → t ≡ false → whether t m n ≡ n
unfolding whether
whether-false m n h = ap (λ (s : Bool). whether s m n) h

-- .. and by whether a number is 0
unfoldable whether_some : ℕ → ℕ → ℕ → ℕ
whether_some zero m n = n
whether_some (suc a) m n = m

whether_some-suc : {k a : ℕ} (m n : ℕ) → k ≡ suc a → whether_some k m n ≡ m
unfolding whether_some
whether_some-suc m n h = ap (λ (s : ℕ). whether_some s m n) h

whether_some-zero : {k : ℕ} (m n : ℕ) → k ≡ 0 → whether_some k m n ≡ n
unfolding whether_some
whether_some-zero m n h = ap (λ (s : ℕ). whether_some s m n) h

-- Both tests of x, as one that computes. The numbers that are expected may look up what a token of a kind begins.
unfoldable numbered : (ℕ → Bool) → Bool → ℕ → ((ℕ → ℕ → ℕ) → ℕ → ℕ) → Bool
unfolding kind_number implies every below asks_some asks_within productions whether whether_some
numbered some b x expected =
    let numbers = below (λ (c : ℕ). eqb (number17 c b x) (expected kind_number c)) classes in
    and (asks_within some x productions) numbers

module _ (some : ℕ → Bool) (b : Bool) (x : ℕ) (expected : (ℕ → ℕ → ℕ) → ℕ → ℕ) (h : numbered some b x expected ≡ true) where
  asks_right : asks_within some x productions ≡ true
  unfolding numbered
  asks_right = and_left (asks_within some x productions) _ h

  numbers_right : below (λ (c : ℕ). eqb (number17 c b x) (expected kind_number c)) classes ≡ true
  unfolding numbered
  numbers_right = and_right (asks_within some x productions) _ h

  number_right : (c : ℕ) → c < classes → alternative productions c b x ≡ expected kind_alternative c
  number_right c low =
      number_same c b x
      ∙ eqb-true (number17 c b x) (expected kind_number c)
      (below_at (λ (d : ℕ). eqb (number17 d b x) (expected kind_number d)) classes c numbers_right low)
      ∙ ap (λ (look : ℕ → ℕ → ℕ). expected look c) kind_same

-- .. where x asks no question
abbrev plainly : ℕ → ((ℕ → ℕ → ℕ) → ℕ → ℕ) → Bool
plainly x expected = numbered (λ (r : ℕ). false) false x expected

-- .. where it asks no question but q, which is answered b
abbrev answered : ℕ → Bool → ℕ → ((ℕ → ℕ → ℕ) → ℕ → ℕ) → Bool
answered q b x expected = numbered (λ (r : ℕ). eqb r q) b x expected

-- the same production, by equal numbers
same : (x : ℕ) {m n : ℕ} → m ≡ n → nth x m productions ≡ nth x n productions
same x h = ap (λ (n : ℕ). nth x n productions) h

-- the number of each nonterminal's alternative by the class of the token, and the test of it

abbrev declarations_number : (ℕ → ℕ → ℕ) → ℕ → ℕ
declarations_number look c = whether_some (look declaration (kind_of_class c)) 1 2

declarations_numbers : plainly declarations declarations_number ≡ true
unfolding numbered
declarations_numbers = refl

abbrev fields_number : (ℕ → ℕ → ℕ) → ℕ → ℕ
fields_number look c = whether_some (look type (kind_of_class c)) 1 2

fields_numbers : plainly fields fields_number ≡ true
unfolding numbered
fields_numbers = refl

abbrev parameters_number : (ℕ → ℕ → ℕ) → ℕ → ℕ
parameters_number look c = whether_some (look type (kind_of_class c)) 1 2

parameters_numbers : plainly parameters parameters_number ≡ true
unfolding numbered
parameters_numbers = refl

abbrev types_number : (ℕ → ℕ → ℕ) → ℕ → ℕ
types_number look c = whether_some (look type (kind_of_class c)) 1 2

types_numbers : plainly types types_number ≡ true
unfolding numbered
types_numbers = refl

abbrev statements_number : (ℕ → ℕ → ℕ) → ℕ → ℕ
statements_number look c = whether_some (look statement (kind_of_class c)) 1 2

statements_numbers : plainly statements statements_number ≡ true
unfolding numbered
statements_numbers = refl

abbrev expressions_number : (ℕ → ℕ → ℕ) → ℕ → ℕ
expressions_number look c = whether_some (look expression (kind_of_class c)) 1 2

expressions_numbers : plainly expressions expressions_number ≡ true
unfolding numbered
expressions_numbers = refl

abbrev arms_number : (ℕ → ℕ → ℕ) → ℕ → ℕ
arms_number look c = whether (among (ident ∷ boolean ∷ []) (kind_of_class c)) 1 2

arms_numbers : plainly arms arms_number ≡ true
unfolding numbered
arms_numbers = refl

abbrev methods_number : (ℕ → ℕ → ℕ) → ℕ → ℕ
methods_number look c = whether (eqb (kind_of_class c) at) 1 2

methods_numbers : plainly methods methods_number ≡ true
unfolding numbered
methods_numbers = refl

abbrev functions_number : (ℕ → ℕ → ℕ) → ℕ → ℕ
functions_number look c = whether (eqb (kind_of_class c) at) 1 2

functions_numbers : plainly functions functions_number ≡ true
unfolding numbered
functions_numbers = refl

abbrev variants_number : (ℕ → ℕ → ℕ) → ℕ → ℕ
variants_number look c = whether (eqb c ident) 1 2

variants_numbers : plainly variants variants_number ≡ true
unfolding numbered
variants_numbers = refl

abbrev payload_types_number : (ℕ → ℕ → ℕ) → ℕ → ℕ
payload_types_number look c = whether (eqb c ident) 2 (whether_some (look type (kind_of_class c)) 1 2)

payload_types_numbers : plainly payload_types payload_types_number ≡ true
unfolding numbered
payload_types_numbers = refl

abbrev payload_types_number_again : (ℕ → ℕ → ℕ) → ℕ → ℕ
payload_types_number_again look c = whether_some (look type (kind_of_class c)) (whether (eqb c ident) 2 1) 2

payload_types_numbers_again : plainly payload_types payload_types_number_again ≡ true
unfolding numbered
payload_types_numbers_again = refl

abbrev more_names_number : (ℕ → ℕ → ℕ) → ℕ → ℕ
more_names_number look c = whether (among (ident ∷ boolean ∷ []) (kind_of_class c)) 1 2

more_names_numbers : plainly more_names more_names_number ≡ true
unfolding numbered
more_names_numbers = refl

abbrev more_words_number : (ℕ → ℕ → ℕ) → ℕ → ℕ
more_words_number look c = whether (among (ident ∷ boolean ∷ keyword ∷ []) (kind_of_class c)) 1 2

more_words_numbers : plainly more_words more_words_number ≡ true
unfolding numbered
more_words_numbers = refl

abbrev payloads3_number : (ℕ → ℕ → ℕ) → ℕ → ℕ
payloads3_number look c = whether (among (ident ∷ int ∷ []) (kind_of_class c)) 1 2

payloads3_numbers : plainly payloads3 payloads3_number ≡ true
unfolding numbered
payloads3_numbers = refl

abbrev payloads2_number : (ℕ → ℕ → ℕ) → ℕ → ℕ
payloads2_number look c = whether (among (ident ∷ int ∷ []) (kind_of_class c)) 1 2

payloads2_numbers : plainly payloads2 payloads2_number ≡ true
unfolding numbered
payloads2_numbers = refl

abbrev payloads1_number : (ℕ → ℕ → ℕ) → ℕ → ℕ
payloads1_number look c = whether (among (ident ∷ int ∷ []) (kind_of_class c)) 1 2

payloads1_numbers : plainly payloads1 payloads1_number ≡ true
unfolding numbered
payloads1_numbers = refl

abbrev alias_number : (ℕ → ℕ → ℕ) → ℕ → ℕ
alias_number look c = whether (eqb (kind_of_class c) ident) 1 2

alias_numbers : plainly alias alias_number ≡ true
unfolding numbered
alias_numbers = refl

abbrev field_name_number : (ℕ → ℕ → ℕ) → ℕ → ℕ
field_name_number look c = whether (eqb (kind_of_class c) ident) 1 2

field_name_numbers : plainly field_name field_name_number ≡ true
unfolding numbered
field_name_numbers = refl

abbrev mutable_number : (ℕ → ℕ → ℕ) → ℕ → ℕ
mutable_number look c = whether (eqb (kind_of_class c) tilde) 1 2

mutable_numbers : plainly mutable mutable_number ≡ true
unfolding numbered
mutable_numbers = refl

abbrev body_number : (ℕ → ℕ → ℕ) → ℕ → ℕ
body_number look c = whether (eqb (kind_of_class c) left_brace) 1 2

body_numbers : plainly body body_number ≡ true
unfolding numbered
body_numbers = refl

abbrev loop_or_complement_number : (ℕ → ℕ → ℕ) → ℕ → ℕ
loop_or_complement_number look c = whether (eqb (kind_of_class c) left_brace) 1 2

loop_or_complement_numbers : plainly loop_or_complement loop_or_complement_number ≡ true
unfolding numbered
loop_or_complement_numbers = refl

abbrev type_parameters_number_yes : (ℕ → ℕ → ℕ) → ℕ → ℕ
type_parameters_number_yes look c = whether (eqb (kind_of_class c) left_bracket) 1 0

type_parameters_numbers_yes : answered opens_names true type_parameters type_parameters_number_yes ≡ true
unfolding numbered
type_parameters_numbers_yes = refl

abbrev type_parameters_number_no : (ℕ → ℕ → ℕ) → ℕ → ℕ
type_parameters_number_no look c = 2

type_parameters_numbers_no : answered opens_names false type_parameters type_parameters_number_no ≡ true
unfolding numbered
type_parameters_numbers_no = refl

abbrev struct_parameters_number_yes : (ℕ → ℕ → ℕ) → ℕ → ℕ
struct_parameters_number_yes look c = whether (eqb (kind_of_class c) left_bracket) 1 0

struct_parameters_numbers_yes : answered opens_struct_names true struct_parameters struct_parameters_number_yes ≡ true
unfolding numbered
struct_parameters_numbers_yes = refl

abbrev struct_parameters_number_no : (ℕ → ℕ → ℕ) → ℕ → ℕ
struct_parameters_number_no look c = 2

struct_parameters_numbers_no : answered opens_struct_names false struct_parameters struct_parameters_number_no ≡ true
unfolding numbered
struct_parameters_numbers_no = refl

abbrev type_arguments_number_yes : (ℕ → ℕ → ℕ) → ℕ → ℕ
type_arguments_number_yes look c = whether (eqb (kind_of_class c) left_bracket) 1 0

type_arguments_numbers_yes : answered opens_words true type_arguments type_arguments_number_yes ≡ true
unfolding numbered
type_arguments_numbers_yes = refl

abbrev type_arguments_number_no : (ℕ → ℕ → ℕ) → ℕ → ℕ
type_arguments_number_no look c = 2

type_arguments_numbers_no : answered opens_words false type_arguments type_arguments_number_no ≡ true
unfolding numbered
type_arguments_numbers_no = refl

abbrev selector_number_yes : (ℕ → ℕ → ℕ) → ℕ → ℕ
selector_number_yes look c = whether (among literals (kind_of_class c)) 1 0

selector_numbers_yes : answered zero_or_one true selector selector_number_yes ≡ true
unfolding numbered
selector_numbers_yes = refl

abbrev selector_number_no : (ℕ → ℕ → ℕ) → ℕ → ℕ
selector_number_no look c = 2

selector_numbers_no : answered zero_or_one false selector selector_number_no ≡ true
unfolding numbered
selector_numbers_no = refl

abbrev tilde_statement_number_yes : (ℕ → ℕ → ℕ) → ℕ → ℕ
tilde_statement_number_yes look c = whether (eqb (kind_of_class c) ident) 1 0

tilde_statement_numbers_yes : answered two_names true tilde_statement tilde_statement_number_yes ≡ true
unfolding numbered
tilde_statement_numbers_yes = refl

abbrev tilde_statement_number_no : (ℕ → ℕ → ℕ) → ℕ → ℕ
tilde_statement_number_no look c = whether_some (look expression (kind_of_class c)) 2 0

tilde_statement_numbers_no : answered two_names false tilde_statement tilde_statement_number_no ≡ true
unfolding numbered
tilde_statement_numbers_no = refl

abbrev try_or_closure_number_yes : (ℕ → ℕ → ℕ) → ℕ → ℕ
try_or_closure_number_yes look c = whether_some (look type (kind_of_class c)) 2 (whether (eqb (kind_of_class c) arrow) 2 0)

try_or_closure_numbers_yes : answered opens_closure true try_or_closure try_or_closure_number_yes ≡ true
unfolding numbered
try_or_closure_numbers_yes = refl

abbrev try_or_closure_number_yes_again : (ℕ → ℕ → ℕ) → ℕ → ℕ
try_or_closure_number_yes_again look c = whether (eqb (kind_of_class c) arrow) 2 (whether_some (look type (kind_of_class c)) 2 0)

try_or_closure_numbers_yes_again : answered opens_closure true try_or_closure try_or_closure_number_yes_again ≡ true
unfolding numbered
try_or_closure_numbers_yes_again = refl

abbrev try_or_closure_number_no : (ℕ → ℕ → ℕ) → ℕ → ℕ
try_or_closure_number_no look c = whether_some (look expression (kind_of_class c)) 1 0

try_or_closure_numbers_no : answered opens_closure false try_or_closure try_or_closure_number_no ≡ true
unfolding numbered
try_or_closure_numbers_no = refl

abbrev definition_number_yes : (ℕ → ℕ → ℕ) → ℕ → ℕ
definition_number_yes look c = whether (eqb (kind_of_class c) ident) 1 (whether (eqb (kind_of_class c) bar) 2 0)

definition_numbers_yes : answered opens_struct true definition definition_number_yes ≡ true
unfolding numbered
definition_numbers_yes = refl

abbrev definition_number_no : (ℕ → ℕ → ℕ) → ℕ → ℕ
definition_number_no look c =
    whether_some (look type (kind_of_class c)) 3 (whether (eqb (kind_of_class c) tilde) 3 (whether (eqb (kind_of_class c) bar) 2 0))

definition_numbers_no : answered opens_struct false definition definition_number_no ≡ true
unfolding numbered
definition_numbers_no = refl

abbrev definition_number_no_again : (ℕ → ℕ → ℕ) → ℕ → ℕ
definition_number_no_again look c =
    whether (eqb (kind_of_class c) tilde) 3 (whether (eqb (kind_of_class c) bar) 2 (whether_some (look type (kind_of_class c)) 3 0))

definition_numbers_no_again : answered opens_struct false definition definition_number_no_again ≡ true
unfolding numbered
definition_numbers_no_again = refl

abbrev interface_rest_number : (ℕ → ℕ → ℕ) → ℕ → ℕ
interface_rest_number look c = whether (eqb (kind_of_class c) left_brace) 1 (whether_some (look type (kind_of_class c)) 2 0)

interface_rest_numbers : plainly interface_rest interface_rest_number ≡ true
unfolding numbered
interface_rest_numbers = refl

abbrev interface_rest_number_again : (ℕ → ℕ → ℕ) → ℕ → ℕ
interface_rest_number_again look c = whether_some (look type (kind_of_class c)) 2 (whether (eqb (kind_of_class c) left_brace) 1 0)

interface_rest_numbers_again : plainly interface_rest interface_rest_number_again ≡ true
unfolding numbered
interface_rest_numbers_again = refl

abbrev binding_number : (ℕ → ℕ → ℕ) → ℕ → ℕ
binding_number look c = whether (eqb c ident) 2 (whether_some (look type (kind_of_class c)) 1 0)

binding_numbers : plainly binding binding_number ≡ true
unfolding numbered
binding_numbers = refl

abbrev assignment_number : (ℕ → ℕ → ℕ) → ℕ → ℕ
assignment_number look c = whether (eqb (kind_of_class c) ident) 1 (whether (eqb (kind_of_class c) dot) 2 0)

assignment_numbers : plainly assignment assignment_number ≡ true
unfolding numbered
assignment_numbers = refl

abbrev cast_rest_number : (ℕ → ℕ → ℕ) → ℕ → ℕ
cast_rest_number look c = whether (eqb (kind_of_class c) star) 1 (whether_some (look type (kind_of_class c)) 2 0)

cast_rest_numbers : plainly cast_rest cast_rest_number ≡ true
unfolding numbered
cast_rest_numbers = refl

abbrev parenthesized_number : (ℕ → ℕ → ℕ) → ℕ → ℕ
parenthesized_number look c = whether (eqb (kind_of_class c) at) 1 (whether (eqb (kind_of_class c) ident) 2 0)

parenthesized_numbers : plainly parenthesized parenthesized_number ≡ true
unfolding numbered
parenthesized_numbers = refl

abbrev program_number : (ℕ → ℕ → ℕ) → ℕ → ℕ
program_number look c = 1

program_numbers : plainly program program_number ≡ true
unfolding numbered
program_numbers = refl

abbrev block_number : (ℕ → ℕ → ℕ) → ℕ → ℕ
block_number look c = whether (eqb (kind_of_class c) left_brace) 1 0

block_numbers : plainly block block_number ≡ true
unfolding numbered
block_numbers = refl

abbrev literal_number : (ℕ → ℕ → ℕ) → ℕ → ℕ
literal_number look c = whether (among literals (kind_of_class c)) 1 0

literal_numbers : plainly literal literal_number ≡ true
unfolding numbered
literal_numbers = refl

abbrev payload_number : (ℕ → ℕ → ℕ) → ℕ → ℕ
payload_number look c = whether (among (ident ∷ int ∷ []) (kind_of_class c)) 1 0

payload_numbers : plainly payload payload_number ≡ true
unfolding numbered
payload_numbers = refl

abbrev parameter_number : (ℕ → ℕ → ℕ) → ℕ → ℕ
parameter_number look c = whether_some (look type (kind_of_class c)) 1 0

parameter_numbers : plainly parameter parameter_number ≡ true
unfolding numbered
parameter_numbers = refl

abbrev field_number : (ℕ → ℕ → ℕ) → ℕ → ℕ
field_number look c = whether_some (look type (kind_of_class c)) 1 0

field_numbers : plainly field field_number ≡ true
unfolding numbered
field_numbers = refl

abbrev arm_number : (ℕ → ℕ → ℕ) → ℕ → ℕ
arm_number look c = whether (among (ident ∷ boolean ∷ []) (kind_of_class c)) 1 0

arm_numbers : plainly arm arm_number ≡ true
unfolding numbered
arm_numbers = refl

abbrev function_number : (ℕ → ℕ → ℕ) → ℕ → ℕ
function_number look c = whether (eqb (kind_of_class c) at) 1 0

function_numbers : plainly function function_number ≡ true
unfolding numbered
function_numbers = refl

abbrev method_number : (ℕ → ℕ → ℕ) → ℕ → ℕ
method_number look c = whether (eqb (kind_of_class c) at) 1 0

method_numbers : plainly method method_number ≡ true
unfolding numbered
method_numbers = refl

abbrev variant_number : (ℕ → ℕ → ℕ) → ℕ → ℕ
variant_number look c = whether (eqb c ident) 1 0

variant_numbers : plainly variant variant_number ≡ true
unfolding numbered
variant_numbers = refl

abbrev name_list_number : (ℕ → ℕ → ℕ) → ℕ → ℕ
name_list_number look c = whether (eqb (kind_of_class c) left_bracket) 1 0

name_list_numbers : plainly name_list name_list_number ≡ true
unfolding numbered
name_list_numbers = refl

abbrev word_list_number : (ℕ → ℕ → ℕ) → ℕ → ℕ
word_list_number look c = whether (eqb (kind_of_class c) left_bracket) 1 0

word_list_numbers : plainly word_list word_list_number ≡ true
unfolding numbered
word_list_numbers = refl

abbrev interface_number : (ℕ → ℕ → ℕ) → ℕ → ℕ
interface_number look c = whether (eqb (kind_of_class c) percent) 1 0

interface_numbers : plainly interface interface_number ≡ true
unfolding numbered
interface_numbers = refl

abbrev type_number : (ℕ → ℕ → ℕ) → ℕ → ℕ
type_number look c = look type (kind_of_class c)

type_numbers : plainly type type_number ≡ true
unfolding numbered
type_numbers = refl

abbrev expression_number : (ℕ → ℕ → ℕ) → ℕ → ℕ
expression_number look c = look expression (kind_of_class c)

expression_numbers : plainly expression expression_number ≡ true
unfolding numbered
expression_numbers = refl

abbrev statement_number : (ℕ → ℕ → ℕ) → ℕ → ℕ
statement_number look c = look statement (kind_of_class c)

statement_numbers : plainly statement statement_number ≡ true
unfolding numbered
statement_numbers = refl

abbrev declaration_number : (ℕ → ℕ → ℕ) → ℕ → ℕ
declaration_number look c = look declaration (kind_of_class c)

declaration_numbers : plainly declaration declaration_number ≡ true
unfolding numbered
declaration_numbers = refl

-- the productions by their numbers

pub type_base : nth type 1 productions ≡ selected (rule_of type (gives_row base_type_row) (kind_token keyword ∷ []))
unfolding nth productions
type_base = refl

pub type_pointer : nth type 2 productions ≡ selected (rule_of type (gives_row pointer_row) (kind_token star ∷ derived type ∷ []))
unfolding nth productions
type_pointer = refl

pub type_optional : nth type 3 productions ≡ selected (rule_of type (gives_row optional_row) (kind_token question ∷ derived type ∷ []))
unfolding nth productions
type_optional = refl

pub type_slice : nth type 4 productions ≡
    selected (rule_of type (gives_row slice_type_row) (kind_token left_bracket ∷ derived type ∷ []))
unfolding nth productions
type_slice = refl

pub type_result : nth type 5 productions ≡
    selected (rule_of type (gives_row result_row) (kind_token bang ∷ derived type ∷ derived type ∷ []))
unfolding nth productions
type_result = refl

pub type_parenthesized : nth type 6 productions ≡ selected (rule_of type row_of (kind_token left_paren ∷ derived parenthesized ∷ []))
unfolding nth productions
type_parenthesized = refl

pub type_named : nth type 7 productions ≡ selected (rule_of type (gives_row named_type_row) (token declared_word ∷ []))
unfolding nth productions
type_named = refl

pub expression_literal : nth expression 1 productions ≡ selected (rule_of expression no_row (derived literal ∷ []))
unfolding nth productions
expression_literal = refl

pub expression_name : nth expression 2 productions ≡ selected (rule_of expression (gives_row name_row) (token name ∷ []))
unfolding nth productions
expression_name = refl

pub expression_binary : nth expression 3 productions ≡
    selected (rule_of expression (gives_row binary_row) (token operators ∷ derived expression ∷ derived expression ∷ []))
unfolding nth productions
expression_binary = refl

pub expression_not : nth expression 4 productions ≡
    selected (rule_of expression (gives_row not_row) (kind_token bang ∷ derived expression ∷ []))
unfolding nth productions
expression_not = refl

pub expression_return : nth expression 5 productions ≡
    selected (rule_of expression (gives_row return_row) (kind_token caret ∷ derived expression ∷ []))
unfolding nth productions
expression_return = refl

pub expression_complement : nth expression 6 productions ≡
    selected (rule_of expression (gives_row complement_row) (kind_token tilde ∷ derived expression ∷ []))
unfolding nth productions
expression_complement = refl

pub expression_backslash : nth expression 7 productions ≡
    selected (rule_of expression row_of (kind_token backslash ∷ derived try_or_closure ∷ []))
unfolding nth productions
expression_backslash = refl

pub expression_sizeof : nth expression 8 productions ≡
    selected (rule_of expression (gives_row sizeof_row) (kind_token sizeof ∷ derived type ∷ []))
unfolding nth productions
expression_sizeof = refl

pub expression_conditional : nth expression 9 productions ≡
    selected (rule_of expression (gives_row conditional_row) (kind_token question ∷ derived expression ∷ derived expression ∷
    derived expression ∷ []))
unfolding nth productions
expression_conditional = refl

pub expression_block : nth expression 10 productions ≡ selected (rule_of expression no_row (derived block ∷ []))
unfolding nth productions
expression_block = refl

pub expression_call : nth expression 11 productions ≡
    selected (rule_of expression (gives_row call_row) (kind_token left_paren ∷ token name ∷ derived type_arguments ∷ derived expressions ∷
    kind_token right_paren ∷ []))
unfolding nth productions
expression_call = refl

pub expression_slice : nth expression 12 productions ≡
    selected (rule_of expression (gives_row slice_row) (kind_token left_bracket ∷ derived type ∷ kind_token bar ∷ derived expressions ∷
    kind_token right_bracket ∷ []))
unfolding nth productions
expression_slice = refl

pub expression_aggregate : nth expression 13 productions ≡
    selected (rule_of expression (gives_row aggregate_row) (kind_token at ∷ derived type ∷ kind_token left_brace ∷ derived expressions ∷
    kind_token right_brace ∷ []))
unfolding nth productions
expression_aggregate = refl

pub expression_member : nth expression 14 productions ≡
    selected (rule_of expression (gives_row member_row) (kind_token dot ∷ derived expression ∷ derived expression ∷ []))
unfolding nth productions
expression_member = refl

pub expression_cast : nth expression 15 productions ≡
    selected (rule_of expression (gives_row cast_row) (kind_token hash ∷ derived cast_rest ∷ []))
unfolding nth productions
expression_cast = refl

pub expression_match : nth expression 16 productions ≡
    selected (rule_of expression (gives_row match_row) (kind_token question_question ∷ derived expression ∷ kind_token left_brace ∷
    derived arms ∷ kind_token right_brace ∷ []))
unfolding nth productions
expression_match = refl

pub statement_expression : nth statement 1 productions ≡ selected (rule_of statement no_row (unless a_tilde ∷ derived expression ∷ []))
unfolding nth productions
statement_expression = refl

pub statement_let : nth statement 2 productions ≡
    selected (rule_of statement (gives_row let_row) (kind_token colon ∷ derived mutable ∷ derived binding ∷ []))
unfolding nth productions
statement_let = refl

pub statement_assignment : nth statement 3 productions ≡ selected (rule_of statement row_of (kind_token equal ∷ derived assignment ∷ []))
unfolding nth productions
statement_assignment = refl

pub statement_defer : nth statement 4 productions ≡
    selected (rule_of statement (gives_row defer_row) (kind_token semicolon ∷ derived block ∷ []))
unfolding nth productions
statement_defer = refl

pub statement_tilde : nth statement 5 productions ≡ selected (rule_of statement row_of (kind_token tilde ∷ derived tilde_statement ∷ []))
unfolding nth productions
statement_tilde = refl

pub declaration_import : nth declaration 1 productions ≡
    selected (rule_of declaration (gives_row import_row) (kind_token dollar ∷ kind_token string ∷ derived alias ∷ []))
unfolding nth productions
declaration_import = refl

pub declaration_foreign : nth declaration 2 productions ≡
    selected (rule_of declaration (gives_row foreign_row) (kind_token ampersand ∷ kind_token string ∷ kind_token at ∷ token name ∷
    derived fields ∷ kind_token arrow ∷ derived type ∷ []))
unfolding nth productions
declaration_foreign = refl

pub declaration_function : nth declaration 3 productions ≡ selected (rule_of declaration no_row (derived function ∷ []))
unfolding nth productions
declaration_function = refl

pub declaration_definition : nth declaration 4 productions ≡
    selected (rule_of declaration row_of (kind_token colon ∷ derived definition ∷ []))
unfolding nth productions
declaration_definition = refl

pub declaration_interface : nth declaration 5 productions ≡ selected (rule_of declaration no_row (derived interface ∷ []))
unfolding nth productions
declaration_interface = refl

-- the token at j, of class c and kind k
module _ (v : View) (e : Names) (j : ℕ) (low : v.class e j < classes) where
  abbrev c : ℕ
  c = v.class e j

  abbrev k : ℕ
  k = kind_of_class c

  plain : (x : ℕ) (expected : (ℕ → ℕ → ℕ) → ℕ → ℕ) → plainly x expected ≡ true
      → choice productions v e x j ≡ nth x (expected kind_alternative c) productions
  plain x expected h =
      choice_plain productions v e x j false (asks_right (λ (r : ℕ). false) false x expected h)
      ∙ same x (number_right (λ (r : ℕ). false) false x expected h c low)

  given : (q : ℕ) (b : Bool) (x : ℕ) (expected : (ℕ → ℕ → ℕ) → ℕ → ℕ) → answered q b x expected ≡ true → v.holds q j ≡ b
      → choice productions v e x j ≡ nth x (expected kind_alternative c) productions
  given q b x expected h answer =
      choice-nth productions v e x j q (asks_right (λ (r : ℕ). eqb r q) b x expected h)
      ∙ same x (ap (λ (t : Bool). alternative productions c t x) answer ∙ number_right (λ (r : ℕ). eqb r q) b x expected h c low)

  -- lists

  declarations_at : choice productions v e declarations j ≡ nth declarations (declarations_number kind_alternative c) productions
  declarations_at = plain declarations declarations_number declarations_numbers

  pub declarations_more : {a : ℕ} → kind_alternative declaration k ≡ suc a
      → choice productions v e declarations j ≡ selected (rule_of declarations no_row (derived declaration ∷ derived declarations ∷ []))
  unfolding nth productions
  declarations_more h = declarations_at ∙ same declarations (whether_some-suc 1 2 h)

  pub declarations_done : kind_alternative declaration k ≡ 0
      → choice productions v e declarations j ≡ selected (rule_of declarations no_row [])
  unfolding nth productions
  declarations_done h = declarations_at ∙ same declarations (whether_some-zero 1 2 h)

  fields_at : choice productions v e fields j ≡ nth fields (fields_number kind_alternative c) productions
  fields_at = plain fields fields_number fields_numbers

  pub fields_more : {a : ℕ} → kind_alternative type k ≡ suc a
      → choice productions v e fields j ≡ selected (rule_of fields no_row (derived field ∷ derived fields ∷ []))
  unfolding nth productions
  fields_more h = fields_at ∙ same fields (whether_some-suc 1 2 h)

  pub fields_done : kind_alternative type k ≡ 0 → choice productions v e fields j ≡ selected (rule_of fields no_row [])
  unfolding nth productions
  fields_done h = fields_at ∙ same fields (whether_some-zero 1 2 h)

  parameters_at : choice productions v e parameters j ≡ nth parameters (parameters_number kind_alternative c) productions
  parameters_at = plain parameters parameters_number parameters_numbers

  pub parameters_more : {a : ℕ} → kind_alternative type k ≡ suc a
      → choice productions v e parameters j ≡ selected (rule_of parameters no_row (derived parameter ∷ derived parameters ∷ []))
  unfolding nth productions
  parameters_more h = parameters_at ∙ same parameters (whether_some-suc 1 2 h)

  pub parameters_done : kind_alternative type k ≡ 0 → choice productions v e parameters j ≡ selected (rule_of parameters no_row [])
  unfolding nth productions
  parameters_done h = parameters_at ∙ same parameters (whether_some-zero 1 2 h)

  types_at : choice productions v e types j ≡ nth types (types_number kind_alternative c) productions
  types_at = plain types types_number types_numbers

  pub types_more : {a : ℕ} → kind_alternative type k ≡ suc a
      → choice productions v e types j ≡ selected (rule_of types no_row (derived type ∷ derived types ∷ []))
  unfolding nth productions
  types_more h = types_at ∙ same types (whether_some-suc 1 2 h)

  pub types_done : kind_alternative type k ≡ 0 → choice productions v e types j ≡ selected (rule_of types no_row [])
  unfolding nth productions
  types_done h = types_at ∙ same types (whether_some-zero 1 2 h)

  statements_at : choice productions v e statements j ≡ nth statements (statements_number kind_alternative c) productions
  statements_at = plain statements statements_number statements_numbers

  pub statements_more : {a : ℕ} → kind_alternative statement k ≡ suc a
      → choice productions v e statements j ≡ selected (rule_of statements no_row (derived statement ∷ derived statements ∷ []))
  unfolding nth productions
  statements_more h = statements_at ∙ same statements (whether_some-suc 1 2 h)

  pub statements_done : kind_alternative statement k ≡ 0 → choice productions v e statements j ≡ selected (rule_of statements no_row [])
  unfolding nth productions
  statements_done h = statements_at ∙ same statements (whether_some-zero 1 2 h)

  expressions_at : choice productions v e expressions j ≡ nth expressions (expressions_number kind_alternative c) productions
  expressions_at = plain expressions expressions_number expressions_numbers

  pub expressions_more : {a : ℕ} → kind_alternative expression k ≡ suc a
      → choice productions v e expressions j ≡ selected (rule_of expressions no_row (derived expression ∷ derived expressions ∷ []))
  unfolding nth productions
  expressions_more h = expressions_at ∙ same expressions (whether_some-suc 1 2 h)

  pub expressions_done : kind_alternative expression k ≡ 0
      → choice productions v e expressions j ≡ selected (rule_of expressions no_row [])
  unfolding nth productions
  expressions_done h = expressions_at ∙ same expressions (whether_some-zero 1 2 h)

  arms_at : choice productions v e arms j ≡ nth arms (arms_number kind_alternative c) productions
  arms_at = plain arms arms_number arms_numbers

  pub arms_more : among (ident ∷ boolean ∷ []) k ≡ true
      → choice productions v e arms j ≡ selected (rule_of arms no_row (derived arm ∷ derived arms ∷ []))
  unfolding nth productions
  arms_more h = arms_at ∙ same arms (whether-true 1 2 h)

  pub arms_done : among (ident ∷ boolean ∷ []) k ≡ false → choice productions v e arms j ≡ selected (rule_of arms no_row [])
  unfolding nth productions
  arms_done h = arms_at ∙ same arms (whether-false 1 2 h)

  methods_at : choice productions v e methods j ≡ nth methods (methods_number kind_alternative c) productions
  methods_at = plain methods methods_number methods_numbers

  pub methods_more : k ≡ at
      → choice productions v e methods j ≡ selected (rule_of methods no_row (derived method ∷ derived methods ∷ []))
  unfolding nth productions
  methods_more h = methods_at ∙ same methods (whether-true 1 2 (ap (λ (n : ℕ). eqb n at) h))

  pub methods_done : eqb k at ≡ false → choice productions v e methods j ≡ selected (rule_of methods no_row [])
  unfolding nth productions
  methods_done h = methods_at ∙ same methods (whether-false 1 2 h)

  functions_at : choice productions v e functions j ≡ nth functions (functions_number kind_alternative c) productions
  functions_at = plain functions functions_number functions_numbers

  pub functions_more : k ≡ at
      → choice productions v e functions j ≡ selected (rule_of functions no_row (derived function ∷ derived functions ∷ []))
  unfolding nth productions
  functions_more h = functions_at ∙ same functions (whether-true 1 2 (ap (λ (n : ℕ). eqb n at) h))

  pub functions_done : eqb k at ≡ false → choice productions v e functions j ≡ selected (rule_of functions no_row [])
  unfolding nth productions
  functions_done h = functions_at ∙ same functions (whether-false 1 2 h)

  variants_at : choice productions v e variants j ≡ nth variants (variants_number kind_alternative c) productions
  variants_at = plain variants variants_number variants_numbers

  pub variants_more : eqb c ident ≡ true
      → choice productions v e variants j ≡ selected (rule_of variants no_row (derived variant ∷ derived variants ∷ []))
  unfolding nth productions
  variants_more h = variants_at ∙ same variants (whether-true 1 2 h)

  pub variants_done : eqb c ident ≡ false → choice productions v e variants j ≡ selected (rule_of variants no_row [])
  unfolding nth productions
  variants_done h = variants_at ∙ same variants (whether-false 1 2 h)

  payload_types_at : choice productions v e payload_types j ≡ nth payload_types (payload_types_number kind_alternative c) productions
  payload_types_at = plain payload_types payload_types_number payload_types_numbers

  pub payload_types_more : {a : ℕ} → eqb c ident ≡ false → kind_alternative type k ≡ suc a
      → choice productions v e payload_types j ≡
      selected (rule_of payload_types no_row (unless plain_name ∷ derived type ∷ derived payload_types ∷ []))
  unfolding nth productions
  payload_types_more h h2 = payload_types_at ∙ same payload_types (whether-false 2 (whether_some (kind_alternative type k) 1 2) h
      ∙ whether_some-suc 1 2 h2)

  pub payload_types_done_plain : eqb c ident ≡ true → choice productions v e payload_types j ≡ selected (rule_of payload_types no_row [])
  unfolding nth productions
  payload_types_done_plain h = payload_types_at ∙ same payload_types (whether-true 2 (whether_some (kind_alternative type k) 1 2) h)

  payload_types_at_again : choice productions v e payload_types j ≡
      nth payload_types (payload_types_number_again kind_alternative c) productions
  payload_types_at_again = plain payload_types payload_types_number_again payload_types_numbers_again

  pub payload_types_done : kind_alternative type k ≡ 0
      → choice productions v e payload_types j ≡ selected (rule_of payload_types no_row [])
  unfolding nth productions
  payload_types_done h = payload_types_at_again ∙ same payload_types (whether_some-zero (whether (eqb c ident) 2 1) 2 h)

  more_names_at : choice productions v e more_names j ≡ nth more_names (more_names_number kind_alternative c) productions
  more_names_at = plain more_names more_names_number more_names_numbers

  pub more_names_more : among (ident ∷ boolean ∷ []) k ≡ true
      → choice productions v e more_names j ≡ selected (rule_of more_names no_row (token declared_word ∷ derived more_names ∷ []))
  unfolding nth productions
  more_names_more h = more_names_at ∙ same more_names (whether-true 1 2 h)

  pub more_names_done : among (ident ∷ boolean ∷ []) k ≡ false
      → choice productions v e more_names j ≡ selected (rule_of more_names no_row [])
  unfolding nth productions
  more_names_done h = more_names_at ∙ same more_names (whether-false 1 2 h)

  more_words_at : choice productions v e more_words j ≡ nth more_words (more_words_number kind_alternative c) productions
  more_words_at = plain more_words more_words_number more_words_numbers

  pub more_words_more : among (ident ∷ boolean ∷ keyword ∷ []) k ≡ true
      → choice productions v e more_words j ≡ selected (rule_of more_words no_row (token any_word ∷ derived more_words ∷ []))
  unfolding nth productions
  more_words_more h = more_words_at ∙ same more_words (whether-true 1 2 h)

  pub more_words_done : among (ident ∷ boolean ∷ keyword ∷ []) k ≡ false
      → choice productions v e more_words j ≡ selected (rule_of more_words no_row [])
  unfolding nth productions
  more_words_done h = more_words_at ∙ same more_words (whether-false 1 2 h)

  payloads3_at : choice productions v e payloads3 j ≡ nth payloads3 (payloads3_number kind_alternative c) productions
  payloads3_at = plain payloads3 payloads3_number payloads3_numbers

  pub payloads3_more : among (ident ∷ int ∷ []) k ≡ true
      → choice productions v e payloads3 j ≡ selected (rule_of payloads3 no_row (derived payload ∷ derived payloads2 ∷ []))
  unfolding nth productions
  payloads3_more h = payloads3_at ∙ same payloads3 (whether-true 1 2 h)

  pub payloads3_done : among (ident ∷ int ∷ []) k ≡ false → choice productions v e payloads3 j ≡ selected (rule_of payloads3 no_row [])
  unfolding nth productions
  payloads3_done h = payloads3_at ∙ same payloads3 (whether-false 1 2 h)

  payloads2_at : choice productions v e payloads2 j ≡ nth payloads2 (payloads2_number kind_alternative c) productions
  payloads2_at = plain payloads2 payloads2_number payloads2_numbers

  pub payloads2_more : among (ident ∷ int ∷ []) k ≡ true
      → choice productions v e payloads2 j ≡ selected (rule_of payloads2 no_row (derived payload ∷ derived payloads1 ∷ []))
  unfolding nth productions
  payloads2_more h = payloads2_at ∙ same payloads2 (whether-true 1 2 h)

  pub payloads2_done : among (ident ∷ int ∷ []) k ≡ false → choice productions v e payloads2 j ≡ selected (rule_of payloads2 no_row [])
  unfolding nth productions
  payloads2_done h = payloads2_at ∙ same payloads2 (whether-false 1 2 h)

  payloads1_at : choice productions v e payloads1 j ≡ nth payloads1 (payloads1_number kind_alternative c) productions
  payloads1_at = plain payloads1 payloads1_number payloads1_numbers

  pub payloads1_more : among (ident ∷ int ∷ []) k ≡ true
      → choice productions v e payloads1 j ≡ selected (rule_of payloads1 no_row (derived payload ∷ []))
  unfolding nth productions
  payloads1_more h = payloads1_at ∙ same payloads1 (whether-true 1 2 h)

  pub payloads1_done : among (ident ∷ int ∷ []) k ≡ false → choice productions v e payloads1 j ≡ selected (rule_of payloads1 no_row [])
  unfolding nth productions
  payloads1_done h = payloads1_at ∙ same payloads1 (whether-false 1 2 h)

  -- what may be left out

  alias_at : choice productions v e alias j ≡ nth alias (alias_number kind_alternative c) productions
  alias_at = plain alias alias_number alias_numbers

  pub alias_some : eqb k ident ≡ true → choice productions v e alias j ≡ selected (rule_of alias no_row (token name ∷ []))
  unfolding nth productions
  alias_some h = alias_at ∙ same alias (whether-true 1 2 h)

  pub alias_none : eqb k ident ≡ false → choice productions v e alias j ≡ selected (rule_of alias no_row [])
  unfolding nth productions
  alias_none h = alias_at ∙ same alias (whether-false 1 2 h)

  field_name_at : choice productions v e field_name j ≡ nth field_name (field_name_number kind_alternative c) productions
  field_name_at = plain field_name field_name_number field_name_numbers

  pub field_name_some : eqb k ident ≡ true → choice productions v e field_name j ≡ selected (rule_of field_name no_row (token name ∷ []))
  unfolding nth productions
  field_name_some h = field_name_at ∙ same field_name (whether-true 1 2 h)

  pub field_name_none : eqb k ident ≡ false
      → choice productions v e field_name j ≡ selected (rule_of field_name no_row (unless any_name ∷ []))
  unfolding nth productions
  field_name_none h = field_name_at ∙ same field_name (whether-false 1 2 h)

  mutable_at : choice productions v e mutable j ≡ nth mutable (mutable_number kind_alternative c) productions
  mutable_at = plain mutable mutable_number mutable_numbers

  pub mutable_some : eqb k tilde ≡ true → choice productions v e mutable j ≡ selected (rule_of mutable no_row (kind_token tilde ∷ []))
  unfolding nth productions
  mutable_some h = mutable_at ∙ same mutable (whether-true 1 2 h)

  pub mutable_none : eqb k tilde ≡ false → choice productions v e mutable j ≡ selected (rule_of mutable no_row [])
  unfolding nth productions
  mutable_none h = mutable_at ∙ same mutable (whether-false 1 2 h)

  body_at : choice productions v e body j ≡ nth body (body_number kind_alternative c) productions
  body_at = plain body body_number body_numbers

  pub body_some : eqb k left_brace ≡ true
      → choice productions v e body j ≡ selected (rule_of body (gives_kind function_row) (derived block ∷ []))
  unfolding nth productions
  body_some h = body_at ∙ same body (whether-true 1 2 h)

  pub body_none : eqb k left_brace ≡ false → choice productions v e body j ≡ selected (rule_of body (gives_kind header_row) [])
  unfolding nth productions
  body_none h = body_at ∙ same body (whether-false 1 2 h)

  loop_or_complement_at : choice productions v e loop_or_complement j ≡
      nth loop_or_complement (loop_or_complement_number kind_alternative c) productions
  loop_or_complement_at = plain loop_or_complement loop_or_complement_number loop_or_complement_numbers

  pub loop_or_complement_some : eqb k left_brace ≡ true
      → choice productions v e loop_or_complement j ≡ selected (rule_of loop_or_complement (gives_kind while_row) (derived block ∷ []))
  unfolding nth productions
  loop_or_complement_some h = loop_or_complement_at ∙ same loop_or_complement (whether-true 1 2 h)

  pub loop_or_complement_none : eqb k left_brace ≡ false
      → choice productions v e loop_or_complement j ≡
      selected (rule_of loop_or_complement (gives_kind complement_row) (unless a_brace ∷ []))
  unfolding nth productions
  loop_or_complement_none h = loop_or_complement_at ∙ same loop_or_complement (whether-false 1 2 h)

  -- what a question decides

  type_parameters_at_yes : v.holds opens_names j ≡ true
      → choice productions v e type_parameters j ≡ nth type_parameters (type_parameters_number_yes kind_alternative c) productions
  type_parameters_at_yes = given opens_names true type_parameters type_parameters_number_yes type_parameters_numbers_yes

  pub type_parameters_some : v.holds opens_names j ≡ true → k ≡ left_bracket
      → choice productions v e type_parameters j ≡
      selected (rule_of type_parameters no_row (when (query opens_names) ∷ derived name_list ∷ []))
  unfolding nth productions
  type_parameters_some answer h = type_parameters_at_yes answer
      ∙ same type_parameters (whether-true 1 0 (ap (λ (n : ℕ). eqb n left_bracket) h))

  type_parameters_at_no : v.holds opens_names j ≡ false
      → choice productions v e type_parameters j ≡ nth type_parameters (type_parameters_number_no kind_alternative c) productions
  type_parameters_at_no = given opens_names false type_parameters type_parameters_number_no type_parameters_numbers_no

  pub type_parameters_none : v.holds opens_names j ≡ false
      → choice productions v e type_parameters j ≡ selected (rule_of type_parameters no_row (unless (query opens_names) ∷ []))
  unfolding nth productions
  type_parameters_none answer = type_parameters_at_no answer

  struct_parameters_at_yes : v.holds opens_struct_names j ≡ true
      → choice productions v e struct_parameters j ≡ nth struct_parameters (struct_parameters_number_yes kind_alternative c) productions
  struct_parameters_at_yes = given opens_struct_names true struct_parameters struct_parameters_number_yes struct_parameters_numbers_yes

  pub struct_parameters_some : v.holds opens_struct_names j ≡ true → k ≡ left_bracket
      → choice productions v e struct_parameters j ≡
      selected (rule_of struct_parameters no_row (when (query opens_struct_names) ∷ derived name_list ∷ []))
  unfolding nth productions
  struct_parameters_some answer h = struct_parameters_at_yes answer
      ∙ same struct_parameters (whether-true 1 0 (ap (λ (n : ℕ). eqb n left_bracket) h))

  struct_parameters_at_no : v.holds opens_struct_names j ≡ false
      → choice productions v e struct_parameters j ≡ nth struct_parameters (struct_parameters_number_no kind_alternative c) productions
  struct_parameters_at_no = given opens_struct_names false struct_parameters struct_parameters_number_no struct_parameters_numbers_no

  pub struct_parameters_none : v.holds opens_struct_names j ≡ false
      → choice productions v e struct_parameters j ≡ selected (rule_of struct_parameters no_row (unless (query opens_struct_names) ∷ []))
  unfolding nth productions
  struct_parameters_none answer = struct_parameters_at_no answer

  type_arguments_at_yes : v.holds opens_words j ≡ true
      → choice productions v e type_arguments j ≡ nth type_arguments (type_arguments_number_yes kind_alternative c) productions
  type_arguments_at_yes = given opens_words true type_arguments type_arguments_number_yes type_arguments_numbers_yes

  pub type_arguments_some : v.holds opens_words j ≡ true → k ≡ left_bracket
      → choice productions v e type_arguments j ≡
      selected (rule_of type_arguments no_row (when (query opens_words) ∷ derived word_list ∷ []))
  unfolding nth productions
  type_arguments_some answer h = type_arguments_at_yes answer
      ∙ same type_arguments (whether-true 1 0 (ap (λ (n : ℕ). eqb n left_bracket) h))

  type_arguments_at_no : v.holds opens_words j ≡ false
      → choice productions v e type_arguments j ≡ nth type_arguments (type_arguments_number_no kind_alternative c) productions
  type_arguments_at_no = given opens_words false type_arguments type_arguments_number_no type_arguments_numbers_no

  pub type_arguments_none : v.holds opens_words j ≡ false
      → choice productions v e type_arguments j ≡ selected (rule_of type_arguments no_row (unless (query opens_words) ∷ []))
  unfolding nth productions
  type_arguments_none answer = type_arguments_at_no answer

  selector_at_yes : v.holds zero_or_one j ≡ true
      → choice productions v e selector j ≡ nth selector (selector_number_yes kind_alternative c) productions
  selector_at_yes = given zero_or_one true selector selector_number_yes selector_numbers_yes

  pub selector_some : v.holds zero_or_one j ≡ true → k ≡ int
      → choice productions v e selector j ≡ selected (rule_of selector no_row (when (query zero_or_one) ∷ derived literal ∷ []))
  unfolding nth productions among or
  selector_some answer h = selector_at_yes answer ∙ same selector (whether-true 1 0 (ap (λ (n : ℕ). among literals n) h))

  selector_at_no : v.holds zero_or_one j ≡ false
      → choice productions v e selector j ≡ nth selector (selector_number_no kind_alternative c) productions
  selector_at_no = given zero_or_one false selector selector_number_no selector_numbers_no

  pub selector_none : v.holds zero_or_one j ≡ false
      → choice productions v e selector j ≡ selected (rule_of selector no_row (unless (query zero_or_one) ∷ []))
  unfolding nth productions
  selector_none answer = selector_at_no answer

  tilde_statement_at_yes : v.holds two_names j ≡ true
      → choice productions v e tilde_statement j ≡ nth tilde_statement (tilde_statement_number_yes kind_alternative c) productions
  tilde_statement_at_yes = given two_names true tilde_statement tilde_statement_number_yes tilde_statement_numbers_yes

  pub tilde_statement_foreach : v.holds two_names j ≡ true → k ≡ ident
      → choice productions v e tilde_statement j ≡
      selected (rule_of tilde_statement (gives_kind foreach_row) (when (query two_names) ∷ token name ∷ derived expression ∷
      derived block ∷ []))
  unfolding nth productions
  tilde_statement_foreach answer h = tilde_statement_at_yes answer
      ∙ same tilde_statement (whether-true 1 0 (ap (λ (n : ℕ). eqb n ident) h))

  tilde_statement_at_no : v.holds two_names j ≡ false
      → choice productions v e tilde_statement j ≡ nth tilde_statement (tilde_statement_number_no kind_alternative c) productions
  tilde_statement_at_no = given two_names false tilde_statement tilde_statement_number_no tilde_statement_numbers_no

  pub tilde_statement_other : {a : ℕ} → v.holds two_names j ≡ false → kind_alternative expression k ≡ suc a
      → choice productions v e tilde_statement j ≡
      selected (rule_of tilde_statement no_row (unless (query two_names) ∷ derived expression ∷ derived loop_or_complement ∷ []))
  unfolding nth productions
  tilde_statement_other answer h = tilde_statement_at_no answer ∙ same tilde_statement (whether_some-suc 2 0 h)

  pub tilde_statement_none : v.holds two_names j ≡ false → kind_alternative expression k ≡ 0
      → choice productions v e tilde_statement j ≡ none
  unfolding nth productions
  tilde_statement_none answer h = tilde_statement_at_no answer ∙ same tilde_statement (whether_some-zero 2 0 h)

  try_or_closure_at_yes : v.holds opens_closure j ≡ true
      → choice productions v e try_or_closure j ≡ nth try_or_closure (try_or_closure_number_yes kind_alternative c) productions
  try_or_closure_at_yes = given opens_closure true try_or_closure try_or_closure_number_yes try_or_closure_numbers_yes

  pub try_or_closure_closure : {a : ℕ} → v.holds opens_closure j ≡ true → kind_alternative type k ≡ suc a
      → choice productions v e try_or_closure j ≡
      selected (rule_of try_or_closure (gives_kind closure_row) (when (query opens_closure) ∷ derived parameters ∷ kind_token arrow ∷
      derived type ∷ derived block ∷ []))
  unfolding nth productions
  try_or_closure_closure answer h = try_or_closure_at_yes answer ∙ same try_or_closure (whether_some-suc 2 (whether (eqb k arrow) 2 0) h)

  try_or_closure_at_yes_again : v.holds opens_closure j ≡ true
      → choice productions v e try_or_closure j ≡ nth try_or_closure (try_or_closure_number_yes_again kind_alternative c) productions
  try_or_closure_at_yes_again = given opens_closure true try_or_closure try_or_closure_number_yes_again try_or_closure_numbers_yes_again

  pub try_or_closure_closure_arrow : v.holds opens_closure j ≡ true → k ≡ arrow
      → choice productions v e try_or_closure j ≡
      selected (rule_of try_or_closure (gives_kind closure_row) (when (query opens_closure) ∷ derived parameters ∷ kind_token arrow ∷
      derived type ∷ derived block ∷ []))
  unfolding nth productions
  try_or_closure_closure_arrow answer h = try_or_closure_at_yes_again answer
      ∙ same try_or_closure (whether-true 2 (whether_some (kind_alternative type k) 2 0) (ap (λ (n : ℕ). eqb n arrow) h))

  try_or_closure_at_no : v.holds opens_closure j ≡ false
      → choice productions v e try_or_closure j ≡ nth try_or_closure (try_or_closure_number_no kind_alternative c) productions
  try_or_closure_at_no = given opens_closure false try_or_closure try_or_closure_number_no try_or_closure_numbers_no

  pub try_or_closure_try : {a : ℕ} → v.holds opens_closure j ≡ false → kind_alternative expression k ≡ suc a
      → choice productions v e try_or_closure j ≡
      selected (rule_of try_or_closure (gives_kind try_row) (unless (query opens_closure) ∷ derived expression ∷ []))
  unfolding nth productions
  try_or_closure_try answer h = try_or_closure_at_no answer ∙ same try_or_closure (whether_some-suc 1 0 h)

  pub try_or_closure_none : v.holds opens_closure j ≡ false → kind_alternative expression k ≡ 0
      → choice productions v e try_or_closure j ≡ none
  unfolding nth productions
  try_or_closure_none answer h = try_or_closure_at_no answer ∙ same try_or_closure (whether_some-zero 1 0 h)

  definition_at_yes : v.holds opens_struct j ≡ true
      → choice productions v e definition j ≡ nth definition (definition_number_yes kind_alternative c) productions
  definition_at_yes = given opens_struct true definition definition_number_yes definition_numbers_yes

  pub definition_struct : v.holds opens_struct j ≡ true → k ≡ ident
      → choice productions v e definition j ≡
      selected (rule_of definition (gives_kind struct_row) (when (query opens_struct) ∷ token name ∷ derived struct_parameters ∷
      kind_token left_brace ∷ derived fields ∷ kind_token right_brace ∷ []))
  unfolding nth productions
  definition_struct answer h = definition_at_yes answer
      ∙ same definition (whether-true 1 (whether (eqb k bar) 2 0) (ap (λ (n : ℕ). eqb n ident) h))

  definition_enum_true : v.holds opens_struct j ≡ true → k ≡ bar
      → choice productions v e definition j ≡
      selected (rule_of definition (gives_kind enum_row) (kind_token bar ∷ token name ∷ kind_token left_brace ∷ derived variants ∷
      kind_token right_brace ∷ []))
  unfolding nth productions
  definition_enum_true answer h = definition_at_yes answer
      ∙ same definition (whether-false 1 (whether (eqb k bar) 2 0) (ap (λ (n : ℕ). eqb n ident) h)
      ∙ whether-true 2 0 (ap (λ (n : ℕ). eqb n bar) h))

  definition_at_no : v.holds opens_struct j ≡ false
      → choice productions v e definition j ≡ nth definition (definition_number_no kind_alternative c) productions
  definition_at_no = given opens_struct false definition definition_number_no definition_numbers_no

  pub definition_constant : {a : ℕ} → v.holds opens_struct j ≡ false → kind_alternative type k ≡ suc a
      → choice productions v e definition j ≡
      selected (rule_of definition (gives_kind constant_row) (unless (query opens_struct) ∷ derived mutable ∷ derived type ∷ token name ∷
      derived literal ∷ []))
  unfolding nth productions
  definition_constant answer h = definition_at_no answer
      ∙ same definition (whether_some-suc 3 (whether (eqb k tilde) 3 (whether (eqb k bar) 2 0)) h)

  pub definition_none : v.holds opens_struct j ≡ false → kind_alternative type k ≡ 0 → eqb k tilde ≡ false → eqb k bar ≡ false
      → choice productions v e definition j ≡ none
  unfolding nth productions
  definition_none answer h h2 h3 = definition_at_no answer
      ∙ same definition (whether_some-zero 3 (whether (eqb k tilde) 3 (whether (eqb k bar) 2 0)) h
      ∙ whether-false 3 (whether (eqb k bar) 2 0) h2 ∙ whether-false 2 0 h3)

  definition_at_no_again : v.holds opens_struct j ≡ false
      → choice productions v e definition j ≡ nth definition (definition_number_no_again kind_alternative c) productions
  definition_at_no_again = given opens_struct false definition definition_number_no_again definition_numbers_no_again

  pub definition_constant_tilde : v.holds opens_struct j ≡ false → k ≡ tilde
      → choice productions v e definition j ≡
      selected (rule_of definition (gives_kind constant_row) (unless (query opens_struct) ∷ derived mutable ∷ derived type ∷ token name ∷
      derived literal ∷ []))
  unfolding nth productions
  definition_constant_tilde answer h = definition_at_no_again answer
      ∙ same definition (whether-true 3 (whether (eqb k bar) 2 (whether_some (kind_alternative type k) 3 0)) (ap (λ
      (n : ℕ). eqb n tilde) h))

  definition_enum_false : v.holds opens_struct j ≡ false → k ≡ bar
      → choice productions v e definition j ≡
      selected (rule_of definition (gives_kind enum_row) (kind_token bar ∷ token name ∷ kind_token left_brace ∷ derived variants ∷
      kind_token right_brace ∷ []))
  unfolding nth productions
  definition_enum_false answer h = definition_at_no_again answer
      ∙ same definition (whether-false 3 (whether (eqb k bar) 2 (whether_some (kind_alternative type k) 3 0)) (ap (λ
      (n : ℕ). eqb n tilde) h) ∙ whether-true 2 (whether_some (kind_alternative type k) 3 0) (ap (λ (n : ℕ). eqb n bar) h))

  definition_enum_by : (b : Bool) → v.holds opens_struct j ≡ b → k ≡ bar
      → choice productions v e definition j ≡
      selected (rule_of definition (gives_kind enum_row) (kind_token bar ∷ token name ∷ kind_token left_brace ∷ derived variants ∷
      kind_token right_brace ∷ []))
  definition_enum_by true = definition_enum_true
  definition_enum_by false = definition_enum_false

  pub definition_enum : k ≡ bar
      → choice productions v e definition j ≡
      selected (rule_of definition (gives_kind enum_row) (kind_token bar ∷ token name ∷ kind_token left_brace ∷ derived variants ∷
      kind_token right_brace ∷ []))
  definition_enum = definition_enum_by (v.holds opens_struct j) refl

  -- what the token decides

  interface_rest_at : choice productions v e interface_rest j ≡ nth interface_rest (interface_rest_number kind_alternative c) productions
  interface_rest_at = plain interface_rest interface_rest_number interface_rest_numbers

  pub interface_rest_trait : k ≡ left_brace
      → choice productions v e interface_rest j ≡
      selected (rule_of interface_rest (gives_kind trait_row) (kind_token left_brace ∷ derived methods ∷ kind_token right_brace ∷ []))
  unfolding nth productions
  interface_rest_trait h = interface_rest_at
      ∙ same interface_rest (whether-true 1 (whether_some (kind_alternative type k) 2 0) (ap (λ (n : ℕ). eqb n left_brace) h))

  pub interface_rest_none : eqb k left_brace ≡ false → kind_alternative type k ≡ 0 → choice productions v e interface_rest j ≡ none
  unfolding nth productions
  interface_rest_none h h2 = interface_rest_at ∙ same interface_rest (whether-false 1 (whether_some (kind_alternative type k) 2 0) h
      ∙ whether_some-zero 2 0 h2)

  interface_rest_at_again : choice productions v e interface_rest j ≡
      nth interface_rest (interface_rest_number_again kind_alternative c) productions
  interface_rest_at_again = plain interface_rest interface_rest_number_again interface_rest_numbers_again

  pub interface_rest_impl : {a : ℕ} → kind_alternative type k ≡ suc a
      → choice productions v e interface_rest j ≡
      selected (rule_of interface_rest (gives_kind impl_row) (derived type ∷ kind_token left_brace ∷ derived functions ∷
      kind_token right_brace ∷ []))
  unfolding nth productions
  interface_rest_impl h = interface_rest_at_again ∙ same interface_rest (whether_some-suc 2 (whether (eqb k left_brace) 1 0) h)

  binding_at : choice productions v e binding j ≡ nth binding (binding_number kind_alternative c) productions
  binding_at = plain binding binding_number binding_numbers

  pub binding_named : eqb c ident ≡ true
      → choice productions v e binding j ≡ selected (rule_of binding no_row (when plain_name ∷ token name ∷ derived expression ∷ []))
  unfolding nth productions
  binding_named h = binding_at ∙ same binding (whether-true 2 (whether_some (kind_alternative type k) 1 0) h)

  pub binding_typed : {a : ℕ} → eqb c ident ≡ false → kind_alternative type k ≡ suc a
      → choice productions v e binding j ≡
      selected (rule_of binding no_row (unless plain_name ∷ derived type ∷ token name ∷ derived expression ∷ []))
  unfolding nth productions
  binding_typed h h2 = binding_at ∙ same binding (whether-false 2 (whether_some (kind_alternative type k) 1 0) h
      ∙ whether_some-suc 1 0 h2)

  pub binding_none : eqb c ident ≡ false → kind_alternative type k ≡ 0 → choice productions v e binding j ≡ none
  unfolding nth productions
  binding_none h h2 = binding_at ∙ same binding (whether-false 2 (whether_some (kind_alternative type k) 1 0) h
      ∙ whether_some-zero 1 0 h2)

  assignment_at : choice productions v e assignment j ≡ nth assignment (assignment_number kind_alternative c) productions
  assignment_at = plain assignment assignment_number assignment_numbers

  pub assignment_set_name : k ≡ ident
      → choice productions v e assignment j ≡
      selected (rule_of assignment (gives_kind set_name_row) (token name ∷ derived expression ∷ []))
  unfolding nth productions
  assignment_set_name h = assignment_at ∙ same assignment (whether-true 1 (whether (eqb k dot) 2 0) (ap (λ (n : ℕ). eqb n ident) h))

  pub assignment_set_element : k ≡ dot
      → choice productions v e assignment j ≡
      selected (rule_of assignment (gives_kind set_element_row) (kind_token dot ∷ derived expression ∷ derived expression ∷
      derived expression ∷ []))
  unfolding nth productions
  assignment_set_element h = assignment_at ∙ same assignment (whether-false 1 (whether (eqb k dot) 2 0) (ap (λ (n : ℕ). eqb n ident) h)
      ∙ whether-true 2 0 (ap (λ (n : ℕ). eqb n dot) h))

  pub assignment_none : eqb k ident ≡ false → eqb k dot ≡ false → choice productions v e assignment j ≡ none
  unfolding nth productions
  assignment_none h h2 = assignment_at ∙ same assignment (whether-false 1 (whether (eqb k dot) 2 0) h ∙ whether-false 2 0 h2)

  cast_rest_at : choice productions v e cast_rest j ≡ nth cast_rest (cast_rest_number kind_alternative c) productions
  cast_rest_at = plain cast_rest cast_rest_number cast_rest_numbers

  pub cast_rest_pointer : k ≡ star
      → choice productions v e cast_rest j ≡
      selected (rule_of cast_rest no_row (when a_star ∷ derived type ∷ derived expression ∷ derived selector ∷ []))
  unfolding nth productions
  cast_rest_pointer h = cast_rest_at
      ∙ same cast_rest (whether-true 1 (whether_some (kind_alternative type k) 2 0) (ap (λ (n : ℕ). eqb n star) h))

  pub cast_rest_other : {a : ℕ} → eqb k star ≡ false → kind_alternative type k ≡ suc a
      → choice productions v e cast_rest j ≡ selected (rule_of cast_rest no_row (unless a_star ∷ derived type ∷ derived expression ∷ []))
  unfolding nth productions
  cast_rest_other h h2 = cast_rest_at ∙ same cast_rest (whether-false 1 (whether_some (kind_alternative type k) 2 0) h
      ∙ whether_some-suc 2 0 h2)

  pub cast_rest_none : eqb k star ≡ false → kind_alternative type k ≡ 0 → choice productions v e cast_rest j ≡ none
  unfolding nth productions
  cast_rest_none h h2 = cast_rest_at ∙ same cast_rest (whether-false 1 (whether_some (kind_alternative type k) 2 0) h
      ∙ whether_some-zero 2 0 h2)

  parenthesized_at : choice productions v e parenthesized j ≡ nth parenthesized (parenthesized_number kind_alternative c) productions
  parenthesized_at = plain parenthesized parenthesized_number parenthesized_numbers

  pub parenthesized_function_type : k ≡ at
      → choice productions v e parenthesized j ≡
      selected (rule_of parenthesized (gives_kind function_type_row) (kind_token at ∷ derived type ∷ derived types ∷
      kind_token right_paren ∷ []))
  unfolding nth productions
  parenthesized_function_type h = parenthesized_at
      ∙ same parenthesized (whether-true 1 (whether (eqb k ident) 2 0) (ap (λ (n : ℕ). eqb n at) h))

  pub parenthesized_instance : k ≡ ident
      → choice productions v e parenthesized j ≡
      selected (rule_of parenthesized (gives_kind instance_row) (token name ∷ token any_word ∷ derived more_words ∷
      kind_token right_paren ∷ []))
  unfolding nth productions
  parenthesized_instance h = parenthesized_at
      ∙ same parenthesized (whether-false 1 (whether (eqb k ident) 2 0) (ap (λ (n : ℕ). eqb n at) h)
      ∙ whether-true 2 0 (ap (λ (n : ℕ). eqb n ident) h))

  pub parenthesized_none : eqb k at ≡ false → eqb k ident ≡ false → choice productions v e parenthesized j ≡ none
  unfolding nth productions
  parenthesized_none h h2 = parenthesized_at ∙ same parenthesized (whether-false 1 (whether (eqb k ident) 2 0) h ∙ whether-false 2 0 h2)

  -- what has one alternative

  program_at : choice productions v e program j ≡ nth program (program_number kind_alternative c) productions
  program_at = plain program program_number program_numbers

  pub program_one : choice productions v e program j ≡ selected (rule_of program (gives_row program_row) (derived declarations ∷ []))
  unfolding nth productions
  program_one = program_at

  block_at : choice productions v e block j ≡ nth block (block_number kind_alternative c) productions
  block_at = plain block block_number block_numbers

  pub block_one : k ≡ left_brace
      → choice productions v e block j ≡
      selected (rule_of block (gives_row block_row) (kind_token left_brace ∷ derived statements ∷ kind_token right_brace ∷ []))
  unfolding nth productions
  block_one h = block_at ∙ same block (whether-true 1 0 (ap (λ (n : ℕ). eqb n left_brace) h))

  pub block_none : eqb k left_brace ≡ false → choice productions v e block j ≡ none
  unfolding nth productions
  block_none h = block_at ∙ same block (whether-false 1 0 h)

  literal_at : choice productions v e literal j ≡ nth literal (literal_number kind_alternative c) productions
  literal_at = plain literal literal_number literal_numbers

  pub literal_one : among literals k ≡ true
      → choice productions v e literal j ≡ selected (rule_of literal (gives_row literal_row) (token literals ∷ []))
  unfolding nth productions
  literal_one h = literal_at ∙ same literal (whether-true 1 0 h)

  pub literal_none : among literals k ≡ false → choice productions v e literal j ≡ none
  unfolding nth productions
  literal_none h = literal_at ∙ same literal (whether-false 1 0 h)

  payload_at : choice productions v e payload j ≡ nth payload (payload_number kind_alternative c) productions
  payload_at = plain payload payload_number payload_numbers

  pub payload_one : among (ident ∷ int ∷ []) k ≡ true
      → choice productions v e payload j ≡ selected (rule_of payload (gives_row payload_row) (token payload_token ∷ []))
  unfolding nth productions
  payload_one h = payload_at ∙ same payload (whether-true 1 0 h)

  parameter_at : choice productions v e parameter j ≡ nth parameter (parameter_number kind_alternative c) productions
  parameter_at = plain parameter parameter_number parameter_numbers

  pub parameter_one : {a : ℕ} → kind_alternative type k ≡ suc a
      → choice productions v e parameter j ≡ selected (rule_of parameter (gives_row parameter_row) (derived type ∷ token name ∷ []))
  unfolding nth productions
  parameter_one h = parameter_at ∙ same parameter (whether_some-suc 1 0 h)

  field_at : choice productions v e field j ≡ nth field (field_number kind_alternative c) productions
  field_at = plain field field_number field_numbers

  pub field_one : {a : ℕ} → kind_alternative type k ≡ suc a
      → choice productions v e field j ≡ selected (rule_of field (gives_row parameter_row) (derived type ∷ derived field_name ∷ []))
  unfolding nth productions
  field_one h = field_at ∙ same field (whether_some-suc 1 0 h)

  arm_at : choice productions v e arm j ≡ nth arm (arm_number kind_alternative c) productions
  arm_at = plain arm arm_number arm_numbers

  pub arm_one : among (ident ∷ boolean ∷ []) k ≡ true
      → choice productions v e arm j ≡
      selected (rule_of arm (gives_row arm_row) (token declared_word ∷ derived payloads3 ∷ kind_token arrow ∷ derived expression ∷ []))
  unfolding nth productions
  arm_one h = arm_at ∙ same arm (whether-true 1 0 h)

  function_at : choice productions v e function j ≡ nth function (function_number kind_alternative c) productions
  function_at = plain function function_number function_numbers

  pub function_one : k ≡ at
      → choice productions v e function j ≡
      selected (rule_of function (gives_row function_row) (kind_token at ∷ token name ∷ derived type_parameters ∷ derived parameters ∷
      kind_token arrow ∷ derived type ∷ derived block ∷ []))
  unfolding nth productions
  function_one h = function_at ∙ same function (whether-true 1 0 (ap (λ (n : ℕ). eqb n at) h))

  method_at : choice productions v e method j ≡ nth method (method_number kind_alternative c) productions
  method_at = plain method method_number method_numbers

  pub method_one : k ≡ at
      → choice productions v e method j ≡
      selected (rule_of method row_of (kind_token at ∷ token name ∷ derived type_parameters ∷ derived parameters ∷ kind_token arrow ∷
      derived type ∷ derived body ∷ []))
  unfolding nth productions
  method_one h = method_at ∙ same method (whether-true 1 0 (ap (λ (n : ℕ). eqb n at) h))

  variant_at : choice productions v e variant j ≡ nth variant (variant_number kind_alternative c) productions
  variant_at = plain variant variant_number variant_numbers

  pub variant_one : eqb c ident ≡ true
      → choice productions v e variant j ≡
      selected (rule_of variant (gives_row variant_row) (when plain_name ∷ token name ∷ derived payload_types ∷ []))
  unfolding nth productions
  variant_one h = variant_at ∙ same variant (whether-true 1 0 h)

  name_list_at : choice productions v e name_list j ≡ nth name_list (name_list_number kind_alternative c) productions
  name_list_at = plain name_list name_list_number name_list_numbers

  pub name_list_one : k ≡ left_bracket
      → choice productions v e name_list j ≡
      selected (rule_of name_list (gives_row list_row) (kind_token left_bracket ∷ token declared_word ∷ derived more_names ∷
      kind_token right_bracket ∷ []))
  unfolding nth productions
  name_list_one h = name_list_at ∙ same name_list (whether-true 1 0 (ap (λ (n : ℕ). eqb n left_bracket) h))

  word_list_at : choice productions v e word_list j ≡ nth word_list (word_list_number kind_alternative c) productions
  word_list_at = plain word_list word_list_number word_list_numbers

  pub word_list_one : k ≡ left_bracket
      → choice productions v e word_list j ≡
      selected (rule_of word_list (gives_row list_row) (kind_token left_bracket ∷ token any_word ∷ derived more_words ∷
      kind_token right_bracket ∷ []))
  unfolding nth productions
  word_list_one h = word_list_at ∙ same word_list (whether-true 1 0 (ap (λ (n : ℕ). eqb n left_bracket) h))

  interface_at : choice productions v e interface j ≡ nth interface (interface_number kind_alternative c) productions
  interface_at = plain interface interface_number interface_numbers

  pub interface_one : k ≡ percent
      → choice productions v e interface j ≡
      selected (rule_of interface row_of (kind_token percent ∷ token name ∷ derived type_parameters ∷ derived interface_rest ∷ []))
  unfolding nth productions
  interface_one h = interface_at ∙ same interface (whether-true 1 0 (ap (λ (n : ℕ). eqb n percent) h))

  -- what is looked up

  pub type_at : choice productions v e type j ≡ nth type (kind_alternative type k) productions
  type_at = plain type type_number type_numbers

  pub expression_at : choice productions v e expression j ≡ nth expression (kind_alternative expression k) productions
  expression_at = plain expression expression_number expression_numbers

  pub statement_at : choice productions v e statement j ≡ nth statement (kind_alternative statement k) productions
  statement_at = plain statement statement_number statement_numbers

  pub declaration_at : choice productions v e declaration j ≡ nth declaration (kind_alternative declaration k) productions
  declaration_at = plain declaration declaration_number declaration_numbers
