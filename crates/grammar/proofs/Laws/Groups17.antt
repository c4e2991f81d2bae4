-- The productions of grammar 1.7 by their nonterminals, so that alternatives are computed in fewer steps. Printed by
-- `tools/alternatives groups`. Assumes nothing.
use Prim.Native.Nat.{ℕ}
use mathlib.Core.Path.{◌≡◌, refl, ◌∙◌, sym, ap}
use mathlib.Core.Bool.{Bool, true, false}
use mathlib.Core.List.{List, [], ◌∷◌}
use lib.Dec.{ltb, leb}
use lib.ListN.{length, get_or}
use borrow.Author.Tests.{ltb-true}
use Rattle.lexer.specs.Tests.{and, or, pick, among}
use Rattle.lexer.specs.internal.Kinds.{keyword, sizeof, string, dollar, ampersand, at, percent, colon, bar, equal, semicolon, tilde}
use Rattle.lexer.specs.internal.Kinds.{left_brace, right_brace, left_paren, right_paren, left_bracket, right_bracket, bang, caret}
use Rattle.lexer.specs.internal.Kinds.{backslash, question, dot, hash, star, question_question, arrow, last_kind}
use Rattle.tree.specs.internal.RowKinds.{program_row, import_row, foreign_row, trait_row, impl_row, function_row, struct_row, enum_row}
use Rattle.tree.specs.internal.RowKinds.{constant_row, header_row, parameter_row, variant_row, list_row, block_row, let_row}
use Rattle.tree.specs.internal.RowKinds.{set_name_row, set_element_row, defer_row, while_row, foreach_row, literal_row, name_row}
use Rattle.tree.specs.internal.RowKinds.{binary_row, not_row, return_row, complement_row, try_row, closure_row, sizeof_row}
use Rattle.tree.specs.internal.RowKinds.{aggregate_row, slice_row, conditional_row, call_row, member_row, cast_row, match_row, arm_row}
use Rattle.tree.specs.internal.RowKinds.{payload_row, base_type_row, pointer_row, optional_row, slice_type_row, result_row}
use Rattle.tree.specs.internal.RowKinds.{function_type_row, instance_row, named_type_row}
use Rattle.grammar.specs.Grammars.{query, token, derived, when, unless, gives_row, row_of, gives_kind, no_row, Production, agrees}
use Rattle.grammar.specs.Grammars.{asked, met}
use Rattle.grammar.specs.internal.Nonterminals.{program, declarations, declaration, alias, interface, interface_rest, methods, method}
use Rattle.grammar.specs.internal.Nonterminals.{body, functions, function, definition, mutable, fields, field, field_name, parameters}
use Rattle.grammar.specs.internal.Nonterminals.{parameter, variants, variant, payload_types, type_parameters, name_list, more_names}
use Rattle.grammar.specs.internal.Nonterminals.{block, statements, statement, binding, assignment, tilde_statement, loop_or_complement}
use Rattle.grammar.specs.internal.Nonterminals.{expressions, expression, literal, try_or_closure, type_arguments, word_list, more_words}
use Rattle.grammar.specs.internal.Nonterminals.{cast_rest, selector, arms, arm, payloads3, payloads2, payloads1, payload, types, type}
use Rattle.grammar.specs.internal.Nonterminals.{parenthesized, struct_parameters}
use Rattle.grammar.specs.internal.Classes.{name, declared_word, any_word, payload_token, literals, operators}
use Rattle.grammar.specs.executable.First.{allows, skips, starts, any_of}
use Rattle.grammar.specs.executable.Reading.{ready}
use Rattle.grammar.specs.Nurl.{any_name, plain_name, productions}
use Rattle.grammar.specs.internal.Productions.{kind_token, rule_of, a_tilde, a_brace, a_star, opens_names, opens_words, opens_struct}
use Rattle.grammar.specs.internal.Productions.{two_names, opens_closure, zero_or_one, opens_struct_names}
use Rattle.grammar.specs.internal.Alternatives.{alternative_number, number_else, alternative, kind_alternative}
use Rattle.grammar.proofs.Laws.Groups.{of_part, empty_by, first_by, alternative_by, alternative_same, same_values, listed, listed_at}

-- the productions of each nonterminal, in the order of the nonterminals' numbers
unfoldable pub group_list : List (List Production)
group_list =
    [] ∷
    (rule_of program (gives_row program_row) (derived declarations ∷ []) ∷ []) ∷
    (rule_of declarations no_row (derived declaration ∷ derived declarations ∷ []) ∷
    rule_of declarations no_row [] ∷ []) ∷
    (rule_of declaration (gives_row import_row) (kind_token dollar ∷ kind_token string ∷ derived alias ∷ []) ∷
    rule_of declaration (gives_row foreign_row) (kind_token ampersand ∷ kind_token string ∷ kind_token at ∷ token name ∷ derived fields ∷
    kind_token arrow ∷ derived type ∷ []) ∷
    rule_of declaration no_row (derived function ∷ []) ∷
    rule_of declaration row_of (kind_token colon ∷ derived definition ∷ []) ∷
    rule_of declaration no_row (derived interface ∷ []) ∷ []) ∷
    (rule_of alias no_row (token name ∷ []) ∷
    rule_of alias no_row [] ∷ []) ∷
    (rule_of interface row_of (kind_token percent ∷ token name ∷ derived type_parameters ∷ derived interface_rest ∷ []) ∷ []) ∷
    (rule_of interface_rest (gives_kind trait_row) (kind_token left_brace ∷ derived methods ∷ kind_token right_brace ∷ []) ∷
    rule_of interface_rest (gives_kind impl_row) (derived type ∷ kind_token left_brace ∷ derived functions ∷ kind_token right_brace ∷
    []) ∷ []) ∷
    (rule_of methods no_row (derived method ∷ derived methods ∷ []) ∷
    rule_of methods no_row [] ∷ []) ∷
    (rule_of method row_of (kind_token at ∷ token name ∷ derived type_parameters ∷ derived parameters ∷ kind_token arrow ∷ derived type ∷
    derived body ∷ []) ∷ []) ∷
    (rule_of body (gives_kind function_row) (derived block ∷ []) ∷
    rule_of body (gives_kind header_row) [] ∷ []) ∷
    (rule_of functions no_row (derived function ∷ derived functions ∷ []) ∷
    rule_of functions no_row [] ∷ []) ∷
    (rule_of function (gives_row function_row) (kind_token at ∷ token name ∷ derived type_parameters ∷ derived parameters ∷
    kind_token arrow ∷ derived type ∷ derived block ∷ []) ∷ []) ∷
    (rule_of definition (gives_kind struct_row) (when (query opens_struct) ∷ token name ∷ derived struct_parameters ∷
    kind_token left_brace ∷ derived fields ∷ kind_token right_brace ∷ []) ∷
    rule_of definition (gives_kind enum_row) (kind_token bar ∷ token name ∷ kind_token left_brace ∷ derived variants ∷
    kind_token right_brace ∷ []) ∷
    rule_of definition (gives_kind constant_row) (unless (query opens_struct) ∷ derived mutable ∷ derived type ∷ token name ∷
    derived literal ∷ []) ∷ []) ∷
    (rule_of mutable no_row (kind_token tilde ∷ []) ∷
    rule_of mutable no_row [] ∷ []) ∷
    (rule_of fields no_row (derived field ∷ derived fields ∷ []) ∷
    rule_of fields no_row [] ∷ []) ∷
    (rule_of field (gives_row parameter_row) (derived type ∷ derived field_name ∷ []) ∷ []) ∷
    (rule_of field_name no_row (token name ∷ []) ∷
    rule_of field_name no_row (unless any_name ∷ []) ∷ []) ∷
    (rule_of parameters no_row (derived parameter ∷ derived parameters ∷ []) ∷
    rule_of parameters no_row [] ∷ []) ∷
    (rule_of parameter (gives_row parameter_row) (derived type ∷ token name ∷ []) ∷ []) ∷
    (rule_of variants no_row (derived variant ∷ derived variants ∷ []) ∷
    rule_of variants no_row [] ∷ []) ∷
    (rule_of variant (gives_row variant_row) (when plain_name ∷ token name ∷ derived payload_types ∷ []) ∷ []) ∷
    (rule_of payload_types no_row (unless plain_name ∷ derived type ∷ derived payload_types ∷ []) ∷
    rule_of payload_types no_row [] ∷ []) ∷
    (rule_of type_parameters no_row (when (query opens_names) ∷ derived name_list ∷ []) ∷
    rule_of type_parameters no_row (unless (query opens_names) ∷ []) ∷ []) ∷
    (rule_of name_list (gives_row list_row) (kind_token left_bracket ∷ token declared_word ∷ derived more_names ∷
    kind_token right_bracket ∷ []) ∷ []) ∷
    (rule_of more_names no_row (token declared_word ∷ derived more_names ∷ []) ∷
    rule_of more_names no_row [] ∷ []) ∷
    (rule_of block (gives_row block_row) (kind_token left_brace ∷ derived statements ∷ kind_token right_brace ∷ []) ∷ []) ∷
    (rule_of statements no_row (derived statement ∷ derived statements ∷ []) ∷
    rule_of statements no_row [] ∷ []) ∷
    (rule_of statement no_row (unless a_tilde ∷ derived expression ∷ []) ∷
    rule_of statement (gives_row let_row) (kind_token colon ∷ derived mutable ∷ derived binding ∷ []) ∷
    rule_of statement row_of (kind_token equal ∷ derived assignment ∷ []) ∷
    rule_of statement (gives_row defer_row) (kind_token semicolon ∷ derived block ∷ []) ∷
    rule_of statement row_of (kind_token tilde ∷ derived tilde_statement ∷ []) ∷ []) ∷
    (rule_of binding no_row (unless plain_name ∷ derived type ∷ token name ∷ derived expression ∷ []) ∷
    rule_of binding no_row (when plain_name ∷ token name ∷ derived expression ∷ []) ∷ []) ∷
    (rule_of assignment (gives_kind set_name_row) (token name ∷ derived expression ∷ []) ∷
    rule_of assignment (gives_kind set_element_row) (kind_token dot ∷ derived expression ∷ derived expression ∷ derived expression ∷ []) ∷ []) ∷
    (rule_of tilde_statement (gives_kind foreach_row) (when (query two_names) ∷ token name ∷ derived expression ∷ derived block ∷ []) ∷
    rule_of tilde_statement no_row (unless (query two_names) ∷ derived expression ∷ derived loop_or_complement ∷ []) ∷ []) ∷
    (rule_of loop_or_complement (gives_kind while_row) (derived block ∷ []) ∷
    rule_of loop_or_complement (gives_kind complement_row) (unless a_brace ∷ []) ∷ []) ∷
    (rule_of expressions no_row (derived expression ∷ derived expressions ∷ []) ∷
    rule_of expressions no_row [] ∷ []) ∷
    (rule_of expression no_row (derived literal ∷ []) ∷
    rule_of expression (gives_row name_row) (token name ∷ []) ∷
    rule_of expression (gives_row binary_row) (token operators ∷ derived expression ∷ derived expression ∷ []) ∷
    rule_of expression (gives_row not_row) (kind_token bang ∷ derived expression ∷ []) ∷
    rule_of expression (gives_row return_row) (kind_token caret ∷ derived expression ∷ []) ∷
    rule_of expression (gives_row complement_row) (kind_token tilde ∷ derived expression ∷ []) ∷
    rule_of expression row_of (kind_token backslash ∷ derived try_or_closure ∷ []) ∷
    rule_of expression (gives_row sizeof_row) (kind_token sizeof ∷ derived type ∷ []) ∷
    rule_of expression (gives_row conditional_row) (kind_token question ∷ derived expression ∷ derived expression ∷ derived expression ∷
    []) ∷
    rule_of expression no_row (derived block ∷ []) ∷
    rule_of expression (gives_row call_row) (kind_token left_paren ∷ token name ∷ derived type_arguments ∷ derived expressions ∷
    kind_token right_paren ∷ []) ∷
    rule_of expression (gives_row slice_row) (kind_token left_bracket ∷ derived type ∷ kind_token bar ∷ derived expressions ∷
    kind_token right_bracket ∷ []) ∷
    rule_of expression (gives_row aggregate_row) (kind_token at ∷ derived type ∷ kind_token left_brace ∷ derived expressions ∷
    kind_token right_brace ∷ []) ∷
    rule_of expression (gives_row member_row) (kind_token dot ∷ derived expression ∷ derived expression ∷ []) ∷
    rule_of expression (gives_row cast_row) (kind_token hash ∷ derived cast_rest ∷ []) ∷
    rule_of expression (gives_row match_row) (kind_token question_question ∷ derived expression ∷ kind_token left_brace ∷ derived arms ∷
    kind_token right_brace ∷ []) ∷ []) ∷
    (rule_of literal (gives_row literal_row) (token literals ∷ []) ∷ []) ∷
    (rule_of try_or_closure (gives_kind try_row) (unless (query opens_closure) ∷ derived expression ∷ []) ∷
    rule_of try_or_closure (gives_kind closure_row) (when (query opens_closure) ∷ derived parameters ∷ kind_token arrow ∷ derived type ∷
    derived block ∷ []) ∷ []) ∷
    (rule_of type_arguments no_row (when (query opens_words) ∷ derived word_list ∷ []) ∷
    rule_of type_arguments no_row (unless (query opens_words) ∷ []) ∷ []) ∷
    (rule_of word_list (gives_row list_row) (kind_token left_bracket ∷ token any_word ∷ derived more_words ∷ kind_token right_bracket ∷
    []) ∷ []) ∷
    (rule_of more_words no_row (token any_word ∷ derived more_words ∷ []) ∷
    rule_of more_words no_row [] ∷ []) ∷
    (rule_of cast_rest no_row (when a_star ∷ derived type ∷ derived expression ∷ derived selector ∷ []) ∷
    rule_of cast_rest no_row (unless a_star ∷ derived type ∷ derived expression ∷ []) ∷ []) ∷
    (rule_of selector no_row (when (query zero_or_one) ∷ derived literal ∷ []) ∷
    rule_of selector no_row (unless (query zero_or_one) ∷ []) ∷ []) ∷
    (rule_of arms no_row (derived arm ∷ derived arms ∷ []) ∷
    rule_of arms no_row [] ∷ []) ∷
    (rule_of arm (gives_row arm_row) (token declared_word ∷ derived payloads3 ∷ kind_token arrow ∷ derived expression ∷ []) ∷ []) ∷
    (rule_of payloads3 no_row (derived payload ∷ derived payloads2 ∷ []) ∷
    rule_of payloads3 no_row [] ∷ []) ∷
    (rule_of payloads2 no_row (derived payload ∷ derived payloads1 ∷ []) ∷
    rule_of payloads2 no_row [] ∷ []) ∷
    (rule_of payloads1 no_row (derived payload ∷ []) ∷
    rule_of payloads1 no_row [] ∷ []) ∷
    (rule_of payload (gives_row payload_row) (token payload_token ∷ []) ∷ []) ∷
    (rule_of types no_row (derived type ∷ derived types ∷ []) ∷
    rule_of types no_row [] ∷ []) ∷
    (rule_of type (gives_row base_type_row) (kind_token keyword ∷ []) ∷
    rule_of type (gives_row pointer_row) (kind_token star ∷ derived type ∷ []) ∷
    rule_of type (gives_row optional_row) (kind_token question ∷ derived type ∷ []) ∷
    rule_of type (gives_row slice_type_row) (kind_token left_bracket ∷ derived type ∷ []) ∷
    rule_of type (gives_row result_row) (kind_token bang ∷ derived type ∷ derived type ∷ []) ∷
    rule_of type row_of (kind_token left_paren ∷ derived parenthesized ∷ []) ∷
    rule_of type (gives_row named_type_row) (token declared_word ∷ []) ∷ []) ∷
    (rule_of parenthesized (gives_kind function_type_row) (kind_token at ∷ derived type ∷ derived types ∷ kind_token right_paren ∷ []) ∷
    rule_of parenthesized (gives_kind instance_row) (token name ∷ token any_word ∷ derived more_words ∷ kind_token right_paren ∷ []) ∷ []) ∷
    (rule_of struct_parameters no_row (when (query opens_struct_names) ∷ derived name_list ∷ []) ∷
    rule_of struct_parameters no_row (unless (query opens_struct_names) ∷ []) ∷ []) ∷
    []

-- the productions of a nonterminal
unfoldable pub groups17 : ℕ → List Production
groups17 x =
    let own = get_or group_list x [] in
    let others = of_part x productions in
    pick (ltb x 51) own others

group_list_lem : listed (λ (x : ℕ). of_part x productions) 0 51 ≡ group_list
unfolding of_part productions group_list
group_list_lem = refl

grouped_by : (x : ℕ) (t : Bool) → ltb x 51 ≡ t
    → of_part x productions ≡ pick t (get_or group_list x []) (of_part x productions)
grouped_by x true s =
    sym (listed_at (λ (y : ℕ). of_part y productions) 51 x (ltb-true x 51 s))
    ∙ ap (λ (groups : List (List Production)). get_or groups x []) group_list_lem
grouped_by x false s = refl

grouped17 : (x : ℕ) → of_part x productions ≡ groups17 x
unfolding groups17
grouped17 x = grouped_by x (ltb x 51) refl

count17 : length productions ≡ 113
unfolding productions
count17 = refl

-- the alternative of a nonterminal
abbrev pub number17 : ℕ → Bool → ℕ → ℕ
number17 c b x = alternative_by groups17 113 c b x

pub number_same : (c : ℕ) (b : Bool) (x : ℕ) → alternative productions c b x ≡ number17 c b x
number_same c b x =
    alternative_same groups17 productions grouped17 c b x ∙ ap (λ (n : ℕ). alternative_by groups17 n c b x) count17

-- .. that a token of a kind begins; to unfold it opens all that it computes with
unfoldable pub kind_number : ℕ → ℕ → ℕ
unfolding and or among agrees asked met allows skips starts any_of ready group_list groups17 empty_by first_by alternative_number number_else
    alternative_by
kind_number x kind =
    let number = number17 kind false x in
    pick (leb kind last_kind) number 0

pub kind_same : kind_number ≡ kind_alternative
unfolding kind_number kind_alternative
kind_same =
    same_values kind_number kind_alternative (λ (x : ℕ). same_values (kind_number x) (kind_alternative x)
    (λ (kind : ℕ). ap (λ (n : ℕ). pick (leb kind last_kind) n 0) (sym (number_same kind false x))))
