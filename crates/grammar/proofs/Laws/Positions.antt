-- The constants of nonterminals and questions are the positions of their names. Assumes nothing.
use mathlib.Core.Path.{◌≡◌, refl}
use mathlib.Core.List.{[], ◌∷◌, map}
use Rattle.grammar.specs.Nonterminals.{nonterminals, nonterminal}
use Rattle.grammar.specs.Nurl.{question_names, question_number}
use Rattle.grammar.specs.internal.Nonterminals.{program, declarations, declaration, alias, interface, interface_rest, methods}
use Rattle.grammar.specs.internal.Nonterminals.{method, body, functions, function, definition, mutable, fields, field, field_name}
use Rattle.grammar.specs.internal.Nonterminals.{parameters, parameter, variants, variant, payload_types, type_parameters, name_list}
use Rattle.grammar.specs.internal.Nonterminals.{more_names, block, statements, statement, binding, assignment, tilde_statement}
use Rattle.grammar.specs.internal.Nonterminals.{loop_or_complement, expressions, expression, literal, try_or_closure, type_arguments}
use Rattle.grammar.specs.internal.Nonterminals.{word_list, more_words, cast_rest, selector, arms, arm, payloads3, payloads2, payloads1}
use Rattle.grammar.specs.internal.Nonterminals.{payload, types, type, parenthesized, struct_parameters}
use Rattle.grammar.specs.internal.Productions.{opens_names, opens_words, opens_struct, two_names, opens_closure, zero_or_one}
use Rattle.grammar.specs.internal.Productions.{opens_struct_names}

pub nonterminals_named : map nonterminal nonterminals ≡
    program ∷ declarations ∷ declaration ∷ alias ∷ interface ∷ interface_rest ∷ methods ∷ method ∷ body ∷ functions ∷ function ∷
    definition ∷ mutable ∷ fields ∷ field ∷ field_name ∷ parameters ∷ parameter ∷ variants ∷ variant ∷ payload_types ∷ type_parameters ∷
    name_list ∷ more_names ∷ block ∷ statements ∷ statement ∷ binding ∷ assignment ∷ tilde_statement ∷ loop_or_complement ∷ expressions ∷
    expression ∷ literal ∷ try_or_closure ∷ type_arguments ∷ word_list ∷ more_words ∷ cast_rest ∷ selector ∷ arms ∷ arm ∷ payloads3 ∷
    payloads2 ∷ payloads1 ∷ payload ∷ types ∷ type ∷ parenthesized ∷ struct_parameters ∷ []
nonterminals_named = refl

pub questions_named : map question_number question_names ≡
    opens_names ∷ opens_words ∷ opens_struct ∷ two_names ∷ opens_closure ∷ zero_or_one ∷ opens_struct_names ∷ []
questions_named = refl
