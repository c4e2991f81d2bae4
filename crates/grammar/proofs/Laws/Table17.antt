-- The table of NURL 1.7 passes the computed tests. FOLLOW and the other hints stand here: nobody has to believe them, for a wrong
-- one only fails a test. Assumes nothing.
use Prim.Native.Nat.{ℕ, suc}
use mathlib.Core.Path.{◌≡◌, refl}
use mathlib.Core.Bool.{Bool, true}
use mathlib.Core.List.{List, [], ◌∷◌}
use native.Mathlib.Omega.{arith}
use lib.Dec.{eqb}
use Rattle.lexer.specs.Tests.{and, or, between, pick, among}
use Rattle.lexer.specs.internal.Kinds.{ident, keyword, boolean, dollar, ampersand, at, percent, colon, right_brace, left_paren, right_paren}
use Rattle.lexer.specs.internal.Kinds.{left_bracket, right_bracket, bang, question, star, arrow}
use Rattle.lexer.specs.Items.{Item}
use Rattle.tree.specs.internal.RowKinds.{program_row, named_type_row}
use Rattle.grammar.specs.Grammars.{end_of_tokens, agrees, Names, Production}
use Rattle.grammar.specs.Rows.{levels}
use Rattle.grammar.specs.executable.First.{allows, skips, starts, any_of, empty_within, first_within, empty, first, can_begin, can_skip}
use Rattle.grammar.specs.executable.Reading.{breadth, whole}
use Rattle.grammar.specs.Classes.{type_name}
use Rattle.grammar.specs.internal.Nonterminals.{interface, function, program, declarations, declaration, alias, methods, method, body}
use Rattle.grammar.specs.internal.Nonterminals.{functions, definition, mutable, fields, parameters, variants, variant, payload_types}
use Rattle.grammar.specs.internal.Nonterminals.{field_name, type_parameters, more_names, statements, loop_or_complement, expressions}
use Rattle.grammar.specs.internal.Nonterminals.{type_arguments, more_words, selector, arms, payloads3, payloads2, payloads1, types}
use Rattle.grammar.specs.internal.Nonterminals.{type, interface_rest, field, parameter, statement, binding, tilde_statement, expression}
use Rattle.grammar.specs.internal.Nonterminals.{try_or_closure, cast_rest, assignment, parenthesized, struct_parameters}
use Rattle.grammar.specs.Nurl.{productions}
use Rattle.grammar.specs.Languages.{language17, view}
use Rattle.grammar.proofs.Laws.Checks.{Hints, implies, every, may, first_closed, empty_closed, flows, follow_closed, live, asks}
use Rattle.grammar.proofs.Laws.Checks.{opposed, excludes, exclusive, below, has_no_end, vanishes, needs, bounded, falls, fewer_of}
use Rattle.grammar.proofs.Laws.Checks.{more_of, few_rows, voiced, kind_within, known_kind, makes_row, tops, Passes, takes_first}
use Rattle.grammar.proofs.Laws.Checks.{first_taken, row_begins, without}
use Rattle.grammar.proofs.Laws.Follow.{Steady}
use Rattle.grammar.proofs.Laws.Views.{classes, Kinds, class_below}

-- what may follow a nonterminal; any class where there is no entry
record Follow : Type 0 where
  of : ℕ
  by : List ℕ

abbrev begins_declaration : List ℕ
begins_declaration = dollar ∷ ampersand ∷ percent ∷ at ∷ colon ∷ []

abbrev begins_type : List ℕ
begins_type = keyword ∷ star ∷ question ∷ left_bracket ∷ bang ∷ left_paren ∷ boolean ∷ ident ∷ type_name ∷ []

abbrev entry : ℕ → List ℕ → Follow
entry x cs = record { of = x; by = cs }

abbrev followed : List Follow
followed =
    entry program (end_of_tokens ∷ []) ∷
    entry declarations (end_of_tokens ∷ []) ∷
    entry declaration (end_of_tokens ∷ begins_declaration) ∷
    entry alias (end_of_tokens ∷ begins_declaration) ∷
    entry function (end_of_tokens ∷ right_brace ∷ begins_declaration) ∷
    entry interface (end_of_tokens ∷ begins_declaration) ∷
    entry parameters (arrow ∷ []) ∷
    entry fields (arrow ∷ right_brace ∷ []) ∷
    entry more_names (right_bracket ∷ []) ∷
    entry variants (right_brace ∷ []) ∷
    entry variant (ident ∷ right_brace ∷ []) ∷
    entry payload_types (ident ∷ right_brace ∷ []) ∷
    entry mutable begins_type ∷
    entry methods (right_brace ∷ []) ∷
    entry method (at ∷ right_brace ∷ []) ∷
    entry body (at ∷ right_brace ∷ []) ∷
    entry functions (right_brace ∷ []) ∷
    entry statements (right_brace ∷ []) ∷
    entry expressions (right_paren ∷ right_bracket ∷ right_brace ∷ []) ∷
    entry more_words (right_paren ∷ right_bracket ∷ []) ∷
    entry arms (right_brace ∷ []) ∷
    entry payloads3 (arrow ∷ []) ∷
    entry payloads2 (arrow ∷ []) ∷
    entry payloads1 (arrow ∷ []) ∷
    entry types (right_paren ∷ []) ∷
    []

unfoldable follow : List Follow → ℕ → ℕ → Bool
follow [] x c = true
follow (f ∷ fs) x c =
    let rest = follow fs x c in
    pick (eqb f.of x) (among f.by c) rest

-- the fuel that a nonterminal needs before a token is taken
unfoldable weight_of : ℕ → ℕ
unfolding among
weight_of x =
    pick (among (statements ∷ try_or_closure ∷ []) x) 5
    (pick (among (program ∷ definition ∷ statement ∷ tilde_statement ∷ []) x) 4
    (pick (among (declarations ∷ fields ∷ parameters ∷ variants ∷ payload_types ∷ type_parameters ∷ struct_parameters ∷ binding ∷
    expressions ∷ type_arguments ∷ cast_rest ∷ selector ∷ []) x) 3
    (pick (among (declaration ∷ interface_rest ∷ methods ∷ body ∷ functions ∷ field ∷ field_name ∷ parameter ∷ variant ∷
    loop_or_complement ∷ expression ∷ arms ∷ payloads3 ∷ payloads2 ∷ payloads1 ∷ types ∷ []) x) 2 1)))

unfoldable pub hints17 : Hints
unfolding follow weight_of
hints17 = record {
  follow = follow followed;
  nullable = among (
      program ∷ declarations ∷ alias ∷ methods ∷ body ∷ functions ∷ mutable ∷ fields ∷ field_name ∷ parameters ∷ variants ∷
      payload_types ∷ type_parameters ∷ struct_parameters ∷ more_names ∷ statements ∷ loop_or_complement ∷ expressions ∷ type_arguments ∷
      more_words ∷ selector ∷ arms ∷ payloads3 ∷ payloads2 ∷ payloads1 ∷ types ∷ []);
  weight = weight_of;
  -- a type has a row less than two for each token, the program one more
  fewer = λ x. pick (eqb x type) 1 0;
  more = λ x. pick (eqb x program) 1 0;
  speaks = among (
      interface_rest ∷ body ∷ definition ∷ assignment ∷ tilde_statement ∷ loop_or_complement ∷ try_or_closure ∷ parenthesized ∷ []);
  last_kind = named_type_row;
  top_kind = program_row;
}

-- FIRST is closed
firsts17 : below (λ (c : ℕ). every (first_closed productions c) productions) classes ≡ true
unfolding and or among agrees allows skips starts any_of empty_within first_within empty first can_begin productions implies every
    first_closed below
firsts17 = refl

empties17 : below (λ (c : ℕ). every (empty_closed productions c) productions) classes ≡ true
unfolding and or among agrees allows skips any_of empty_within empty can_skip productions implies every empty_closed below
empties17 = refl

-- FOLLOW is closed
follows17 : below (λ (c : ℕ). every (follow_closed productions hints17 c) productions) classes ≡ true
unfolding and or among agrees allows skips starts any_of empty_within first_within empty first productions implies every may flows
    follow_closed below hints17 follow
follows17 = refl

-- the alternatives exclude each other
exclude17 : below (λ (c : ℕ). exclusive productions hints17 c productions) classes ≡ true
unfolding and or among agrees allows skips starts any_of empty_within first_within empty first can_begin can_skip productions implies
    every live asks opposed excludes exclusive below hints17 follow
exclude17 = refl

-- no left recursion
falls17 : every (falls hints17 (suc (breadth productions))) productions ≡ true
unfolding and or among agrees breadth productions implies every has_no_end vanishes needs bounded falls hints17 weight_of
falls17 = refl

start17 : bounded hints17 (suc (breadth productions)) (whole program) ≡ true
unfolding and or among breadth productions needs bounded hints17 weight_of
start17 = refl

-- at most two rows for each token
few_rows17 : every (few_rows hints17) productions ≡ true
unfolding and levels productions every fewer_of more_of few_rows hints17
few_rows17 = refl

-- the kinds of rows are from 1 to 46
known_kinds17 : every (known_kind hints17 hints17.last_kind) productions ≡ true
unfolding and or between among agrees productions implies every voiced kind_within known_kind hints17
known_kinds17 = refl

-- the top row is the program's
tops17 : every (tops program hints17.top_kind) productions ≡ true
unfolding and productions implies every makes_row tops hints17
tops17 = refl

-- a row but the program's takes the token that it is chosen at
begun17 : below (λ (c : ℕ). every (row_begins productions program c) productions) classes ≡ true
unfolding and or among agrees allows skips starts any_of empty_within first_within empty first can_begin can_skip levels productions
    implies every below takes_first first_taken row_begins
begun17 = refl

-- no production derives a program
apart17 : every (λ (p : Production). without program p.right) productions ≡ true
unfolding and agrees productions every without
apart17 = refl

pub passes17 : Passes productions hints17 classes program
unfolding hints17 follow among or
passes17 = record {
  closed = record { firsts = firsts17; empties = empties17; follows = follows17; exclude = exclude17 };
  ended = refl;
  falling = falls17;
  start = start17;
  few = few_rows17;
  once = omega arith;
  kinds = known_kinds17;
  top = tops17;
  begun = begun17;
  apart = apart17;
}

-- no nonterminal adds names, so that classes stay what they are
pub steady17 : (ts : List Item) → Kinds ts → Steady (view language17 ts) hints17 classes
unfolding view
steady17 ts k = record {
  classed = λ (e : Names) (i : ℕ). class_below e k i;
  first_same = λ (x i : ℕ) (e : Names). refl;
  follow_same = λ (x i : ℕ) (e : Names) (j : ℕ) h. refl;
}
