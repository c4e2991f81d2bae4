-- Each condition of the table of NURL 1.7 is needed: the table without it does not pass the tests at some class of tokens. There two
-- alternatives of one nonterminal stand open (`exclude17`) or, for one condition, a token comes next that FOLLOW does not know
-- (`follows17`). Assumes nothing.
use Prim.Native.Nat.{ℕ, suc, ◌+◌}
use mathlib.Core.Path.{◌≡◌, refl}
use mathlib.Core.Bool.{Bool, true, false}
use mathlib.Core.List.{List, [], ◌∷◌}
use lib.Dec.{eqb}
use lib.ListN.{length}
use Rattle.lexer.specs.Tests.{and, or, pick, among}
use Rattle.lexer.specs.Spellings.{same}
use Rattle.lexer.specs.internal.Kinds.{ident, keyword, int, tilde, left_brace, left_bracket, star}
use Rattle.grammar.specs.Grammars.{Condition, next, query, Symbol, token, derived, condition, when, unless, Production, agrees}
use Rattle.grammar.specs.executable.First.{allows, skips, starts, any_of, empty_within, first_within, empty, first, can_begin, can_skip}
use Rattle.grammar.specs.Classes.{type_name}
use Rattle.grammar.specs.internal.Nonterminals.{definition, field_name, variant, payload_types, type_parameters, statement, binding}
use Rattle.grammar.specs.internal.Nonterminals.{tilde_statement, loop_or_complement, try_or_closure, type_arguments, cast_rest, selector}
use Rattle.grammar.specs.internal.Nonterminals.{struct_parameters}
use Rattle.grammar.specs.Nurl.{plain_name, any_name, productions}
use Rattle.grammar.specs.internal.Productions.{a_tilde, a_brace, a_star, opens_names, opens_words, opens_struct, two_names, opens_closure}
use Rattle.grammar.specs.internal.Productions.{zero_or_one, opens_struct_names}
use Rattle.grammar.proofs.Laws.Checks.{implies, every, may, flows, follow_closed, live, asks, opposed, excludes, exclusive}
use Rattle.grammar.proofs.Laws.Table17.{hints17}

-- a condition, the nonterminal in one of whose productions it stands at the front, and a class at which the table needs it
pub record Needed : Type 0 where
  pub of : ℕ
  pub drops : Symbol
  pub before : ℕ

abbrev pub without : ℕ → Symbol → ℕ → Needed
without x s c = record { of = x; drops = s; before = c }

abbrev pub needed : List Needed
needed =
    -- rule 2
    without type_parameters (when (query opens_names)) left_bracket ∷
    without type_parameters (unless (query opens_names)) left_bracket ∷
    without struct_parameters (when (query opens_struct_names)) left_bracket ∷
    without struct_parameters (unless (query opens_struct_names)) left_bracket ∷
    without type_arguments (when (query opens_words)) left_bracket ∷
    without type_arguments (unless (query opens_words)) left_bracket ∷
    -- rule 3
    without binding (unless plain_name) ident ∷
    without binding (when plain_name) type_name ∷
    -- rule 4; the second is the one that FOLLOW needs, since without it a variant may follow that begins with a type name
    without payload_types (unless plain_name) ident ∷
    without variant (when plain_name) type_name ∷
    -- rule 5
    without field_name (unless any_name) ident ∷
    -- rule 6
    without statement (unless a_tilde) tilde ∷
    without tilde_statement (when (query two_names)) ident ∷
    without tilde_statement (unless (query two_names)) ident ∷
    without loop_or_complement (unless a_brace) left_brace ∷
    -- rule 7
    without try_or_closure (unless (query opens_closure)) left_bracket ∷
    without try_or_closure (when (query opens_closure)) left_bracket ∷
    -- rule 8
    without cast_rest (when a_star) keyword ∷
    without cast_rest (unless a_star) star ∷
    without selector (when (query zero_or_one)) int ∷
    without selector (unless (query zero_or_one)) int ∷
    -- what tells a struct from a constant
    without definition (when (query opens_struct)) ident ∷
    without definition (unless (query opens_struct)) ident ∷
    []

-- whether two conditions are the same, and whether a symbol is one
unfoldable pub same_condition : Condition → Condition → Bool
same_condition (next cs) (next ds) = same cs ds
same_condition (next cs) (query r) = false
same_condition (query q) (next ds) = false
same_condition (query q) (query r) = eqb q r

unfoldable pub is_one : Bool → Condition → Symbol → Bool
is_one b q (token cs) = false
is_one b q (derived x) = false
is_one b q (condition a r) = and (agrees a b) (same_condition q r)

unfoldable pub is : Symbol → Symbol → Bool
is (token cs) t = false
is (derived x) t = false
is (condition b q) t = is_one b q t

-- symbols without a condition at their front, and whether it stands there
unfoldable pub bare : Symbol → List Symbol → List Symbol
bare s [] = []
bare s (t ∷ ts) = pick (is s t) ts (t ∷ ts)

unfoldable pub begins : Symbol → List Symbol → Bool
begins s [] = false
begins s (t ∷ ts) = is s t

-- the table without a condition of a nonterminal, and how many productions that changes
unfoldable pub table : ℕ → Symbol → List Production → List Production
table x s [] = []
table x s (p ∷ ps) =
    record { left = p.left; makes = p.makes; right = pick (eqb p.left x) (bare s p.right) p.right } ∷ table x s ps

unfoldable pub changed : ℕ → Symbol → List Production → ℕ
changed x s [] = 0
changed x s (p ∷ ps) = pick (and (eqb p.left x) (begins s p.right)) 1 0 + changed x s ps

-- the tests of a table at a class
unfoldable pub passes : List Production → ℕ → Bool
passes g c = and (every (follow_closed g hints17 c) g) (exclusive g hints17 c g)

-- one production has the condition, and the table without it does not pass
unfoldable pub is_needed : Needed → Bool
is_needed n =
    let g = table n.of n.drops productions in
    and (eqb (changed n.of n.drops productions) 1) (agrees false (passes g n.before))

unfoldable pub all_needed : List Needed → Bool
all_needed [] = true
all_needed (n ∷ ns) = and (is_needed n) (all_needed ns)

pub needed17 : all_needed needed ≡ true
unfolding and or among same agrees allows skips starts any_of empty_within first_within empty first can_begin can_skip productions implies
    every may flows follow_closed live asks opposed excludes exclusive hints17 same_condition is_one is bare begins table changed
    passes is_needed all_needed
needed17 = refl

-- the table has no other conditions
unfoldable pub conditions : List Symbol → ℕ
conditions [] = 0
conditions (token cs ∷ ss) = conditions ss
conditions (derived x ∷ ss) = conditions ss
conditions (condition b q ∷ ss) = suc (conditions ss)

unfoldable pub all_conditions : List Production → ℕ
all_conditions [] = 0
all_conditions (p ∷ ps) = conditions p.right + all_conditions ps

pub all_listed : all_conditions productions ≡ length needed
unfolding productions conditions all_conditions
all_listed = refl
