-- Rule 2: which `[` opens a list of words. What is read of five sources, one claim by computation. Assumes nothing.
use Prim.Native.Nat.{ℕ}
use Prim.Native.String.{String}
use mathlib.Core.Path.{◌≡◌, refl}
use mathlib.Core.List.{List, [], ◌∷◌, map}
use lib.ListN.{length}
use Rattle.lexer.specs.Tests.{and, or, among}
use Rattle.lexer.specs.Text.{bytes}
use Rattle.lexer.specs.Spellings.{same}
use Rattle.lexer.specs.Words.{as_name, same_name, two_colons}
use Rattle.lexer.specs.Editions.{edition17}
use Rattle.lexer.specs.executable.Scans.{scan}
use Rattle.lexer.specs.Items.{item_of, items}
use Rattle.lexer.proofs.Laws.Examples.{scans}
use Rattle.typenames.specs.NameList.{push, split, entries}
use Rattle.typenames.specs.TypeNames.{is_named, enum_name, struct_name, deeper, names_at, declared, type_names}
use Rattle.grammar.specs.Grammars.{agrees, asked, met}
use Rattle.grammar.specs.Rows.{made, passed, first_said, levels}
use Rattle.grammar.specs.executable.First.{allows, skips, starts, any_of, empty_within, first_within, empty, first, can_begin, can_skip}
use Rattle.grammar.specs.executable.Reading.{Outcome, ok, stuck, deep, spent, ready, find, otherwise, choice, onward, descend, enter, joined}
use Rattle.grammar.specs.executable.Reading.{read_within, breadth, reading}
use Rattle.grammar.specs.Questions.{is_text, run_of, fits, fits_one, answer_to}
use Rattle.grammar.specs.Nurl.{questions17, productions}
use Rattle.grammar.specs.Languages.{language17, class_of, view}
use Rattle.grammar.specs.executable.ReadTokens.{read_tokens}

-- how many rows are read, or the token that cannot be taken
pub data Finding : Type 0 where
  rows : ℕ → Finding
  stuck_at : ℕ → Finding
  too_deep : Finding

unfoldable pub finding : Outcome → Finding
finding (ok j rs said) = rows (length rs)
finding (stuck i) = stuck_at i
finding (deep i) = too_deep
finding spent = too_deep

-- what is read of a source without extra names, with ten levels, opened down to its parts: whoever computes with a reading unfolds this
-- one name
unfoldable pub reads_to : String → Finding
unfolding and or same as_name same_name two_colons bytes scans push split entries item_of items is_named enum_name struct_name deeper names_at
    declared type_names among agrees asked met made passed first_said levels allows skips starts any_of empty_within first_within empty first
    can_begin can_skip ready find otherwise choice onward descend enter joined read_within breadth reading is_text run_of fits fits_one answer_to
    questions17 productions class_of view read_tokens finding
reads_to s = finding (read_tokens language17 10 (bytes s) [] (scan edition17 (bytes s)).found)

pub record Case : Type 0 where
  pub source : String
  pub found : Finding

abbrev pub case : String → Finding → Case
case s f = record { source = s; found = f }

abbrev pub lists : List Case
lists =
    -- IDENT, `T` and `F` up to a `]` are declared names
    case "@ g [ T a ] → v { }" (rows 5) ∷
    -- a keyword is not one of them: `[ i` is then the type of a parameter whose name is not there, at token 4. A list would be
    -- refused at token 3
    case "@ g [ i ] → v { }" (stuck_at 4) ∷
    -- without a `]` the `[` is a parameter's type
    case "@ g [ a x → v { }" (rows 7) ∷
    -- at a call keywords are words too
    case "@ g → v { ( h [ i T ] ) }" (rows 6) ∷
    -- .. and without a `]` after the words the `[` begins a slice
    case "@ g → v { ( h [ i | ] ) }" (rows 7) ∷
    []

pub lists_hold : map (λ x. reads_to x.source) lists ≡ map (λ x. x.found) lists
unfolding reads_to
lists_hold = refl
