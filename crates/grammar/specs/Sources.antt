-- The tokens of a source under a list of names: the names in force, what the grammar asks of the tokens, their derivations, and
-- the places of refusals 6 and 7.
use Rattle.std.specs.Prelude.{ℕ, List, length}
use Rattle.lexer.specs.Tokens.{Token}
use Rattle.lexer.specs.Items.{items}
use Rattle.typenames.specs.NameList.{entries}
use Rattle.typenames.specs.TypeNames.{type_names}
use Rattle.tree.specs.TreeTable.{Row}
use Rattle.grammar.specs.Grammars.{Names, View}
use Rattle.grammar.specs.Derivations.{Derivation}
use Rattle.grammar.specs.Reaches.{NoProgram, TooDeep}
use Rattle.grammar.specs.Languages.{Language, view}

-- "the type names of that source and list": the set N
abbrev pub names_of : Language → List ℕ → List ℕ → List Token → Names
names_of l source names ts = type_names l.opening (entries names) (items source ts)

abbrev pub view_of : Language → List ℕ → List Token → View
view_of l source ts = view l (items source ts)

-- "A derivation of a token list": of the tokens ts of the source, nested at most n levels, with these rows
abbrev pub DerivationOf : Language → List ℕ → List ℕ → List Token → ℕ → List Row → Type 0
DerivationOf l source names ts n = Derivation l.productions (view_of l source ts) (length ts) (names_of l source names ts) n l.start

-- 6 and 7 at a place of the tokens, with a limit of so many levels
abbrev pub NoProgramOf : Language → List ℕ → List ℕ → List Token → ℕ → ℕ → Type 0
NoProgramOf l source names ts = NoProgram l.productions (view_of l source ts) (length ts) (names_of l source names ts) l.start

abbrev pub TooDeepOf : Language → List ℕ → List ℕ → List Token → ℕ → ℕ → Type 0
TooDeepOf l source names ts = TooDeep l.productions (view_of l source ts) (length ts) (names_of l source names ts) l.start
