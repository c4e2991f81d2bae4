-- Grammars as data: conditions, symbols and productions, and what a grammar asks of some tokens.
use Rattle.std.specs.Prelude.{ℕ, Bool, true, false, not, List}
use Rattle.lexer.specs.Tests.{pick, among}

-- A class of tokens is a number: a token's kind, or a number of its own for those tokens of a kind that the rules tell apart. This
-- is the class of the place after the last token.
abbrev pub end_of_tokens : ℕ
end_of_tokens = 0

-- a condition on the tokens from here on, which takes none of them
pub data Condition : Type 0 where
  -- the next token is of one of these classes
  next : List ℕ → Condition
  -- the answer to a numbered question is yes
  query : ℕ → Condition

pub data Symbol : Type 0 where
  -- a token of one of these classes
  token : List ℕ → Symbol
  -- what a nonterminal derives
  derived : ℕ → Symbol
  -- no token, where a condition holds (true) or does not hold (false)
  condition : Bool → Condition → Symbol

abbrev pub when : Condition → Symbol
when q = condition true q

abbrev pub unless : Condition → Symbol
unless q = condition false q

-- the row that a production makes
pub data Makes : Type 0 where
  -- a row of this kind over all that the production derives
  gives_row : ℕ → Makes
  -- a row whose kind a part of the production says
  row_of : Makes
  -- no row, but the kind of the row that it is a part of
  gives_kind : ℕ → Makes
  -- no row; what its parts say, it says
  no_row : Makes

pub record Production : Type 0 where
  pub left : ℕ
  pub makes : Makes
  pub right : List Symbol

-- the environment of a reading: the type names in force
abbrev pub Names : Type 0
Names = List (List ℕ)

-- what a grammar asks of some tokens
pub record View : Type 0 where
  -- the class of a token under the names in force
  pub class : Names → ℕ → ℕ
  -- the answer to a question about the tokens from here on
  pub holds : ℕ → ℕ → Bool
  -- the names in force inside a nonterminal that begins at a token
  pub inside : ℕ → ℕ → Names → Names

-- whether a test says what is asked
unfoldable pub agrees : Bool → Bool → Bool
agrees b t = pick b t (not t)

unfoldable pub asked : View → Names → ℕ → Condition → Bool
asked v e i (next cs) = among cs (v.class e i)
asked v e i (query q) = v.holds q i

-- whether the condition is met, or the opposite where that is asked
unfoldable pub met : View → Names → ℕ → Bool → Condition → Bool
met v e i b q = agrees b (asked v e i q)
