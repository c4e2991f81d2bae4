-- A language: an edition of NURL, with its lexical rules and its grammar; and what the grammar asks of some tokens.
use Rattle.std.specs.Prelude.{ℕ, List, [], ◌++◌, eqb, take, drop, get_or}
use Rattle.lexer.specs.Tests.{and, pick}
use Rattle.lexer.specs.Kinds.{token_kind}
use Rattle.lexer.specs.Editions.{Edition, edition17}
use Rattle.lexer.specs.Items.{Item}
use Rattle.typenames.specs.TypeNames.{opening17, is_named}
use Rattle.grammar.specs.Grammars.{end_of_tokens, Production, Names, View}
use Rattle.grammar.specs.Nonterminals.{nonterminal}
use Rattle.grammar.specs.Classes.{type_name}
use Rattle.grammar.specs.Questions.{Question, answer_to}
use Rattle.grammar.specs.Nurl.{productions, questions17}

pub record Language : Type 0 where
  pub lexical : Edition
  pub productions : List Production
  -- the nonterminal that a whole source is
  pub start : ℕ
  pub questions : List Question
  -- the kinds of token that make an IDENT between `:` and them a type name
  pub opening : List ℕ
  -- the names that a nonterminal adds to those in force inside it, given the tokens before its first
  pub adds : ℕ → List Item → Names

-- grammar 1.7, document 009: no nonterminal adds names
abbrev pub language17 : Language
language17 = record {
  lexical = edition17;
  productions = productions;
  start = nonterminal "program";
  questions = questions17;
  opening = opening17;
  adds = λ x ts. [];
}

abbrev pub no_item : Item
no_item = record { kind = end_of_tokens; text = [] }

-- the class of a token: its kind, but an IDENT in N has a class of its own
unfoldable pub class_of : Names → Item → ℕ
class_of e t = pick (and (eqb t.kind (token_kind "IDENT")) (is_named e t.text)) type_name t.kind

-- what the grammar asks of some tokens; past the last of them is the end
unfoldable pub view : Language → List Item → View
view l ts = record {
  class = λ e i. class_of e (get_or ts i no_item);
  holds = λ q i. answer_to l.questions q (drop i ts);
  inside = λ x i e. l.adds x (take i ts) ++ e;
}
