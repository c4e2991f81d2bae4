-- Demands 1, 2 and 3 of document 00 as one record, in document 01's words, of any reader's result. Tokens, derivations and how far
-- derivations come are relations here, and nothing is computed by reading. The computed answer has the demands (`answer_meets` in
-- proofs/Theorem.antt), and whatever has them is that answer (`answer_only`): they leave nothing open.
use Rattle.std.specs.Prelude.{ℕ, ◌<◌, ◌≤◌, ◌≡◌, List, length}
use Rattle.lexer.specs.Refusals.{refusal_number}
use Rattle.lexer.specs.Tokens.{Token, clean, fault, Tiles}
use Rattle.lexer.specs.Table.{source_limit, token_room, filled}
use Rattle.typenames.specs.NameList.{Checked, Good, checked}
use Rattle.tree.specs.TreeTable.{Row, tree_room, placed, cleared}
use Rattle.grammar.specs.Languages.{Language, language17}
use Rattle.grammar.specs.Sources.{DerivationOf, NoProgramOf, TooDeepOf}
use Rattle.answer.specs.Results.{level_limit, Result}
use Rattle.answer.specs.declared.Answer.TheVariants.{Accepted, Refused}

-- for a language, a source and a list of names
module _ (l : Language) (source names : List ℕ) where
  -- neither No. 1 nor No. 2 applies
  pub record Admitted : Type 0 where
    -- "within the length limit"
    pub within : length source ≤ source_limit
    -- "a name list is good when it is not as No. 2 describes"
    pub good : checked l.lexical names ≡ Good

  -- "any source within the length limit with a good name list, clean tokens"; these are the tokens
  pub record Readable (ts : List Token) : Type 0 where
    pub admitted : Admitted
    -- "tokens are clean when the source has nothing that No. 3 or 4 describes": it is gaps and these tokens in turn, "every byte
    -- accounted for once"
    pub tiles : Tiles l.lexical 0 source ts clean

  -- and for a level limit and two lent tables
  module _ (limit : ℕ) (tokens rows : List ℕ) where
    -- "There is room when the token table has at least as many whole rows as the source has tokens, and the tree table at least as
    -- many as each derivation of them within the level limit has rows."
    pub record Room (ts : List Token) : Type 0 where
      pub for_tokens : length ts ≤ token_room tokens
      pub for_rows : (rs : List Row) → DerivationOf l source names ts limit rs → length rs ≤ tree_room rows

    -- Document 01's table of refusals: a number, a place, the token table and the tree table afterwards, and when it is given.
    -- Each line also asks that no line above it applies. Of 3 and 4 the one comes that the tokens end at, and of 6 and 7 their places
    -- say which it is.
    pub data Refusal : ℕ → ℕ → List ℕ → List ℕ → Type 0 where
      -- "source over 1,048,576 bytes"
      too_long : source_limit < length source → Refusal (refusal_number "long source") 0 tokens rows
      -- "list over 16,384 bytes (place 0), or an entry's bytes are not exactly one IDENT token"
      bad_names : {place : ℕ} → length source ≤ source_limit → checked l.lexical names ≡ Checked.Refused (refusal_number "bad names") place
          → Refusal (refusal_number "bad names") place tokens rows
      -- "a byte begins no token, space or comment"
      bad_byte : {place : ℕ} {ts : List Token} → Admitted → Tiles l.lexical 0 source ts (fault (refusal_number "bad byte") place)
          → Refusal (refusal_number "bad byte") place tokens rows
      -- "a string is not closed"
      open_string : {place : ℕ} {ts : List Token} → Admitted → Tiles l.lexical 0 source ts (fault (refusal_number "open string") place)
          → Refusal (refusal_number "open string") place tokens rows
      -- "more tokens than rows"
      few_token_rows : {ts : List Token} → Readable ts → token_room tokens < length ts → Refusal (refusal_number "few token rows") (length ts) tokens rows
      -- "no program": the place is the furthest that leftmost derivations reach, at any depth
      no_program : {ts : List Token} {place : ℕ} → Readable ts → length ts ≤ token_room tokens → NoProgramOf l source names ts limit place
          → Refusal (refusal_number "no program") place (filled source ts tokens) (cleared rows)
      -- "too deep": the place is the furthest that they reach within the limit, and without it they go on
      too_deep : {ts : List Token} {place : ℕ} → Readable ts → length ts ≤ token_room tokens → TooDeepOf l source names ts limit place
          → Refusal (refusal_number "too deep") place (filled source ts tokens) (cleared rows)
      -- "more tree rows than room"
      few_tree_rows : {ts : List Token} {rs : List Row} → Readable ts → length ts ≤ token_room tokens → DerivationOf l source names ts limit rs
          → tree_room rows < length rs → Refusal (refusal_number "few tree rows") (length rs) (filled source ts tokens) (cleared rows)

    -- a token table afterwards: "the one that the lexical rules of grammar 1.7 give .., every byte accounted for once"
    pub record TokenTable (tokensAfter : List ℕ) : Type 0 where
      pub token_list : List Token
      pub readable : Readable token_list
      pub numbers : tokensAfter ≡ filled source token_list tokens

    -- what acceptance with two row counts says, of the tables afterwards
    pub record Acceptance (tokenCount rowCount : ℕ) (tokensAfter rowsAfter : List ℕ) : Type 0 where
      pub token_table : TokenTable tokensAfter
      pub room : Room token_table.token_list
      pub token_count : tokenCount ≡ length token_table.token_list
      -- "the rows are, in order, a derivation of those tokens by the grammar", "nested at most 200 levels"
      pub row_list : List Row
      pub row_count : rowCount ≡ length row_list
      pub row_table : rowsAfter ≡ placed row_list rows
      pub derived : DerivationOf l source names token_table.token_list limit row_list

    -- Demand 1: "A refusal carries its number and its place, and both lent tables are then left exactly as document 01's table
    -- says", and a refusal is "given exactly when" that table says.
    pub record Demand1 (r : Result) : Type 0 where
      pub refused : (number place : ℕ) → r.answer ≡ Refused number place → Refusal number place r.tokens r.rows
      pub refusal : (number place : ℕ) (tokensAfter rowsAfter : List ℕ) → Refusal number place tokensAfter rowsAfter
          → r ≡ record { answer = Refused number place; tokens = tokensAfter; rows = rowsAfter }

    -- Demand 2: "The token table is the one that the lexical rules of grammar 1.7 give .., every byte accounted for once. On
    -- acceptance the rows are, in order, a derivation of those tokens by the grammar."
    pub record Demand2 (r : Result) : Type 0 where
      pub accepted : (tokenCount rowCount : ℕ) → r.answer ≡ Accepted tokenCount rowCount → Acceptance tokenCount rowCount r.tokens r.rows
      -- the token table after 6, 7 and 8
      pub every_byte : (number place : ℕ) → r.answer ≡ Refused number place → refusal_number "no program" ≤ number → TokenTable r.tokens

    -- Demand 3, of any source "within the length limit with a good name list, clean tokens and room in both tables".
    pub record Demand3 (r : Result) : Type 0 where
      -- "It is accepted exactly when its tokens have a derivation ... nested at most 200 levels" (the other half is `accepted`
      -- above), and "The rows filled in the tree table are exactly its rows, in order, and the tree's row count is their number."
      pub accepts : (ts : List Token) (rs : List Row) → Readable ts → Room ts → DerivationOf l source names ts limit rs
          → r ≡ record { answer = Accepted (length ts) (length rs); tokens = filled source ts tokens; rows = placed rs rows }
      -- "Every derivation of those tokens, at whatever depth, is then that same one": whatever acceptance there is, its rows are the only
      -- ones. This is a fact of the grammar; with `accepted` it fixes the rows of the table.
      pub only : (tokenCount rowCount : ℕ) (a : Acceptance tokenCount rowCount r.tokens r.rows) (n : ℕ) (rs : List Row)
          → DerivationOf l source names a.token_table.token_list n rs → rs ≡ a.row_list
      -- "“No program” is said only if there is no derivation at any depth"
      pub no_derivation : (place : ℕ) → r.answer ≡ Refused (refusal_number "no program") place → (ts : List Token) → Readable ts
          → (n : ℕ) (rs : List Row) → DerivationOf l source names ts n rs → ⊥
      -- "“too deep” only if there is none within 200"
      pub none_within : (place : ℕ) → r.answer ≡ Refused (refusal_number "too deep") place → (ts : List Token) → Readable ts
          → (rs : List Row) → DerivationOf l source names ts limit rs → ⊥

    -- The demands on the result r of a reader for this source, list and tables. Of the readers that document 01 names,
    -- - one that refuses all violates `accepts` (`refuses_all_violates` in proofs/);
    -- - one that answers M1 for every source violates `accepted`, by its token count (`answers_m1_violates`);
    -- - one that never writes violates `accepted`, by the token table (`never_writes_violates`);
    -- - one that reads the first declaration and invents the others violates `accepted`, by `derived`, and `only` fixes each row
    --   (`reads_first_violates`);
    -- - one that reports invented row counts violates `accepted`, for the tokens (`invents_tokens_violates`) and for the tree, whose
    --   rows `only` fixes (`invents_rows_violates`).
    -- And one that leaves a token out of the table violates `accepted`, by `tiles` (`drops_token_violates`).
    pub record Demands (r : Result) : Type 0 where
      pub demand1 : Demand1 r
      pub demand2 : Demand2 r
      pub demand3 : Demand3 r

-- a reader: from a source, a list of names, a token table and a tree table to a result
abbrev pub Reader : Type 0
Reader = List ℕ → List ℕ → List ℕ → List ℕ → Result

-- what is demanded of a reader of grammar 1.7
abbrev pub MeetsDemands : Reader → Type 0
MeetsDemands reader = (source names tokens rows : List ℕ) → Demands language17 source names level_limit tokens rows (reader source names tokens rows)
