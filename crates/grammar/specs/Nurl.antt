-- The table of NURL: the productions of document 009 under rules 1 to 11 of document 01, one a line. They are those of both
-- editions, which differ in their questions. Above each group stands 009's production, and beside each condition the number of
-- 01's rule, but for `opens_struct`, which is explained where the questions are. A repetition `x*` (`many`) or an option `x?`
-- (`optional`) of 009 is a nonterminal with two productions; productions that begin alike share a nonterminal that says the row's
-- kind. docs/LANGUAGE.md has the same productions and rules in words.
use Rattle.std.specs.Prelude.{ℕ, List, [], ◌∷◌, ◌++◌, map}
use Prim.Native.String.{String}
use Rattle.lexer.specs.Text.{bytes}
use Rattle.lexer.specs.Positions.{position_from}
use Rattle.lexer.specs.Kinds.{token_kind}
use Rattle.typenames.specs.TypeNames.{opening17}
use Rattle.tree.specs.RowKinds.{row_kind}
use Rattle.grammar.specs.Grammars.{Condition, next, query, Symbol, token, derived, when, unless, Makes, gives_row, row_of, gives_kind}
use Rattle.grammar.specs.Grammars.{no_row, Production}
use Rattle.grammar.specs.Nonterminals.{nonterminal}
use Rattle.grammar.specs.Classes.{classes_of}
use Rattle.grammar.specs.Questions.{Piece, one_of, some_of, spelled, Question}

-- a production of a nonterminal, and its parts, by names
abbrev pub rule : String → Makes → List Symbol → Production
rule left makes right = record { left = nonterminal left; makes = makes; right = right }

abbrev pub row : String → Makes
row kind = gives_row (row_kind kind)

abbrev pub says : String → Makes
says kind = gives_kind (row_kind kind)

abbrev pub part : String → Symbol
part name = derived (nonterminal name)

-- a token of one kind, and of any of some kinds
abbrev pub one : String → Symbol
one kind = token (classes_of (kind ∷ []))

abbrev pub any : List String → Symbol
any kinds = token (classes_of kinds)

-- BIN_OP = '+' | '-' | '*' | '/' | '%' | '<' | '>' | '==' | '!=' | '<=' | '>=' | '<<' | '>>' | '&' | '|'
abbrev pub binary_marks : List String
binary_marks = "+" ∷ "-" ∷ "*" ∷ "/" ∷ "%" ∷ "<" ∷ ">" ∷ "==" ∷ "!=" ∷ "<=" ∷ ">=" ∷ "<<" ∷ ">>" ∷ "&" ∷ "|" ∷ []

-- any number of a symbol, and one or none
abbrev pub many : String → Symbol → List Production
many name x = rule name no_row (x ∷ part name ∷ []) ∷ rule name no_row [] ∷ []

abbrev pub optional : String → Symbol → List Production
optional name x = rule name no_row (x ∷ []) ∷ rule name no_row [] ∷ []

-- Conditions on the next token: it is of one kind; it is an IDENT, in N or not; it is an IDENT that is not in N.
abbrev pub next_is : String → Condition
next_is kind = next (classes_of (kind ∷ []))

abbrev pub any_name : Condition
any_name = next_is "IDENT"

abbrev pub plain_name : Condition
plain_name = next (token_kind "IDENT" ∷ [])

-- Questions about the tokens from here on. They ask for kinds and texts, and never for N, so that IDENT in them is any IDENT.
abbrev pub question_names : List String
question_names = "opensNames" ∷ "opensWords" ∷ "opensStruct" ∷ "twoNames" ∷ "opensClosure" ∷ "zeroOrOne" ∷ "opensStructNames" ∷ []

abbrev pub question_number : String → ℕ
question_number name = position_from 1 question_names name

abbrev pub asks : String → Condition
asks name = query (question_number name)

abbrev pub asking : String → List (List Piece) → Question
asking name patterns = record { number = question_number name; patterns = patterns }

abbrev pub single : String → Piece
single kind = one_of (token_kind kind ∷ [])

-- rule 2: "`[` opens such a list where one is allowed and one or more such words run up to a `]`"
abbrev pub declared_names : List Piece
declared_names = single "[" ∷ some_of (map token_kind ("IDENT" ∷ "boolean" ∷ [])) ∷ single "]" ∷ []

-- The questions by what the editions differ in: the kinds that can follow a struct's name, the patterns of a struct's list, and those of
-- a cast's INT. A question without patterns is always answered no.
unfoldable pub questions_with : List ℕ → List (List Piece) → List (List Piece) → List Question
questions_with opening structNames castInt =
    -- rule 2
    asking "opensNames" (declared_names ∷ []) ∷
    -- rule 2: "at a call .. keywords too"
    asking "opensWords" ((single "[" ∷ some_of (map token_kind ("IDENT" ∷ "boolean" ∷ "keyword" ∷ [])) ∷ single "]" ∷ []) ∷ []) ∷
    -- After `:`, an IDENT before one of the opening kinds is the name of a struct; what begins otherwise, `|` apart, is a constant.
    -- This is not a rule of 01's, and it loses no derivation (`struct_asked` and `constant_asked` in proofs/): a constant whose type
    -- is an IDENT goes on with another IDENT.
    asking "opensStruct" ((single "IDENT" ∷ one_of opening ∷ []) ∷ []) ∷
    -- rule 6: "two IDENTs make a foreach"
    asking "twoNames" ((single "IDENT" ∷ single "IDENT" ∷ []) ∷ []) ∷
    -- rule 7: "exactly before `→`; or a keyword, `*`, `?`, `[` or `!`; or `(` `@`; or IDENT IDENT `→`"
    asking "opensClosure" (
    (single "→" ∷ []) ∷
    (one_of (map token_kind ("keyword" ∷ "*" ∷ "?" ∷ "[" ∷ "!" ∷ [])) ∷ []) ∷
    (single "(" ∷ single "@" ∷ []) ∷
    (single "IDENT" ∷ single "IDENT" ∷ single "→" ∷ []) ∷ []) ∷
    -- rule 8
    asking "zeroOrOne" castInt ∷
    -- rule 2, of a struct
    asking "opensStructNames" structNames ∷
    []

-- for grammar 1.7: a struct's list is as any other, and rule 8 takes "a directly following INT whose text is `0` or `1`"
unfoldable pub questions17 : List Question
unfolding bytes questions_with
questions17 = questions_with opening17 (declared_names ∷ []) ((spelled (token_kind "INT") (bytes "0" ∷ bytes "1" ∷ []) ∷ []) ∷ [])

unfoldable pub productions : List Production
productions =
    -- program = decl* EOF; the end belongs to every derivation of a token list
    rule "program" (row "program") (part "declarations" ∷ []) ∷
    many "declarations" (part "declaration") ++
    -- decl = import_decl | ffi_decl | trait_decl | impl_decl | fn_decl | struct_decl | enum_decl | const_decl
    -- import_decl = '$' STR IDENT?
    rule "declaration" (row "import") (one "$" ∷ one "STR" ∷ part "alias" ∷ []) ∷
    optional "alias" (one "IDENT") ++
    -- ffi_decl = '&' STR '@' IDENT ffi_param* '→' type
    rule "declaration" (row "foreign") (one "&" ∷ one "STR" ∷ one "@" ∷ one "IDENT" ∷ part "fields" ∷ one "→" ∷ part "type" ∷ []) ∷
    -- ffi_param = type IDENT?, which is field below
    -- type_params = '[' IDENT+ ']', everywhere as type_params?; by rule 2 of IDENT, `T` and `F`
    rule "typeParameters" no_row (when (asks "opensNames") {- rule 2 -} ∷ part "nameList" ∷ []) ∷
    rule "typeParameters" no_row (unless (asks "opensNames") {- rule 2 -} ∷ []) ∷
    rule "nameList" (row "bracketed name list") (one "[" ∷ any ("IDENT" ∷ "boolean" ∷ []) ∷ part "moreNames" ∷ one "]" ∷ []) ∷
    many "moreNames" (any ("IDENT" ∷ "boolean" ∷ [])) ++
    -- fn_decl = '@' IDENT type_params? param* '→' type block
    rule "declaration" no_row (part "function" ∷ []) ∷
    rule "function" (row "function") (one "@" ∷ one "IDENT" ∷ part "typeParameters" ∷ part "parameters" ∷ one "→" ∷ part "type" ∷ part "block" ∷ []) ∷
    -- param = type IDENT
    many "parameters" (part "parameter") ++
    rule "parameter" (row "parameter or field") (part "type" ∷ one "IDENT" ∷ []) ∷
    -- struct_decl, enum_decl and const_decl begin with ':'
    rule "declaration" row_of (one ":" ∷ part "definition" ∷ []) ∷
    -- struct_decl = ':' IDENT type_params? '{' field* '}'; by rule 11 there is no `~` in it. Its list has a question of its own, since the
    -- editions differ in it
    rule "definition" (says "struct") (when (asks "opensStruct") ∷ one "IDENT" ∷ part "structParameters" ∷ one "{" ∷ part "fields" ∷ one "}" ∷ []) ∷
    rule "structParameters" no_row (when (asks "opensStructNames") {- rule 2 -} ∷ part "nameList" ∷ []) ∷
    rule "structParameters" no_row (unless (asks "opensStructNames") {- rule 2 -} ∷ []) ∷
    -- field = type IDENT?
    many "fields" (part "field") ++
    rule "field" (row "parameter or field") (part "type" ∷ part "fieldName" ∷ []) ∷
    rule "fieldName" no_row (one "IDENT" ∷ []) ∷
    rule "fieldName" no_row (unless any_name {- rule 5 -} ∷ []) ∷
    -- enum_decl = ':' '|' IDENT '{' enum_variant* '}'
    rule "definition" (says "enum") (one "|" ∷ one "IDENT" ∷ one "{" ∷ part "variants" ∷ one "}" ∷ []) ∷
    -- enum_variant = IDENT type*
    many "variants" (part "variant") ++
    rule "variant" (row "variant") (when plain_name {- rule 4 -} ∷ one "IDENT" ∷ part "payloadTypes" ∷ []) ∷
    rule "payloadTypes" no_row (unless plain_name {- rule 4 -} ∷ part "type" ∷ part "payloadTypes" ∷ []) ∷
    rule "payloadTypes" no_row [] ∷
    -- const_decl = ':' '~'? type IDENT literal
    rule "definition" (says "constant") (unless (asks "opensStruct") ∷ part "mutable" ∷ part "type" ∷ one "IDENT" ∷ part "literal" ∷ []) ∷
    optional "mutable" (one "~") ++
    -- trait_decl = '%' IDENT type_params? '{' ( fn_header | fn_decl )* '}'
    -- impl_decl = '%' IDENT type_params? type '{' fn_decl* '}'
    rule "declaration" no_row (part "interface" ∷ []) ∷
    rule "interface" row_of (one "%" ∷ one "IDENT" ∷ part "typeParameters" ∷ part "interfaceRest" ∷ []) ∷
    rule "interfaceRest" (says "trait") (one "{" ∷ part "methods" ∷ one "}" ∷ []) ∷
    rule "interfaceRest" (says "impl") (part "type" ∷ one "{" ∷ part "functions" ∷ one "}" ∷ []) ∷
    many "methods" (part "method") ++
    many "functions" (part "function") ++
    -- fn_header = '@' IDENT type_params? param* '→' type, which is a fn_decl without its block
    rule "method" row_of (one "@" ∷ one "IDENT" ∷ part "typeParameters" ∷ part "parameters" ∷ one "→" ∷ part "type" ∷ part "body" ∷ []) ∷
    rule "body" (says "function") (part "block" ∷ []) ∷
    rule "body" (says "header") [] ∷
    -- block = '{' stmt* '}'
    rule "block" (row "block") (one "{" ∷ part "statements" ∷ one "}" ∷ []) ∷
    many "statements" (part "statement") ++
    -- stmt = let_stmt | set_stmt | defer_stmt | tilde_stmt | expr; rule 6 binds the way through expr too
    rule "statement" no_row (unless (next_is "~") {- rule 6 -} ∷ part "expression" ∷ []) ∷
    -- let_stmt = ':' '~'? type? IDENT expr; the leading IDENT of rule 3 is the one after a `~`, where there is one
    rule "statement" (row "let") (one ":" ∷ part "mutable" ∷ part "binding" ∷ []) ∷
    rule "binding" no_row (unless plain_name {- rule 3 -} ∷ part "type" ∷ one "IDENT" ∷ part "expression" ∷ []) ∷
    rule "binding" no_row (when plain_name {- rule 3 -} ∷ one "IDENT" ∷ part "expression" ∷ []) ∷
    -- set_stmt = '=' IDENT expr | '=' '.' expr ( IDENT | INT | expr ) expr, by rule 9 the index is one expr
    rule "statement" row_of (one "=" ∷ part "assignment" ∷ []) ∷
    rule "assignment" (says "set name") (one "IDENT" ∷ part "expression" ∷ []) ∷
    rule "assignment" (says "set element") (one "." ∷ part "expression" ∷ part "expression" ∷ part "expression" ∷ []) ∷
    -- defer_stmt = ';' block
    rule "statement" (row "defer") (one ";" ∷ part "block" ∷ []) ∷
    -- tilde_stmt = loop_stmt | foreach_stmt | complement_expr
    -- foreach_stmt = '~' IDENT expr block; loop_stmt = '~' expr block; complement_expr = '~' expr
    rule "statement" row_of (one "~" ∷ part "tildeStatement" ∷ []) ∷
    rule "tildeStatement" (says "foreach") (when (asks "twoNames") {- rule 6 -} ∷ one "IDENT" ∷ part "expression" ∷ part "block" ∷ []) ∷
    rule "tildeStatement" no_row (unless (asks "twoNames") {- rule 6 -} ∷ part "expression" ∷ part "loopOrComplement" ∷ []) ∷
    rule "loopOrComplement" (says "while") (part "block" ∷ []) ∷
    rule "loopOrComplement" (says "complement") (unless (next_is "{") {- rule 6 -} ∷ []) ∷
    -- expr = literal | IDENT | bin_expr | not_expr | ret_expr | complement_expr | try_expr | closure_expr | sizeof_expr
    --      | agg_expr | slice_literal | cond_expr | block_expr | call_expr | member_expr | cast_expr | match_expr
    rule "expression" no_row (part "literal" ∷ []) ∷
    rule "expression" (row "name as expression") (one "IDENT" ∷ []) ∷
    -- bin_expr = BIN_OP expr expr
    rule "expression" (row "binary") (any binary_marks ∷ part "expression" ∷ part "expression" ∷ []) ∷
    -- not_expr = '!' expr; ret_expr = '^' expr; complement_expr = '~' expr
    rule "expression" (row "not") (one "!" ∷ part "expression" ∷ []) ∷
    rule "expression" (row "return") (one "^" ∷ part "expression" ∷ []) ∷
    rule "expression" (row "complement") (one "~" ∷ part "expression" ∷ []) ∷
    -- try_expr = '\\' expr; closure_expr = '\\' param* '→' type block
    rule "expression" row_of (one "\\" ∷ part "tryOrClosure" ∷ []) ∷
    rule "tryOrClosure" (says "try") (unless (asks "opensClosure") {- rule 7 -} ∷ part "expression" ∷ []) ∷
    rule "tryOrClosure" (says "closure") (when (asks "opensClosure") {- rule 7 -} ∷ part "parameters" ∷ one "→" ∷ part "type" ∷ part "block" ∷ []) ∷
    -- sizeof_expr = 'Z' type
    rule "expression" (row "sizeof") (one "Z" ∷ part "type" ∷ []) ∷
    -- cond_expr = '?' expr expr expr
    rule "expression" (row "conditional") (one "?" ∷ part "expression" ∷ part "expression" ∷ part "expression" ∷ []) ∷
    -- block_expr = '{' stmt* '}'
    rule "expression" no_row (part "block" ∷ []) ∷
    -- call_expr = '(' IDENT ( '[' IDENT+ ']' )? expr* ')'; by rule 2 the list is of IDENT, `T`, `F` and keywords
    rule "expression" (row "call") (one "(" ∷ one "IDENT" ∷ part "typeArguments" ∷ part "expressions" ∷ one ")" ∷ []) ∷
    rule "typeArguments" no_row (when (asks "opensWords") {- rule 2 -} ∷ part "wordList" ∷ []) ∷
    rule "typeArguments" no_row (unless (asks "opensWords") {- rule 2 -} ∷ []) ∷
    rule "wordList" (row "bracketed name list") (one "[" ∷ any ("IDENT" ∷ "boolean" ∷ "keyword" ∷ []) ∷ part "moreWords" ∷ one "]" ∷ []) ∷
    many "moreWords" (any ("IDENT" ∷ "boolean" ∷ "keyword" ∷ [])) ++
    many "expressions" (part "expression") ++
    -- slice_literal = '[' type '|' expr* ']'
    rule "expression" (row "slice literal") (one "[" ∷ part "type" ∷ one "|" ∷ part "expressions" ∷ one "]" ∷ []) ∷
    -- agg_expr = '@' type '{' expr* '}'
    rule "expression" (row "aggregate") (one "@" ∷ part "type" ∷ one "{" ∷ part "expressions" ∷ one "}" ∷ []) ∷
    -- member_expr = '.' expr ( IDENT | INT | expr ), by rule 9 the index is one expr
    rule "expression" (row "member") (one "." ∷ part "expression" ∷ part "expression" ∷ []) ∷
    -- cast_expr = '#' type expr [ INT ]; a pointer type has `*` outermost, and the INT, `0` or `1`, is a literal row
    rule "expression" (row "cast") (one "#" ∷ part "castRest" ∷ []) ∷
    rule "castRest" no_row (when (next_is "*") {- rule 8 -} ∷ part "type" ∷ part "expression" ∷ part "selector" ∷ []) ∷
    rule "castRest" no_row (unless (next_is "*") {- rule 8 -} ∷ part "type" ∷ part "expression" ∷ []) ∷
    rule "selector" no_row (when (asks "zeroOrOne") {- rule 8 -} ∷ part "literal" ∷ []) ∷
    rule "selector" no_row (unless (asks "zeroOrOne") {- rule 8 -} ∷ []) ∷
    -- match_expr = '??' expr '{' match_arm* '}'
    rule "expression" (row "match") (one "??" ∷ part "expression" ∷ one "{" ∷ part "arms" ∷ one "}" ∷ []) ∷
    many "arms" (part "arm") ++
    -- match_arm = ( IDENT | BOOL | '_' ) match_payload* '→' expr, by rule 10 with zero to three payloads
    rule "arm" (row "arm") (any ("IDENT" ∷ "boolean" ∷ []) ∷ part "payloads3" ∷ one "→" ∷ part "expression" ∷ []) ∷
    rule "payloads3" no_row (part "payload" ∷ part "payloads2" ∷ []) ∷
    rule "payloads3" no_row [] ∷
    rule "payloads2" no_row (part "payload" ∷ part "payloads1" ∷ []) ∷
    rule "payloads2" no_row [] ∷
    optional "payloads1" (part "payload") ++
    -- match_payload = IDENT | INT
    rule "payload" (row "payload") (any ("IDENT" ∷ "INT" ∷ []) ∷ []) ∷
    -- type = base_type | ptr_type | opt_type | slice_type | res_type | fn_type | generic_inst | IDENT
    -- base_type = 'i' | 'u' | 'f' | 'b' | 's' | 'v'
    rule "type" (row "base type") (one "keyword" ∷ []) ∷
    -- ptr_type = '*' type; opt_type = '?' type; slice_type = '[' type; res_type = '!' type type
    rule "type" (row "pointer") (one "*" ∷ part "type" ∷ []) ∷
    rule "type" (row "optional") (one "?" ∷ part "type" ∷ []) ∷
    rule "type" (row "slice type") (one "[" ∷ part "type" ∷ []) ∷
    rule "type" (row "result") (one "!" ∷ part "type" ∷ part "type" ∷ []) ∷
    -- fn_type = '(' '@' type type* ')'; generic_inst = '(' IDENT IDENT+ ')', by rule 2 after the first IDENT also `T`, `F`, keywords
    rule "type" row_of (one "(" ∷ part "parenthesized" ∷ []) ∷
    rule "parenthesized" (says "function type") (one "@" ∷ part "type" ∷ part "types" ∷ one ")" ∷ []) ∷
    rule "parenthesized" (says "generic instance") (one "IDENT" ∷ any ("IDENT" ∷ "boolean" ∷ "keyword" ∷ []) ∷ part "moreWords" ∷ one ")" ∷ []) ∷
    many "types" (part "type") ++
    -- a named type: by rule 1 any IDENT, `T` or `F`
    rule "type" (row "named type") (any ("IDENT" ∷ "boolean" ∷ []) ∷ []) ∷
    -- literal = INT | FLOAT | STR | BOOL
    rule "literal" (row "literal") (any ("INT" ∷ "FLOAT" ∷ "STR" ∷ "boolean" ∷ []) ∷ []) ∷
    []
