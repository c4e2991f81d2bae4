-- The nonterminals of the table of NURL; their numbers mean nothing. Those that 009 has no word for: `interface`, a trait or an
-- impl; `method`, a header or a function of a trait; `definition`, a struct, an enum or a constant, after its `:`; `mutable`,
-- `'~'?`; `fields`, of a struct, and the parameters of a foreign declaration; `type_parameters`, `type_params?`; `type_arguments`,
-- `( '[' IDENT+ ']' )?` of a call; `selector`, `INT?` of a cast; `struct_parameters`, `type_params?` of a struct.
use Rattle.std.specs.Prelude.{ℕ, List, [], ◌∷◌}
use Prim.Native.String.{String}
use Rattle.lexer.specs.Positions.{position_from}

abbrev pub nonterminals : List String
nonterminals =
    "program" ∷ "declarations" ∷ "declaration" ∷ "alias" ∷ "interface" ∷ "interfaceRest" ∷ "methods" ∷ "method" ∷ "body" ∷ "functions" ∷
    "function" ∷ "definition" ∷ "mutable" ∷ "fields" ∷ "field" ∷ "fieldName" ∷ "parameters" ∷ "parameter" ∷ "variants" ∷ "variant" ∷
    "payloadTypes" ∷ "typeParameters" ∷ "nameList" ∷ "moreNames" ∷ "block" ∷ "statements" ∷ "statement" ∷ "binding" ∷ "assignment" ∷
    "tildeStatement" ∷ "loopOrComplement" ∷ "expressions" ∷ "expression" ∷ "literal" ∷ "tryOrClosure" ∷ "typeArguments" ∷ "wordList" ∷
    "moreWords" ∷ "castRest" ∷ "selector" ∷ "arms" ∷ "arm" ∷ "payloads3" ∷ "payloads2" ∷ "payloads1" ∷ "payload" ∷ "types" ∷ "type" ∷
    "parenthesized" ∷ "structParameters" ∷ []

abbrev pub nonterminal : String → ℕ
nonterminal name = position_from 1 nonterminals name
