-- The editions by their names in the code, and what the code asks of one.
use Prim.Native.Char.{code}
use Rattle.std.specs.Prelude.{Bool, [], ◌∷◌, ltb}
use Rattle.lexer.specs.Spellings.{kind_of}
use Rattle.lexer.specs.Editions.{Edition, edition11, edition17}
use Rattle.lexer.specs.declared.Edition.{Edition as NamedEdition}
use Rattle.lexer.specs.declared.Edition.TheVariants.{V11, V17}

-- each edition by its name
abbrev pub edition_of : NamedEdition → Edition
edition_of V11 = edition11
edition_of V17 = edition17

-- whether `<<` is a mark of an edition
abbrev pub has_shifts : Edition → Bool
has_shifts e = ltb 0 (kind_of e.marks (code "<" ∷ code "<" ∷ []))
