-- Which tokens count as words.
use Rattle.std.specs.Prelude.{Bool, true, false}
use Rattle.parser.specs.declared.words.Words.{Words}
use Rattle.parser.specs.declared.words.Words.TheVariants.{Plain, WithKeywords}

-- whether a keyword does
abbrev pub with_keywords : Words → Bool
with_keywords Plain = false
with_keywords WithKeywords = true
