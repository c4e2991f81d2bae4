-- Some bytes written into an output after others.
use Rattle.std.specs.Prelude.{ℕ, ◌≡◌, List, ◌++◌, length, Option, Some, None}
use Rattle.nurl.specs.declared.text.Text.{Text}
use Rattle.nurl.specs.Texts.{written, overwritten}

-- an output that held `before` holds a text, written as far as it is
pub record Holds (text before : List ℕ) (so_far : Option ℕ) (output : List ℕ) : Type 0 where
  pub says : so_far ≡ written text (length before)
  pub leaves : output ≡ overwritten text before

-- some bytes are written after whatever the output holds
abbrev pub Appends : List ℕ → Option ℕ → List ℕ → Option ℕ → List ℕ → Type 0
Appends more from output to after = (text before : List ℕ) → Holds text before from output → Holds (text ++ more) before to after

-- how much of a text is written, by what the last method answered and the size that it left
abbrev pub reached : Option Unit → ℕ → Option ℕ
reached (Some _) size = Some size
reached None size = None

-- a method writes some bytes into the same output, after whatever it holds
pub record Writes (more : List ℕ) (from : Text) (answer : Option Unit) (to : Text) : Type 0 where
  pub same_output : to.output.ghost_name ≡ from.output.ghost_name
  pub holds : Appends more (Some from.size) from.output.now (reached answer to.size) to.output.now
