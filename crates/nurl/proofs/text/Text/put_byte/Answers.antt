-- `nurl::text::Text::put_byte` meets its contract. Assumes nothing.
use mathlib.Core.Path.{refl}
use Rattle.nurl.proofs.Laws.Texts.{appends_byte, appends_full}
use Rattle.nurl.proofs.text.Text.put_byte.Goals as goal

pub returns-then-self : goal.returns-then-self
returns-then-self c = record { same_output = refl; holds = appends_byte _ _ _ c.if-self.true }

pub returns : goal.returns
returns c = record { same_output = refl; holds = appends_full _ _ _ c.if-self.false }
