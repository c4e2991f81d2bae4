-- `nurl::text::bytes_written` meets its contract. Assumes nothing.
use Rattle.std.proofs.Common.{◌≡◌, ℕ, refl, Option, Some, None, ◌∙◌}
use Rattle.std.specs.Option.{unwrap_or}
use Rattle.nurl.specs.Texts.{bytes_written}
use Rattle.nurl.proofs.text.bytes_written.Goals as goal

sized : (written : Option ℕ) (room : ℕ) → unwrap_or written room ≡ bytes_written written room
unfolding bytes_written
sized (Some size) room = refl
sized None room = refl

pub returns : goal.returns
returns c = c.unwrap_or.ensures ∙ sized c.args.written c.args.room
