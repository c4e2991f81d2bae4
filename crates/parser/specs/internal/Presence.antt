-- Whether a part must stand.
use Rattle.std.specs.Prelude.{Bool, true, false}
use Rattle.parser.specs.declared.presence.Presence.{Presence}
use Rattle.parser.specs.declared.presence.Presence.TheVariants.{Required, Optional}

-- whether it must, and not only may
abbrev pub is_required : Presence → Bool
is_required Required = true
is_required Optional = false
