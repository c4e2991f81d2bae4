-- What a call that reads came to, what follows from it, and what reading an input to its end came to.
use Rattle.std.specs.Prelude.{ℕ, zero, suc, ◌+◌, ◌-◌, ◌<◌, ◌≤◌, ◌≡◌, ◌≢◌, Bool, ℤ, pos, negsuc, Result, Ok, Err}
use Rattle.std.specs.IoError.{error_kind}
use Rattle.std.specs.declared.io.Error.{Error}
use Rattle.std.specs.declared.io.ErrorKind.{ErrorKind}
use Rattle.std.specs.declared.io.ErrorKind.TheVariants as kind
use Rattle.std.specs.declared.ops.ControlFlow.{ControlFlow}
use Rattle.std.specs.declared.ops.ControlFlow.TheVariants.{Continue, Break}
use Rattle.lexer.specs.Tests.{pick}
use Rattle.replies.specs.declared.Unreadable.{Unreadable as NoScript}
use Rattle.replies.specs.declared.script.Reading.{Reading}

-- what one call that reads came to: so many bytes, the end of the input, a call that a signal interrupted, or a call that failed
pub data Outcome : Type 0 where
  Got : ℕ → Outcome
  End : Outcome
  Interrupted : Outcome
  Failed : Outcome

-- what reading an input came to: so many bytes, or nothing, because a call failed
pub data Input : Type 0 where
  Script : ℕ → Input
  Unreadable : Input

-- how far reading has come after a call: so many bytes and so many retries left, or what it came to
pub data Progress : Type 0 where
  More : ℕ → ℕ → Progress
  Done : Input → Progress

-- A call's result, whether a signal interrupted it where it failed, and the bytes that it put: a negative result is a failure and never
-- the end of the input.
unfoldable pub outcome_of : ℤ → Bool → ℕ → Outcome
outcome_of (negsuc n) interrupted count = pick interrupted Interrupted Failed
outcome_of (pos n) interrupted zero = End
outcome_of (pos n) interrupted (suc count) = Got (suc count)

-- How far reading has come after a call, from so many bytes and so many retries on. A failure ends it without a script, however many
-- bytes there are.
unfoldable pub after_call : ℕ → ℕ → Outcome → Progress
after_call done retries (Got count) = More (done + count) retries
after_call done retries End = Done (Script done)
after_call done zero Interrupted = Done Unreadable
after_call done (suc retries) Interrupted = More done retries
after_call done retries Failed = Done Unreadable

-- a call that got bytes got one at least, and no more than there was room for
abbrev pub GotWithin : ℕ → Outcome → Type 0
GotWithin room r = (count : ℕ) → r ≡ Got count → (0 < count) × (count ≤ room)

-- what a call came to, by the code's own result: no bytes are the end of the input, and a failure is never that
abbrev pub failure_said : ErrorKind → Outcome
failure_said kind.Interrupted = Interrupted
failure_said _ = Failed

abbrev pub outcome_said : Result ℕ Error → Outcome
outcome_said (Ok zero) = End
outcome_said (Ok (suc count)) = Got (suc count)
outcome_said (Err error) = failure_said (error_kind error)

-- how far reading has come, by the code's own answer
abbrev pub progress_said : Result (ControlFlow ℕ Reading) NoScript → Progress
progress_said (Ok (Continue on)) = More on.done on.retries
progress_said (Ok (Break done)) = Done (Script done)
progress_said (Err none) = Done Unreadable

-- What follows from a call, from so many bytes and so many retries on. No bytes are the end of the input. A failure ends it without a
-- script, however many bytes there are, unless a signal was its reason and a retry is left. It is what `after_call` says (`said_by` in
-- proofs/).
abbrev pub AfterCall : Reading → Result ℕ Error → Result (ControlFlow ℕ Reading) NoScript → Type 0
AfterCall reading (Ok zero) after = after ≡ Ok (Break reading.done)
AfterCall reading (Ok (suc count)) after = after ≡ Ok (Continue (record reading { done = reading.done + suc count }))
AfterCall reading (Err error) after =
    (error_kind error ≡ kind.Interrupted → 0 < reading.retries → after ≡ Ok (Continue (record reading { retries = reading.retries - 1 })))
    × (error_kind error ≡ kind.Interrupted → reading.retries ≡ 0 → after ≡ Err (record {}))
    × (error_kind error ≢ kind.Interrupted → after ≡ Err (record {}))

-- a script has no more bytes than there was room for
abbrev pub ScriptWithin : ℕ → Result ℕ NoScript → Type 0
ScriptWithin room r = (count : ℕ) → r ≡ Ok count → count ≤ room
