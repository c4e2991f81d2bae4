-- What a call that reads came to, by its result, how far reading has come after it, and what the input has given then. Assumes nothing.
use Rattle.std.proofs.Common.{◌≡◌, ℕ, zero, suc, ◌+◌, ◌-◌, ◌<◌, ◌≤◌, ◌≢◌, Bool, true, false, ℤ, pos, negsuc}
use Rattle.std.proofs.Common.{Option, Result, Ok, Err, List, ◌++◌, length, take, drop}
use Rattle.std.proofs.Common.{refl, sym, ap, ◌∙◌, subst, arith, drop_at, length-take-le, le_refl}
use lib.Dec.{T}
use lib.Signed.{lt_z}
use borrow.Author.Tests.{ltb-true}
use borrow.Rule.Slice.PartMut.{put_mid, post_of}
use lib.Seq.{take-add, take-append-le}
use Rattle.std.proofs.KnownBytes.{Consumes-trans, Consumes-kept}
use Rattle.std.proofs.lemmas.Slice.{take-put_mid_below}
use Rattle.std.specs.Io.{ReadsAtMost}
use Rattle.std.specs.Io.KnownBytes.{Consumes, ReadConsumes}
use Rattle.std.specs.IoError.{error_kind}
use Rattle.std.specs.declared.io.Error.{Error}
use Rattle.std.specs.declared.io.ErrorKind.{ErrorKind}
use Rattle.std.specs.declared.io.ErrorKind.TheVariants as kind
use Rattle.std.specs.declared.ops.ControlFlow.{ControlFlow}
use Rattle.std.specs.declared.ops.ControlFlow.TheVariants.{Continue}
use Rattle.lexer.specs.Tests.{pick}
use Rattle.replies.specs.internal.Input.{Outcome, Got, End, Interrupted, Failed, Script, More, Done}
use Rattle.replies.specs.internal.Input.{outcome_of, after_call, GotWithin, failure_said, outcome_said, progress_said, AfterCall}
use Rattle.replies.specs.declared.Unreadable.{Unreadable as NoScript}
use Rattle.replies.specs.declared.script.Reading.{Reading}

-- a negative result is a failure
pub failed_call : (z : ℤ) (interrupted : Bool) (count : ℕ) → lt_z z (pos 0) ≡ true → pick interrupted Interrupted Failed ≡ outcome_of z interrupted count
unfolding outcome_of
failed_call (pos n) interrupted count h = let none = ltb-true n 0 h in absurd (omega arith)
failed_call (negsuc n) interrupted count h = refl

-- any other is the end, or bytes
pub ended_call : (z : ℤ) (interrupted : Bool) (count : ℕ) → lt_z z (pos 0) ≡ false → count ≡ 0 → End ≡ outcome_of z interrupted count
unfolding outcome_of
ended_call (pos n) interrupted zero h none = refl
ended_call (pos n) interrupted (suc count) h none = absurd (omega arith)
ended_call (negsuc n) interrupted count h none = absurd (subst T h tt)

pub got_call : (z : ℤ) (interrupted : Bool) (count : ℕ) → lt_z z (pos 0) ≡ false → (count ≡ 0 → ⊥) → Got count ≡ outcome_of z interrupted count
unfolding outcome_of
got_call (pos n) interrupted zero h some = absurd (some refl)
got_call (pos n) interrupted (suc count) h some = refl
got_call (negsuc n) interrupted count h some = absurd (subst T h tt)

-- the bytes that a call got are one at least, and as many as were counted
pub got_counted : (z : ℤ) (interrupted : Bool) (counted count : ℕ) → outcome_of z interrupted counted ≡ Got count → (0 < count) × (count ≡ counted)
unfolding outcome_of
got_counted (pos n) interrupted zero count h = let z : ◌≡◌ {A = ℕ} 0 1 = cc in absurd (omega arith)
got_counted (pos n) interrupted (suc counted) count h = let same : suc counted ≡ count = cc in (omega arith, sym same)
got_counted (negsuc n) true counted count h = let z : ◌≡◌ {A = ℕ} 0 1 = cc in absurd (omega arith)
got_counted (negsuc n) false counted count h = let z : ◌≡◌ {A = ℕ} 0 1 = cc in absurd (omega arith)

-- what the code's own result says of a call is what these numbers say: of one that gave bytes or the end, ..
pub counted_said : (count : ℕ) → outcome_said (Ok count) ≡ outcome_of (pos 0) false count
unfolding outcome_of
counted_said zero = refl
counted_said (suc count) = refl

-- .. of one that a signal interrupted, ..
pub signal_said : failure_said kind.Interrupted ≡ outcome_of (negsuc 0) true 0
unfolding outcome_of
signal_said = refl

-- .. and of one that failed
pub lost_said : (why : ErrorKind) → (why ≢ kind.Interrupted) → failure_said why ≡ outcome_of (negsuc 0) false 0
unfolding outcome_of
lost_said kind.Interrupted other = absurd (other refl)
lost_said _ other = refl

-- after a call that was interrupted, where a retry is left
pub tried_again : (done retries : ℕ) → (retries ≡ 0 → ⊥) → More done (retries - 1) ≡ after_call done retries Interrupted
unfolding after_call
tried_again done zero some = absurd (some refl)
tried_again done (suc retries) some = let one : suc retries - 1 ≡ retries = omega arith in rw one

-- where reading goes on, it has put a byte or taken a retry
pub goes_on : (done retries room : ℕ) (outcome : Outcome) (bytes left : ℕ) → GotWithin room outcome
    → after_call done retries outcome ≡ More bytes left → (bytes ≤ done + room) × (done + room - bytes + left < room + retries)
unfolding after_call
goes_on done retries room (Got count) bytes left within h =
    let inside = within count refl in
    let some = inside.0 in
    let most = inside.1 in
    let far : done + count ≡ bytes = cc in
    let same : retries ≡ left = cc in
    (omega arith, omega arith)
goes_on done retries room End bytes left within h = let z : ◌≡◌ {A = ℕ} 0 1 = cc in absurd (omega arith)
goes_on done zero room Interrupted bytes left within h = let z : ◌≡◌ {A = ℕ} 0 1 = cc in absurd (omega arith)
goes_on done (suc retries) room Interrupted bytes left within h =
    let far : done ≡ bytes = cc in
    let same : retries ≡ left = cc in
    (omega arith, omega arith)
goes_on done retries room Failed bytes left within h = let z : ◌≡◌ {A = ℕ} 0 1 = cc in absurd (omega arith)

-- a script that reading has come to is the bytes there are
pub comes_to : (done retries : ℕ) (outcome : Outcome) (count : ℕ) → after_call done retries outcome ≡ Done (Script count) → done ≡ count
unfolding after_call
comes_to done retries (Got n) count h = let z : ◌≡◌ {A = ℕ} 0 1 = cc in absurd (omega arith)
comes_to done retries End count h = cc
comes_to done zero Interrupted count h = let z : ◌≡◌ {A = ℕ} 0 1 = cc in absurd (omega arith)
comes_to done (suc retries) Interrupted count h = let z : ◌≡◌ {A = ℕ} 0 1 = cc in absurd (omega arith)
comes_to done retries Failed count h = let z : ◌≡◌ {A = ℕ} 0 1 = cc in absurd (omega arith)

-- after a call that a signal interrupted, as the code answers
interrupted_said : (done retries : ℕ) (answer : Result (ControlFlow ℕ Reading) NoScript)
    → (0 < retries → answer ≡ Ok (Continue (record { done = done; retries = retries - 1 }))) → (retries ≡ 0 → answer ≡ Err (record {}))
    → progress_said answer ≡ after_call done retries Interrupted
unfolding after_call
interrupted_said done zero answer on over = ap progress_said (over refl)
interrupted_said done (suc retries) answer on over = ap progress_said (on (omega arith)) ∙ tried_again done (suc retries) (λ none. omega arith)

-- after a call that failed
failure_said_by : (reading : Reading) (why : ErrorKind) (answer : Result (ControlFlow ℕ Reading) NoScript)
    → (why ≡ kind.Interrupted → 0 < reading.retries → answer ≡ Ok (Continue (record reading { retries = reading.retries - 1 })))
    → (why ≡ kind.Interrupted → reading.retries ≡ 0 → answer ≡ Err (record {})) → (why ≢ kind.Interrupted → answer ≡ Err (record {}))
    → progress_said answer ≡ after_call reading.done reading.retries (failure_said why)
unfolding after_call
failure_said_by reading kind.Interrupted answer on over failed = interrupted_said reading.done reading.retries answer (on refl) (over refl)
failure_said_by reading _ answer on over failed = ap progress_said (failed (λ same. let z : ◌≡◌ {A = ℕ} 0 1 = cc in omega arith))

-- what the code answers after a call is how far reading has come
pub said_by : (reading : Reading) (call : Result ℕ Error) (answer : Result (ControlFlow ℕ Reading) NoScript) → AfterCall reading call answer
    → progress_said answer ≡ after_call reading.done reading.retries (outcome_said call)
unfolding after_call
said_by reading (Ok zero) answer after = ap progress_said after
said_by reading (Ok (suc count)) answer after = ap progress_said after
said_by reading (Err error) answer after = failure_said_by reading (error_kind error) answer after.0 after.1 after.2

-- a call got no more bytes than there was room for
got_by : (room : ℕ) (why : ErrorKind) → GotWithin room (failure_said why)
got_by room kind.Interrupted count same = let z : ◌≡◌ {A = ℕ} 0 1 = cc in absurd (omega arith)
got_by room _ count same = let z : ◌≡◌ {A = ℕ} 0 1 = cc in absurd (omega arith)

pub got_within : (call : Result ℕ Error) (part : List ℕ) → ReadsAtMost call part → GotWithin (length part) (outcome_said call)
got_within (Ok zero) part within count same = let z : ◌≡◌ {A = ℕ} 0 1 = cc in absurd (omega arith)
got_within (Ok (suc n)) part within count same =
    let counted : suc n ≡ count = cc in
    let most = within.0 in
    (omega arith, omega arith)
got_within (Err error) part within count same = got_by (length part) (error_kind error) count same

-- where reading goes on after a failure, it has put no bytes
failed_on : (reading on : Reading) (error : Error) → AfterCall reading (Err error) (Ok (Continue on)) → on.done ≡ reading.done
failed_on reading on error after = grind (arith, after.0, after.1, after.2)

-- where reading goes on, it has put no more bytes than the call did
pub puts_no_more : (reading on : Reading) (call : Result ℕ Error) (part : List ℕ) → AfterCall reading call (Ok (Continue on)) → ReadsAtMost call part
    → on.done ≤ reading.done + length part
puts_no_more reading on (Ok zero) part after within = cc
puts_no_more reading on (Ok (suc n)) part after within =
    let done : on.done ≡ reading.done + suc n = cc in
    let most = within.0 in
    omega arith
puts_no_more reading on (Err error) part after within = let done = failed_on reading on error after in omega arith

-- a front of a buffer that is put past its middle
take-read : (at k n : ℕ) (buffer part : List ℕ) → at ≤ length buffer → n ≤ length part
    → take (at + n) (put_mid at k buffer part) ≡ take at buffer ++ take n part
take-read at k n buffer part inside fits =
    let after = post_of at k buffer in
    let rest = ap (take n) (drop_at (take at buffer) (part ++ after) at (length-take-le at buffer inside)) ∙ take-append-le n part after fits in
    take-add at n (put_mid at k buffer part)
    ∙ ap (λ (l : List ℕ). l ++ take n (drop at (put_mid at k buffer part))) (take-put_mid_below at k buffer part at (le_refl _) inside)
    ∙ ap (λ (l : List ℕ). take at buffer ++ l) rest

-- where reading goes on, what is read is what was taken from the input
pub takes : (reading on : Reading) (call : Result ℕ Error) (start before now : Option (List ℕ)) (k : ℕ) (buffer part : List ℕ)
    → AfterCall reading call (Ok (Continue on)) → ReadsAtMost call part → ReadConsumes before now call part → reading.done ≤ length buffer
    → Consumes start before (take reading.done buffer) → Consumes start now (take on.done (put_mid reading.done k buffer part))
takes reading on (Ok zero) start before now k buffer part after within read inside h = cc
takes reading on (Ok (suc n)) start before now k buffer part after within read inside h =
    let done : reading.done + suc n ≡ on.done = cc in
    let more = sym (take-read reading.done k (suc n) buffer part inside within.0) ∙ ap (λ m. take m (put_mid reading.done k buffer part)) done in
    subst (Consumes start now) more (Consumes-trans start before now _ _ h read.0)
takes reading on (Err error) start before now k buffer part after within read inside h =
    let done = sym (failed_on reading on error after) in
    let same = sym (take-put_mid_below reading.done k buffer part reading.done (le_refl _) inside)
    ∙ ap (λ m. take m (put_mid reading.done k buffer part)) done in
    subst (Consumes start now) same (Consumes-kept start before now _ h read)
