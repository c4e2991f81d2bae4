-- What was read is answered as all that the input brings is. Assumes nothing.
use Rattle.std.proofs.Common.{◌≡◌, ℕ, ◌<◌, ◌≤◌, inl, Bool, true, false, Option, None, Some, IfSome, Result, Ok, Err, OnOk, List, [], ◌++◌, length, take}
use Rattle.std.proofs.Common.{refl, sym, ap, ◌∙◌, subst, arith, append-nil, length-append, length-take-le, take_all, drop}
use borrow.Author.Tests.{lt-ltb, ltb-true, ltb-false}
use lib.Dec.{ltb}
use lib.Seq.{take-append_seam}
use Rattle.std.specs.Io.KnownBytes.{Appends, Consumes, IsAtEnd}
use Rattle.std.proofs.KnownBytes.{Keeps-refl}
use Rattle.nurl.specs.Texts.{overwritten}
use Rattle.replies.specs.Desk.{script_limit, desk_result, desk_text, text_room}
use Rattle.replies.specs.Served.{Served}
use Rattle.replies.proofs.Laws.Sizes.{reply_fits}

-- all scripts that are too long have one text
long_text : (a b : List ℕ) → script_limit < length a → script_limit < length b → desk_text a ≡ desk_text b
unfolding desk_text desk_result
long_text a b p q = rw (lt-ltb _ _ p, lt-ltb _ _ q) refl

-- a script that was read to the end of the input is all of it, and one that fills the buffer is too long, as is all of it
read_text : (script rest : List ℕ) → (length script < 65536 → rest ≡ []) → length script ≤ 65536 → desk_text (script ++ rest) ≡ desk_text script
read_text script rest end most = by_size (ltb (length script) 65536) refl
  where
    by_size : (t : Bool) → ltb (length script) 65536 ≡ t → desk_text (script ++ rest) ≡ desk_text script
    by_size true h = ap desk_text (ap (λ l. script ++ l) (end (ltb-true _ _ h)) ∙ append-nil script)
    by_size false h =
        let long = ltb-false _ _ h in
        long_text (script ++ rest) script (simp length-append (omega arith)) (omega arith)

-- where what the input brings is known, its text is that of what was read
answered : (input left : Option (List ℕ)) (buffer : List ℕ) (size : ℕ) → length buffer ≡ 65536 → size ≤ length buffer
    → Consumes input left (take size buffer) → (size < length buffer → IsAtEnd left)
    → IfSome input (λ script. desk_text script ≡ desk_text (take size buffer))
answered None left buffer size long within bytes end = tt
answered (Some script) None buffer size long within bytes end = absurd bytes
answered (Some script) (Some rest) buffer size long within bytes end =
    let read = length-take-le size buffer within in
    ap desk_text bytes ∙ read_text (take size buffer) rest (λ h. end (omega arith)) (omega arith)

-- a text that fits stands at the front of what it is written over
front_written : (text before : List ℕ) → length text ≤ length before → take (length text) (overwritten text before) ≡ text
unfolding overwritten
front_written text before fits = rw (take_all (length before) text fits) (take-append_seam text (drop (length text) before))

-- what is printed is the text
pub printed : (script before after : List ℕ) (size : ℕ) → size ≡ length (desk_text script) → after ≡ overwritten (desk_text script) before
    → length before ≡ text_room → take size after ≡ desk_text script
printed script before after size long there room =
    let fits = reply_fits script in
    rw (there, long) (front_written (desk_text script) before (omega arith))

-- what is printed for what was read is what the input asks for
pub served : {E : Type 0} (input left output output' errors : Option (List ℕ)) (buffer text : List ℕ) (size : ℕ) (r : Result Unit E)
    → length buffer ≡ 65536 → size ≤ length buffer → Consumes input left (take size buffer) → (size < length buffer → IsAtEnd left)
    → text ≡ desk_text (take size buffer) → OnOk r (Appends output output' text) → OnOk r (Served input output output' errors errors)
served input left output output' errors buffer text size (Err e) long within bytes end there wrote = tt
served input left output output' errors buffer text size (Ok u) long within bytes end there wrote =
    inl (known input (answered input left buffer size long within bytes end), Keeps-refl errors)
  where
    known : (input : Option (List ℕ)) → IfSome input (λ script. desk_text script ≡ desk_text (take size buffer))
        → IfSome input (λ script. Appends output output' (desk_text script))
    known None same = tt
    known (Some script) same = subst (Appends output output') (there ∙ sym same) wrote
