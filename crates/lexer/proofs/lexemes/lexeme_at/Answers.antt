-- `lexer::lexemes::lexeme_at` meets its contract: the class of the first byte decides the rule. Assumes nothing.
use Prim.Native.Nat.{ℕ, ◌+◌, ◌<◌}
use mathlib.Core.Path.{◌≡◌, ◌∙◌, sym, ap}
use mathlib.Core.Bool.{true}
use mathlib.Core.List.{List, ◌∷◌}
use native.Mathlib.Omega.{arith}
use lib.ListN.{length, drop, get_or}
use borrow.Author.Tests.{eqb-true, eq-eqb, ltb-true, ltb-false}
use Rattle.lexer.specs.Bytes.{is_digit, is_space}
use Rattle.lexer.specs.Editions.{Edition}
use Rattle.lexer.specs.internal.Editions.{edition_of}
use Rattle.lexer.specs.Lexemes.{Lexeme, spaces, comment, word, unsigned_number, number, text, mark, or_else, lexeme}
use Rattle.lexer.specs.internal.Leaves.{byte_class, class_number}
use Rattle.lexer.specs.declared.bytes.ByteClass.{ByteClass}
use Rattle.lexer.specs.declared.bytes.ByteClass.TheVariants.{Digit, Letter, Space, Minus, Slash, Backtick, Other}
use Rattle.lexer.proofs.Laws.Classes.{class_digit, class_space, class_minus, class_slash, class_backtick}
use Rattle.lexer.proofs.Laws.Fronts.{front_none, front_one, byte_there}
use Rattle.lexer.proofs.Laws.Editions.{fits}
use Rattle.lexer.proofs.Laws.Lexemes.{lexeme_letter, lexeme_space, lexeme_digit, lexeme-minus, lexeme-slash, lexeme_backtick}
use Rattle.lexer.proofs.Laws.Lexemes.{lexeme-mark, string_first, slash-mark}
use Rattle.lexer.proofs.lexemes.lexeme_at.Goals as goal
use Rattle.lexer.proofs.lexemes.lexeme_at.Goals.{After-class_of-class}

module _ (c : After-class_of-class) where
  abbrev edition : Edition
  edition = edition_of c.args.edition

  abbrev source : List ℕ
  source = c.args.source.now

  abbrev place : ℕ
  place = c.args.at

  inside : place < length source
  inside = ltb-true _ _ (sym c.in-Some.ensures.lookup.0)

  -- the byte that is looked at, and what the class found tells of it
  abbrev first : ℕ
  first = get_or source place 0

  byte : first < 256
  byte = (c.type_inv.source place).fits

  class-is : (class : ByteClass) → c.class_of-class.result ≡ class → byte_class first ≡ class_number class
  class-is class h =
      let there = byte_there source place _ inside c.in-Some.ensures.lookup.1 in
      ap byte_class there ∙ sym c.class_of-class.ensures ∙ ap class_number h

  digit-there : c.class_of-class.result ≡ Digit → is_digit first ≡ true
  digit-there h = sym (class_digit _ byte) ∙ eq-eqb _ _ (class-is Digit h)

  space-there : c.class_of-class.result ≡ Space → is_space first ≡ true
  space-there h = sym (class_space _ byte) ∙ eq-eqb _ _ (class-is Space h)

  minus-there : c.class_of-class.result ≡ Minus → first ≡ 0x2D
  minus-there h = eqb-true _ _ (sym (class_minus _ byte) ∙ eq-eqb _ _ (class-is Minus h))

  slash-there : c.class_of-class.result ≡ Slash → first ≡ 0x2F
  slash-there h = eqb-true _ _ (sym (class_slash _ byte) ∙ eq-eqb _ _ (class-is Slash h))

  backtick-there : c.class_of-class.result ≡ Backtick → first ≡ 0x60
  backtick-there h = eqb-true _ _ (sym (class_backtick _ byte) ∙ eq-eqb _ _ (class-is Backtick h))

  -- what a rule gives here, where it is the one for the first byte
  here : (f : List ℕ → Lexeme) (l : Lexeme) → l ≡ f (drop place source)
      → ((t : List ℕ) → lexeme edition (first ∷ t) ≡ f (first ∷ t)) → l ≡ lexeme edition (drop place source)
  here f l given h = given ∙ rw (front_one source place inside) (sym (h (drop (place + 1) source)))

pub returns-in_default : goal.returns-in_default
unfolding lexeme
returns-in_default c = rw (front_none c.args.source.now c.args.at (ltb-false _ _ (sym c.in_default.ensures.lookup.0)))

pub spaces_at-requires : goal.spaces_at-requires
spaces_at-requires c =
    (inside (goal.at.spaces_at-requires c).After-class_of-class, space-there (goal.at.spaces_at-requires c).After-class_of-class c.in-Space.is)

pub digits_at-requires : goal.digits_at-requires
digits_at-requires c =
    (inside (goal.at.digits_at-requires c).After-class_of-class, digit-there (goal.at.digits_at-requires c).After-class_of-class c.in-Digit.is)

pub minus_at-requires : goal.minus_at-requires
minus_at-requires c =
    (inside (goal.at.minus_at-requires c).After-class_of-class, minus-there (goal.at.minus_at-requires c).After-class_of-class c.in-Minus.is)

pub slash_at-requires : goal.slash_at-requires
slash_at-requires c =
    (inside (goal.at.slash_at-requires c).After-class_of-class, slash-there (goal.at.slash_at-requires c).After-class_of-class c.in-Slash.is)

pub string_at-requires : goal.string_at-requires
string_at-requires c = (
  inside (goal.at.string_at-requires c).After-class_of-class,
  backtick-there (goal.at.string_at-requires c).After-class_of-class c.in-Backtick.is,
)

pub returns-in-Letter : goal.returns-in-Letter
returns-in-Letter c =
    let at-class-of = (goal.at.returns-in-Letter c).After-class_of-class in
    here at-class-of word _ c.word_at.ensures (λ t. lexeme_letter _ _ t (byte at-class-of) (class-is at-class-of Letter c.in-Letter.is))

pub returns-in-Space : goal.returns-in-Space
returns-in-Space c =
    let at-class-of = (goal.at.returns-in-Space c).After-class_of-class in
    here at-class-of spaces _ c.spaces_at.ensures (λ t. lexeme_space _ _ t (byte at-class-of) (class-is at-class-of Space c.in-Space.is))

pub returns-in-Digit : goal.returns-in-Digit
returns-in-Digit c =
    let at-class-of = (goal.at.returns-in-Digit c).After-class_of-class in
    here at-class-of unsigned_number _ c.digits_at.ensures
    (λ t. lexeme_digit _ _ t (byte at-class-of) (class-is at-class-of Digit c.in-Digit.is))

pub returns-in-Minus : goal.returns-in-Minus
returns-in-Minus c =
    let at-class-of = (goal.at.returns-in-Minus c).After-class_of-class in
    let e = edition at-class-of in
    here at-class-of (λ t. or_else (number e t) (mark e t)) _ c.minus_at.ensures
    (λ t. lexeme-minus e _ t (byte at-class-of) (class-is at-class-of Minus c.in-Minus.is))

pub returns-in-Slash : goal.returns-in-Slash
returns-in-Slash c =
    let args = c.args in
    let at-class-of = (goal.at.returns-in-Slash c).After-class_of-class in
    let e = edition at-class-of in
    let there = slash-there at-class-of c.in-Slash.is in
    here at-class-of (λ t. or_else (comment t) (mark e t)) _
    (rw (slash-mark _ _ (inside at-class-of) there e (fits args.edition)) c.slash_at.ensures)
    (λ t. lexeme-slash e _ t (byte at-class-of) (class-is at-class-of Slash c.in-Slash.is))

pub returns-in-Backtick : goal.returns-in-Backtick
returns-in-Backtick c =
    let at-class-of = (goal.at.returns-in-Backtick c).After-class_of-class in
    let e = edition at-class-of in
    let there = backtick-there at-class-of c.in-Backtick.is in
    here at-class-of (λ t. or_else (text t) (mark e t)) _
    (c.string_at.ensures ∙ sym (string_first _ _ (inside at-class-of) there _))
    (λ t. lexeme_backtick e _ t (byte at-class-of) (class-is at-class-of Backtick c.in-Backtick.is))

pub returns-in-Other : goal.returns-in-Other
returns-in-Other c =
    let at-class-of = (goal.at.returns-in-Other c).After-class_of-class in
    let other = class-is at-class-of Other c.in-Other.is in
    let e = edition at-class-of in
    here at-class-of (mark e) _ c.mark_at.ensures
    (λ t. lexeme-mark e _ t (byte at-class-of)
    (λ q. omega arith) (λ q. omega arith) (λ q. omega arith) (λ q. omega arith) (λ q. omega arith) (λ q. omega arith))
