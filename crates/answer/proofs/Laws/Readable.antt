-- What the demands say of the tokens of a source is what the scan computes. Assumes nothing.
use Prim.Native.Nat.{ℕ}
use mathlib.Core.Path.{◌≡◌, ap}
use mathlib.Core.Bool.{true}
use mathlib.Core.List.{List}
use Rattle.lexer.specs.Tokens.{Token, clean, fault, Tiles}
use Rattle.lexer.specs.executable.Scans.{Scan, cleanly, scan}
use Rattle.lexer.proofs.Laws.Sizes.{spelled}
use Rattle.lexer.proofs.Laws.Scans.{found_once}
use Rattle.lexer.proofs.Laws.Tiles.{scan_tiles, tiles_scan}
use Rattle.grammar.specs.Languages.{Language}
use Rattle.answer.specs.Demands.{Admitted, Readable}

module _ (l : Language) (good : spelled l.lexical.marks ≡ true) (source names : List ℕ) where
  -- clean tokens
  pub readable_scan : {ts : List Token} → Readable l source names ts → scan l.lexical source ≡ cleanly ts
  readable_scan {ts = ts} r = tiles_scan l.lexical good source ts clean r.tiles

  pub scan_readable : Admitted l source names → (scan l.lexical source).ending ≡ clean
      → Readable l source names (scan l.lexical source).found
  scan_readable a h = record { admitted = a; tiles = rw h at (scan_tiles l.lexical good source) }

  -- a fault
  pub tiles_fault : {ts : List Token} {number place : ℕ} → Tiles l.lexical 0 source ts (fault number place)
      → (scan l.lexical source).ending ≡ fault number place
  tiles_fault {ts = ts} {number = number} {place = place} h =
      ap (λ (x : Scan). x.ending) (tiles_scan l.lexical good source ts (fault number place) h)

  pub fault_tiles : {number place : ℕ} → (scan l.lexical source).ending ≡ fault number place
      → Tiles l.lexical 0 source (scan l.lexical source).found (fault number place)
  fault_tiles h = rw h at (scan_tiles l.lexical good source)

  -- the tokens of a source are one list
  pub readable_same : (ts us : List Token) → Readable l source names ts → Readable l source names us → ts ≡ us
  readable_same ts us r k = found_once (scan l.lexical source) ts us (readable_scan r) (readable_scan k)
