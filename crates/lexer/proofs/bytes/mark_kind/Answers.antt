-- `lexer::bytes::mark_kind` meets its contract: each arm by computation, all other bytes by one computed test.
-- Assumes nothing.
use Prim.Native.Nat.{ℕ, zero-le}
use mathlib.Core.List.{List, [], ◌∷◌}
use Rattle.lexer.specs.Tests.{and, or, among}
use Rattle.lexer.specs.Spellings.{same, kind_of, spelled_marks}
use Rattle.lexer.specs.Editions.{edition17}
use Rattle.lexer.specs.Text.{bytes}
use Rattle.lexer.proofs.Laws.Computed.{none, elsewhere}
use Rattle.lexer.proofs.bytes.mark_kind.Goals as goal

-- the bytes of the arms, the last first
abbrev arms : List ℕ
arms = bytes "></-+*#.?\\^!][)(}{~;=|:%@&$"

pub returns-in-36 : goal.returns-in-36
unfolding kind_of spelled_marks same and
returns-in-36 c = rw c.in-36.is

pub returns-in-38 : goal.returns-in-38
unfolding kind_of spelled_marks same and
returns-in-38 c = rw c.in-38.is

pub returns-in-64 : goal.returns-in-64
unfolding kind_of spelled_marks same and
returns-in-64 c = rw c.in-64.is

pub returns-in-37 : goal.returns-in-37
unfolding kind_of spelled_marks same and
returns-in-37 c = rw c.in-37.is

pub returns-in-58 : goal.returns-in-58
unfolding kind_of spelled_marks same and
returns-in-58 c = rw c.in-58.is

pub returns-in-124 : goal.returns-in-124
unfolding kind_of spelled_marks same and
returns-in-124 c = rw c.in-124.is

pub returns-in-61 : goal.returns-in-61
unfolding kind_of spelled_marks same and
returns-in-61 c = rw c.in-61.is

pub returns-in-59 : goal.returns-in-59
unfolding kind_of spelled_marks same and
returns-in-59 c = rw c.in-59.is

pub returns-in-126 : goal.returns-in-126
unfolding kind_of spelled_marks same and
returns-in-126 c = rw c.in-126.is

pub returns-in-123 : goal.returns-in-123
unfolding kind_of spelled_marks same and
returns-in-123 c = rw c.in-123.is

pub returns-in-125 : goal.returns-in-125
unfolding kind_of spelled_marks same and
returns-in-125 c = rw c.in-125.is

pub returns-in-40 : goal.returns-in-40
unfolding kind_of spelled_marks same and
returns-in-40 c = rw c.in-40.is

pub returns-in-41 : goal.returns-in-41
unfolding kind_of spelled_marks same and
returns-in-41 c = rw c.in-41.is

pub returns-in-91 : goal.returns-in-91
unfolding kind_of spelled_marks same and
returns-in-91 c = rw c.in-91.is

pub returns-in-93 : goal.returns-in-93
unfolding kind_of spelled_marks same and
returns-in-93 c = rw c.in-93.is

pub returns-in-33 : goal.returns-in-33
unfolding kind_of spelled_marks same and
returns-in-33 c = rw c.in-33.is

pub returns-in-94 : goal.returns-in-94
unfolding kind_of spelled_marks same and
returns-in-94 c = rw c.in-94.is

pub returns-in-92 : goal.returns-in-92
unfolding kind_of spelled_marks same and
returns-in-92 c = rw c.in-92.is

pub returns-in-63 : goal.returns-in-63
unfolding kind_of spelled_marks same and
returns-in-63 c = rw c.in-63.is

pub returns-in-46 : goal.returns-in-46
unfolding kind_of spelled_marks same and
returns-in-46 c = rw c.in-46.is

pub returns-in-35 : goal.returns-in-35
unfolding kind_of spelled_marks same and
returns-in-35 c = rw c.in-35.is

pub returns-in-42 : goal.returns-in-42
unfolding kind_of spelled_marks same and
returns-in-42 c = rw c.in-42.is

pub returns-in-43 : goal.returns-in-43
unfolding kind_of spelled_marks same and
returns-in-43 c = rw c.in-43.is

pub returns-in-45 : goal.returns-in-45
unfolding kind_of spelled_marks same and
returns-in-45 c = rw c.in-45.is

pub returns-in-47 : goal.returns-in-47
unfolding kind_of spelled_marks same and
returns-in-47 c = rw c.in-47.is

pub returns-in-60 : goal.returns-in-60
unfolding kind_of spelled_marks same and
returns-in-60 c = rw c.in-60.is

pub returns-in-62 : goal.returns-in-62
unfolding kind_of spelled_marks same and
returns-in-62 c = rw c.in-62.is

pub returns-in_default : goal.returns-in_default
unfolding kind_of spelled_marks same and or among bytes
returns-in_default c =
    elsewhere (λ b. kind_of edition17.marks (b ∷ [])) 0 (among arms) 0 256 tt _ zero-le c.ranges.b.fits
    (none arms _ c.in_default.in_default-own.rest)
