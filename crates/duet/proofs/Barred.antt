-- Deeds that are barred, and those that aren't.
use Rattle.std.proofs.Common.{Bool, None, Option, Some, false, if◌then◌else◌, subst, true, ◌≡◌}
use Rattle.dr_base.specs.declared.position.Side.{Side}
use Rattle.dr_disk.specs.declared.call.Call.{Call}
use Rattle.scripts.specs.Deeds.{Deed}
use Rattle.scripts.specs.Lined.{lined_deed}
use Rattle.scripts.specs.Sides.{deed_side}
use Rattle.scripts.specs.declared.lined.Lined.{Lined}
use Rattle.duet.specs.Outcomes.{Beside, Played, barring, lines_alone, unless_barred}
use Rattle.duet.specs.Replies.{closed_line}
use Rattle.parties.specs.Shuts.{Shut}
use Rattle.duet.specs.Shuts.{Shuts, needs_open, shut_of}

-- what holds either way
pub barred_or : {S L : Type 0} (P : Played S L → Type 0) (side : Side) (s : Beside S L) (made : Played S L)
    (shut : Option (Shut L)) → P made → ((call : Call) → P (lines_alone (closed_line side call) s)) → P (unless_barred side s made shut)
barred_or P side s made None free closed = free
barred_or P side s made (Some shut) free closed = closed shut.call

-- where a deed isn't barred that asks for an open client, its side is open
pub is_open : {L : Type 0} (shuts : Shuts L) (deed : Deed) → barring shuts deed ≡ None → needs_open deed ≡ true
    → shut_of shuts (deed_side deed) ≡ None
unfolding barring
is_open {L} shuts deed free needs = by_test (needs_open deed) needs free
  where
    by_test : (b : Bool) → b ≡ true → (if b then shut_of shuts (deed_side deed) else None) ≡ None
        → shut_of shuts (deed_side deed) ≡ None
    by_test true is none = none
    by_test false is none = cc

-- of a line of this kind
pub line_open : {L : Type 0} (shuts : Shuts L) (line other : Lined) → line ≡ other → barring shuts (lined_deed line) ≡ None
    → needs_open (lined_deed other) ≡ true → shut_of shuts (deed_side (lined_deed other)) ≡ None
line_open shuts line other is free needs =
    is_open shuts (lined_deed other) (subst (λ l. barring shuts (lined_deed l) ≡ None) is free) needs
