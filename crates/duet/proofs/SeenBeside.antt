-- What both sides keep in a world, and what stands beside them.
use Rattle.std.proofs.Common.{Bool, None, Option, Some, ap, ap₂, false, if◌then◌else◌, refl, true, ◌≡◌}
use Rattle.std.specs.Prelude.{IfSome, option_map}
use Rattle.dr_base.specs.declared.position.Side.{Side}
use Rattle.dr_base.specs.declared.position.Side.TheVariants.{First, Second}
use Rattle.dr_model.specs.Machines.Acts.{Act, act_on}
use Rattle.dr_model.specs.Machines.Steps.{settled}
use Rattle.dr_model.specs.Machines.Worlds.{World}
use Rattle.dr_model.specs.Machines.WorldSides.{kept_in, sides_of}
use Rattle.kem_laws.specs.Mechanism.{Mechanism}
use Rattle.session_model.specs.Clients.{Client}
use Rattle.scripts.specs.Deeds.{Deed}
use Rattle.scripts.specs.Sides.{deed_side}
use Rattle.duet.specs.Outcomes.{SidesBeside, SidesPlayed, WorldBeside, WorldPlayed, barring}
use Rattle.parties.specs.Shuts.{Shut}
use Rattle.duet.specs.Shuts.{Shuts, needs_open, shut_of}
use Rattle.duet.proofs.SaidBoxes.{KeepsShut}

-- the client that a closed side has next
abbrev pub left_in : Mechanism → World → Side → Option Act → Client
left_in k w side None = kept_in k w side
left_in k w side (Some act) = (settled (kept_in k w side) (act_on k (kept_in k w side) act)).next

abbrev pub seen_shut : Mechanism → World → Side → Shut (Option Act) → Shut Client
seen_shut k w side shut = record { call = shut.call; left = left_in k w side shut.left }

abbrev pub seen_shuts : Mechanism → World → Shuts (Option Act) → Shuts Client
seen_shuts k w shuts = record {
  first = option_map (seen_shut k w First) shuts.first;
  second = option_map (seen_shut k w Second) shuts.second;
}

abbrev pub seen_beside : Mechanism → WorldBeside → SidesBeside
seen_beside k s = record { ends = sides_of k s.ends; boxes = s.boxes; shuts = seen_shuts k s.ends s.shuts }

abbrev pub seen_played : Mechanism → WorldPlayed → SidesPlayed
seen_played k made = record { answers = made.answers; lines = made.lines; next = seen_beside k made.next }

-- of one side
pub shut_seen : (k : Mechanism) (w : World) (shuts : Shuts (Option Act)) (side : Side)
    → shut_of (seen_shuts k w shuts) side ≡ option_map (seen_shut k w side) (shut_of shuts side)
shut_seen k w shuts First = refl
shut_seen k w shuts Second = refl

-- the same deeds are barred
pub barring_seen : (k : Mechanism) (w : World) (shuts : Shuts (Option Act)) (deed : Deed)
    → barring (seen_shuts k w shuts) deed ≡ option_map (seen_shut k w (deed_side deed)) (barring shuts deed)
unfolding barring
barring_seen k w shuts deed = by_test (needs_open deed)
  where
    by_test : (b : Bool)
        → (if b then shut_of (seen_shuts k w shuts) (deed_side deed) else None)
        ≡ option_map (seen_shut k w (deed_side deed)) (if b then shut_of shuts (deed_side deed) else None)
    by_test true = shut_seen k w shuts (deed_side deed)
    by_test false = refl

-- what was left is the same, where closed sides keep what they kept
left_same : (k : Mechanism) (w next : World) (side : Side) (left : Option Act) → kept_in k next side ≡ kept_in k w side
    → left_in k next side left ≡ left_in k w side left
left_same k w next side None same = same
left_same k w next side (Some act) same = ap (λ (c : Client). (settled c (act_on k c act)).next) same

pub seen_same : (k : Mechanism) (w next : World) (shuts : Shuts (Option Act)) → KeepsShut k shuts w next
    → seen_shuts k next shuts ≡ seen_shuts k w shuts
seen_same k w next shuts keeps =
    ap₂ (λ (a b : Option (Shut Client)). let both : Shuts Client = record { first = a; second = b } in both)
    (of_side First shuts.first (keeps First)) (of_side Second shuts.second (keeps Second))
  where
    of_side : (side : Side) (o : Option (Shut (Option Act))) → IfSome o (λ _. kept_in k next side ≡ kept_in k w side)
        → option_map (seen_shut k next side) o ≡ option_map (seen_shut k w side) o
    of_side side None same = refl
    of_side side (Some shut) same =
        ap (λ (c : Client). let seen : Shut Client = record { call = shut.call; left = c } in Some seen)
        (left_same k w next side shut.left same)
