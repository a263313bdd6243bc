-- A step of one side, and what the network gets of it.
use Rattle.std.specs.Prelude.{drop, if◌then◌else◌, length, nat_lt, ℕ, ◌++◌, ◌-◌}
use Rattle.dr_base.specs.declared.position.Side.{Side}
use Rattle.dr_model.specs.Machines.Sides.{Sides, client_of, with_client}
use Rattle.dr_model.specs.Machines.Steps.{Step}
use Rattle.session_model.specs.Clients.{Client}

-- a step of one side, among both
abbrev pub on_side : Sides → Side → Step Client → Step Sides
on_side s side made = record { answer = made.answer; shown = made.shown; next = with_client s side made.next }

-- the network gets what stands after this many packets of a side's outbox
abbrev pub gathered : ℕ → Side → Sides → Sides
gathered held side s = record s { posts = s.posts ++ drop held (client_of s side).outbox }

-- a step of one side where the network gets what it adds to the outbox
abbrev pub gathering : Sides → Side → Step Client → Step Sides
gathering s side made = record {
  answer = made.answer;
  shown = made.shown;
  next = gathered (length (client_of s side).outbox) side (with_client s side made.next);
}

-- where the newest packet of an outbox of this many stands, if there were fewer
abbrev pub newest_from : ℕ → ℕ → ℕ
newest_from held many = if nat_lt held many then many - 1 else many

-- a side keeps this, and the network gets the newest packet of its outbox, where it has more than before
abbrev pub gathers : Sides → Side → Client → Sides
gathers s side next =
    gathered (newest_from (length (client_of s side).outbox) (length next.outbox)) side (with_client s side next)
