-- What one side does by itself, in a world.
use Rattle.std.specs.Prelude.{List, None, Option, Some, ℕ}
use Rattle.dr_base.specs.declared.position.Side.{Side}
use Rattle.kem_laws.specs.Mechanism.{Mechanism}
use Rattle.session_model.specs.Clients.{Client}
use Rattle.session_model.specs.declared.answer.Amount.TheVariants.{Exactly}
use Rattle.session_model.specs.declared.answer.Which.{Which}
use Rattle.session_model.specs.declared.answer.Which.TheVariants.{OfId, Oldest}
use Rattle.dr_model.specs.Machines.Acts.{Act, dropping, saying, taking}
use Rattle.dr_model.specs.Machines.Events.{Event, SideCall, does, drops, drops_long, of_bytes, says, takes}
use Rattle.dr_model.specs.Machines.Steps.{Step}
use Rattle.dr_model.specs.Machines.WorldSides.{kept_in}
use Rattle.dr_model.specs.Machines.Worlds.{World, step_of}

-- the call by which items leave
abbrev pub drop_call : Which → SideCall
drop_call (Oldest items n) = drops items (Exactly n)
drop_call (OfId id) = drops_long id

-- the call that it is
abbrev pub call_for : Act → SideCall
call_for (saying content draw) = says content
call_for (taking bytes) = takes (of_bytes bytes)
call_for (dropping which) = drop_call which

-- and the event
abbrev pub event_of : Side → Act → Event
event_of side act = does side (call_for act)

-- the world in which the next draw is the one that was made for it
abbrev pub with_draw : World → Option (List ℕ) → World
with_draw w None = w
with_draw w (Some seed) = record w { draws = record w.draws { given = Some seed } }

abbrev pub world_for : World → Act → World
world_for w (saying content draw) = with_draw w draw
world_for w _ = w

abbrev pub act_in : Mechanism → World → Side → Act → Step World
act_in k w side act = step_of k (world_for w act) (event_of side act)

-- a step of a world, with what a side keeps after it
abbrev pub kept_by : Mechanism → Side → Step World → Step Client
kept_by k side made =
    record { answer = made.answer; shown = made.shown; next = kept_in k made.next side }
