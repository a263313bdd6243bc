-- One round.
use Rattle.std.proofs.Common.{◌≡◌, ℕ, List, [], Option, Some, None, drop, length, refl, ◌∙◌, ap}
use Rattle.std.specs.Prelude.{option_map}
use Rattle.dr_ports.specs.Wires.{Port, Told, Took, given, taken}
use Rattle.dr_disk.specs.State.{DiskState}
use Rattle.dr_disk.specs.Spans.{Span}
use Rattle.dr_disk.proofs.Steps.{stays}
use Rattle.relay_wire.specs.Frames.{Held, IsFrame, IsPartial}
use Rattle.relay_wire.specs.Requests.{read_request}
use Rattle.relay_core.specs.Boxes.{Box, answers_read}
use Rattle.relay_pipe.specs.Pulling.{Pulled}
use Rattle.relay_pipe.specs.Exchanging.{exchanged}
use Rattle.relay_pipe.proofs.Exchanged.{gave_exchanges, pulled_held}
use Rattle.relay_server.specs.Durable.{StandsForEitherBoxes}
use Rattle.relay_server.specs.Places.{IsSameBehind}
use Rattle.relay_server.specs.Serving.{Came, Idle}

pub no_call : (d : DiskState) (P : List ℕ → Type 0) → Span d d P
no_call d P = stays d P

pub pulled_part : (old new : Held) (boxes : List Box) (start now : Port) (d : DiskState) → old.bytes ≡ [] → Pulled old new start now → IsPartial new.bytes → Idle new.bytes boxes boxes start now d d
pulled_part old new boxes start now d fresh p partial =
    record { exchanges = gave_exchanges new.bytes start now (pulled_held old new start now fresh p); partial = partial; same = refl; still = no_call d (λ c. ⊥) }

-- ---- a round in which a frame came

then_took : (got put : List ℕ) (o : Option Told) → option_map (taken put) (option_map (given got) o) ≡ option_map (exchanged got put) o
then_took got put None = refl
then_took got put (Some t) = refl

-- and of its reply a part was sent
pub came_part : (reader held : Held) (put : List ℕ) (old new : List Box) (start mid now : Port) (dstart dnow : DiskState)
    → reader.bytes ≡ [] → Pulled reader held start mid → IsFrame held.bytes → Took put mid now
    → new ≡ (answers_read old (read_request (drop 2 held.bytes))).next
    → Span dstart dnow (λ c. StandsForEitherBoxes old new c × IsSameBehind (length old) dstart c)
    → Came held.bytes put old new start now dstart dnow
came_part reader held put old new start mid now dstart dnow fresh pulled whole took next during = record {
  exchanges =
      took ∙ ap (option_map (taken put)) (pulled_held reader held start mid fresh pulled) ∙ then_took held.bytes put start.told;
  whole = whole;
  next = next;
  during = during;
}
