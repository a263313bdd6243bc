-- What a side does by a call on its client, and how that ends.
use Rattle.std.specs.Prelude.{IfSome, List, Ok, Option, is_some, length, option_map, ℕ, ⊤, ◌≡◌}
use Rattle.arrayvec.specs.ArrayVec.{ArrayVec}
use Rattle.dr_base.specs.Bytes.{AreBytes}
use Rattle.dr_base.specs.declared.key.Key32.{Key32}
use Rattle.dr_model.specs.Machines.Acts.{Act, dropping, saying, taking}
use Rattle.session_model.specs.Clients.{Client, say_check}
use Rattle.session_model.specs.declared.answer.Which.TheVariants.{OfId, Oldest}
use Rattle.client.specs.Outcomes.{Outcome, acknowledged, faulted, is_closed, refused, undrawn}
use Rattle.scripts.specs.Seen.{content_said}
use Rattle.scripts.specs.declared.call.Call.{Call}
use Rattle.scripts.specs.declared.call.Call.TheVariants.{Drop, DropLong, Say, Take}
use Rattle.parties.specs.declared.acts.Ended.{Ended}
use Rattle.parties.specs.declared.acts.Ended.TheVariants.{Acknowledged, Faulted, Refused}
use Rattle.parties.specs.declared.acts.Seeded.{Seeded}

-- a call with all that a side's client is called with
abbrev pub CallOfClient : Type 0
CallOfClient = Call Seeded (ArrayVec ℕ) ℕ

-- the draw of a seed that may be there
abbrev pub draw_given : Option Key32 → Option (List ℕ)
draw_given seed = option_map (λ key. key.bytes) seed

-- the act that a call is
abbrev pub act_of_call : CallOfClient → Act
act_of_call (Say seeded) = saying (content_said seeded.said) (draw_given seeded.seed)
act_of_call (Take packet) = taking packet.items
act_of_call (Drop items n) = dropping (Oldest items n)
act_of_call (DropLong id) = dropping (OfId id)

-- what is said passed the check, and has a seed of 32 bytes exactly where it needs one; bytes are bytes
abbrev pub IsChecked : Client → Act → Type 0
IsChecked c (saying content draw) =
    (say_check c content ≡ Ok (is_some draw)) × IfSome draw (λ seed. length seed ≡ 32)
IsChecked c (taking bytes) = AreBytes bytes
IsChecked c _ = ⊤

-- how the call ended
abbrev pub ended_as : Ended → Outcome
ended_as (Acknowledged answer) = acknowledged answer
ended_as (Refused refusal) = refused refusal
ended_as (Faulted call) = faulted call

-- the client was open, and a seed was there where it needed one
abbrev pub IsEnded : Outcome → Type 0
IsEnded (is_closed call) = ⊥
IsEnded undrawn = ⊥
IsEnded _ = ⊤
