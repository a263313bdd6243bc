-- What one side does by itself, apart from the network, on what it keeps.
use Rattle.std.specs.Prelude.{Bool, Err, List, Ok, Option, Result, [], false, ℕ}
use Rattle.kem_laws.specs.Mechanism.{Mechanism}
use Rattle.session_model.specs.Clients.{Client, SaidText, TakenPacket, say_check, say_on, take_on}
use Rattle.session_model.specs.Contents.{Content}
use Rattle.session_model.specs.Leaving.{drop_check, held_in, left_in_inbox, left_in_outbox}
use Rattle.session_model.specs.declared.answer.Answer.TheVariants.{Opened, Said}
use Rattle.session_model.specs.declared.answer.Items.{Items}
use Rattle.session_model.specs.declared.answer.Refusal.{Refusal}
use Rattle.session_model.specs.declared.answer.Which.{Which}
use Rattle.dr_model.specs.Machines.Draws.{given_or}
use Rattle.dr_model.specs.Machines.Steps.{Step, leaving, step}

pub data Act : Type 0 where
  -- it says a text, or a part of a long one, with the seed that was drawn for it; none is drawn
  -- where none is needed
  saying : (content : Content) → (draw : Option (List ℕ)) → Act
  -- it takes bytes
  taking : (bytes : List ℕ) → Act
  -- items leave their box
  dropping : (which : Which) → Act

-- ---- a client's boxes

-- how many of these items stand in their box
abbrev pub standing_with : Client → Items → ℕ
standing_with client items = held_in client.inbox client.outbox items

-- what is kept once items have left them
abbrev pub dropped_client : Client → Which → Client
dropped_client client which = record client {
  inbox = left_in_inbox which client.inbox;
  outbox = left_in_outbox which client.outbox;
}

-- ---- a step, or a refusal, which changes nothing

abbrev pub said_by : Result SaidText Refusal → Result (Step Client) Refusal
said_by (Ok said) = Ok (step (Said said.post.position) said.next)
said_by (Err refusal) = Err refusal

abbrev pub saying_by : Mechanism → Client → Content → Option (List ℕ) → Result Bool Refusal → Result (Step Client) Refusal
saying_by k client content draw (Ok turns) = said_by (say_on k client content (given_or [] draw))
saying_by k client content draw (Err refusal) = Err refusal

abbrev pub taken_by : Result TakenPacket Refusal → Result (Step Client) Refusal
taken_by (Ok taken) = Ok (step (Opened taken.position) taken.next)
taken_by (Err refusal) = Err refusal

abbrev pub act_on : Mechanism → Client → Act → Result (Step Client) Refusal
act_on k client (saying content draw) = saying_by k client content draw (say_check client content)
act_on k client (taking bytes) = taken_by (take_on k client bytes)
act_on k client (dropping which) =
    leaving which (drop_check which client.inbox client.outbox) (dropped_client client which)

-- whether a content that was checked needs a seed
abbrev pub needs_seed : Result Bool Refusal → Bool
needs_seed (Ok turns) = turns
needs_seed (Err refusal) = false
