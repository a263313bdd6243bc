-- A packet is taken, and the oldest one posted.
use Rattle.std.proofs.Common.{Bool, Err, List, Ok, Option, Result, [], ap, false, refl, subst, sym, true, ℕ, ◌∷◌, ◌≡◌}
use Rattle.std.specs.Prelude.{if◌then◌else◌}
use Rattle.dr_disk.specs.declared.call.Call.{Call}
use Rattle.dr_model.specs.Machines.Acts.{taken_by}
use Rattle.dr_model.specs.Machines.Steps.{Step, settled}
use Rattle.kem_laws.specs.Mechanism.{Mechanism}
use Rattle.relay_wire.specs.Replies.{item}
use Rattle.session_model.specs.Clients.{Client, TakenPacket, take_on}
use Rattle.session_model.specs.declared.answer.Answer.{Answer}
use Rattle.session_model.specs.declared.answer.Answer.TheVariants.{Refused as AnswersRefused}
use Rattle.session_model.specs.declared.answer.Refusal.{Refusal}
use Rattle.session_model.specs.declared.answer.Refusal.TheVariants.{InboxFull}
use Rattle.sync_model.specs.Moves.{Move, acking, fetching, inbox_full, move, over}
use Rattle.sync_model.specs.Parties.{taking as takes}
use Rattle.sync_model.specs.Tokens.{SyncKeys}
use Rattle.client.specs.Syncing.Lines.{answer_line}
use Rattle.client.specs.Syncing.Moments.{BrokenOff, IsAnswerWritten, Moment, Moved, had_no_room, was_cut, was_written}
use Rattle.client.specs.Syncing.Parties.{is_inbox_full, is_no_room, party_of, taken_step}
use Rattle.client.specs.Syncing.Rounds.{MovesTo, round_turn, stops}
use Rattle.client.specs.declared.syncing.faults.SyncFault.{SyncFault}
use Rattle.client.specs.declared.syncing.faults.SyncFault.TheVariants.{Refused, Store}
use Rattle.client.specs.declared.syncing.faults.SyncRefusal.TheVariants.{InboxFull as HasNoRoom}
use Rattle.client.proofs.Syncs.Moving.{wrote_nothing}
use Rattle.client.proofs.Syncs.Turning.{turns_on, turns_to_end, turns_unstored, turns_unwritten}

pub not_no_room : (r : Refusal) → (r ≡ InboxFull → ⊥) → is_no_room r ≡ false
not_no_room InboxFull not = absurd (not refl)
not_no_room _ not = refl

pub not_full : (answer : Answer) → ((r : Refusal) → answer ≡ AnswersRefused r → ⊥) → is_inbox_full answer ≡ false
not_full (AnswersRefused r) not = absurd (not r refl)
not_full _ not = refl

module _ (k : Mechanism) (prefix own peers : List ℕ) (keys : Option SyncKeys) (s : Client) (n number : ℕ) (packet : List ℕ) where
  abbrev made : Step Client
  made = taken_step k s packet

  abbrev took : Move Client
  took = move (party_of k prefix own peers keys) s (fetching n) (item number packet)

  -- without room nothing changes
  no_room_stays : (r : Result TakenPacket Refusal) → is_inbox_full (settled s (taken_by r)).answer ≡ true → (settled s (taken_by r)).next ≡ s
  no_room_stays (Ok taken) full = absurd (let e : false ≡ true = full in cc)
  no_room_stays (Err refusal) full = refl

  -- the move, by whether there is room
  abbrev by_room : Bool → Move Client
  by_room full =
      if full then record { state = s; acts = takes packet ∷ []; lines = []; wait = over inbox_full }
      else record { state = made.next; acts = takes packet ∷ []; lines = answer_line prefix made.answer; wait = acking n number }

  took_is : (full : Bool) → is_inbox_full made.answer ≡ full → took ≡ by_room full
  took_is full is = ap by_room is

  took_state : took.state ≡ made.next
  took_state = by_case (is_inbox_full made.answer) refl
    where
      by_case : (full : Bool) → is_inbox_full made.answer ≡ full → (by_room full).state ≡ made.next
      by_case true is = sym (no_room_stays (take_on k s packet) is)
      by_case false is = refl

  took_lines : (full : Bool) → is_inbox_full made.answer ≡ full → took.lines ≡ (by_room full).lines
  took_lines full is = ap (λ (m : Move Client). m.lines) (took_is full is)

  took_wait : (full : Bool) → is_inbox_full made.answer ≡ full → took.wait ≡ (by_room full).wait
  took_wait full is = ap (λ (m : Move Client). m.wait) (took_is full is)

  module _ (a b : Moment) where
    pub collected_unstored : (call : Call) → BrokenOff made.next call a b → b.sink.taken ≡ a.sink.taken → b.sink.faults ≡ a.sink.faults → MovesTo took a b (stops (Store call))
    collected_unstored call broken taken faults = turns_unstored took made.next took_state a b call broken (wrote_nothing a b taken faults)

    -- the answer that was shown is the step's
    abbrev stopping : Result Unit SyncFault → Type 0
    stopping result = MovesTo took a b (round_turn (acking n number) result)

    shown : Moved made.next a b → (result : Result Unit SyncFault)
        → IsAnswerWritten (answer_line prefix made.answer) (is_inbox_full made.answer) a.sink b.sink result → stopping result
    shown moved result (was_written u room wrote quiet) =
        turns_on took made.next took_state a b (answer_line prefix made.answer) (acking n number) (took_lines false room) (took_wait false room) moved (record { bytes_are = wrote; unfailing = quiet })
    shown moved result (was_cut room beginning rose) =
        turns_unwritten took made.next took_state a b (answer_line prefix made.answer) (took_lines false room) moved (record { beginning = beginning; rose = rose })
    shown moved result (had_no_room full taken faults) =
        turns_to_end took made.next took_state a b inbox_full (Refused HasNoRoom) (took_lines true full) (took_wait true full) refl moved (wrote_nothing a b taken faults)

    pub collected : (answer : Answer) → answer ≡ made.answer → Moved made.next a b → (result : Result Unit SyncFault)
        → IsAnswerWritten (answer_line prefix answer) (is_inbox_full answer) a.sink b.sink result → stopping result
    collected answer is moved result answered =
        shown moved result (subst (λ (x : Answer). IsAnswerWritten (answer_line prefix x) (is_inbox_full x) a.sink b.sink result) is answered)
