-- Where a world begins.
use Rattle.std.proofs.Common.{◌≡◌, ℕ, ◌≤◌, ◌&&◌, nat_le, true, List, [], length, refl, ap, arith}
use Rattle.std.specs.Prelude.{Some, is_some}
use Rattle.std.proofs.lemmas.Bool.Decides.{nat_tests}
use Rattle.std.proofs.lemmas.List.Elements.{All-nil}
use Rattle.dr_base.specs.declared.limits.TheConstants.{OUTBOX_LIMIT, TEXT_LIMIT}
use Rattle.dr_base.specs.declared.position.Side.{Side}
use Rattle.dr_base.specs.declared.position.Side.TheVariants.{First, Second}
use Rattle.fs_aead.specs.Chain.{chain_of}
use Rattle.kem_laws.specs.Mechanism.{Mechanism}
use Rattle.session_model.specs.BoxKeys.{relay_keys_of}
use Rattle.session_model.specs.Schedule.{agreement_seed}
use Rattle.session_model.specs.States.{opening_state}
use Rattle.session_model.specs.Turns.{turn_at}
use Rattle.session_model.proofs.Waiting.{waiting-none}
use Rattle.dr_model.specs.Conversations.Conversation.{Said, is_said, opening_conversation, positions_after}
use Rattle.dr_model.specs.Conversations.Indices.{missing_to, reach}
use Rattle.dr_model.specs.Conversations.Formats.{Formats, side_format}
use Rattle.dr_model.specs.Conversations.Lawful.{IsSeed, IsLawfulConversation, HasArrived, IsLawfulView}
use Rattle.dr_model.specs.Conversations.Standing.{is_in}
use Rattle.dr_model.specs.Conversations.ViewStates.{client_at, view_phase}
use Rattle.dr_model.specs.Conversations.Views.{opening_view, missing_below, missing_of, outbox_of}
use Rattle.dr_model.specs.Machines.Worlds.{opening_world}
use Rattle.dr_model.specs.Theorems.LawfulWorlds.{IsLawfulWorld}
use Rattle.dr_model.proofs.Growth.BoxSizes.{length-inbox_of}

-- nothing was said
none_said : (i : ℕ) → (nat_le 1 i && nat_le i 0) ≡ true → ⊥
none_said i said = grind (arith, nat_tests)

lawful_opening_conversation : (k : Mechanism) (key : List ℕ) (formats : Formats) → is_some (k.meaning.pair_of (agreement_seed key)) ≡ true
    → IsLawfulConversation k (opening_conversation key formats)
lawful_opening_conversation k key formats some = record {
  begins = some;
  turns = All-nil (IsSeed k);
  few_turns = omega arith;
  short = All-nil (λ (s : Said). length s.body.content ≤ TEXT_LIMIT);
  begun = All-nil (λ (s : Said). s.epoch ≤ 0);
  few = λ epoch. omega arith;
  some = λ epoch one last. absurd (omega arith);
  bodies = λ p said. absurd (none_said p.index said);
  bounded = λ p said. absurd (none_said p.index said);
}

-- nothing is missing
opening_missing : (key : List ℕ) (formats : Formats) (side : Side) → missing_of (opening_conversation key formats) (opening_view side) ≡ []
unfolding missing_below missing_to reach
opening_missing key formats First = refl
opening_missing key formats Second = refl

-- no packet stands in the outbox
opening_packets : (k : Mechanism) (key : List ℕ) (formats : Formats) (side : Side)
    → length (outbox_of k (opening_conversation key formats) (opening_view side)) ≤ OUTBOX_LIMIT
unfolding positions_after
opening_packets k key formats First = omega arith
opening_packets k key formats Second = omega arith

opening_lawful : (k : Mechanism) (key : List ℕ) (formats : Formats) (side : Side)
    → IsLawfulView k (opening_conversation key formats) side (opening_view side)
opening_lawful k key formats side = record {
  side_is = refl;
  reached = omega arith;
  near_end = omega arith;
  waits = λ next. absurd (omega arith);
  arrivals = All-nil (HasArrived (opening_conversation key formats) (opening_view side));
  once = λ p. omega arith;
  some = λ epoch one most peers. absurd (omega arith);
  near = omega (arith, ap length (opening_missing key formats side));
  done = record { once = tt; had = All-nil (λ p. is_in [] p ≡ true) };
  dropped_fits = omega arith;
  few_texts = omega (arith, length-inbox_of (opening_conversation key formats) (opening_view side));
  few_packets = opening_packets k key formats side;
  awaiting = waiting-none side 0 (view_phase k (opening_conversation key formats) (opening_view side));
  awaiting_said = All-nil (λ p. is_said (opening_conversation key formats) p ≡ true);
  receipts = λ p said own. absurd (none_said p.index said);
}

pub lawful_opening : (k : Mechanism) (key : List ℕ) (formats : Formats) → is_some (k.meaning.pair_of (agreement_seed key)) ≡ true
    → IsLawfulWorld k (opening_world key formats)
lawful_opening k key formats some = record {
  conversation = lawful_opening_conversation k key formats some;
  first = opening_lawful k key formats First;
  second = opening_lawful k key formats Second;
  given = tt;
}

-- what a client keeps there
pub opening_client : (k : Mechanism) (key : List ℕ) (formats : Formats) (side : Side)
    → client_at k (opening_conversation key formats) (opening_view side)
    ≡ record { state = opening_state k key side (side_format formats side); inbox = []; outbox = []; relay = Some (relay_keys_of key) }
unfolding missing_below missing_to reach turn_at chain_of positions_after
opening_client k key formats First = refl
opening_client k key formats Second = refl
