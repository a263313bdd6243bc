-- What a session answers to a content, a text or a part of a long one, and what it keeps once that is said.
use Rattle.std.specs.Prelude.{Bool, Err, List, None, Ok, Option, Result, Some, false, if◌then◌else◌, map, nat_le, option_map, true, ℕ, ◌+◌}
use Rattle.dr_base.specs.declared.limits.TheConstants.{INDEX_LIMIT, LAST_EPOCH}
use Rattle.bodies.specs.Bodies.{Body}
use Rattle.bodies.specs.Formats.{version_of}
use Rattle.bodies.specs.Receipts.{Receipt, receipt_up_to}
use Rattle.bodies.specs.declared.format.Format.{Format}
use Rattle.bodies.specs.declared.format.Format.TheVariants.{Padded, Plain, Receipts}
use Rattle.boxes.specs.Posts.{Post}
use Rattle.cka.specs.Agreement.{turn_of}
use Rattle.dr_base.specs.Position.{position_at}
use Rattle.dr_base.specs.declared.position.Position.{Position}
use Rattle.fs_aead.specs.Chain.{chain_message_key, next_chain}
use Rattle.kem_laws.specs.Mechanism.{Mechanism}
use Rattle.prf_prng.specs.Root.{next_root, root_key}
use Rattle.session_model.specs.Awaiting.{waiting_with}
use Rattle.session_model.specs.Contents.{Content, content_check, once_checked}
use Rattle.session_model.specs.Sealing.{posted}
use Rattle.session_model.specs.States.{Own, Phase, Reception, State, in_own, in_peers, receiving_epoch}
use Rattle.session_model.specs.declared.answer.Refusal.{Refusal}
use Rattle.session_model.specs.declared.answer.Refusal.TheVariants.{EpochFull, LastEpoch}

-- whether one more may be said, and then whether that needs a seed
abbrev pub phase_check : ℕ → Phase → Result Bool Refusal
phase_check epoch (in_own own) = if nat_le INDEX_LIMIT own.sent then Err EpochFull else Ok false
phase_check epoch (in_peers public) = if nat_le LAST_EPOCH epoch then Err LastEpoch else Ok true

-- whether a content may be said, and then whether that needs a seed
abbrev pub send_check : State → Content → Result Bool Refusal
send_check s content = once_checked (content_check s.format content) (phase_check s.epoch s.phase)

-- how far a session has read the latest epoch of the peer's
abbrev pub read_up_to : Option ℕ → Option Reception → Option Position
read_up_to (Some epoch) (Some r) = Some (position_at epoch r.reach)
read_up_to _ _ = None

-- the receipt of what it has opened: up to there, but for the texts whose keys it keeps
abbrev pub receipt_of : State → Option Receipt
receipt_of s =
    option_map (receipt_up_to (map (λ kept. kept.position) s.kept))
    (read_up_to (receiving_epoch s.side s.epoch) s.receiving)

abbrev pub receipt_in : Format → State → Option Receipt
receipt_in Plain s = None
receipt_in Padded s = None
receipt_in Receipts s = receipt_of s

-- what it seals: with its receipt, where its format has receipts
abbrev pub body_of : State → Content → Body
body_of s content =
    record { receipt = receipt_in s.format s; kind = content.kind; content = content.bytes }

-- a packet under its position, and what the session keeps once its content is said
pub record SendDraft : Type 0 where
  pub post : Post
  pub next : State

-- in an own epoch: the next key of the stream, and the epoch's agreement message again
abbrev pub draft_own : State → Own → Body → SendDraft
draft_own s own body = record {
  post = posted (version_of s.format) s.session (position_at s.epoch (own.sent + 1)) s.previous own.agreement
      (chain_message_key own.chain) body;
  next = record s {
    phase = in_own (record own { chain = next_chain own.chain; sent = own.sent + 1 });
    awaiting = waiting_with s.awaiting (position_at s.epoch (own.sent + 1));
  };
}

-- in a peer's epoch: a turn, which begins the next own epoch with the first key of its stream
abbrev pub draft_turn : State → Body → List ℕ × List ℕ × List ℕ → SendDraft
draft_turn s body turn = record {
  post = posted (version_of s.format) s.session (position_at (s.epoch + 1) 1) s.previous turn.1
      (chain_message_key (root_key s.root turn.2)) body;
  next = record s {
    root = next_root s.root turn.2;
    epoch = s.epoch + 1;
    phase = in_own (record { secret = turn.0; agreement = turn.1; chain = next_chain (root_key s.root turn.2); sent = 1 });
    awaiting = waiting_with s.awaiting (position_at (s.epoch + 1) 1);
  };
}

abbrev pub draft_phase : Mechanism → State → Body → List ℕ → Phase → Option SendDraft
draft_phase k s body seed (in_own own) = Some (draft_own s own body)
draft_phase k s body seed (in_peers public) = option_map (draft_turn s body) (turn_of k public seed)

-- the draft of a content that passed the check, or nothing where the seed has no pair
unfoldable pub draft_send : Mechanism → State → Content → List ℕ → Option SendDraft
draft_send k s content seed = draft_phase k s (body_of s content) seed s.phase
