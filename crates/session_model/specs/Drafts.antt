-- Whose draft a draft is.
use Rattle.std.specs.Prelude.{◌≡◌, ℕ, List, Some, Ok}
use Rattle.kem_laws.specs.Mechanism.{Mechanism}
use Rattle.packet.specs.Packet.{Fields}
use Rattle.session_model.specs.Contents.{Content}
use Rattle.session_model.specs.Saying.{SendDraft, draft_send}
use Rattle.session_model.specs.States.{State}
use Rattle.session_model.specs.Taking.{ReceiveDraft, draft_receive}

-- a state gives this draft for some content and seed
pub record IsSendDraft (k : Mechanism) (s : State) (draft : SendDraft) : Type 0 where
  pub content : Content
  pub seed : List ℕ
  pub gives : draft_send k s content seed ≡ Some draft

-- a state gives this draft for some packet
pub record IsReceiveDraft (k : Mechanism) (s : State) (draft : ReceiveDraft) : Type 0 where
  pub packet : Fields
  pub gives : draft_receive k s packet ≡ Ok draft
