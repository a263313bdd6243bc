-- What a side holds doesn't give the key of a text that it has opened or said. The keys of its boxes at a relay are no
-- part of this: no message key follows from them by any step of the key schedule.
use Rattle.std.specs.Prelude.{List, true, ℕ, ◌≡◌}
use Rattle.dr_base.specs.Position.{is_own}
use Rattle.dr_base.specs.declared.position.Position.{Position}
use Rattle.dr_base.specs.declared.position.Side.{Side}
use Rattle.kem_laws.specs.Mechanism.{IsLawfulMechanism, Mechanism}
use Rattle.dr_model.specs.Conversations.Conversation.{Conversation, is_said}
use Rattle.dr_model.specs.Conversations.Lawful.{IsLawfulConversation, IsLawfulView}
use Rattle.dr_model.specs.Conversations.ViewStates.{state_of}
use Rattle.dr_model.specs.Conversations.Views.{View, has_opened}
use Rattle.dr_model.specs.Secrets.Held.{Held, Holds}
use Rattle.dr_model.specs.Secrets.Made.{Made}
use Rattle.dr_model.specs.Secrets.Scheduled.{IsScheduled}
use Rattle.dr_model.specs.Secrets.Secret.{Secret, the_message_key, value_of}

-- what follows from the state of a view
abbrev pub MadeIn : Mechanism → Conversation → View → Secret → Type 0
MadeIn k c v = Made (Holds (state_of k c v))

pub record IsErased (k : Mechanism) : Type 0 where
  -- the values that a state holds are those of its conversation
  pub values : (c : Conversation) (v : View) (secret : Secret) (value : List ℕ) → Held (state_of k c v) secret value
      → value ≡ value_of k c secret
  -- and each step from secrets to others is one of the key schedule, over a mechanism that keeps its law
  pub steps : (c : Conversation) → IsLawfulMechanism k → IsLawfulConversation k c → IsScheduled k c
  -- the message key of a text that was opened doesn't follow from them
  pub opened : (c : Conversation) (side : Side) (v : View) (p : Position) → IsLawfulView k c side v → has_opened v p ≡ true
      → MadeIn k c v (the_message_key p.epoch p.index) → ⊥
  -- nor does that of a text that the side has said
  pub said : (c : Conversation) (side : Side) (v : View) (p : Position) → IsLawfulConversation k c → IsLawfulView k c side v
      → is_said c p ≡ true
      → is_own side p.epoch ≡ true → MadeIn k c v (the_message_key p.epoch p.index) → ⊥
