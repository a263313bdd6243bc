-- What becomes of a call in a world, by its kind: a text, the packet of a position, bytes, or items that leave a box.
use Rattle.std.proofs.Common.{Bool, List, None, Option, Some, [], false, if◌then◌else◌, length, nat_le, not, refl, suc, true, zero, ℕ, ◌-◌, ◌∷◌, ◌≡◌}
use Rattle.std.specs.Prelude.{All, IfSome, filter, slice_get}
use Rattle.std.proofs.lemmas.List.Elements.{All-filter, All-head, All-tail}
use Rattle.dr_base.specs.Position.{is_own}
use Rattle.dr_base.specs.declared.position.Position.{Position}
use Rattle.dr_base.specs.declared.position.Side.{Side}
use Rattle.kem_laws.specs.Mechanism.{Mechanism}
use Rattle.session_model.specs.Contents.{Content}
use Rattle.session_model.specs.declared.answer.Which.{Which}
use Rattle.session_model.specs.declared.answer.Which.TheVariants.{OfId, Oldest}
use Rattle.dr_model.specs.Conversations.Conversation.{Conversation, is_said, positions}
use Rattle.dr_model.specs.Conversations.Posts.{posts}
use Rattle.dr_model.specs.Machines.Events.{PacketSource, SideCall, drops, drops_long, of_bytes, of_flip, of_number, of_position, says, takes}
use Rattle.dr_model.specs.Machines.Network.{flipped_at}
use Rattle.dr_model.specs.Machines.Steps.{Step, amount_of, settled}
use Rattle.dr_model.specs.Machines.Worlds.{World, called_in, dropping_in, may_say, nth_of_peer, said_at, saying_in, standing_in, taking_at, taking_given, taking_of}
use Rattle.dr_model.proofs.Growth.Growing.{positions-said}

-- ---- a position that the network gives was said

pub where_said : (c : Conversation) (p : Position) (b : Bool) → is_said c p ≡ b
    → IfSome (if b then Some p else None) (λ q. is_said c q ≡ true)
where_said c p true h = h
where_said c p false h = tt

some_of : {X : Type 0} (P : X → Type 0) (xs : List X) (n : ℕ) → All P xs → IfSome (slice_get xs n) P
some_of P [] n all = tt
some_of P (x ∷ xs) zero all = All-head P x xs all
some_of P (x ∷ xs) (suc n) all = some_of P xs n (All-tail P x xs all)

some_if : (c : Conversation) (b : Bool) (o : Option Position) → IfSome o (λ p. is_said c p ≡ true)
    → IfSome (if b then o else None) (λ p. is_said c p ≡ true)
some_if c true o h = h
some_if c false o h = tt

-- the peer's packet of a number was said
pub nth_said : (c : Conversation) (side : Side) (n : ℕ) → IfSome (nth_of_peer c side n) (λ p. is_said c p ≡ true)
nth_said c side n =
    some_if c (nat_le 1 n) (slice_get (filter (λ p. not (is_own side p.epoch)) (positions c)) (n - 1))
    (some_of (λ p. is_said c p ≡ true) (filter (λ p. not (is_own side p.epoch)) (positions c)) (n - 1)
    (All-filter (λ p. not (is_own side p.epoch)) (λ p. is_said c p ≡ true) (positions c) (positions-said c)))

-- ---- any call

module _ (k : Mechanism) (w : World) (side : Side) (P : Step World → Type 0) where
  -- it holds of packets, by what is given
  pub record HoldsOfPackets : Type 0 where
    pub packet : (at : Option Position) → IfSome at (λ p. is_said w.conversation p ≡ true) → P (taking_at w side at)
    pub bytes : (given : Option (List ℕ)) → P (taking_given k w side given)

  -- so it holds of the taking of each
  pub of_source : HoldsOfPackets → (source : PacketSource) → P (taking_of k w side source)
  of_source holds (of_position p) =
      holds.packet (said_at w.conversation p) (where_said w.conversation p (is_said w.conversation p) refl)
  of_source holds (of_number nth) = holds.packet (nth_of_peer w.conversation side nth) (nth_said w.conversation side nth)
  of_source holds (of_flip p bit) = holds.bytes (flipped_at (posts k w.conversation) p bit)
  of_source holds (of_bytes given) = holds.bytes (Some given)

  -- it holds of each kind
  pub record HoldsOfKinds : Type 0 where
    pub content : (content : Content) → P (saying_in k w side content (may_say k w side content))
    pub packet : (at : Option Position) → IfSome at (λ p. is_said w.conversation p ≡ true) → P (taking_at w side at)
    pub bytes : (given : Option (List ℕ)) → P (taking_given k w side given)
    pub drop : (which : Which) → P (settled w (dropping_in k w side which))

  -- so it holds of the call
  pub of_call : HoldsOfKinds → (call : SideCall) → P (called_in k w side call)
  of_call holds (says content) = holds.content content
  of_call holds (takes source) = of_source (record { packet = holds.packet; bytes = holds.bytes }) source
  of_call holds (drops items amount) =
      holds.drop (Oldest items (amount_of amount (standing_in k w side items)))
  of_call holds (drops_long id) = holds.drop (OfId id)
