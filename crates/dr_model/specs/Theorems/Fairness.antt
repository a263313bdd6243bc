-- The premise under which both sides follow the machine: nobody forged a tag.
use Rattle.std.specs.Prelude.{IfSome, List, None, Ok, length, ℕ, ⊤, ◌≡◌, ◌≢◌}
use Rattle.cka.specs.Agreement.{agreement_size}
use Rattle.dr_base.specs.declared.position.Side.{Side}
use Rattle.etm_aead.specs.Seal.{tag_of}
use Rattle.kem_laws.specs.Mechanism.{Mechanism}
use Rattle.packet.specs.Packet.{Fields, ad_of}
use Rattle.packet.specs.Reading.{read_packet}
use Rattle.session_model.specs.Ways.{Way, way_of}
use Rattle.dr_model.specs.Conversations.Posts.{posts}
use Rattle.dr_model.specs.Conversations.ViewStates.{state_of}
use Rattle.dr_model.specs.Machines.Events.{Event, PacketSource, SideCall, cuts, does, of_bytes, of_flip, seeds, takes}
use Rattle.dr_model.specs.Machines.Network.{flipped_at}
use Rattle.dr_model.specs.Machines.Worlds.{World, made_at, view_of}

-- Nobody forged a tag: where a side comes to look at the tag of bytes that no session made, it isn't the one under
-- the key.
abbrev pub IsUnforged : Mechanism → World → Side → List ℕ → Type 0
IsUnforged k w side bytes = made_at k w bytes ≡ None → (f : Fields) (way : Way) → read_packet (agreement_size k) bytes ≡ Ok f
    → way_of k (state_of k w.conversation (view_of w side)) f ≡ Ok way → f.tag ≢ tag_of way.key (ad_of f) f.ciphertext

-- the bytes that a call makes up have no forged tag
abbrev pub IsUnforgedSource : Mechanism → World → Side → PacketSource → Type 0
IsUnforgedSource k w side (of_flip p bit) =
    IfSome (flipped_at (posts k w.conversation) p bit) (IsUnforged k w side)
IsUnforgedSource k w side (of_bytes bytes) = IsUnforged k w side bytes
IsUnforgedSource k w side _ = ⊤

abbrev pub IsUnforgedCall : Mechanism → World → Side → SideCall → Type 0
IsUnforgedCall k w side (takes source) = IsUnforgedSource k w side source
IsUnforgedCall k w side _ = ⊤

-- and so have those of an event
abbrev pub IsUnforgedEvent : Mechanism → World → Event → Type 0
IsUnforgedEvent k w (does side call) = IsUnforgedCall k w side call
IsUnforgedEvent k w (cuts took h) = IsUnforgedEvent k w h
IsUnforgedEvent k w _ = ⊤

-- a given seed has 32 bytes
abbrev pub IsSeedWhole : Event → Type 0
IsSeedWhole (seeds seed) = length seed ≡ 32
IsSeedWhole (cuts took h) = IsSeedWhole h
IsSeedWhole _ = ⊤

-- the whole premise of an event
pub record IsFair (k : Mechanism) (w : World) (h : Event) : Type 0 where
  pub unforged : IsUnforgedEvent k w h
  pub whole : IsSeedWhole h
