-- Where both sides stand in a lawful world.
use Rattle.std.proofs.Common.{Bool, ap, arith, false, inl, inr, length, refl, sym, true, ℕ, ◌+◌, ◌∙◌, ◌≡◌, ◌≢◌, ◌≤◌}
use Rattle.std.proofs.lemmas.Bool.{cases_eq}
use Rattle.dr_base.specs.Position.{is_own}
use Rattle.dr_base.specs.declared.position.Side.{Side}
use Rattle.dr_base.specs.declared.position.Side.TheVariants.{First, Second}
use Rattle.dr_base.proofs.Parity.{own_after}
use Rattle.kem_laws.specs.Mechanism.{Mechanism}
use Rattle.dr_model.specs.Conversations.Conversation.{Conversation}
use Rattle.dr_model.specs.Conversations.Lawful.{IsLawfulView}
use Rattle.dr_model.specs.Conversations.Posts.{posts_of}
use Rattle.dr_model.specs.Conversations.Views.{View}
use Rattle.dr_model.specs.Machines.Sides.{client_of}
use Rattle.dr_model.specs.Machines.WorldSides.{kept_in, sides_of}
use Rattle.dr_model.specs.Machines.Worlds.{World, view_of}
use Rattle.dr_model.specs.Theorems.LawfulWorlds.{IsLawfulWorld}

-- the view of a side is lawful
pub view_lawful : (k : Mechanism) (w : World) (side : Side) → IsLawfulWorld k w
    → IsLawfulView k w.conversation side (view_of w side)
view_lawful k w First lawful = lawful.first
view_lawful k w Second lawful = lawful.second

-- what the client of a side keeps is what the side keeps in the world
pub client_of-kept : (k : Mechanism) (w : World) (side : Side) → client_of (sides_of k w) side ≡ kept_in k w side
client_of-kept k w First = refl
client_of-kept k w Second = refl

-- whose epochs are its own
pub own_in : (k : Mechanism) (c : Conversation) (side : Side) (v : View) (t : ℕ) (own : Bool) → IsLawfulView k c side v
    → is_own side t ≡ own → is_own v.side t ≡ own
own_in k c side v t own lawful h = ap (λ s. is_own s t) lawful.side_is ∙ h

-- and whose packets
pub dropped_in : (k : Mechanism) (c : Conversation) (side : Side) (v : View) → IsLawfulView k c side v
    → v.dropped ≤ length (posts_of k c v.side)
dropped_in k c side v lawful = omega (arith, lawful.dropped_fits, ap (λ s. length (posts_of k c s)) lawful.side_is)

-- the last epoch is the reached one, where it isn't the next
last_reached : (n m : ℕ) → n ≤ m → m ≤ n + 1 → m ≢ n + 1 → n ≡ m
last_reached n m le near other = grind arith

-- a side that may begin an epoch has reached the last one
pub at_last : (k : Mechanism) (c : Conversation) (side : Side) (v : View) → IsLawfulView k c side v
    → is_own side v.epoch ≡ false → v.epoch ≡ length c.seeds
at_last k c side v lawful peers =
    last_reached v.epoch (length c.seeds) lawful.reached lawful.near_end
    (λ next. let e : true ≡ false = sym (own_after side v.epoch peers) ∙ lawful.waits next in cc)

-- and so has the other, whose own it is
pub peer_at_last : (k : Mechanism) (c : Conversation) (side : Side) (v : View) → IsLawfulView k c side v
    → is_own side (length c.seeds) ≡ true → v.epoch ≡ length c.seeds
peer_at_last k c side v lawful own =
    last_reached v.epoch (length c.seeds) lawful.reached lawful.near_end
    (λ next. let e : true ≡ false = sym own ∙ ap (is_own side) next ∙ lawful.waits next in cc)

-- an own epoch that has begun was reached
pub own_reached : (k : Mechanism) (c : Conversation) (side : Side) (v : View) (t : ℕ) → IsLawfulView k c side v
    → is_own side t ≡ true → t ≤ length c.seeds → t ≤ v.epoch
own_reached k c side v t lawful own began =
    elim (cases_eq t (v.epoch + 1)) as (λ _. t ≤ v.epoch) [
      | inl next ↦
          absurd (let e : true ≡ false = sym own ∙ ap (is_own side) next
          ∙ lawful.waits (omega (arith, lawful.near_end)) in cc)
      | inr other ↦ let near = lawful.near_end in grind arith
    ]
