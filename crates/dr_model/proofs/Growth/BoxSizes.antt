-- How many stand in the boxes of a view.
use Rattle.std.proofs.Common.{◌≡◌, ℕ, ◌+◌, ◌-◌, ◌<◌, ◌≤◌, Bool, true, false, [], ◌∷◌, length, refl, arith, if◌then◌else◌}
use Rattle.std.proofs.lemmas.List.{length-drop, length-map}
use Rattle.kem_laws.specs.Mechanism.{Mechanism}
use Rattle.dr_model.specs.Conversations.Conversation.{Conversation}
use Rattle.dr_model.specs.Conversations.Posts.{posts_of}
use Rattle.dr_model.specs.Conversations.Standing.{standing}
use Rattle.dr_model.specs.Conversations.Views.{View, entry_at, inbox_of, outbox_of}

-- one text for each position that stands
pub length-inbox_of : (c : Conversation) (v : View) → length (inbox_of c v) ≡ length (standing v.arrived v.done)
length-inbox_of c v = length-map (standing v.arrived v.done) (entry_at c)

-- the packets that were made but for those that left
pub length-outbox_of : (k : Mechanism) (c : Conversation) (v : View)
    → length (outbox_of k c v) ≡ length (posts_of k c v.side) - v.dropped
length-outbox_of k c v = length-drop v.dropped (posts_of k c v.side)

-- no more leave a box than stand in it
pub within : (n standing gone all : ℕ) → standing ≡ all - gone → gone ≤ all → n ≤ standing → gone + n ≤ all
within n standing gone all is le enough = omega arith

-- a box within its limit stays so with one more, where it had room
pub one_more_fits : {T : Type 0} (held more gone most : ℕ) (x : T) (new : Bool) → more ≡ held + length (if new then x ∷ [] else [])
    → held - gone ≤ most
    → (new ≡ true → held - gone < most) → more - gone ≤ most
one_more_fits held more gone most x true e few room = let h = room refl in omega arith
one_more_fits held more gone most x false e few room = omega arith
