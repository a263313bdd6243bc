-- What a side misses hangs neither on its boxes nor on what waits.
use Rattle.std.proofs.Common.{◌≡◌, ℕ, ◌+◌, List, [], ◌++◌, map, refl, ap, zero, suc, if◌then◌else◌}
use Rattle.dr_base.specs.Position.{is_own}
use Rattle.dr_base.specs.declared.position.Position.{Position}
use Rattle.kem_laws.specs.Mechanism.{Mechanism}
use Rattle.dr_model.specs.Conversations.Conversation.{Conversation}
use Rattle.dr_model.specs.Conversations.Posts.{key_of}
use Rattle.dr_model.specs.Conversations.Views.{View, missing_below, missing_in, missing_of}

pub missing_below-boxes : (c : Conversation) (v : View) (done : List Position) (dropped : ℕ) (awaiting : List Position) (t : ℕ)
    → missing_below c (record v { done = done; dropped = dropped; awaiting = awaiting }) t ≡ missing_below c v t
unfolding missing_below
missing_below-boxes c v done dropped awaiting zero = refl
missing_below-boxes c v done dropped awaiting (suc t) =
    ap (λ before. before ++ (if is_own v.side t then [] else missing_in c v t))
    (missing_below-boxes c v done dropped awaiting t)

pub missing_of-waiting : (c : Conversation) (v : View) (awaiting : List Position)
    → missing_of c (record v { awaiting = awaiting }) ≡ missing_of c v
missing_of-waiting c v awaiting = missing_below-boxes c v v.done v.dropped awaiting (v.epoch + 1)

-- so it keeps the same keys
pub kept-waiting : (k : Mechanism) (c : Conversation) (v : View) (awaiting : List Position)
    → map (key_of k c) (missing_of c (record v { awaiting = awaiting })) ≡ map (key_of k c) (missing_of c v)
kept-waiting k c v awaiting = ap (map (key_of k c)) (missing_of-waiting c v awaiting)
