-- The oldest packet of an outbox.
use Rattle.std.proofs.Common.{List, None, Some, [], ap, arith, length, subst, sym, true, ℕ, ◌<◌, ◌∙◌, ◌∷◌, ◌≡◌, ◌≤◌, refl}
use Rattle.std.specs.List.{AllByRecursion}
use Rattle.std.specs.Prelude.{map, slice_get}
use Rattle.std.proofs.lemmas.Bool.{and_from, le-leb}
use Rattle.boxes.specs.Posts.{Post}
use Rattle.dr_base.specs.declared.limits.TheConstants.{PACKET_LIMIT}
use Rattle.relay_wire.specs.Names.{is_packet}
use Rattle.relay_wire.specs.declared.limits.TheConstants.{PACKET_LIMIT as MOST}

pub packet_lawful : (packet : List ℕ) → 1 ≤ length packet → length packet ≤ PACKET_LIMIT → is_packet packet ≡ true
unfolding is_packet
packet_lawful packet from to = and_from _ _ (le-leb 1 (length packet) from) (le-leb (length packet) MOST (omega (arith, to)))

-- one waits, where the outbox has any
pub one_waits : (items : List Post) → 0 < length items → (packet : List ℕ) × (Some packet ≡ slice_get (map (λ (i : Post). i.packet) items) 0)
one_waits [] some = absurd (omega (arith, some))
one_waits (x ∷ xs) some = (x.packet, refl)

pub oldest_is : (items : List Post) (item : Post) → Some item ≡ slice_get items 0 → Some item.packet ≡ slice_get (map (λ (i : Post). i.packet) items) 0
oldest_is [] item is = absurd (let e : Some item ≡ None = is in cc)
oldest_is (x ∷ xs) item is = let e : Some item ≡ Some x = is in ap (λ (i : Post). Some i.packet) (let f : item ≡ x = cc in f)

pub oldest_lawful : (items : List Post) (item : Post) → Some item ≡ slice_get items 0
    → AllByRecursion (λ (packet : List ℕ). is_packet packet ≡ true) (map (λ (i : Post). i.packet) items) → is_packet item.packet ≡ true
oldest_lawful [] item is lawful = absurd (let e : Some item ≡ None = is in cc)
oldest_lawful (x ∷ xs) item is lawful =
    let e : Some item ≡ Some x = is in
    let same : item ≡ x = cc in
    subst (λ (i : Post). is_packet i.packet ≡ true) (sym same) lawful.0

-- there is only one
pub same_oldest : (items : List (List ℕ)) (a b : List ℕ) → Some a ≡ slice_get items 0 → Some b ≡ slice_get items 0 → a ≡ b
same_oldest items a b one two = let e : Some a ≡ Some b = one ∙ sym two in cc
