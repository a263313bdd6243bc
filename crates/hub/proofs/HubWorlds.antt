-- The worlds of a hub's sessions: each stands where the conversation of its peer's key begins.
use Rattle.std.proofs.Common.{Bool, List, None, Option, Some, ap, arith, false, get_or, refl, suc, sym, true, zero, ℕ, ⊎_elim, ◌<◌, ◌∙◌, ◌≡◌, ◌≢◌, ◌≤◌}
use Rattle.std.proofs.lemmas.Bool.{cases_eq, cases_lt}
use Rattle.std.specs.Prelude.{if◌then◌else◌}
use Rattle.std.specs.Str.{bytes_eq}
use Rattle.bodies.specs.declared.format.Format.TheVariants.{Plain}
use Rattle.book.proofs.Fanning.Machine.{AreOnly}
use Rattle.book.proofs.Only.{differ}
use Rattle.book.proofs.Stored.{present_inside}
use Rattle.book.proofs.Worlds.Stood.{stands_begun, stands_none}
use Rattle.book.specs.FanWorlds.{NamedWorlds, StandIn, with_begun}
use Rattle.book.specs.Naming.{is_named}
use Rattle.book_model.proofs.Names.{same_self}
use Rattle.book_model.specs.Rows.{Row}
use Rattle.client.specs.Beginning.{HasPair, begun_client}
use Rattle.dr_base.specs.declared.position.Side.TheVariants.{First}
use Rattle.dr_model.specs.Conversations.Formats.{formats_of}
use Rattle.dr_model.specs.Machines.Worlds.{World, opening_world}
use Rattle.kem_laws.specs.Mechanism.{Mechanism}
use Rattle.session_model.specs.Clients.{Client}
use Rattle.hub.specs.Peers.{begun_rows, hub_begin, hub_rows, peer_key, peer_name}
use Rattle.hub.proofs.Names.{apart, next_has_room, next_is_fresh, row_at_place, rows_long}

-- ---- other peers have other names

below : (a b : ℕ) → a < b → b ≤ 8 → bytes_eq (peer_name b) (peer_name a) ≡ false
below a b lt le = differ (peer_name b) (peer_name a) (λ e.
    let both : true ≡ false =
    sym (same_self (peer_name a)) ∙ ap (λ (l : List ℕ). bytes_eq (peer_name a) l) (sym e) ∙ apart a b lt le in
    cc)

pub unlike : (a b : ℕ) → a ≤ 8 → b ≤ 8 → a ≢ b → bytes_eq (peer_name a) (peer_name b) ≡ false
unlike a b a_few b_few other = ⊎_elim
    (λ less. apart a b less b_few)
    (λ more. below b a (omega (arith, more, other)) a_few)
    (cases_lt a b)

-- ---- the worlds

-- the conversation of a peer's key, at its beginning
abbrev pub world_of : ℕ → World
world_of number = opening_world (peer_key number).bytes (formats_of First Plain Plain)

abbrev pub worlds_of : ℕ → NamedWorlds
worlds_of zero = record { world = λ name. world_of 0; side = λ name. First }
worlds_of (suc n) = with_begun (peer_name (suc n)) (hub_begin (suc n)) Plain (worlds_of n)

pub side_is : (n : ℕ) (name : List ℕ) → (worlds_of n).side name ≡ First
side_is zero name = refl
side_is (suc n) name = by (bytes_eq (peer_name (suc n)) name) (side_is n name)
  where
    by : (b : Bool) → (worlds_of n).side name ≡ First → (if b then First else (worlds_of n).side name) ≡ First
    by true rest = refl
    by false rest = rest

pub world_is : (n j : ℕ) → j < n → n ≤ 8 → (worlds_of n).world (peer_name (suc j)) ≡ world_of (suc j)
world_is zero j lt le = absurd (omega (arith, lt))
world_is (suc n) j lt le = ⊎_elim
    (λ same. ap (λ i. if bytes_eq (peer_name (suc n)) (peer_name (suc i)) then world_of (suc n)
    else (worlds_of n).world (peer_name (suc i))) same
    ∙ ap (λ b. if b then world_of (suc n) else (worlds_of n).world (peer_name (suc n))) (same_self (peer_name (suc n)))
    ∙ ap (λ i. world_of (suc i)) (sym same))
    (λ apart_from.
    let lower : j < n = (let d : j ≡ n → ⊥ = apart_from in omega (arith, lt, d)) in
    ap (λ b. if b then world_of (suc n) else (worlds_of n).world (peer_name (suc j)))
    (below (suc j) (suc n) (omega (arith, lower)) le)
    ∙ world_is n j lower (omega (arith, le)))
    (cases_eq j n)

module _ (k : Mechanism) (peers : ℕ) (few : peers ≤ 8) where
  abbrev kept : ℕ → Client
  kept number = begun_client k (hub_begin number)

  -- ---- its sessions stand in them

  module _ (pairs : (number : ℕ) → 1 ≤ number → number ≤ peers → HasPair k (hub_begin number)) where
    pub stands : (n : ℕ) → n ≤ peers → StandIn k (begun_rows k peers n) (worlds_of n)
    stands zero le = stands_none k peers (worlds_of 0)
    stands (suc n) le = stands_begun k (peer_name (suc n)) (hub_begin (suc n)) Plain (begun_rows k peers n) (worlds_of n)
        (pairs (suc n) (omega arith) le)
        (next_is_fresh kept peers n (omega (arith, le)) few)
        (next_has_room kept peers n (omega (arith, le)))
        (stands n (omega (arith, le)))

  -- ---- each is the only one of its name

  placed_in : (q : ℕ) (row : Row Client) → get_or (hub_rows k peers) q None ≡ Some row → q < peers
  placed_in q row is = omega (arith, present_inside (hub_rows k peers) q row is, rows_long kept peers peers (omega arith))

  named_as : (q : ℕ) (row : Row Client) → get_or (hub_rows k peers) q None ≡ Some row → row.name ≡ peer_name (suc q)
  named_as q row is =
      let there : Row Client = record { name = peer_name (suc q); kept = kept (suc q) } in
      let same : Some row ≡ Some there = sym is ∙ row_at_place kept peers q (placed_in q row is) in
      let one : row ≡ there = cc in
      ap (λ (r : Row Client). r.name) one

  pub onlys : AreOnly (hub_rows k peers)
  onlys at row is = record {
    here = is;
    named = same_self row.name;
    others = λ q other. by q other (get_or (hub_rows k peers) q None) refl;
  }
    where
      by : (q : ℕ) → q ≢ at → (o : Option (Row Client)) → get_or (hub_rows k peers) q None ≡ o → is_named row.name o ≡ false
      by q other None there = refl
      by q other (Some one) there =
          ap (λ (l : List ℕ). bytes_eq l row.name) (named_as q one there)
          ∙ ap (λ (l : List ℕ). bytes_eq (peer_name (suc q)) l) (named_as at row is)
          ∙ unlike (suc q) (suc at) (omega (arith, placed_in q one there, few)) (omega (arith, placed_in at row is, few))
          (λ e. other (omega (arith, e)))
