-- A hub whose sessions are begun one after the other.
use Rattle.std.proofs.Common.{Bool, Err, List, None, Ok, Option, Some, [], ap, arith, false, get_or, length, refl, subst, suc, sym, true, zero, ℕ, ◌+◌, ◌<◌, ◌∙◌, ◌∷◌, ◌≡◌, ◌≤◌}
use Rattle.std.specs.Prelude.{nat_lt, ◌==◌}
use Rattle.std.proofs.lemmas.Bool.Decides.{nat_tests}
use Rattle.book.specs.Books.{BookNow}
use Rattle.book_model.specs.Rows.{Row, Rows, begun, is_full, under}
use Rattle.client.specs.Beginning.{begun_client}
use Rattle.kem_laws.specs.Mechanism.{Mechanism}
use Rattle.session_model.specs.Clients.{Client}
use Rattle.session_record.specs.Lawful.{IsLawfulClient}
use Rattle.hub.specs.Beginning.{BeginsHub, BeginsOne, IsBegun, IsHub}
use Rattle.hub.specs.Held.{AreLawful}
use Rattle.hub.specs.Peers.{begun_rows, hub_begin, hub_rows, peer_name}
use Rattle.hub.specs.declared.playing.FanPlayError.{FanPlayError}
use Rattle.hub.specs.declared.playing.FanPlayError.TheVariants.{Memory, NoPair, Peer, Write}
use Rattle.hub.proofs.Names.{next_has_room, next_is_fresh, row_at_place, rows_long}

get_past : {A : Type 0} (xs : List (Option A)) (r : ℕ) → length xs ≤ r → get_or xs r None ≡ None
get_past [] r le = refl
get_past (x ∷ xs) zero le = absurd (let e : ⊥ = omega (arith, le) in e)
get_past (x ∷ xs) (suc r) le = get_past xs r (omega (arith, le))

module _ (k : Mechanism) (peers at : ℕ) (rows : Rows Client) (are : rows ≡ begun_rows k peers at) (lt : at < peers) where
  pub fresh_next : peers ≤ 8 → under (peer_name (at + 1)) rows ≡ None
  fresh_next few =
      ap (λ (r : Rows Client). under (peer_name (at + 1)) r) are
      ∙ ap (λ n. under (peer_name n) (begun_rows k peers at)) (let e : at + 1 ≡ suc at = omega arith in e)
      ∙ next_is_fresh (λ number. begun_client k (hub_begin number)) peers at lt few

  pub room_next : is_full rows ≡ false
  room_next = ap (λ (r : Rows Client). is_full r) are
      ∙ next_has_room (λ number. begun_client k (hub_begin number)) peers at lt

  -- no session for the next peer: no hub
  pub no_hub : (old new : BookNow) (error : FanPlayError) → BeginsOne k (at + 1) old new (Err error)
      → BeginsHub k peers (Err error)
  no_hub old new NoPair none = record { number = at + 1; among = omega (arith, lt); none = none }
  no_hub old new Memory none = tt
  no_hub old new (Peer place refusal) none = none
  no_hub old new Write none = none

  -- one for the next peer
  pub one_more_begun : (old new : BookNow) → old.rows ≡ rows → old.store.rows ≡ peers
      → ((number : ℕ) → 1 ≤ number → number ≤ at → IsBegun k number) → BeginsOne k (at + 1) old new (Ok tt)
      → (new.rows ≡ begun_rows k peers (at + 1)) × (new.store.rows ≡ peers)
      × ((number : ℕ) → 1 ≤ number → number ≤ at + 1 → IsBegun k number)
  one_more_begun old new same count before one = (next_rows, one.1 ∙ count, all)
    where
      number_is : at + 1 ≡ suc at
      number_is = omega arith

      next_rows : new.rows ≡ begun_rows k peers (at + 1)
      next_rows =
          one.0
          ∙ ap (λ (r : Rows Client). begun (peer_name (at + 1)) (begun_client k (hub_begin (at + 1))) r) (same ∙ are)
          ∙ ap (λ n. begun (peer_name n) (begun_client k (hub_begin n)) (begun_rows k peers at)) number_is
          ∙ ap (begun_rows k peers) (sym number_is)

      all : (number : ℕ) → 1 ≤ number → number ≤ at + 1 → IsBegun k number
      all number first le = by (number == at + 1) refl
        where
          by : (b : Bool) → (number == at + 1) ≡ b → IsBegun k number
          by true is =
              let same : at + 1 ≡ number = grind (arith, nat_tests) in
              subst (IsBegun k) same one.2
          by false isnt =
              let less : number ≤ at = grind (arith, nat_tests) in
              before number first less

-- ---- all of them have a session, which is lawful

module _ (k : Mechanism) (peers : ℕ) (each : (number : ℕ) → 1 ≤ number → number ≤ peers → IsBegun k number) where
  pub hub_lawful : AreLawful k (hub_rows k peers)
  hub_lawful r row is = by (nat_lt r peers) refl
    where
      by : (b : Bool) → nat_lt r peers ≡ b → IsLawfulClient k row.kept
      by true lt =
          let less : r < peers = grind (arith, nat_tests) in
          let first : 1 ≤ suc r = omega arith in
          let last : suc r ≤ peers = omega (arith, less) in
          let same : Some (record { name = peer_name (suc r); kept = begun_client k (hub_begin (suc r)) }) ≡ Some row =
          sym (row_at_place (λ number. begun_client k (hub_begin number)) peers r less) ∙ is in
          let it : record { name = peer_name (suc r); kept = begun_client k (hub_begin (suc r)) } ≡ row = cc in
          subst (λ (one : Row Client). IsLawfulClient k one.kept) it (each (suc r) first last).lawful
      by false not_less =
          let past : peers ≤ r = grind (arith, nat_tests) in
          let none : None ≡ Some row =
          sym (get_past (hub_rows k peers) r
          (omega (arith, past, rows_long (λ number. begun_client k (hub_begin number)) peers peers (omega arith)))) ∙ is in
          absurd (cc none)

  pub is_hub : (at : ℕ) (book : BookNow) → at ≡ peers → book.rows ≡ begun_rows k peers at → book.store.rows ≡ peers
      → IsHub k peers book
  is_hub at book end are count = record {
    rows = all;
    count = count;
    lawful = subst (λ (r : Rows Client). AreLawful k r) (sym all) hub_lawful;
    pairs = λ number first last. (each number first last).pair;
  }
    where
      all : book.rows ≡ hub_rows k peers
      all = are ∙ ap (begun_rows k peers) end
