-- The latest peer's epoch that a side has reached.
use Rattle.std.proofs.Common.{◌≡◌, ℕ, zero, suc, ◌+◌, ◌-◌, ◌<◌, ◌≤◌, true, false, not, nat_eq, nat_le, ◌++◌, Some, None, sym, ap, ◌∙◌, inl, inr, subst, arith, if◌then◌else◌}
use Rattle.std.proofs.lemmas.Bool.{both_ways, cases_Bool, cases_eq, cases_lt, not-true, cond-true, cond-false, ne_eqb, le-leb, lt-leb}
use Rattle.dr_base.specs.Position.{is_own}
use Rattle.dr_base.specs.declared.position.Side.{Side}
use Rattle.dr_base.proofs.Parity.{own_next}
use Rattle.kem_laws.specs.Mechanism.{Mechanism}
use Rattle.session_model.specs.States.{receiving_epoch}
use Rattle.dr_model.specs.Conversations.Conversation.{Conversation, count_of}
use Rattle.dr_model.specs.Conversations.Indices.{reach}
use Rattle.dr_model.specs.Conversations.Views.{View, indices_in, reach_in}
use Rattle.dr_model.proofs.Missing.MissingEpochs.{epoch_keys, keys_below, keys_below-own, keys_below-peers}

-- the latest peer's epoch up to a reached one, which is that epoch or the one before
pub record IsLatest (side : Side) (epoch latest : ℕ) : Type 0 where
  pub receiving : receiving_epoch side epoch ≡ Some latest
  pub peers : is_own side latest ≡ false
  pub reached : latest ≤ epoch
  pub near : epoch ≤ latest + 1
  pub own : epoch ≡ latest + 1 → is_own side epoch ≡ true

-- in a peer's epoch it is that one
pub latest_here : (side : Side) (epoch : ℕ) → is_own side epoch ≡ false → IsLatest side epoch epoch
latest_here side epoch own = record {
  receiving = cond-false (is_own side epoch) (if nat_eq epoch 0 then None else Some (epoch - 1)) (Some epoch) own;
  peers = own;
  reached = omega arith;
  near = omega arith;
  own = λ no. absurd (omega arith);
}

-- in an own epoch but the first it is the one before
pub latest_before : (side : Side) (epoch : ℕ) → is_own side (epoch + 1) ≡ true → IsLatest side (epoch + 1) epoch
latest_before side epoch own = record {
  receiving = cond-true (is_own side (epoch + 1)) (if nat_eq (epoch + 1) 0 then None else Some (epoch + 1 - 1))
      (Some (epoch + 1)) own
      ∙ cond-false (nat_eq (epoch + 1) 0) None (Some (epoch + 1 - 1)) (ne_eqb (epoch + 1) 0 (λ no. omega arith))
      ∙ ap Some (omega arith);
  peers = not-true (is_own side epoch) (sym (own_next side epoch) ∙ own);
  reached = omega arith;
  near = omega arith;
  own = λ _. own;
}

-- a side that has reached a peer's epoch has a latest one
pub latest_of : (side : Side) (epoch peers : ℕ) → is_own side peers ≡ false → peers ≤ epoch
    → (latest : ℕ) × IsLatest side epoch latest
latest_of side zero peers own h =
    let same : peers ≡ 0 = omega arith in
    (0, latest_here side 0 (ap (is_own side) (sym same) ∙ own))
latest_of side (suc epoch) peers own h =
    elim (cases_Bool (is_own side (suc epoch))) as (λ _. (latest : ℕ) × IsLatest side (suc epoch) latest) [
      | inl mine ↦
          let one : suc epoch ≡ epoch + 1 = omega arith in (
            epoch,
            subst (λ n. IsLatest side n epoch) (sym one) (latest_before side epoch (ap (is_own side) (sym one) ∙ mine)),
          )
      | inr theirs ↦ (suc epoch, latest_here side (suc epoch) theirs)
    ]

-- the latest one that there is
same_latest : (side : Side) (epoch latest t : ℕ) → IsLatest side epoch latest → receiving_epoch side epoch ≡ Some t
    → IsLatest side epoch t
same_latest side epoch latest t is same =
    subst (IsLatest side epoch) (let e : Some latest ≡ Some t = sym is.receiving ∙ same in cc) is

pub latest_is : (side : Side) (epoch t : ℕ) → receiving_epoch side epoch ≡ Some t → IsLatest side epoch t
latest_is side zero t is =
    elim (cases_Bool (is_own side 0)) as (λ _. IsLatest side 0 t) [
      | inl mine ↦ absurd (let e : None ≡ Some t = sym (cond-true (is_own side 0) None (Some 0) mine) ∙ is in cc)
      | inr theirs ↦ same_latest side 0 0 t (latest_here side 0 theirs) is
    ]
latest_is side (suc epoch) t is =
    elim (cases_Bool (is_own side (suc epoch))) as (λ _. IsLatest side (suc epoch) t) [
      | inl mine ↦
          let one : suc epoch ≡ epoch + 1 = omega arith in
          same_latest side (suc epoch) epoch t
          (subst (λ n. IsLatest side n epoch) (sym one) (latest_before side epoch (ap (is_own side) (sym one) ∙ mine))) is
      | inr theirs ↦ same_latest side (suc epoch) (suc epoch) t (latest_here side (suc epoch) theirs) is
    ]

-- peer's epochs don't follow one another
pub not_next : (side : Side) (a b : ℕ) → is_own side a ≡ false → is_own side b ≡ false → b ≡ a + 1 → ⊥
not_next side a b theirs same next =
    both_ways (is_own side b) same (ap (is_own side) next ∙ own_next side a ∙ ap not theirs)

-- a peer's epoch that isn't more than one before the reached one is the latest
pub is_latest : (side : Side) (epoch latest peers : ℕ) → IsLatest side epoch latest → is_own side peers ≡ false
    → peers ≤ epoch → epoch ≤ peers + 1 → latest ≡ peers
is_latest side epoch latest peers at own reached near =
    elim (cases_eq latest peers) as (λ _. latest ≡ peers) [
      | inl same ↦ same
      | inr other ↦
          elim (cases_eq peers (latest + 1)) as (λ _. latest ≡ peers) [
            | inl up ↦ absurd (not_next side latest peers at.peers own up)
            | inr apart ↦
                elim (cases_eq latest (peers + 1)) as (λ _. latest ≡ peers) [
                  | inl up ↦ absurd (not_next side peers latest own at.peers up)
                  | inr none ↦
                      let low = at.reached in
                      let high = at.near in
                      grind arith
                ]
          ]
    ]

-- the table up to the reached epoch ends with the keys of the latest peer's epoch
pub keys_below-latest : (k : Mechanism) (c : Conversation) (v : View) (latest : ℕ) → IsLatest v.side v.epoch latest
    → keys_below k c v (v.epoch + 1) ≡ keys_below k c v latest ++ epoch_keys k c v latest
keys_below-latest k c v latest at =
    elim (cases_eq v.epoch (latest + 1)) as (λ _. keys_below k c v (v.epoch + 1) ≡ keys_below k c v latest ++ epoch_keys k c v latest) [
      | inl own ↦
          keys_below-own k c v v.epoch (at.own own)
          ∙ ap (keys_below k c v) own
          ∙ keys_below-peers k c v latest at.peers
      | inr here ↦
          let low = at.reached in
          let high = at.near in
          let same : v.epoch ≡ latest = grind arith in
          ap (λ n. keys_below k c v (n + 1)) same ∙ keys_below-peers k c v latest at.peers
    ]

-- its reach is the greatest index that arrived
pub reach_in-latest : (c : Conversation) (v : View) (epoch : ℕ) → v.epoch ≤ epoch + 1
    → reach_in c v epoch ≡ reach (indices_in v.arrived epoch)
reach_in-latest c v epoch near =
    cond-true (nat_le v.epoch (epoch + 1)) (reach (indices_in v.arrived epoch)) (count_of c epoch)
    (le-leb v.epoch (epoch + 1) near)

-- an epoch that isn't the latest was read to its end
pub reach_in-end : (c : Conversation) (v : View) (epoch : ℕ) → epoch + 1 < v.epoch → reach_in c v epoch ≡ count_of c epoch
reach_in-end c v epoch h =
    cond-false (nat_le v.epoch (epoch + 1)) (reach (indices_in v.arrived epoch)) (count_of c epoch)
    (lt-leb v.epoch (epoch + 1) h)

-- an index after its epoch's reach is of the latest epoch
pub near_reach : (c : Conversation) (v : View) (epoch i : ℕ) → i ≤ count_of c epoch → reach_in c v epoch < i
    → v.epoch ≤ epoch + 1
near_reach c v epoch i most early =
    elim (cases_lt (epoch + 1) v.epoch) as (λ _. v.epoch ≤ epoch + 1) [
      | inl before ↦ let end = reach_in-end c v epoch before in absurd (omega arith)
      | inr near ↦ near
    ]
