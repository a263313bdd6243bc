-- What a side doesn't miss, up to how far it has read, it has opened.
use Rattle.std.proofs.Common.{◌≡◌, ℕ, ◌+◌, ◌≤◌, ◌||◌, Bool, true, false, List, [], ◌∷◌, map, Option, Some, refl, sym, ◌∙◌, ap, subst, arith, inl, inr, if◌then◌else◌}
use Rattle.std.specs.List.{find, list_any}
use Rattle.std.specs.Prelude.{option_map}
use Rattle.std.proofs.lemmas.Bool.{both_ways, cases_Bool, cases_lt}
use Rattle.dr_base.specs.Position.{IsUpTo, is_at, is_own, position_at}
use Rattle.dr_base.specs.declared.key.Kept.{Kept}
use Rattle.dr_base.specs.declared.position.Position.{Position}
use Rattle.fs_aead.specs.Chain.{message_key}
use Rattle.fs_aead.specs.Table.{is_kept_at, kept_key}
use Rattle.kem_laws.specs.Mechanism.{Mechanism}
use Rattle.dr_model.specs.Conversations.Conversation.{Conversation, count_of}
use Rattle.dr_model.specs.Conversations.Posts.{key_of, turn_of_epoch}
use Rattle.dr_model.specs.Conversations.Views.{View, has_opened, indices_in, missing_of, reach_in}
use Rattle.dr_model.proofs.Missing.EpochIndices.{is_among-indices}
use Rattle.dr_model.proofs.Missing.MissedPositions.{IsMissed}
use Rattle.dr_model.proofs.Missing.MissingEpochs.{kept_key-below}
use Rattle.dr_model.proofs.Missing.MissingKeys.{kept_key-missing}
use Rattle.dr_model.proofs.Taking.LatestEpoch.{IsLatest, is_latest, near_reach}

-- ---- what isn't missing

-- a position whose key is in a table is one of the table's
first_or_later : (first later : Bool) (key : Kept) (more : Option Kept) (bytes : List ℕ)
    → (option_map (λ (kept : Kept). kept.key.bytes) more ≡ Some bytes → later ≡ true)
    → option_map (λ (kept : Kept). kept.key.bytes) (if first then Some key else more) ≡ Some bytes
    → (first || later) ≡ true
first_or_later true later key more bytes among found = refl
first_or_later false later key more bytes among found = among found

among_kept : (k : Mechanism) (c : Conversation) (ps : List Position) (p : Position) (bytes : List ℕ)
    → kept_key (map (key_of k c) ps) p ≡ Some bytes → list_any (is_at p) ps ≡ true
unfolding kept_key
among_kept k c [] p bytes found = cc
among_kept k c (q ∷ rest) p bytes found =
    first_or_later (is_at p q) (list_any (is_at p) rest) (key_of k c q)
    (find (is_kept_at p) (map (key_of k c) rest)) bytes (among_kept k c rest p bytes) found

-- a peer's position, no further than its epoch was read
pub record IsRead (c : Conversation) (v : View) (p : Position) : Type 0 where
  pub peers : is_own v.side p.epoch ≡ false
  pub reached : p.epoch ≤ v.epoch
  pub one : 1 ≤ p.index
  pub most : p.index ≤ reach_in c v p.epoch

-- is missing where it wasn't opened: its key is kept
unopened_missing : (k : Mechanism) (c : Conversation) (v : View) (p : Position) → IsRead c v p
    → has_opened v p ≡ false → list_any (is_at p) (missing_of c v) ≡ true
unopened_missing k c v p read unopened =
    let stream = (turn_of_epoch k c p.epoch).stream in
    let reached = read.reached in
    among_kept k c (missing_of c v) p (message_key stream p.index)
    (kept_key-below k c v p (v.epoch + 1) (omega arith) read.peers
    ∙ kept_key-missing p.epoch stream (indices_in v.arrived p.epoch) p.index (reach_in c v p.epoch)
    read.one read.most (is_among-indices v.arrived p ∙ unopened))

-- so it was opened where it isn't missing
pub opened_unless : (k : Mechanism) (c : Conversation) (v : View) (p : Position) → IsRead c v p
    → list_any (is_at p) (missing_of c v) ≡ false → has_opened v p ≡ true
opened_unless k c v p read unlisted =
    elim (cases_Bool (has_opened v p)) as (λ _. has_opened v p ≡ true) [
      | inl opened ↦ opened
      | inr unopened ↦
          let listed = unopened_missing k c v p read unopened in
          absurd (both_ways (list_any (is_at p) (missing_of c v)) unlisted listed)
    ]

-- ---- up to how far the latest peer's epoch was read

module _ (c : Conversation) (v : View) (t : ℕ) (latest : IsLatest v.side v.epoch t) where
  -- a text up to there is no further than its epoch was read
  pub up_to_read : (p : Position) → is_own v.side p.epoch ≡ false
      → IsUpTo (position_at t (reach_in c v t)) p → p.index ≤ count_of c p.epoch
      → p.index ≤ reach_in c v p.epoch
  up_to_read p peers up said =
      elim (cases_lt (reach_in c v p.epoch) p.index) as (λ _. p.index ≤ reach_in c v p.epoch) [
        | inl early ↦
            let low = up.0 in
            let reached = latest.reached in
            let near = near_reach c v p.epoch p.index said early in
            let same = is_latest v.side v.epoch t p.epoch latest peers (omega arith) near in
            absurd (omega (arith, up.1 (sym same), ap (reach_in c v) same))
        | inr within ↦ within
      ]

  -- and what is missing stands up to there
  pub missed_up : (p : Position) → IsMissed c v p → p.epoch ≤ v.epoch
      → IsUpTo (position_at t (reach_in c v t)) p
  missed_up p missed reached = (
    elim (cases_lt t p.epoch) as (λ _. p.epoch ≤ t) [
      | inl later ↦
          let near = latest.near in
          let same = is_latest v.side v.epoch t p.epoch latest missed.peers reached (omega arith) in
          absurd (omega arith)
      | inr within ↦ within
    ],
    λ same. subst (λ (u : ℕ). p.index ≤ reach_in c v u) same missed.most,
  )
