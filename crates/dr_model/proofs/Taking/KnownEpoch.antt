-- A packet of a peer's epoch that the side has reached: what the session answers, and what it keeps then.
use Rattle.std.proofs.Common.{◌≡◌, ℕ, ◌+◌, ◌≤◌, ◌&&◌, Bool, true, false, not, nat_le, nat_lt, List, [], ◌∷◌, ◌++◌, length, Option, Some, Ok, Err, refl, sym, ap, ap₂, ◌∙◌, inl, inr, arith, if◌then◌else◌}
use Rattle.std.specs.Prelude.{option_map, max}
use Rattle.std.proofs.lemmas.Bool.{and_left, and_right, cases_Bool, cases_eq, cases_lt, cond-true, cond-false, le-ltb, lt-leb}
use Rattle.std.proofs.lemmas.List.{length-map}
use Rattle.std.proofs.lemmas.List.Sums.{count_by-le-length, length-filter}
use Rattle.dr_base.specs.Position.{is_own}
use Rattle.dr_base.specs.declared.key.Kept.{Kept}
use Rattle.dr_base.specs.declared.position.Position.{Position}
use Rattle.fs_aead.specs.Chain.{chain_of, message_key}
use Rattle.fs_aead.specs.Table.{is_kept_at, kept_key, without}
use Rattle.kem_laws.specs.Mechanism.{Mechanism}
use Rattle.session_model.specs.Awaiting.{still_waiting}
use Rattle.session_model.specs.States.{Reception, State}
use Rattle.session_model.specs.Ways.{chain_way, kept_way, known_way}
use Rattle.session_model.specs.declared.answer.Refusal.TheVariants.{Spent}
use Rattle.dr_model.specs.Conversations.Conversation.{Conversation, count_of, receipt_at}
use Rattle.dr_model.specs.Conversations.Indices.{is_among, reach}
use Rattle.dr_model.specs.Conversations.Posts.{key_of, turn_of_epoch}
use Rattle.dr_model.specs.Conversations.ViewStates.{view_reception, state_of}
use Rattle.dr_model.specs.Conversations.Views.{View, after_opening, has_opened, indices_in, missing_of, reach_in}
use Rattle.dr_model.proofs.Growth.SameViews.{kept-waiting}
use Rattle.dr_model.proofs.Missing.Arrived.{reach-push, reach-greatest}
use Rattle.dr_model.proofs.Missing.EpochIndices.{indices_in-other, indices_in-same, is_among-indices}
use Rattle.dr_model.proofs.Missing.MissingEpochs.{epoch_keys, keys_below, kept_key-below, without-below, without-other}
use Rattle.dr_model.proofs.Missing.MissingKeys.{keys_in, kept_key-missing, kept_key-spent, without-arrived}
use Rattle.dr_model.proofs.Taking.LatestEpoch.{IsLatest, is_latest}

-- the view with a position more, in the epoch that is reached
abbrev pub opened_here : View → Position → View
opened_here v p = record v { arrived = v.arrived ++ p ∷ [] }

-- the view once the receipt of a position is obeyed
abbrev pub obeying : Conversation → Position → View → View
obeying c p v = record v { awaiting = still_waiting (receipt_at c p) v.awaiting }

-- what a session keeps then
pub state_of-obeying : (k : Mechanism) (c : Conversation) (p : Position) (v : View)
    → record (state_of k c v) { awaiting = still_waiting (receipt_at c p) v.awaiting } ≡ state_of k c (obeying c p v)
state_of-obeying k c p v =
    ap (λ (kept : List Kept). record (state_of k c (obeying c p v)) { kept = kept })
    (sym (kept-waiting k c v (still_waiting (receipt_at c p) v.awaiting)))

-- a known epoch leaves the reached one
pub after_opening-known : (c : Conversation) (v : View) (p : Position) → p.epoch ≤ v.epoch
    → after_opening c v p ≡ obeying c p (opened_here v p)
after_opening-known c v p known =
    let same : max v.epoch p.epoch ≡ v.epoch = omega arith in
    ap (λ (epoch : ℕ). obeying c p (record v { arrived = v.arrived ++ p ∷ []; epoch = epoch })) same

-- the reach where an index arrives that isn't greater
reach_late : (latest : Bool) (indices : List ℕ) (i end : ℕ) → i ≤ (if latest then reach indices else end)
    → (if latest then reach (indices ++ i ∷ []) else end) ≡ (if latest then reach indices else end)
reach_late true indices i end h = reach-push indices i ∙ omega arith
reach_late false indices i end h = refl

-- other epochs keep their keys
pub epoch_keys-other : (k : Mechanism) (c : Conversation) (v : View) (p : Position) (epoch : ℕ) → (p.epoch ≡ epoch → ⊥)
    → epoch_keys k c (opened_here v p) epoch ≡ epoch_keys k c v epoch
epoch_keys-other k c v p epoch ne =
    ap (λ indices. keys_in epoch (turn_of_epoch k c epoch).stream indices
    (if nat_le v.epoch (epoch + 1) then reach indices else count_of c epoch))
    (indices_in-other v.arrived p epoch ne)

-- and their reach
reach_in-other : (c : Conversation) (v : View) (p : Position) (epoch : ℕ) → (p.epoch ≡ epoch → ⊥)
    → reach_in c (opened_here v p) epoch ≡ reach_in c v epoch
reach_in-other c v p epoch ne =
    ap (λ indices. if nat_le v.epoch (epoch + 1) then reach indices else count_of c epoch)
    (indices_in-other v.arrived p epoch ne)

-- its own epoch keeps its reach where its index isn't greater
reach_in-late : (c : Conversation) (v : View) (p : Position) → p.index ≤ reach_in c v p.epoch
    → reach_in c (opened_here v p) p.epoch ≡ reach_in c v p.epoch
reach_in-late c v p late =
    ap (λ indices. if nat_le v.epoch (p.epoch + 1) then reach indices else count_of c p.epoch)
    (indices_in-same v.arrived p p.epoch refl)
    ∙ reach_late (nat_le v.epoch (p.epoch + 1)) (indices_in v.arrived p.epoch) p.index (count_of c p.epoch) late

-- so each epoch keeps it
reach_in-stays : (c : Conversation) (v : View) (p : Position) (epoch : ℕ) → p.index ≤ reach_in c v p.epoch
    → reach_in c (opened_here v p) epoch ≡ reach_in c v epoch
reach_in-stays c v p epoch late =
    elim (cases_eq p.epoch epoch) as (λ _. reach_in c (opened_here v p) epoch ≡ reach_in c v epoch) [
      | inl same ↦ ap (reach_in c (opened_here v p)) (sym same) ∙ reach_in-late c v p late ∙ ap (reach_in c v) same
      | inr other ↦ reach_in-other c v p epoch other
    ]

-- ---- a kept key

-- an index that arrived isn't greater than its epoch's reach
pub opened_within : (c : Conversation) (v : View) (p : Position) → p.index ≤ count_of c p.epoch → has_opened v p ≡ true
    → p.index ≤ reach_in c v p.epoch
opened_within c v p most opened =
    let least : p.index ≤ reach (indices_in v.arrived p.epoch) =
    reach-greatest (indices_in v.arrived p.epoch) p.index (is_among-indices v.arrived p ∙ opened) in
    elim (cases_Bool (nat_le v.epoch (p.epoch + 1))) as (λ _. p.index ≤ reach_in c v p.epoch) [
      | inl latest ↦ let same = cond-true (nat_le v.epoch (p.epoch + 1)) (reach (indices_in v.arrived p.epoch)) (count_of c p.epoch) latest in omega arith
      | inr earlier ↦ let same = cond-false (nat_le v.epoch (p.epoch + 1)) (reach (indices_in v.arrived p.epoch)) (count_of c p.epoch) earlier in omega arith
    ]

-- the session looks into its table
late_test : (c : Conversation) (v : View) (p : Position) (latest : ℕ) → IsLatest v.side v.epoch latest
    → is_own v.side p.epoch ≡ false → p.epoch ≤ v.epoch
    → p.index ≤ reach_in c v p.epoch → (nat_le v.epoch (p.epoch + 1) && nat_lt (reach_in c v latest) p.index) ≡ false
late_test c v p latest at own known late =
    elim (cases_lt (p.epoch + 1) v.epoch) as (λ _. (nat_le v.epoch (p.epoch + 1) && nat_lt (reach_in c v latest) p.index) ≡ false) [
      | inl earlier ↦ and_left (nat_le v.epoch (p.epoch + 1)) (nat_lt (reach_in c v latest) p.index) (lt-leb v.epoch (p.epoch + 1) earlier)
      | inr near ↦
          and_right (nat_le v.epoch (p.epoch + 1)) (nat_lt (reach_in c v latest) p.index)
          (le-ltb (reach_in c v latest) p.index
          (let same = ap (reach_in c v) (is_latest v.side v.epoch latest p.epoch at own known near) in omega arith))
    ]

-- the reception of the latest peer's epoch
pub receiving-latest : (k : Mechanism) (c : Conversation) (v : View) (latest : ℕ) → IsLatest v.side v.epoch latest
    → (state_of k c v).receiving ≡ Some (view_reception k c v latest)
receiving-latest k c v latest at = ap (option_map (view_reception k c v)) at.receiving

way_late : (k : Mechanism) (c : Conversation) (v : View) (p : Position) (latest : ℕ) → IsLatest v.side v.epoch latest
    → is_own v.side p.epoch ≡ false → p.epoch ≤ v.epoch
    → p.index ≤ reach_in c v p.epoch
    → known_way (state_of k c v) p (state_of k c v).receiving
    ≡ kept_way (state_of k c v) p (kept_key (epoch_keys k c v p.epoch) p)
way_late k c v p latest at own known late =
    let s = state_of k c v in
    ap (known_way s p) (receiving-latest k c v latest at)
    ∙ cond-false (nat_le v.epoch (p.epoch + 1) && nat_lt (reach_in c v latest) p.index)
    (chain_way s (view_reception k c v latest) p) (kept_way s p (kept_key s.kept p))
    (late_test c v p latest at own known late)
    ∙ ap (kept_way s p) (kept_key-below k c v p (v.epoch + 1) (omega arith) own)

-- what was opened has no key
pub way_spent : (k : Mechanism) (c : Conversation) (v : View) (p : Position) (latest : ℕ) → IsLatest v.side v.epoch latest
    → is_own v.side p.epoch ≡ false → p.epoch ≤ v.epoch
    → p.index ≤ count_of c p.epoch → has_opened v p ≡ true
    → known_way (state_of k c v) p (state_of k c v).receiving ≡ Err (Spent p)
way_spent k c v p latest at own known most opened =
    let indices = indices_in v.arrived p.epoch in
    way_late k c v p latest at own known (opened_within c v p most opened)
    ∙ ap (kept_way (state_of k c v) p)
    (kept_key-spent p.epoch (turn_of_epoch k c p.epoch).stream indices p.index (reach_in c v p.epoch)
    (λ i low high new same. let there = ap (is_among indices) same ∙ is_among-indices v.arrived p ∙ opened in cc))

-- its key leaves its epoch alone
without-epoch : (k : Mechanism) (c : Conversation) (v : View) (p : Position) (epoch : ℕ) → p.index ≤ reach_in c v p.epoch
    → without (epoch_keys k c v epoch) p ≡ epoch_keys k c (opened_here v p) epoch
without-epoch k c v p epoch late =
    let stream = (turn_of_epoch k c p.epoch).stream in
    elim (cases_eq epoch p.epoch) as (λ _. without (epoch_keys k c v epoch) p ≡ epoch_keys k c (opened_here v p) epoch) [
      | inl same ↦
          ap (λ e. without (epoch_keys k c v e) p) same
          ∙ without-arrived p.epoch stream (indices_in v.arrived p.epoch) p.index (reach_in c v p.epoch)
          ∙ ap₂ (λ indices n. keys_in p.epoch stream indices n) (sym (indices_in-same v.arrived p p.epoch refl))
          (sym (reach_in-late c v p late))
          ∙ ap (epoch_keys k c (opened_here v p)) (sym same)
      | inr other ↦ without-other k c v p epoch other ∙ sym (epoch_keys-other k c v p epoch (λ same. other (sym same)))
    ]

-- what the session keeps without it
kept_next : (k : Mechanism) (c : Conversation) (v : View) (p : Position) (latest : ℕ) → IsLatest v.side v.epoch latest
    → p.index ≤ reach_in c v p.epoch
    → record (state_of k c v) { kept = without (state_of k c v).kept p } ≡ state_of k c (opened_here v p)
kept_next k c v p latest at late =
    let next = opened_here v p in
    let chain = (turn_of_epoch k c latest).stream in
    ap₂ (λ (receiving : Option Reception) (kept : List Kept). record (state_of k c v) { receiving = receiving; kept = kept })
    (receiving-latest k c v latest at
    ∙ ap (λ n. Some (record { chain = chain_of chain n; reach = n })) (sym (reach_in-stays c v p latest late))
    ∙ sym (receiving-latest k c next latest at))
    (without-below k c v next p (v.epoch + 1) refl (λ epoch low own. without-epoch k c v p epoch late))

-- a missing position's key is kept
pub way_kept : (k : Mechanism) (c : Conversation) (v : View) (p : Position) (latest : ℕ) → IsLatest v.side v.epoch latest
    → is_own v.side p.epoch ≡ false → p.epoch ≤ v.epoch
    → 1 ≤ p.index → p.index ≤ reach_in c v p.epoch → has_opened v p ≡ false
    → known_way (state_of k c v) p (state_of k c v).receiving
    ≡ Ok (record { key = message_key (turn_of_epoch k c p.epoch).stream p.index; next = state_of k c (opened_here v p) })
way_kept k c v p latest at own known one late new =
    let stream = (turn_of_epoch k c p.epoch).stream in
    let indices = indices_in v.arrived p.epoch in
    way_late k c v p latest at own known late
    ∙ ap (kept_way (state_of k c v) p)
    (kept_key-missing p.epoch stream indices p.index (reach_in c v p.epoch) one late (is_among-indices v.arrived p ∙ new))
    ∙ ap (λ (next : State). Ok (record { key = message_key stream p.index; next = next })) (kept_next k c v p latest at late)

-- no more are missing then
pub length-kept : (k : Mechanism) (c : Conversation) (v : View) (p : Position) → p.index ≤ reach_in c v p.epoch
    → length (missing_of c (opened_here v p)) ≤ length (missing_of c v)
unfolding without
length-kept k c v p late =
    let next = opened_here v p in
    let keys = keys_below k c v (v.epoch + 1) in
    let taken : without keys p ≡ keys_below k c next (v.epoch + 1) = without-below k c v next p (v.epoch + 1) refl
    (λ epoch low own. without-epoch k c v p epoch late) in
    let fewer : length (without keys p) ≤ length keys = omega
    (arith, length-filter (λ kept. not (is_kept_at p kept)) keys, count_by-le-length (λ kept. not (is_kept_at p kept)) keys) in
    let before : length keys ≡ length (missing_of c v) = length-map (missing_of c v) (key_of k c) in
    let after : length (keys_below k c next (v.epoch + 1)) ≡ length (missing_of c next) = length-map (missing_of c next)
    (key_of k c) in
    let same = ap length taken in
    omega arith
