-- Kept keys and a receiving stream that pass the tests are lawful.
use Rattle.std.proofs.Common.{◌≡◌, ℕ, zero, suc, ◌+◌, ◌-◌, ◌≤◌, ◌==◌, Bool, true, false, List, [], Option, Some, None, refl, sym, ◌∙◌, ap, subst, arith, inl, inr, if◌then◌else◌}
use Rattle.std.specs.Prelude.{not, nat_le, nat_lt, ◌||◌}
use Rattle.std.proofs.lemmas.Bool.{leb-true, cases_lt, not-true, and_parts}
use Rattle.std.proofs.lemmas.Bool.Decides.{nat_tests}
use Rattle.std.proofs.lemmas.List.Elements.{All-push}
use Rattle.dr_base.specs.declared.key.Kept.{Kept}
use Rattle.dr_base.specs.declared.position.Side.{Side}
use Rattle.dr_base.specs.declared.position.Side.TheVariants.{First, Second}
use Rattle.fs_aead.specs.Table.{AllBefore, IsAscending}
use Rattle.dr_base.specs.Position.{IsBefore, is_own, position_at}
use Rattle.dr_base.specs.declared.limits.TheConstants.{INDEX_LIMIT}
use Rattle.session_model.specs.LawfulStates.{IsLawfulReception}
use Rattle.session_model.specs.States.{Reception}
use Rattle.grammar.specs.Printer.{AreItems, no_items, and_item, IsMaybe}
use Rattle.session_record.specs.Lists.{is_peers, last_position, reach_of}
use Rattle.session_record.proofs.Passing.{PassesKept, PassesReception}
use Rattle.session_record.proofs.Items.{ups}
use Rattle.session_record.proofs.Lasts.{last_of-push}

-- ---- kept keys ascend

behind_last : (side : Side) (epoch reach : ℕ) (before : List Kept) (kept : Kept) → PassesKept side epoch reach before kept → IsBefore (last_position before) kept.position
behind_last side epoch reach before kept lawful =
    let epochs = lawful.epoch_is in
    let indices = lawful.index_is in
    grind (arith, nat_tests)

pub ascending : (side : Side) (epoch reach n : ℕ) (list : List Kept) → AreItems (PassesKept side epoch reach) n list → IsAscending list
ascending side epoch reach n list items =
    (ups (λ (kept : Kept). kept.position) last_position refl (last_of-push (position_at 0 0)) (PassesKept side epoch reach) (behind_last side epoch reach) n list items).up

-- ---- and are those of the peer's epochs up to the reach

-- the latest epoch of the peer's
record IsLatest (side : Side) (epoch latest : ℕ) : Type 0 where
  near : epoch ≤ latest + 1
  most : (t : ℕ) → t ≤ epoch → is_own side t ≡ false → t ≤ latest

below_reach : (side : Side) (epoch latest reach : ℕ) (before : List Kept) (kept : Kept) → IsLatest side epoch latest → PassesKept side epoch reach before kept
    → IsBefore kept.position (record { epoch = latest; index = reach + 1 })
below_reach side epoch latest reach before kept is lawful =
    let t = kept.position.epoch in
    let parts = and_parts (is_peers side epoch t) (nat_le (last_position before).epoch t) lawful.epoch_is in
    let peers = and_parts (not (is_own side t)) (nat_le t epoch) parts.0 in
    let inside : kept.position.epoch ≤ epoch = leb-true t epoch peers.1 in
    let near = is.near in
    let index = lawful.index_is in
    (is.most t inside (not-true (is_own side t) peers.0), λ same. grind (arith, nat_tests))

all_below : (side : Side) (epoch latest reach n : ℕ) (list : List Kept) → IsLatest side epoch latest → AreItems (PassesKept side epoch reach) n list
    → AllBefore list (record { epoch = latest; index = reach + 1 })
all_below side epoch latest reach n list is no_items = λ i d inside. absurd (omega arith)
all_below side epoch latest reach m list is (and_item n before a were lawful) =
    All-push (λ (kept : Kept). IsBefore kept.position (record { epoch = latest; index = reach + 1 })) before a
    (all_below side epoch latest reach n before is were) (below_reach side epoch latest reach before a is lawful)

-- Second keeps none in epoch 0
none_first : (side : Side) (reach n : ℕ) (list : List Kept) → is_own side 0 ≡ true → AreItems (PassesKept side 0 reach) n list → list ≡ []
none_first side reach n list own no_items = refl
none_first side reach m list own (and_item n before a were lawful) =
    let t = a.position.epoch in
    let parts = and_parts (is_peers side 0 t) (nat_le (last_position before).epoch t) lawful.epoch_is in
    let peers = and_parts (not (is_own side t)) (nat_le t 0) parts.0 in
    let zero_is : a.position.epoch ≡ 0 = omega (arith, leb-true t 0 peers.1) in
    let not_own = not-true (is_own side t) peers.0 in
    absurd (let e : true ≡ false = sym own ∙ ap (λ u. is_own side u) (sym zero_is) ∙ not_own in cc)

-- ---- the stream

own_next : (side : Side) (epoch : ℕ) → is_own side (suc epoch) ≡ true → is_own side epoch ≡ false
own_next First epoch own = grind (arith, nat_tests)
own_next Second epoch own = grind (arith, nat_tests)

latest_own : (side : Side) (epoch : ℕ) → is_own side (suc epoch) ≡ true → IsLatest side (suc epoch) epoch
latest_own side epoch own = record {
  near = omega arith;
  most = λ t inside peers. elim (cases_lt epoch t) as (λ _. t ≤ epoch) [
    | inl above ↦ (let same : t ≡ suc epoch = omega arith in absurd (let e : true ≡ false = sym own ∙ ap (λ u. is_own side u) (sym same) ∙ peers in cc))
    | inr not ↦ not
  ];
}

latest_peers : (side : Side) (epoch : ℕ) → IsLatest side epoch epoch
latest_peers side epoch = record { near = omega arith; most = λ t inside _. inside }

pub lawful_receiving : (side : Side) (epoch : ℕ) (own : Bool) → is_own side epoch ≡ own → (receiving : Option Reception) (n : ℕ) (kept : List Kept)
    → IsMaybe (not own || nat_lt 0 epoch) PassesReception receiving → AreItems (PassesKept side epoch (reach_of receiving)) n kept
    → IsLawfulReception kept receiving (if own then (if epoch == 0 then None else Some (epoch - 1)) else Some epoch)
lawful_receiving side zero true is None n kept there items = none_first side 0 n kept is items
lawful_receiving side zero true is (Some r) n kept there items = absurd (let e : false ≡ true = there.0 in cc)
lawful_receiving side (suc epoch) true is None n kept there items =
    let positive : nat_lt 0 (suc epoch) ≡ true = grind (arith, nat_tests) in
    absurd (let e : true ≡ false = sym positive ∙ there in cc)
lawful_receiving side (suc epoch) true is (Some r) n kept there items =
    let positive : (suc epoch == 0) ≡ false = grind (arith, nat_tests) in
    let before : suc epoch - 1 ≡ epoch = omega arith in
    subst (λ (b : Bool). IsLawfulReception kept (Some r) (if b then None else Some (suc epoch - 1))) (sym positive)
    (subst (λ (m : ℕ). IsLawfulReception kept (Some r) (Some m)) (sym before)
    (there.1.chain_long, leb-true r.reach INDEX_LIMIT there.1.few, all_below side (suc epoch) epoch r.reach n kept (latest_own side epoch is) items))
lawful_receiving side epoch false is None n kept there items = absurd (let e : true ≡ false = there in cc)
lawful_receiving side epoch false is (Some r) n kept there items =
    (there.1.chain_long, leb-true r.reach INDEX_LIMIT there.1.few, all_below side epoch epoch r.reach n kept (latest_peers side epoch) items)
