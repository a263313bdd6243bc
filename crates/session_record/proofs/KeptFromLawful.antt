-- The kept keys and the receiving stream of a lawful client pass the tests.
use Rattle.std.proofs.Common.{◌≡◌, ℕ, zero, suc, ◌+◌, ◌-◌, ◌<◌, ◌≤◌, ◌==◌, Bool, true, false, List, [], length, take, get_or, Option, Some, None, refl, ap, subst, arith, if◌then◌else◌}
use Rattle.std.specs.Prelude.{not, nat_le, nat_lt, ◌||◌, All}
use Rattle.std.proofs.lemmas.Bool.{le-leb, and_from, not_from_false}
use Rattle.std.proofs.lemmas.Bool.Decides.{nat_tests}
use Rattle.dr_base.specs.declared.key.Kept.{Kept}
use Rattle.dr_base.specs.declared.position.Side.{Side}
use Rattle.dr_base.specs.declared.position.Side.TheVariants.{First, Second}
use Rattle.fs_aead.specs.Table.{AllBefore, IsAscending}
use Rattle.dr_base.specs.Position.{is_own, position_at}
use Rattle.session_model.specs.LawfulStates.{IsLawfulKept, IsLawfulReception}
use Rattle.session_model.specs.States.{Reception}
use Rattle.dr_base.specs.declared.limits.TheConstants.{INDEX_LIMIT, LAST_EPOCH}
use Rattle.grammar.specs.Printer.{AreItems, IsMaybe}
use Rattle.grammar.proofs.Lists.{items-from}
use Rattle.session_record.specs.Lists.{last_position, most_kept, reach_of}
use Rattle.session_record.proofs.Passing.{PassesKept, PassesReception}
use Rattle.session_record.proofs.Items.{above_last, last_before}
use Rattle.session_record.proofs.Lasts.{last_of-push}

-- ---- kept keys

parities : (side : Side) (t u : ℕ) → is_own side t ≡ false → is_own side u ≡ false → t < u → t + 1 < u
parities First t u a b small = grind (arith, nat_tests)
parities Second t u a b small = grind (arith, nat_tests)

own_before : (side : Side) (epoch : ℕ) → is_own side (suc epoch) ≡ true → is_own side epoch ≡ false
own_before First epoch own = grind (arith, nat_tests)
own_before Second epoch own = grind (arith, nat_tests)

within_latest : (epoch t n reach latest : ℕ) → n ≤ INDEX_LIMIT → epoch ≤ latest + 1
    → (t ≡ latest → n < reach + 1) → (t < latest → t + 1 < latest) → t ≤ latest → latest ≤ epoch
    → nat_le n (most_kept epoch reach t) ≡ true
within_latest epoch t n reach latest few near below apart most inside = grind (arith, nat_tests)

-- the keys that a table may hold, each of 32 bytes
pub record AreKeys (side : Side) (list : List Kept) : Type 0 where
  pub each : All (IsLawfulKept side) list
  pub long : All (λ kept. length kept.key.bytes ≡ 32) list
  pub up : IsAscending list

kept_passes : (side : Side) (epoch reach latest : ℕ) (list : List Kept) → AreKeys side list
    → is_own side latest ≡ false → epoch ≤ latest + 1 → latest ≤ epoch → epoch ≤ LAST_EPOCH
    → AllBefore list (record { epoch = latest; index = reach + 1 })
    → (i : ℕ) (d : Kept) → i < length list → PassesKept side epoch reach (take i list) (get_or list i d)
kept_passes side epoch reach latest list keys peers near within fits all i d inside =
    let kept = get_or list i d in
    let one = keys.each i d inside in
    let last = last_before (λ (kept : Kept). kept.position) last_position refl (last_of-push (position_at 0 0)) list i d inside one.one keys.up in
    let below = all i d inside in
    let t = kept.position.epoch in
    let n = kept.position.index in
    let l = last_position (take i list) in
    let above : (nat_lt (last_position (take i list)).epoch (get_or list i d).position.epoch || nat_lt (last_position (take i list)).index (get_or list i d).position.index) ≡ true =
    above_last l kept.position last in
    let index = within_latest epoch t n reach latest one.most near below.1 (parities side t latest one.peers peers) below.0 within in
    record {
      epoch_is = and_from _ _ (and_from _ _ (not_from_false _ one.peers) (le-leb _ _ (omega (arith, below.0)))) (le-leb _ _ last.0);
      epoch_fits = omega (arith, below.0);
      index_is = and_from _ _ (le-leb 1 n one.one) (and_from _ _ index above);
      index_fits = omega (arith, one.most);
      key_long = keys.long i d inside;
    }

no_key : Kept
no_key = record { position = position_at 0 0; key = record { bytes = [] } }

pub record IsReceived (side : Side) (epoch : ℕ) (own : Bool) (receiving : Option Reception) (kept : List Kept) : Type 0 where
  pub there : IsMaybe (not own || nat_lt 0 epoch) PassesReception receiving
  pub keys : AreItems (PassesKept side epoch (reach_of receiving)) (length kept) kept

part_of : (r : Reception) → length r.chain ≡ 32 → r.reach ≤ INDEX_LIMIT → PassesReception r
part_of r long few = record { chain_long = long; few = le-leb r.reach INDEX_LIMIT few }

pub received : (side : Side) (epoch : ℕ) (own : Bool) → is_own side epoch ≡ own → epoch ≤ LAST_EPOCH
    → (receiving : Option Reception) (kept : List Kept) → AreKeys side kept
    → IsLawfulReception kept receiving (if own then (if epoch == 0 then None else Some (epoch - 1)) else Some epoch) → IsReceived side epoch own receiving kept
received side zero true is fits None kept keys lawful = record {
  there = refl;
  keys = items-from (PassesKept side 0 0) kept no_key (λ i d inside. absurd (let none = ap (λ (l : List Kept). length l) lawful in omega arith));
}
received side zero true is fits (Some r) kept keys lawful = absurd lawful
received side (suc epoch) true is fits receiving kept keys lawful =
    let positive : (suc epoch == 0) ≡ false = grind (arith, nat_tests) in
    let before : suc epoch - 1 ≡ epoch = omega arith in
    behind receiving
    (subst (λ (m : ℕ). IsLawfulReception kept receiving (Some m)) before (subst (λ (b : Bool). IsLawfulReception kept receiving (if b then None else Some (suc epoch - 1))) positive lawful))
  where
    behind : (o : Option Reception) → IsLawfulReception kept o (Some epoch) → IsReceived side (suc epoch) true o kept
    behind None lawful = absurd lawful
    behind (Some r) lawful = record {
      there = (some, part_of r lawful.0 lawful.1);
      keys = items-from (PassesKept side (suc epoch) r.reach) kept no_key
          (kept_passes side (suc epoch) r.reach epoch kept keys (own_before side epoch is) (omega arith) (omega arith) fits lawful.2);
    }
      where
        some : nat_lt 0 (suc epoch) ≡ true
        some = grind (arith, nat_tests)
received side epoch false is fits None kept keys lawful = absurd lawful
received side epoch false is fits (Some r) kept keys lawful = record {
  there = (refl, part_of r lawful.0 lawful.1);
  keys = items-from (PassesKept side epoch r.reach) kept no_key (kept_passes side epoch r.reach epoch kept keys is (omega arith) (omega arith) fits lawful.2);
}
