-- A receipt that was obeyed, a kept key less, or the keys that a chain passed leave a state lawful.
use Rattle.std.proofs.Common.{◌≡◌, ℕ, ◌+◌, ◌≤◌, List, ◌++◌, length, Option, Some, None, refl, sym, ◌∙◌, ap, subst, arith}
use Rattle.std.specs.Prelude.{All, not}
use Rattle.std.proofs.lemmas.List.{length-append}
use Rattle.std.proofs.lemmas.List.Elements.{All-filter, All-weaker}
use Rattle.std.proofs.lemmas.List.Filters.{length-filter_both}
use Rattle.bodies.specs.Receipts.{Receipt}
use Rattle.dr_base.specs.declared.limits.TheConstants.{INDEX_LIMIT, KEPT_LIMIT}
use Rattle.dr_base.specs.declared.key.Kept.{Kept}
use Rattle.dr_base.specs.declared.position.Position.{Position}
use Rattle.dr_base.specs.Position.{IsBefore}
use Rattle.fs_aead.specs.Table.{AllBefore, IsAscending, is_kept_at, without, shelved}
use Rattle.fs_aead.proofs.Streams.{length-shelved, shelved-ascending, table-before}
use Rattle.fs_aead.proofs.Tables.{IsAscending-without}
use Rattle.session_model.specs.Awaiting.{still_waiting}
use Rattle.session_model.specs.States.{Reception, State, receiving_epoch}
use Rattle.session_model.specs.LawfulStates.{IsLawfulKept, IsLawfulReception, IsLawfulState}
use Rattle.session_model.proofs.LawfulKept.{lawful_kept-table, lawful_kept-without}
use Rattle.kem_laws.specs.Mechanism.{Mechanism}
use Rattle.session_model.proofs.Latest.{latest_is-peers}
use Rattle.session_model.proofs.Waiting.{waiting-obeyed}

-- a receipt that was obeyed
pub lawful_obeyed : (k : Mechanism) (s : State) (receipt : Option Receipt) → IsLawfulState k s
    → IsLawfulState k (record s { awaiting = still_waiting receipt s.awaiting })
lawful_obeyed k s receipt l = record {
  session_long = l.session_long;
  root_long = l.root_long;
  epoch_fits = l.epoch_fits;
  phase = l.phase;
  previous = l.previous;
  receiving = l.receiving;
  kept = l.kept;
  each = l.each;
  few = l.few;
  waiting = waiting-obeyed s.side s.epoch s.phase receipt s.awaiting l.waiting;
}

-- a kept key less
reception_without : (kept : List Kept) (p : Position) (r : Option Reception) (epoch : Option ℕ) → IsLawfulReception kept r epoch → IsLawfulReception (without kept p) r epoch
unfolding without
reception_without kept p None None h = ap (λ keys. without keys p) h
reception_without kept p None (Some epoch) h = absurd h
reception_without kept p (Some r) None h = absurd h
reception_without kept p (Some r) (Some epoch) h =
    (h.0, h.1, All-filter (λ k. not (is_kept_at p k)) (λ k. IsBefore k.position (record { epoch = epoch; index = r.reach + 1 })) kept h.2)

length-without : (kept : List Kept) (p : Position) → length (without kept p) ≤ length kept
unfolding without
length-without kept p =
    let both = length-filter_both (is_kept_at p) (λ k. not (is_kept_at p k)) (λ k. refl) kept in
    omega arith

-- a state with a kept key less
lawful_less : (k : Mechanism) (s : State) (p : Position) → IsLawfulState k s → IsLawfulState k (record s { kept = without s.kept p })
lawful_less k s p l =
    let fewer = length-without s.kept p in
    let most = l.few in
    record {
      session_long = l.session_long;
      root_long = l.root_long;
      epoch_fits = l.epoch_fits;
      phase = l.phase;
      previous = l.previous;
      receiving = reception_without s.kept p s.receiving (receiving_epoch s.side s.epoch) l.receiving;
      kept = IsAscending-without s.kept p l.kept;
      each = lawful_kept-without s.side s.kept p l.each;
      few = omega arith;
      waiting = l.waiting;
    }

pub lawful_without : (k : Mechanism) (s : State) (p : Position) (table : List Kept) → IsLawfulState k s → table ≡ without s.kept p
    → IsLawfulState k (record s { kept = table })
lawful_without k s p table l is = subst (λ keys. IsLawfulState k (record s { kept = keys })) (sym is) (lawful_less k s p l)

-- the stream of the latest peer's epoch
pub known_reception : (k : Mechanism) (s : State) (r : Reception) (epoch : ℕ) → IsLawfulState k s → s.receiving ≡ Some r → receiving_epoch s.side s.epoch ≡ Some epoch
    → (length r.chain ≡ 32) × (r.reach ≤ INDEX_LIMIT) × AllBefore s.kept (record { epoch = epoch; index = r.reach + 1 })
known_reception k s r epoch l e f =
    subst (IsLawfulReception s.kept (Some r)) f (subst (λ o. IsLawfulReception s.kept o (receiving_epoch s.side s.epoch)) e l.receiving)

-- a stream that goes on, with the keys that it passed
pub lawful_along : (k : Mechanism) (s : State) (r : Reception) (epoch n : ℕ) (chain : List ℕ) (reach : ℕ) (table : List Kept) → IsLawfulState k s
    → s.receiving ≡ Some r → receiving_epoch s.side s.epoch ≡ Some epoch → length chain ≡ 32 → r.reach + n ≤ reach → reach ≤ INDEX_LIMIT
    → length s.kept + n ≤ KEPT_LIMIT → table ≡ s.kept ++ shelved epoch r.chain r.reach n
    → IsLawfulState k (record s { receiving = Some (record { chain = chain; reach = reach }); kept = table })
lawful_along k s r epoch n chain reach table l e f long place most room is =
    let kept : List Kept = s.kept ++ shelved epoch r.chain r.reach n in
    let last : Position = record { epoch = epoch; index = r.reach + n + 1 } in
    let next : Position = record { epoch = epoch; index = reach + 1 } in
    let below = (known_reception k s r epoch l e f).2 in
    let later : (q : Kept) → IsBefore q.position last → IsBefore q.position next = λ q h. (h.0, λ same. let before = h.1 same in omega arith) in
    let before : AllBefore kept next =
    All-weaker (λ q. IsBefore q.position last) (λ q. IsBefore q.position next) later kept (table-before epoch r.chain r.reach n s.kept below) in
    let size : length table ≡ length s.kept + n =
    ap length is ∙ length-append s.kept (shelved epoch r.chain r.reach n) ∙ ap (λ x. length s.kept + x) (length-shelved epoch r.chain r.reach n) in
    record {
      session_long = l.session_long;
      root_long = l.root_long;
      epoch_fits = l.epoch_fits;
      phase = l.phase;
      previous = l.previous;
      receiving = subst (IsLawfulReception table (Some (record { chain = chain; reach = reach }))) (sym f)
          (long, most, subst (λ keys. AllBefore keys next) (sym is) before);
      kept = subst IsAscending (sym is) (shelved-ascending epoch r.chain r.reach n s.kept l.kept below);
      each = subst (All (IsLawfulKept s.side)) (sym is) (lawful_kept-table s.side s.kept epoch r.chain r.reach n l.each (latest_is-peers s.side s.epoch epoch f) (omega arith));
      few = omega arith;
      waiting = l.waiting;
    }
