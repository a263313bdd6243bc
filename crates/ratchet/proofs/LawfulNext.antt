-- The next epoch of the peer leads from a lawful state to a lawful one.
use Rattle.std.proofs.Common.{◌≡◌, ℕ, ◌+◌, ◌-◌, ◌<◌, ◌≤◌, false, List, ◌++◌, length, Option, Some, None, refl, sym, ◌∙◌, ap, subst, arith}
use Rattle.std.specs.Prelude.{All, not}
use Rattle.std.proofs.lemmas.List.{length-append}
use Rattle.std.proofs.lemmas.List.Elements.{All-nil, All-weaker}
use Rattle.dr_base.specs.declared.limits.TheConstants.{INDEX_LIMIT, LAST_EPOCH, KEPT_LIMIT}
use Rattle.dr_base.specs.declared.key.Kept.{Kept}
use Rattle.dr_base.specs.declared.position.Position.{Position}
use Rattle.dr_base.specs.Position.{IsBefore, is_own}
use Rattle.dr_base.proofs.Parity.{own_next}
use Rattle.fs_aead.specs.Table.{AllBefore, IsAscending, shelved}
use Rattle.fs_aead.proofs.Streams.{length-shelved, shelved-ascending, table-before}
use Rattle.session_model.specs.States.{Own, in_own, in_peers, Reception, State, receiving_epoch}
use Rattle.session_model.specs.LawfulStates.{IsLawfulKept, IsLawfulReception, IsLawfulState}
use Rattle.session_model.proofs.LawfulKept.{lawful_kept-table}
use Rattle.kem_laws.specs.Mechanism.{Mechanism}
use Rattle.session_model.proofs.Latest.{latest-peers, latest-reached}
use Rattle.session_model.proofs.Waiting.{waiting-reached}
use Rattle.ratchet.proofs.LawfulTurn.{in_own_phase}

-- keys that come before a position come before the later epochs
before_next : (keys : List Kept) (epoch index next : ℕ) → epoch < next → AllBefore keys (record { epoch = epoch; index = index }) → AllBefore keys (record { epoch = next; index = 1 })
before_next keys epoch index next lt h =
    All-weaker (λ q. IsBefore q.position (record { epoch = epoch; index = index })) (λ q. IsBefore q.position (record { epoch = next; index = 1 }))
    (λ q b. let le = b.0 in ((let on : q.position.epoch ≤ next = omega arith in on), λ same. absurd (omega arith))) keys h

-- so the kept keys come before the next one
reception_before : (kept : List Kept) (r : Option Reception) (latest : Option ℕ) (next : ℕ) → IsLawfulReception kept r latest
    → ((it : ℕ) → latest ≡ Some it → it < next) → AllBefore kept (record { epoch = next; index = 1 })
reception_before kept None None next h below = subst (λ keys. AllBefore keys (record { epoch = next; index = 1 })) (sym h) (All-nil _)
reception_before kept None (Some epoch) next h below = absurd h
reception_before kept (Some r) None next h below = absurd h
reception_before kept (Some r) (Some epoch) next h below = before_next kept epoch (r.reach + 1) next (below epoch refl) h.2

pub kept_before : (k : Mechanism) (s : State) (next : ℕ) → IsLawfulState k s → next ≡ s.epoch + 1 → AllBefore s.kept (record { epoch = next; index = 1 })
kept_before k s next l e =
    reception_before s.kept s.receiving (receiving_epoch s.side s.epoch) next l.receiving
    (λ it h. let reached = latest-reached s.side s.epoch it h in omega arith)

-- the peer's next epoch, up to an index
pub lawful_next : (k : Mechanism) (s : State) (own : Own) (epoch index reach : ℕ) (root public chain stream : List ℕ) (table : List Kept) → IsLawfulState k s
    → s.phase ≡ in_own own → epoch ≡ s.epoch + 1 → epoch ≤ LAST_EPOCH → 1 ≤ index → index ≤ INDEX_LIMIT → length root ≡ 32 → length public ≡ k.public → length chain ≡ 32
    → reach ≡ index → length s.kept + (index - 1) ≤ KEPT_LIMIT → table ≡ s.kept ++ shelved epoch stream 0 (index - 1)
    → IsLawfulState k (record s {
      root = root;
      epoch = epoch;
      phase = in_peers public;
      previous = own.sent;
      receiving = Some (record { chain = chain; reach = reach });
      kept = table;
    })
lawful_next k s own epoch index reach root public chain stream table l e next fits one most root_long public_long long place room is =
    let was = in_own_phase k s own l e in
    let peers : is_own s.side epoch ≡ false = ap (is_own s.side) next ∙ own_next s.side s.epoch ∙ ap not was.0 in
    let below : AllBefore s.kept (record { epoch = epoch; index = 1 }) = kept_before k s epoch l next in
    let all : List Kept = s.kept ++ shelved epoch stream 0 (index - 1) in
    let last : Position = record { epoch = epoch; index = 0 + (index - 1) + 1 } in
    let after : Position = record { epoch = epoch; index = reach + 1 } in
    let later : (q : Kept) → IsBefore q.position last → IsBefore q.position after = λ q h. (h.0, λ same. let lower = h.1 same in omega arith) in
    let before : AllBefore all after =
    All-weaker (λ q. IsBefore q.position last) (λ q. IsBefore q.position after) later all (table-before epoch stream 0 (index - 1) s.kept below) in
    let size : length table ≡ length s.kept + (index - 1) =
    ap length is ∙ length-append s.kept (shelved epoch stream 0 (index - 1)) ∙ ap (λ x. length s.kept + x) (length-shelved epoch stream 0 (index - 1)) in
    let sent : own.sent ≤ INDEX_LIMIT = was.1.few in
    let none : epoch ≡ 0 → own.sent ≡ 0 = λ h. absurd (omega arith) in
    let reached : reach ≤ INDEX_LIMIT = omega arith in
    record {
      session_long = l.session_long;
      root_long = root_long;
      epoch_fits = omega arith;
      phase = (peers, public_long);
      previous = (sent, none);
      receiving = subst (IsLawfulReception table (Some (record { chain = chain; reach = reach }))) (sym (latest-peers s.side epoch peers))
          (long, reached, subst (λ keys. AllBefore keys after) (sym is) before);
      kept = subst IsAscending (sym is) (shelved-ascending epoch stream 0 (index - 1) s.kept l.kept below);
      each = subst (All (IsLawfulKept s.side)) (sym is) (lawful_kept-table s.side s.kept epoch stream 0 (index - 1) l.each peers (omega arith));
      few = omega arith;
      waiting = waiting-reached s.side s.epoch epoch s.phase public s.awaiting (omega arith) l.waiting;
    }
