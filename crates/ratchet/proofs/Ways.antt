-- Ways to the key of a packet: what the calls of the code come to.
use Rattle.std.proofs.Common.{◌≡◌, ℕ, ◌+◌, ◌-◌, ◌<◌, ◌≤◌, ◌++◌, List, length, Some, Ok, sym, ◌∙◌, ap, ap₂, arith}
use Rattle.std.specs.Prelude.{nat_lt}
use Rattle.std.proofs.lemmas.Bool.Decides.{nat_tests}
use Rattle.std.proofs.lemmas.Bool.{cond-false}
use Rattle.dr_base.specs.declared.limits.TheConstants.{KEPT_LIMIT}
use Rattle.dr_base.specs.declared.key.Kept.{Kept}
use Rattle.dr_base.specs.declared.position.Position.{Position}
use Rattle.fs_aead.specs.Chain.{chain_of, next_chain, message_key, chain_message_key}
use Rattle.fs_aead.specs.Table.{shelved}
use Rattle.fs_aead.proofs.Streams.{chain_of-suc, message_key-suc}
use Rattle.fs_aead.specs.Stream.{Stream}
use Rattle.session_model.specs.Ways.{Way, chain_way, within_limit}
use Rattle.session_model.specs.States.{Reception, State}

-- a stream that was advanced to just before an index, and went on
pub record Went (epoch index : ℕ) (chain : List ℕ) (reach : ℕ) (kept : List Kept) (resumed advanced stream : Stream) (table : List Kept) : Type 0 where
  pub from : resumed ≡ record { chain = chain; count = reach }
  pub passed : advanced ≡ record { chain = chain_of resumed.chain (index - 1 - resumed.count); count = index - 1 }
  pub next : stream ≡ record { chain = next_chain advanced.chain; count = advanced.count + 1 }
  pub keys : table ≡ kept ++ shelved epoch resumed.chain resumed.count (index - 1 - resumed.count)

-- the chain key after the steps before the index
went_before : (epoch index : ℕ) (chain : List ℕ) (reach : ℕ) (kept : List Kept) (resumed advanced stream : Stream) (table : List Kept)
    → Went epoch index chain reach kept resumed advanced stream table → advanced.chain ≡ chain_of chain (index - reach - 1)
went_before epoch index chain reach kept resumed advanced stream table w =
    let same : index - 1 - reach ≡ index - reach - 1 = omega arith in
    ap (λ (x : Stream). x.chain) w.passed ∙ ap (λ (x : Stream). chain_of x.chain (index - 1 - x.count)) w.from ∙ ap (chain_of chain) same

-- the chain key after it
pub went_chain : (epoch index : ℕ) (chain : List ℕ) (reach : ℕ) (kept : List Kept) (resumed advanced stream : Stream) (table : List Kept) → reach < index
    → Went epoch index chain reach kept resumed advanced stream table → stream.chain ≡ chain_of chain (index - reach)
went_chain epoch index chain reach kept resumed advanced stream table above w =
    let steps : index - reach - 1 + 1 ≡ index - reach = omega arith in
    ap (λ (x : Stream). x.chain) w.next ∙ ap next_chain (went_before epoch index chain reach kept resumed advanced stream table w)
    ∙ sym (chain_of-suc chain (index - reach - 1)) ∙ ap (chain_of chain) steps

-- it stands at the index
pub went_reach : (epoch index : ℕ) (chain : List ℕ) (reach : ℕ) (kept : List Kept) (resumed advanced stream : Stream) (table : List Kept) → reach < index
    → Went epoch index chain reach kept resumed advanced stream table → stream.count ≡ index
went_reach epoch index chain reach kept resumed advanced stream table above w =
    let count : advanced.count ≡ index - 1 = ap (λ (x : Stream). x.count) w.passed in
    let one : stream.count ≡ advanced.count + 1 = ap (λ (x : Stream). x.count) w.next in
    omega arith

-- its key is the index's
pub went_key : (epoch index : ℕ) (chain : List ℕ) (reach : ℕ) (kept : List Kept) (resumed advanced stream : Stream) (table : List Kept) → reach < index
    → Went epoch index chain reach kept resumed advanced stream table → chain_message_key advanced.chain ≡ message_key chain (index - reach)
went_key epoch index chain reach kept resumed advanced stream table above w =
    let steps : index - reach - 1 + 1 ≡ index - reach = omega arith in
    ap chain_message_key (went_before epoch index chain reach kept resumed advanced stream table w)
    ∙ sym (message_key-suc chain (index - reach - 1)) ∙ ap (message_key chain) steps

-- the keys between are kept
pub went_keys : (epoch index : ℕ) (chain : List ℕ) (reach : ℕ) (kept : List Kept) (resumed advanced stream : Stream) (table : List Kept)
    → Went epoch index chain reach kept resumed advanced stream table → table ≡ kept ++ shelved epoch chain reach (index - reach - 1)
went_keys epoch index chain reach kept resumed advanced stream table w =
    let same : index - 1 - reach ≡ index - reach - 1 = omega arith in
    w.keys ∙ ap (λ (x : Stream). kept ++ shelved epoch x.chain x.count (index - 1 - x.count)) w.from ∙ ap (λ n. kept ++ shelved epoch chain reach n) same

-- a way within the limit
pub has_room : (would : ℕ) (way : Way) → would ≤ KEPT_LIMIT → within_limit would way ≡ Ok way
has_room would way few = cond-false (nat_lt KEPT_LIMIT would) _ _ (grind (arith, nat_tests))

-- the way along the chain
pub goes_along : (s : State) (r : Reception) (p : Position) (resumed advanced stream : Stream) (key chain : List ℕ) (reach : ℕ) (table : List Kept) → r.reach < p.index
    → length s.kept + (p.index - r.reach - 1) ≤ KEPT_LIMIT → Went p.epoch p.index r.chain r.reach s.kept resumed advanced stream table
    → key ≡ chain_message_key advanced.chain → chain ≡ stream.chain → reach ≡ stream.count
    → Ok (record { key = key; next = record s { receiving = Some (record { chain = chain; reach = reach }); kept = table } }) ≡ chain_way s r p
goes_along s r p resumed advanced stream key chain reach table above few w k c n =
    let make : List ℕ → List ℕ → ℕ → List Kept → Way =
    λ key chain reach table. record { key = key; next = record s { receiving = Some (record { chain = chain; reach = reach }); kept = table } } in
    ap Ok (ap (λ x. make x chain reach table) (k ∙ went_key p.epoch p.index r.chain r.reach s.kept resumed advanced stream table above w)
    ∙ ap (λ x. make (message_key r.chain (p.index - r.reach)) x reach table) (c ∙ went_chain p.epoch p.index r.chain r.reach s.kept resumed advanced stream table above w)
    ∙ ap₂ (make (message_key r.chain (p.index - r.reach)) (chain_of r.chain (p.index - r.reach)))
    (n ∙ went_reach p.epoch p.index r.chain r.reach s.kept resumed advanced stream table above w)
    (went_keys p.epoch p.index r.chain r.reach s.kept resumed advanced stream table w))
    ∙ sym (has_room (length s.kept + (p.index - r.reach - 1)) (make _ _ _ _) few)
