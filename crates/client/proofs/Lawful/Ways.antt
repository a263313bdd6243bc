-- The draft of a packet leads a lawful session to a lawful state.
use Rattle.std.proofs.Common.{Bool, Err, List, None, Ok, Option, Result, Some, [], ap, append-nil, arith, false, length, refl, subst, sym, true, ℕ, ◌++◌, ◌+◌, ◌-◌, ◌<◌, ◌∙◌, ◌≡◌, ◌≤◌}
use Rattle.std.specs.Cmp.Lexicographic.{pointwise}
use Rattle.std.specs.Prelude.{drop, if◌then◌else◌, nat_eq, nat_le, nat_lt, not, take, ◌&&◌, ◌==◌}
use Rattle.std.proofs.lemmas.Bool.Decides.{nat_tests}
use Rattle.std.proofs.lemmas.List.{length-append, length-drop}
use Rattle.cka.specs.Agreement.{agreement_size}
use Rattle.dr_base.specs.Position.{is_own}
use Rattle.dr_base.specs.declared.key.Kept.{Kept}
use Rattle.dr_base.specs.declared.limits.TheConstants.{INDEX_LIMIT, KEPT_LIMIT}
use Rattle.dr_base.specs.declared.position.Position.{Position}
use Rattle.dr_base.specs.declared.position.Side.{Side}
use Rattle.dr_base.proofs.Parity.{own_next}
use Rattle.dr_model.proofs.Worlds.StateLawful.{length-chain_of}
use Rattle.fs_aead.specs.Chain.{chain_of}
use Rattle.fs_aead.specs.Table.{kept_key, shelved, without}
use Rattle.fs_aead.proofs.Streams.{length-shelved}
use Rattle.kem_laws.specs.Mechanism.{Mechanism}
use Rattle.packet.specs.Packet.{Fields, IsLawful, agreement_len}
use Rattle.prf_prng.specs.Root.{next_root, root_key}
use Rattle.prf_prng.proofs.Lengths.{length-next_root, length-root_key}
use Rattle.ratchet.proofs.Fields.{agreement_later}
use Rattle.ratchet.proofs.LawfulKept.{known_reception, lawful_along, lawful_obeyed, lawful_without}
use Rattle.ratchet.proofs.LawfulNext.{lawful_next}
use Rattle.ratchet.proofs.LawfulTurn.{in_own_phase}
use Rattle.session_model.proofs.Latest.{latest-own, latest-peers}
use Rattle.session_model.specs.LawfulStates.{IsLawfulReception, IsLawfulState}
use Rattle.session_model.specs.States.{Own, Phase, Reception, State, in_own, in_peers, receiving_epoch}
use Rattle.session_model.specs.Taking.{ReceiveDraft, draft_receive, opened_by}
use Rattle.session_model.specs.Ways.{Way, chain_way, epoch_way, kept_way, known_way, next_way, position_of, turn_way, turned, way_of}
use Rattle.session_model.specs.declared.answer.Refusal.{Refusal}
use Rattle.session_model.proofs.Opened.{is_opened}
use Rattle.session_model.proofs.Passing.{passes}

-- ---- in the peer's epochs so far

by_kept : (k : Mechanism) (s : State) (p : Position) (key : Option (List ℕ)) (way : Way) → IsLawfulState k s
    → kept_way s p key ≡ Ok way → IsLawfulState k way.next
by_kept k s p None way l is = absurd (cc is)
by_kept k s p (Some key) way l is =
    let one : Way = record { key = key; next = record s { kept = without s.kept p } } in
    let same : one ≡ way = cc in
    subst (λ (w : Way). IsLawfulState k w.next) same (lawful_without k s p (without s.kept p) l refl)

along : (k : Mechanism) (s : State) (r : Reception) (p : Position) (way : Way) → IsLawfulState k s → s.receiving ≡ Some r
    → receiving_epoch s.side s.epoch ≡ Some p.epoch → r.reach < p.index → p.index ≤ INDEX_LIMIT
    → chain_way s r p ≡ Ok way → IsLawfulState k way.next
along k s r p way l held latest above most is =
    let n = p.index - r.reach - 1 in
    let one : Way = record {
      key = _;
      next = record s {
        receiving = Some (record { chain = chain_of r.chain (p.index - r.reach); reach = p.index });
        kept = s.kept ++ shelved p.epoch r.chain r.reach n;
      };
    } in
    let under = passes (nat_lt KEPT_LIMIT (length s.kept + n)) _ (Ok one) way is in
    let room : length s.kept + n ≤ KEPT_LIMIT = let no = under.0 in grind (arith, nat_tests) in
    let through : Ok one ≡ Ok way = under.1 in
    let same : one ≡ way = cc in
    let known = known_reception k s r p.epoch l held latest in
    subst (λ (w : Way). IsLawfulState k w.next) same
    (lawful_along k s r p.epoch n (chain_of r.chain (p.index - r.reach)) p.index
    (s.kept ++ shelved p.epoch r.chain r.reach n) l held latest
    (length-chain_of r.chain (p.index - r.reach) known.0) (omega (arith, above)) most room refl)

-- the latest epoch of the peer's, by a packet of that one or of the one before the own one
latest_of : (side : Side) (epoch at : ℕ) → is_own side at ≡ false → at ≤ epoch → nat_le epoch (at + 1) ≡ true
    → receiving_epoch side epoch ≡ Some at
latest_of side epoch at peers reached near = by_place (nat_eq epoch at) refl
  where
    by_place : (b : Bool) → nat_eq epoch at ≡ b → receiving_epoch side epoch ≡ Some at
    by_place true is =
        let same : epoch ≡ at = grind (arith, nat_tests) in
        ap (receiving_epoch side) same ∙ latest-peers side at peers
    by_place false is =
        let next : epoch ≡ at + 1 = grind (arith, nat_tests) in
        let own : is_own side epoch ≡ true = ap (is_own side) next ∙ own_next side at ∙ ap not peers in
        let back : epoch - 1 ≡ at = omega arith in
        latest-own side epoch own (omega arith) ∙ ap Some back

known_lawful : (k : Mechanism) (s : State) (p : Position) (r : Option Reception) (way : Way) → IsLawfulState k s
    → s.receiving ≡ r → is_own s.side p.epoch ≡ false → p.epoch ≤ s.epoch → p.index ≤ INDEX_LIMIT
    → known_way s p r ≡ Ok way → IsLawfulState k way.next
known_lawful k s p None way l held peers reached most is = absurd (cc is)
known_lawful k s p (Some r) way l held peers reached most is =
    by_place (nat_le s.epoch (p.epoch + 1)) refl (nat_lt r.reach p.index) refl is
  where
    by_place : (a : Bool) → nat_le s.epoch (p.epoch + 1) ≡ a → (b : Bool) → nat_lt r.reach p.index ≡ b
        → (if a && b then chain_way s r p else kept_way s p (kept_key s.kept p)) ≡ Ok way → IsLawfulState k way.next
    by_place true near true above is =
        let past : r.reach < p.index = grind (arith, nat_tests) in
        along k s r p way l held (latest_of s.side s.epoch p.epoch peers reached near) past most is
    by_place true near false above is = by_kept k s p (kept_key s.kept p) way l is
    by_place false near b above is = by_kept k s p (kept_key s.kept p) way l is

-- ---- into the next epoch

-- the message of a later epoch has a public key after its ciphertext
public_long : (k : Mechanism) (f : Fields) (epoch : ℕ) → IsLawful (agreement_size k) f → f.epoch ≡ epoch + 1
    → length (drop k.ciphertext f.agreement) ≡ k.public
public_long k f epoch packet next =
    let whole : length f.agreement ≡ agreement_size k =
    packet.agreement_is ∙ ap (agreement_len (agreement_size k)) next ∙ agreement_later (agreement_size k) epoch in
    omega (arith, whole, length-drop k.ciphertext f.agreement)

-- with the kept keys that this state has
enters : (k : Mechanism) (s : State) (own : Own) (f : Fields) (kept : List Kept) → IsLawfulState k s → s.phase ≡ in_own own
    → f.epoch ≡ s.epoch + 1 → IsLawful (agreement_size k) f → length s.kept + (f.index - 1) ≤ KEPT_LIMIT → kept ≡ s.kept
    → IsLawfulState k (turned k s own f kept).next
enters k s own f kept l held next packet room same =
    let key = k.meaning.decap_of own.secret (take k.ciphertext f.agreement) in
    let stream = root_key s.root key in
    lawful_next k s own f.epoch f.index f.index (next_root s.root key) (drop k.ciphertext f.agreement)
    (chain_of stream f.index) stream (kept ++ shelved f.epoch stream 0 (f.index - 1)) l held next packet.epoch_fits
    packet.index_from_one packet.index_fits (length-next_root s.root key) (public_long k f s.epoch packet next)
    (length-chain_of stream f.index (length-root_key s.root key)) refl room
    (ap (λ keys. keys ++ shelved f.epoch stream 0 (f.index - 1)) same)

-- the room that the limit leaves
turn_passes : (k : Mechanism) (s : State) (own : Own) (f : Fields) (passed : ℕ) (keys : List Kept) (way : Way)
    → turn_way k s own f passed keys ≡ Ok way
    → (length s.kept + passed + (f.index - 1) ≤ KEPT_LIMIT) × (turned k s own f (s.kept ++ keys) ≡ way)
turn_passes k s own f passed keys way is =
    let under = passes (nat_lt KEPT_LIMIT (length s.kept + passed + (f.index - 1))) _ (Ok (turned k s own f (s.kept ++ keys))) way is in
    let through : Ok (turned k s own f (s.kept ++ keys)) ≡ Ok way = under.1 in
    (let no = under.0 in grind (arith, nat_tests), cc)

-- a stream stands only where there is an epoch of the peer's
has_begun : (kept : List Kept) (r : Reception) (side : Side) (epoch : ℕ) → is_own side epoch ≡ true
    → IsLawfulReception kept (Some r) (receiving_epoch side epoch) → 1 ≤ epoch
has_begun kept r side epoch own l = by_place (nat_eq epoch 0) refl
  where
    by_place : (b : Bool) → nat_eq epoch 0 ≡ b → 1 ≤ epoch
    by_place true is =
        let none : receiving_epoch side epoch ≡ None =
        ap (λ (o : Bool). if o then (if nat_eq epoch 0 then None else Some (epoch - 1)) else Some epoch) own
        ∙ ap (λ (z : Bool). if z then None else Some (epoch - 1)) is in
        absurd (subst (IsLawfulReception kept (Some r)) none l)
    by_place false is = grind (arith, nat_tests)

next_lawful : (k : Mechanism) (s : State) (own : Own) (f : Fields) (r : Option Reception) (way : Way) → IsLawfulState k s
    → s.phase ≡ in_own own → s.receiving ≡ r → f.epoch ≡ s.epoch + 1 → IsLawful (agreement_size k) f
    → next_way k s own f r ≡ Ok way → IsLawfulState k way.next
next_lawful k s own f None way l held stream next packet is =
    let under = turn_passes k s own f 0 [] way is in
    subst (λ (w : Way). IsLawfulState k w.next) under.1
    (enters k s own f (s.kept ++ []) l held next packet (omega (arith, under.0)) (append-nil s.kept))
next_lawful k s own f (Some r) way l held stream next packet is =
    let counted = passes (nat_lt f.previous r.reach) _ _ way is in
    let keys = shelved (f.epoch - 2) r.chain r.reach (f.previous - r.reach) in
    let under = turn_passes k s own f (f.previous - r.reach) keys way counted.1 in
    let from : r.reach ≤ f.previous = let no = counted.0 in grind (arith, nat_tests) in
    let mine = (in_own_phase k s own l held).0 in
    let some : 1 ≤ s.epoch =
    has_begun s.kept r s.side s.epoch mine
    (subst (λ (o : Option Reception). IsLawfulReception s.kept o (receiving_epoch s.side s.epoch)) stream l.receiving) in
    let before : s.epoch - 1 ≡ f.epoch - 2 = omega arith in
    let latest : receiving_epoch s.side s.epoch ≡ Some (f.epoch - 2) = latest-own s.side s.epoch mine some ∙ ap Some before in
    let known = known_reception k s r (f.epoch - 2) l stream latest in
    let size : length (s.kept ++ keys) ≡ length s.kept + (f.previous - r.reach) =
    length-append s.kept keys ∙ ap (λ n. length s.kept + n) (length-shelved (f.epoch - 2) r.chain r.reach (f.previous - r.reach)) in
    let mid : State = record s {
      receiving = Some (record { chain = chain_of r.chain (f.previous - r.reach); reach = f.previous });
      kept = s.kept ++ keys;
    } in
    let passed : IsLawfulState k mid =
    lawful_along k s r (f.epoch - 2) (f.previous - r.reach) (chain_of r.chain (f.previous - r.reach)) f.previous
    (s.kept ++ keys) l stream latest (length-chain_of r.chain (f.previous - r.reach) known.0) (omega (arith, from))
    packet.previous_fits (omega (arith, under.0)) refl in
    subst (λ (w : Way). IsLawfulState k w.next) under.1
    (enters k mid own f (s.kept ++ keys) passed held next packet (omega (arith, under.0, size)) refl)

epoch_lawful : (k : Mechanism) (s : State) (f : Fields) (phase : Phase) (way : Way) → IsLawfulState k s → s.phase ≡ phase
    → f.epoch ≡ s.epoch + 1 → IsLawful (agreement_size k) f → epoch_way k s f phase ≡ Ok way → IsLawfulState k way.next
epoch_lawful k s f (in_own own) way l held next packet is = next_lawful k s own f s.receiving way l held refl next packet is
epoch_lawful k s f (in_peers public) way l held next packet is = absurd (cc is)

-- ---- any packet

way_lawful : (k : Mechanism) (s : State) (f : Fields) (way : Way) → IsLawfulState k s → IsLawful (agreement_size k) f
    → way_of k s f ≡ Ok way → IsLawfulState k way.next
unfolding way_of
way_lawful k s f way l packet is =
    let named = passes (not (pointwise nat_eq f.session s.session)) _ _ way is in
    let peers = passes (is_own s.side f.epoch) _ _ way named.1 in
    let near = passes (nat_lt (s.epoch + 1) f.epoch) _ _ way peers.1 in
    by_epoch (f.epoch == s.epoch + 1) refl near.0 peers.0 near.1
  where
    by_epoch : (b : Bool) → (f.epoch == s.epoch + 1) ≡ b → nat_lt (s.epoch + 1) f.epoch ≡ false → is_own s.side f.epoch ≡ false
        → (if b then epoch_way k s f s.phase else known_way s (position_of f) s.receiving) ≡ Ok way
        → IsLawfulState k way.next
    by_epoch true is near peers found =
        let next : f.epoch ≡ s.epoch + 1 = grind (arith, nat_tests) in
        epoch_lawful k s f s.phase way l refl next packet found
    by_epoch false is near peers found =
        let reached : f.epoch ≤ s.epoch = grind (arith, nat_tests) in
        known_lawful k s (position_of f) s.receiving way l refl peers reached packet.index_fits found

opened_lawful : (k : Mechanism) (s : State) (f : Fields) (way : Result Way Refusal) (draft : ReceiveDraft) → IsLawfulState k s
    → IsLawful (agreement_size k) f → way_of k s f ≡ way → opened_by f way ≡ Ok draft → IsLawfulState k draft.next
opened_lawful k s f (Err refusal) draft l packet found is = absurd (cc is)
opened_lawful k s f (Ok way) draft l packet found is =
    let o = is_opened f way draft is in
    subst (λ (d : ReceiveDraft). IsLawfulState k d.next) (sym o.is)
    (lawful_obeyed k way.next o.body.receipt (way_lawful k s f way l packet found))

pub receive_lawful : (k : Mechanism) (s : State) (f : Fields) (draft : ReceiveDraft) → IsLawfulState k s
    → IsLawful (agreement_size k) f → draft_receive k s f ≡ Ok draft → IsLawfulState k draft.next
unfolding draft_receive
receive_lawful k s f draft l packet gives = opened_lawful k s f (way_of k s f) draft l packet refl gives
