-- What the draft of a packet keeps is lawful on top of a session's kept keys.
use Rattle.std.proofs.Common.{List, None, Ok, Err, Option, Result, Some, [], ap, arith, false, length, refl, subst, sym, true, Bool, ℕ, ◌+◌, ◌<◌, ◌∙◌, ◌≡◌, ◌++◌, ◌-◌}
use Rattle.std.specs.Cmp.Lexicographic.{pointwise}
use Rattle.std.specs.Prelude.{All, if◌then◌else◌, nat_eq, nat_le, nat_lt, not, take, ◌&&◌, ◌==◌}
use Rattle.std.proofs.lemmas.Bool.Decides.{nat_tests}
use Rattle.std.proofs.lemmas.List.Elements.{All-weaker}
use Rattle.dr_base.proofs.Parity.{own_next}
use Rattle.dr_base.specs.Position.{IsBefore, is_own}
use Rattle.dr_base.specs.declared.key.Kept.{Kept}
use Rattle.dr_base.specs.declared.limits.TheConstants.{KEPT_LIMIT}
use Rattle.dr_base.specs.declared.position.Position.{Position}
use Rattle.fs_aead.specs.Chain.{chain_of}
use Rattle.fs_aead.specs.Table.{kept_key, shelved, without}
use Rattle.kem_laws.specs.Mechanism.{Mechanism}
use Rattle.packet.specs.Packet.{Fields}
use Rattle.prf_prng.specs.Root.{root_key}
use Rattle.session_model.proofs.Latest.{latest-peers}
use Rattle.session_model.proofs.Opened.{is_opened}
use Rattle.session_model.proofs.Passing.{passes}
use Rattle.session_model.specs.Drafts.{IsReceiveDraft}
use Rattle.session_model.specs.LawfulStates.{IsLawfulReception, IsLawfulState}
use Rattle.session_model.specs.States.{Own, Phase, Reception, State, in_own, in_peers, receiving_epoch}
use Rattle.session_model.specs.Taking.{ReceiveDraft, draft_receive, opened_by}
use Rattle.session_model.specs.Ways.{Way, chain_way, epoch_way, kept_way, known_way, next_way, position_of, turn_way, turned, way_of}
use Rattle.session_model.specs.declared.answer.Refusal.{Refusal}
use Rattle.ratchet.specs.Seen.{Received, kept_in, received_of}
use Rattle.ratchet.proofs.LawfulNext.{kept_before}
use Rattle.ratchet.proofs.LawfulTurn.{in_own_phase}
use Rattle.ratchet.proofs.LawfulDrafts.{Follows, filled}

kept_follows : (k : Mechanism) (s : State) (p : Position) (key : Option (List ℕ)) (way : Way) → IsLawfulState k s
    → kept_way s p key ≡ Ok way → Follows s way.next
kept_follows k s p None way l is = absurd (cc is)
kept_follows k s p (Some key) way l is =
    let one : Way = record { key = key; next = record s { kept = without s.kept p } } in
    let same : one ≡ way = cc in
    subst (λ (w : Way). Follows s w.next) same (record { side = refl; before = λ _. l.receiving })

-- a stream that went on stays behind the kept keys
reception_later : (kept : List Kept) (r later : Reception) (epoch : Option ℕ) → r.reach < later.reach
    → IsLawfulReception kept (Some r) epoch → IsLawfulReception [] (Some later) epoch → IsLawfulReception kept (Some later) epoch
reception_later kept r later None above h n = absurd h
reception_later kept r later (Some epoch) above h n =
    let before : ℕ → Kept → Type 0 = λ i q. IsBefore q.position (record { epoch = epoch; index = i }) in (
      n.0,
      n.1,
      All-weaker (before (r.reach + 1)) (before (later.reach + 1))
          (λ q b. (b.0, λ same. let lower = b.1 same in omega arith)) kept h.2,
    )

chain_follows : (k : Mechanism) (s : State) (r : Reception) (p : Position) (way : Way) → IsLawfulState k s → s.receiving ≡ Some r
    → r.reach < p.index → chain_way s r p ≡ Ok way → Follows s way.next
chain_follows k s r p way l held above is =
    let latest = receiving_epoch s.side s.epoch in
    let later : Reception = record { chain = chain_of r.chain (p.index - r.reach); reach = p.index } in
    let n = p.index - r.reach - 1 in
    let one : Way = record {
      key = _;
      next = record s { receiving = Some later; kept = s.kept ++ shelved p.epoch r.chain r.reach n };
    } in
    let through : Ok one ≡ Ok way = (passes (nat_lt KEPT_LIMIT (length s.kept + n)) _ (Ok one) way is).1 in
    let same : one ≡ way = cc in
    subst (λ (w : Way). Follows s w.next) same (record {
      side = refl;
      before = reception_later s.kept r later latest above (subst (λ o. IsLawfulReception s.kept o latest) held l.receiving);
    })

known_follows : (k : Mechanism) (s : State) (p : Position) (r : Option Reception) (way : Way) → IsLawfulState k s → s.receiving ≡ r
    → known_way s p r ≡ Ok way → Follows s way.next
known_follows k s p None way l held is = absurd (cc is)
known_follows k s p (Some r) way l held is = by_place (nat_le s.epoch (p.epoch + 1)) (nat_lt r.reach p.index) refl is
  where
    by_place : (a b : Bool) → nat_lt r.reach p.index ≡ b
        → (if a && b then chain_way s r p else kept_way s p (kept_key s.kept p)) ≡ Ok way → Follows s way.next
    by_place true true above is = chain_follows k s r p way l held (grind (arith, nat_tests)) is
    by_place true false above is = kept_follows k s p (kept_key s.kept p) way l is
    by_place false b above is = kept_follows k s p (kept_key s.kept p) way l is

-- in the next epoch of the peer's
turned_follows : (k : Mechanism) (s : State) (own : Own) (f : Fields) (passed : ℕ) (keys : List Kept) (way : Way)
    → IsLawfulState k s → s.phase ≡ in_own own → f.epoch ≡ s.epoch + 1 → turn_way k s own f passed keys ≡ Ok way
    → Follows s way.next
turned_follows k s own f passed keys way l held next is =
    let through : Ok (turned k s own f (s.kept ++ keys)) ≡ Ok way =
    (passes (nat_lt KEPT_LIMIT (length s.kept + passed + (f.index - 1))) _ (Ok (turned k s own f (s.kept ++ keys))) way is).1 in
    let same : turned k s own f (s.kept ++ keys) ≡ way = cc in
    let peers : is_own s.side f.epoch ≡ false =
    ap (is_own s.side) next ∙ own_next s.side s.epoch ∙ ap not (in_own_phase k s own l held).0 in
    let latest = latest-peers s.side f.epoch peers in
    let later : Reception = record {
      chain = chain_of (root_key s.root (k.meaning.decap_of own.secret (take k.ciphertext f.agreement))) f.index;
      reach = f.index;
    } in
    let before : ℕ → Kept → Type 0 = λ i q. IsBefore q.position (record { epoch = f.epoch; index = i }) in
    let all : All (before (f.index + 1)) s.kept =
    All-weaker (before 1) (before (f.index + 1)) (λ q b. (b.0, λ same. let lower = b.1 same in omega arith)) s.kept
    (kept_before k s f.epoch l next) in
    subst (λ (w : Way). Follows s w.next) same (record {
      side = refl;
      before = λ h.
          let n = subst (IsLawfulReception [] (Some later)) latest h in
          let beside : IsLawfulReception s.kept (Some later) (Some f.epoch) = (n.0, n.1, all) in
          subst (IsLawfulReception s.kept (Some later)) (sym latest) beside;
    })

next_follows : (k : Mechanism) (s : State) (own : Own) (f : Fields) (r : Option Reception) (way : Way) → IsLawfulState k s
    → s.phase ≡ in_own own → f.epoch ≡ s.epoch + 1 → next_way k s own f r ≡ Ok way → Follows s way.next
next_follows k s own f None way l held next is = turned_follows k s own f 0 [] way l held next is
next_follows k s own f (Some r) way l held next is =
    turned_follows k s own f (f.previous - r.reach) (shelved (f.epoch - 2) r.chain r.reach (f.previous - r.reach)) way l held next
    (passes (nat_lt f.previous r.reach) _ _ way is).1

epoch_follows : (k : Mechanism) (s : State) (f : Fields) (phase : Phase) (way : Way) → IsLawfulState k s → s.phase ≡ phase
    → f.epoch ≡ s.epoch + 1 → epoch_way k s f phase ≡ Ok way → Follows s way.next
epoch_follows k s f (in_own own) way l held next is = next_follows k s own f s.receiving way l held next is
epoch_follows k s f (in_peers public) way l held next is = absurd (cc is)

way_follows : (k : Mechanism) (s : State) (f : Fields) (way : Way) → IsLawfulState k s → way_of k s f ≡ Ok way → Follows s way.next
unfolding way_of
way_follows k s f way l is =
    let named = passes (not (pointwise nat_eq f.session s.session)) _ _ way is in
    let peers = passes (is_own s.side f.epoch) _ _ way named.1 in
    let near = passes (nat_lt (s.epoch + 1) f.epoch) _ _ way peers.1 in
    by_epoch (f.epoch == s.epoch + 1) refl near.1
  where
    by_epoch : (b : Bool) → (f.epoch == s.epoch + 1) ≡ b
        → (if b then epoch_way k s f s.phase else known_way s (position_of f) s.receiving) ≡ Ok way → Follows s way.next
    by_epoch true is found = epoch_follows k s f s.phase way l refl (grind (arith, nat_tests)) found
    by_epoch false is found = known_follows k s (position_of f) s.receiving way l refl found

opened_follows : (k : Mechanism) (s : State) (f : Fields) (way : Result Way Refusal) (draft : ReceiveDraft) → IsLawfulState k s
    → way_of k s f ≡ way → opened_by f way ≡ Ok draft → Follows s draft.next
opened_follows k s f (Err refusal) draft l found is = absurd (cc is)
opened_follows k s f (Ok way) draft l found is =
    let after = way_follows k s f way l found in
    subst (λ (d : ReceiveDraft). Follows s d.next) (sym (is_opened f way draft is).is)
    (record { side = after.side; before = after.before })

-- the draft of a packet
pub lawful_received : (k : Mechanism) (s : State) (position : Position) (kind : ℕ) (text : List ℕ) (head : State) (table : Option (List Kept))
    → IsLawfulState k s → IsLawfulState k (record head { kept = kept_in [] table })
    → (let d : Received = record { position = position; kind = kind; text = text; head = head; table = table } in
    IsReceiveDraft k s (received_of s d) → IsLawfulState k (received_of s d).next)
unfolding draft_receive
lawful_received k s position kind text head None l h of =
    filled k s head l (opened_follows k s of.packet (way_of k s of.packet) _ l refl of.gives) h
lawful_received k s position kind text head (Some table) l h of = h
