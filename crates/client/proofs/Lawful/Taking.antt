-- A lawful client is lawful after a packet that it takes.
use Rattle.std.proofs.Common.{Bool, Err, List, None, Ok, Option, Result, Some, [], ap, arith, false, length, refl, subst, suc, sym, true, zero, ℕ, ◌++◌, ◌+◌, ◌-◌, ◌<◌, ◌∙◌, ◌∷◌, ◌≡◌, ◌≤◌}
use Rattle.std.specs.Cmp.Lexicographic.{pointwise}
use Rattle.std.specs.Prelude.{All, if◌then◌else◌, nat_eq, nat_le, nat_lt, not, ◌&&◌, ◌==◌}
use Rattle.std.proofs.lemmas.Bool.Decides.{nat_tests}
use Rattle.std.proofs.lemmas.List.{length_push}
use Rattle.std.proofs.lemmas.List.Elements.{All-append, All-filter, All-nil, All-push}
use Rattle.boxes.specs.Parts.{is_content}
use Rattle.boxes.specs.Entries.{entry_with}
use Rattle.cka.specs.Agreement.{agreement_size}
use Rattle.dr_base.specs.Position.{is_own}
use Rattle.dr_base.specs.declared.key.Kept.{Kept}
use Rattle.dr_base.specs.declared.limits.TheConstants.{INBOX_LIMIT, KEPT_LIMIT, PLAIN, TEXT_LIMIT}
use Rattle.dr_base.specs.declared.position.Position.{Position}
use Rattle.dr_base.specs.declared.position.Side.{Side}
use Rattle.bodies.proofs.Opened.{opened-content}
use Rattle.bodies.proofs.Short.{opened_short}
use Rattle.etm_aead.specs.Undoing.{length-ciphertext_of}
use Rattle.fs_aead.specs.Chain.{chain_message_key, chain_of, message_key}
use Rattle.fs_aead.specs.Table.{is_kept_at, kept_key, shelved, without}
use Rattle.hmac_hkdf.proofs.Lengths.{length-hmac_of}
use Rattle.kem_laws.specs.Mechanism.{Mechanism}
use Rattle.packet.proofs.Known.{plain_few}
use Rattle.packet.specs.Packet.{Fields, IsLawful}
use Rattle.session_model.specs.Clients.{Client}
use Rattle.session_model.specs.LawfulStates.{IsLawfulState}
use Rattle.session_model.specs.States.{Own, Phase, Reception, State, in_own, in_peers}
use Rattle.session_model.specs.Taking.{ReceiveDraft, draft_receive, opened_by, opening_on}
use Rattle.session_model.specs.Ways.{Way, chain_way, epoch_way, kept_way, known_way, next_way, position_of, turn_way, turned, way_of}
use Rattle.session_model.specs.declared.answer.Refusal.{Refusal}
use Rattle.session_record.specs.Lawful.{IsLawfulClient, IsLawfulEntry}
use Rattle.session_record.specs.Record.{client_of}
use Rattle.client.proofs.Lawful.Saying.{GoesOn, entries_stay, posts_stay}
use Rattle.session_model.proofs.Opened.{is_opened}
use Rattle.session_model.proofs.Passing.{passes}

-- ---- kept keys have 32 bytes

abbrev AreLong : List Kept → Type 0
AreLong kept = All (λ (one : Kept). length one.key.bytes ≡ 32) kept

long_shelved : (epoch : ℕ) (chain : List ℕ) (reach n : ℕ) → AreLong (shelved epoch chain reach n)
unfolding shelved message_key chain_message_key
long_shelved epoch chain reach zero = All-nil _
long_shelved epoch chain reach (suc n) =
    All-push (λ (one : Kept). length one.key.bytes ≡ 32) (shelved epoch chain reach n)
    (record { position = record { epoch = epoch; index = reach + suc n }; key = record { bytes = message_key chain (suc n) } })
    (long_shelved epoch chain reach n) (length-hmac_of _ _)

long_with : (kept : List Kept) (epoch : ℕ) (chain : List ℕ) (reach n : ℕ) → AreLong kept
    → AreLong (kept ++ shelved epoch chain reach n)
long_with kept epoch chain reach n long =
    All-append (λ (one : Kept). length one.key.bytes ≡ 32) kept (shelved epoch chain reach n) long
    (long_shelved epoch chain reach n)

long_without : (kept : List Kept) (p : Position) → AreLong kept → AreLong (without kept p)
unfolding without
long_without kept p long = All-filter (λ k. not (is_kept_at p k)) (λ (one : Kept). length one.key.bytes ≡ 32) kept long

-- ---- what stands after a way to the key of an epoch's packet

record IsTaken (s : State) (epoch : ℕ) (next : State) : Type 0 where
  on : GoesOn s next
  reached : epoch ≤ next.epoch
  long : AreLong next.kept

taken_by_kept : (s : State) (p : Position) (key : Option (List ℕ)) (way : Way) → AreLong s.kept → p.epoch ≤ s.epoch
    → kept_way s p key ≡ Ok way → IsTaken s p.epoch way.next
taken_by_kept s p None way long near is = absurd (cc is)
taken_by_kept s p (Some key) way long near is =
    let same : record { key = key; next = record s { kept = without s.kept p } } ≡ way = cc in
    subst (λ (w : Way). IsTaken s p.epoch w.next) same
    (record {
      on = record { side = refl; session = refl; grows = omega arith };
      reached = near;
      long = long_without s.kept p long;
    })

taken_along : (s : State) (r : Reception) (p : Position) (way : Way) → AreLong s.kept → p.epoch ≤ s.epoch
    → chain_way s r p ≡ Ok way → IsTaken s p.epoch way.next
taken_along s r p way long near is =
    let one : Way = record {
      key = message_key r.chain (p.index - r.reach);
      next = record s {
        receiving = Some (record { chain = chain_of r.chain (p.index - r.reach); reach = p.index });
        kept = s.kept ++ shelved p.epoch r.chain r.reach (p.index - r.reach - 1);
      };
    } in
    let under = passes (nat_lt KEPT_LIMIT (length s.kept + (p.index - r.reach - 1))) _ (Ok one) way is in
    let through : Ok one ≡ Ok way = under.1 in
    let same : one ≡ way = cc in
    subst (λ (w : Way). IsTaken s p.epoch w.next) same
    (record {
      on = record { side = refl; session = refl; grows = omega arith };
      reached = near;
      long = long_with s.kept p.epoch r.chain r.reach (p.index - r.reach - 1) long;
    })

taken_known : (s : State) (p : Position) (r : Option Reception) (way : Way) → AreLong s.kept → p.epoch ≤ s.epoch
    → known_way s p r ≡ Ok way → IsTaken s p.epoch way.next
taken_known s p None way long near is = absurd (cc is)
taken_known s p (Some r) way long near is =
    by_place (nat_le s.epoch (p.epoch + 1) && nat_lt r.reach p.index) is
  where
    by_place : (b : Bool) → (if b then chain_way s r p else kept_way s p (kept_key s.kept p)) ≡ Ok way
        → IsTaken s p.epoch way.next
    by_place true is = taken_along s r p way long near is
    by_place false is = taken_by_kept s p (kept_key s.kept p) way long near is

taken_turned : (k : Mechanism) (s : State) (own : Own) (f : Fields) (passed : ℕ) (keys : List Kept) (way : Way)
    → AreLong (s.kept ++ keys) → s.epoch ≤ f.epoch → turn_way k s own f passed keys ≡ Ok way → IsTaken s f.epoch way.next
taken_turned k s own f passed keys way long near is =
    let one : Way = turned k s own f (s.kept ++ keys) in
    let through : Ok one ≡ Ok way = (passes (nat_lt KEPT_LIMIT (length s.kept + passed + (f.index - 1))) _ (Ok one) way is).1 in
    let same : one ≡ way = cc in
    subst (λ (w : Way). IsTaken s f.epoch w.next) same
    (record {
      on = record { side = refl; session = refl; grows = near };
      reached = omega arith;
      long = long_with (s.kept ++ keys) f.epoch _ 0 (f.index - 1) long;
    })

taken_next : (k : Mechanism) (s : State) (own : Own) (f : Fields) (r : Option Reception) (way : Way) → AreLong s.kept
    → s.epoch ≤ f.epoch → next_way k s own f r ≡ Ok way → IsTaken s f.epoch way.next
taken_next k s own f None way long near is =
    taken_turned k s own f 0 [] way (All-append (λ (one : Kept). length one.key.bytes ≡ 32) s.kept [] long (All-nil _)) near is
taken_next k s own f (Some r) way long near is =
    taken_turned k s own f (f.previous - r.reach) (shelved (f.epoch - 2) r.chain r.reach (f.previous - r.reach)) way
    (long_with s.kept (f.epoch - 2) r.chain r.reach (f.previous - r.reach) long) near
    (passes (nat_lt f.previous r.reach) _ _ way is).1

taken_epoch : (k : Mechanism) (s : State) (f : Fields) (phase : Phase) (way : Way) → AreLong s.kept
    → s.epoch ≤ f.epoch → epoch_way k s f phase ≡ Ok way → IsTaken s f.epoch way.next
taken_epoch k s f (in_own own) way long near is = taken_next k s own f s.receiving way long near is
taken_epoch k s f (in_peers public) way long near is = absurd (cc is)

next_epoch : (a b : ℕ) → (a == b + 1) ≡ true → b ≤ a
next_epoch a b is = grind (arith, nat_tests)

known_epoch : (a b : ℕ) → nat_lt (b + 1) a ≡ false → (a == b + 1) ≡ false → a ≤ b
known_epoch a b near is = grind (arith, nat_tests)

-- a way is there only for a packet of the peer's
record IsPeers (s : State) (f : Fields) (next : State) : Type 0 where
  taken : IsTaken s f.epoch next
  peers : is_own s.side f.epoch ≡ false

taken_way : (k : Mechanism) (s : State) (f : Fields) (way : Way) → AreLong s.kept → way_of k s f ≡ Ok way
    → IsPeers s f way.next
unfolding way_of
taken_way k s f way long is =
    let named = passes (not (pointwise nat_eq f.session s.session)) _ _ way is in
    let peers = passes (is_own s.side f.epoch) _ _ way named.1 in
    let near = passes (nat_lt (s.epoch + 1) f.epoch) _ _ way peers.1 in
    record { taken = by_epoch (f.epoch == s.epoch + 1) refl near.0 near.1; peers = peers.0 }
  where
    by_epoch : (b : Bool) → (f.epoch == s.epoch + 1) ≡ b → nat_lt (s.epoch + 1) f.epoch ≡ false
        → (if b then epoch_way k s f s.phase else known_way s (position_of f) s.receiving) ≡ Ok way
        → IsTaken s f.epoch way.next
    by_epoch true is near found = taken_epoch k s f s.phase way long (next_epoch f.epoch s.epoch is) found
    by_epoch false is near found =
        taken_known s (position_of f) s.receiving way long (known_epoch f.epoch s.epoch near is) found

-- ---- what a draft is

record IsTakenOf (s : State) (f : Fields) (draft : ReceiveDraft) : Type 0 where
  peers : IsPeers s f draft.next
  place : draft.position ≡ position_of f
  content : length draft.text ≤ TEXT_LIMIT → is_content draft.kind draft.text ≡ true
  short : (f.version ≡ PLAIN → length f.ciphertext ≤ TEXT_LIMIT) → length draft.text ≤ TEXT_LIMIT

opened_on : (s : State) (f : Fields) (way : Way) (draft : ReceiveDraft) → IsPeers s f way.next
    → opening_on f way ≡ Ok draft → IsTakenOf s f draft
opened_on s f way draft peers is =
    let o = is_opened f way draft is in
    let on = peers.taken in
    subst (IsTakenOf s f) (sym o.is)
    (record {
      peers = record {
        taken = record {
          on = record { side = on.on.side; session = on.on.session; grows = on.on.grows };
          reached = on.reached;
          long = on.long;
        };
        peers = peers.peers;
      };
      place = refl;
      content = opened-content f.version _ _ o.body o.opens;
      short = λ plain. opened_short f.version _ _ o.body o.opens
          (λ version. omega (arith, plain version, length-ciphertext_of way.key f.ciphertext));
    })

opened_way : (k : Mechanism) (s : State) (f : Fields) (way : Result Way Refusal) (draft : ReceiveDraft) → AreLong s.kept
    → way_of k s f ≡ way → opened_by f way ≡ Ok draft → IsTakenOf s f draft
opened_way k s f (Err refusal) draft long found is = absurd (cc is)
opened_way k s f (Ok way) draft long found is = opened_on s f way draft (taken_way k s f way long found) is

-- ---- the client

entry_lawful : (k : Mechanism) (s : State) (f : Fields) (draft : ReceiveDraft) → IsLawful (agreement_size k) f
    → IsTakenOf s f draft → IsLawfulEntry draft.next (entry_with draft.position draft.kind draft.text)
entry_lawful k s f draft packet o =
    let epoch : draft.position.epoch ≡ f.epoch = ap (λ (p : Position). p.epoch) o.place in
    let index : draft.position.index ≡ f.index = ap (λ (p : Position). p.index) o.place in
    record {
      peers =
          ap (λ (side : Side). is_own side draft.position.epoch) o.peers.taken.on.side
          ∙ ap (is_own s.side) epoch ∙ o.peers.peers;
      reached = omega (arith, epoch, o.peers.taken.reached);
      from_one = omega (arith, index, packet.index_from_one);
      most = omega (arith, index, packet.index_fits);
      content = o.content (o.short (plain_few f.version (length f.ciphertext) packet.text_fits));
    }

pub taken_lawful : (k : Mechanism) (c : Client) (f : Fields) (draft : ReceiveDraft) → IsLawful (agreement_size k) f
    → IsLawfulClient k c → IsLawfulState k draft.next → length c.inbox < INBOX_LIMIT
    → draft_receive k c.state f ≡ Ok draft
    → IsLawfulClient k (client_of draft.next (c.inbox ++ entry_with draft.position draft.kind draft.text ∷ []) c.outbox c.relay)
unfolding draft_receive
taken_lawful k c f draft packet l after room gives =
    let o = opened_way k c.state f (way_of k c.state f) draft l.keys_long refl gives in
    let item = entry_with draft.position draft.kind draft.text in
    record {
      state = after;
      keys_long = o.peers.taken.long;
      inbox = All-push (IsLawfulEntry draft.next) c.inbox item
          (entries_stay c.state draft.next c.inbox o.peers.taken.on l.inbox) (entry_lawful k c.state f draft packet o);
      few_entries = omega (arith, room, length_push c.inbox item);
      outbox = posts_stay k c.state draft.next c.outbox o.peers.taken.on l.outbox;
      few_posts = l.few_posts;
      relay = l.relay;
    }
