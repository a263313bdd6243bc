-- What passes the tests is a lawful client.
use Rattle.std.proofs.Common.{◌≡◌, Result, Ok, Err, ℕ, ◌≤◌, ◌==◌, Bool, true, false, List, length, Option, Some, None, refl, sym, ◌∙◌, ap, arith, if◌then◌else◌}
use Rattle.std.specs.Prelude.{not, nat_le, ◌&&◌, ◌||◌}
use Rattle.std.proofs.lemmas.Bool.{leb-true, not-true, and_parts}
use Rattle.std.proofs.lemmas.Bool.Decides.{nat_tests}
use Rattle.std.proofs.lemmas.Slice.Eq.{bytes_eq-Decides}
use Rattle.std.specs.Str.{bytes_eq}
use Rattle.boxes.specs.Entries.{Entry}
use Rattle.boxes.specs.Posts.{Post, post_under}
use Rattle.cka.specs.Agreement.{agreement_size}
use Rattle.packet.specs.Packet.{Fields}
use Rattle.packet.specs.Reading.{read_packet}
use Rattle.packet.specs.declared.fault.Malformed.{Malformed}
use Rattle.dr_base.specs.declared.key.Kept.{Kept}
use Rattle.dr_base.specs.declared.position.Side.{Side}
use Rattle.dr_base.specs.Position.{is_own}
use Rattle.dr_base.specs.declared.limits.TheConstants.{INDEX_LIMIT, LAST_EPOCH}
use Rattle.session_model.specs.LawfulStates.{IsLawfulKept, IsLawfulPhase, IsLawfulPrevious, IsLawfulState}
use Rattle.session_model.specs.States.{Phase, in_own, in_peers, Reception, State}
use Rattle.kem_laws.specs.Mechanism.{Mechanism}
use Rattle.grammar.specs.Printer.{IsMaybe}
use Rattle.session_record.specs.Awaiting.{sent_of}
use Rattle.session_record.specs.Fields.{has_receiving, is_good, is_previous}
use Rattle.session_record.specs.Lists.{is_peers, is_post, is_posted, last_position, place_of, post_of, reach_of}
use Rattle.session_record.proofs.Passing.{Passes, PassesEntry, PassesKept, PassesPhase, PassesPost, PassesReception}
use Rattle.session_record.specs.Lawful.{FitsVersion, IsLawfulEntry, IsLawfulPost, IsLawfulSaved, IsPostOf}
use Rattle.session_record.specs.Record.{Saved}
use Rattle.session_record.specs.Versions.{has_receipts, inbox_most, is_kind_of, is_packet_of, kept_most, outbox_most, text_most}
use Rattle.session_record.specs.declared.versions.Version.{Version}
use Rattle.session_record.proofs.VersionLimits.{inbox-limit, kept-limit, outbox-limit, text-limit}
use Rattle.session_record.proofs.Waiting.{are-waiting}
use Rattle.session_record.proofs.Items.{each_of}
use Rattle.session_record.proofs.KeptToLawful.{ascending, lawful_receiving}

-- ---- the keys of the epoch

good : (k : Mechanism) (o : Option ℕ) → is_good o ≡ true → o ≡ None
good k None h = refl
good k (Some at) h = absurd (let e : false ≡ true = h in cc)

lawful_phase : (k : Mechanism) (side : Side) (epoch : ℕ) (phase : Phase) → PassesPhase k side epoch phase
    → IsLawfulPhase k side epoch phase
lawful_phase k side epoch (in_own own) l = (
  l.0,
  record {
    secret_long = l.1.secret_long;
    secret_lawful = good k (k.meaning.bad_byte own.secret) l.1.secret_good;
    agreement_long = l.1.agreement_long;
    chain_long = l.1.chain_long;
    few = leb-true own.sent INDEX_LIMIT l.1.few;
  },
)
lawful_phase k side epoch (in_peers public) l = l

lawful_previous : (k : Mechanism) (side : Side) (epoch previous : ℕ) (phase : Phase) → IsLawfulPhase k side epoch phase → is_previous side epoch previous ≡ true
    → IsLawfulPrevious previous epoch phase
lawful_previous k side epoch previous (in_own own) l h = by_side (is_own side epoch) l.0 h
  where
    by_side : (b : Bool) → b ≡ true
        → (nat_le previous INDEX_LIMIT && ((previous == 0) || nat_le (if b then 2 else 1) epoch)) ≡ true
        → (previous ≤ INDEX_LIMIT) × (epoch ≤ 1 → previous ≡ 0)
    by_side true is h = (grind (arith, nat_tests), λ first. grind (arith, nat_tests))
    by_side false is h = absurd (let e : false ≡ true = is in cc)
lawful_previous k side epoch previous (in_peers public) l h = by_side (is_own side epoch) l.0 h
  where
    by_side : (b : Bool) → b ≡ false
        → (nat_le previous INDEX_LIMIT && ((previous == 0) || nat_le (if b then 2 else 1) epoch)) ≡ true
        → (previous ≤ INDEX_LIMIT) × (epoch ≡ 0 → previous ≡ 0)
    by_side false is h = (grind (arith, nat_tests), λ first. grind (arith, nat_tests))
    by_side true is h = absurd (let e : true ≡ false = is in cc)

-- ---- kept keys and boxes, one by one

lawful_kept : (side : Side) (epoch reach : ℕ) (before : List Kept) (kept : Kept)
    → reach ≤ INDEX_LIMIT → PassesKept side epoch reach before kept → IsLawfulKept side kept
lawful_kept side epoch reach before kept few l =
    let t = kept.position.epoch in
    let parts = and_parts (is_peers side epoch t) (nat_le (last_position before).epoch t) l.epoch_is in
    let index = l.index_is in
    record { peers = not-true (is_own side t) (and_parts (not (is_own side t)) (nat_le t epoch) parts.0).0; one = grind (arith, nat_tests); most = grind (arith, nat_tests) }

lawful_entry : (version : Version) (s : State) (before : List Entry) (entry : Entry)
    → PassesEntry version s.side s.epoch before entry → IsLawfulEntry s entry
lawful_entry version s before entry l =
    let t = entry.position.epoch in
    let peers = and_parts (not (is_own s.side t)) (nat_le t s.epoch) l.epoch_is in
    let index = and_parts (nat_le 1 entry.position.index) (nat_le entry.position.index INDEX_LIMIT) l.index_is in
    record {
      peers = not-true (is_own s.side t) peers.0;
      reached = leb-true t s.epoch peers.1;
      from_one = leb-true 1 entry.position.index index.0;
      most = leb-true entry.position.index INDEX_LIMIT index.1;
      content = l.content;
    }

lawful_post : (k : Mechanism) (version : Version) (s : State) (before : List Post) (post : Post)
    → PassesPost k version s.session s.side s.epoch before post → IsLawfulPost k s post
unfolding is_post post_of
lawful_post k version s before post l = read (read_packet (agreement_size k) post.packet) refl l.post l.own_place
  where
    read : (r : Result Fields Malformed) → read_packet (agreement_size k) post.packet ≡ r → is_posted version s.session s.side s.epoch r ≡ true → post_under (place_of r) post.packet ≡ post → IsLawfulPost k s post
    read (Err fault) is passes place = absurd (let e : false ≡ true = passes in cc)
    read (Ok f) is passes place =
        let parts = and_parts (bytes_eq f.session s.session) (is_own s.side f.epoch && (nat_le f.epoch s.epoch && is_packet_of version f)) passes in
        let own = and_parts (is_own s.side f.epoch) (nat_le f.epoch s.epoch && is_packet_of version f) parts.1 in
        let near = and_parts (nat_le f.epoch s.epoch) (is_packet_of version f) own.1 in
        record {
          fields = f;
          reads = is;
          session = (bytes_eq-Decides f.session s.session).0 parts.0;
          own = own.0;
          reached = leb-true f.epoch s.epoch near.0;
          place = ap (λ (own : Post). own.position) (sym place);
          fits = l.fits;
        }

-- and one that a record of the version may hold
post_of_version : (k : Mechanism) (version : Version) (s : State) (before : List Post) (post : Post)
    → PassesPost k version s.session s.side s.epoch before post → IsPostOf k version post
unfolding is_post
post_of_version k version s before post l f reads =
    let passes : is_posted version s.session s.side s.epoch (Ok f) ≡ true = ap (is_posted version s.session s.side s.epoch) (sym reads) ∙ l.post in
    let parts = and_parts (bytes_eq f.session s.session) (is_own s.side f.epoch && (nat_le f.epoch s.epoch && is_packet_of version f)) passes in
    let own = and_parts (is_own s.side f.epoch) (nat_le f.epoch s.epoch && is_packet_of version f) parts.1 in
    (and_parts (nat_le f.epoch s.epoch) (is_packet_of version f) own.1).1

-- a stream's reach, or 0
few_reach : (there : Bool) (receiving : Option Reception) → IsMaybe there PassesReception receiving
    → reach_of receiving ≤ INDEX_LIMIT
few_reach there None l = omega arith
few_reach there (Some r) l = leb-true r.reach INDEX_LIMIT l.1.few

-- no more was sent than an epoch may have
few_sent : (k : Mechanism) (side : Side) (epoch : ℕ) (phase : Phase) → IsLawfulPhase k side epoch phase → sent_of phase ≤ INDEX_LIMIT
few_sent k side epoch (in_own own) l = l.1.few
few_sent k side epoch (in_peers public) l = omega arith

-- ---- the client

fits_version : (k : Mechanism) (saved : Saved) → Passes k saved → FitsVersion k saved.version saved.client
fits_version k saved l =
    let version = saved.version in
    let c = saved.client in
    record {
      format = l.heading.format;
      few_kept = leb-true (length c.state.kept) (kept_most version) l.keys.few_kept;
      few_entries = leb-true (length c.inbox) (inbox_most version) l.boxes.few_entries;
      kinds = each_of (PassesEntry version c.state.side c.state.epoch) (λ entry. is_kind_of version entry.kind ≡ true)
          (λ before entry passes. passes.kind_is) (length c.inbox) c.inbox l.boxes.inbox;
      short_texts = each_of (PassesEntry version c.state.side c.state.epoch) (λ entry. length entry.text ≤ text_most version)
          (λ before entry passes. leb-true (length entry.text) (text_most version) passes.short) (length c.inbox) c.inbox l.boxes.inbox;
      few_posts = leb-true (length c.outbox) (outbox_most version) l.boxes.few_posts;
      posts = each_of (PassesPost k version c.state.session c.state.side c.state.epoch) (IsPostOf k version) (post_of_version k version c.state)
          (length c.outbox) c.outbox l.boxes.outbox;
      awaiting = l.awaiting.allowed;
      relay = l.relay.allowed;
    }

lawful_state : (k : Mechanism) (saved : Saved) → Passes k saved → IsLawfulState k saved.client.state
lawful_state k saved l =
    let s = saved.client.state in
    let phase = lawful_phase k s.side s.epoch s.phase l.keys.phase in
    let reach = reach_of s.receiving in
    let few = few_reach (has_receiving s.side s.epoch) s.receiving l.keys.receiving in
    record {
      session_long = l.heading.session_long;
      root_long = l.heading.root_long;
      epoch_fits = leb-true s.epoch LAST_EPOCH l.heading.epoch_fits;
      phase = phase;
      previous = lawful_previous k s.side s.epoch s.previous s.phase phase l.keys.previous;
      receiving = lawful_receiving s.side s.epoch (is_own s.side s.epoch) refl s.receiving (length s.kept) s.kept l.keys.receiving l.keys.kept;
      kept = ascending s.side s.epoch (reach_of s.receiving) (length s.kept) s.kept l.keys.kept;
      each = each_of (PassesKept s.side s.epoch reach) (IsLawfulKept s.side) (λ before kept. lawful_kept s.side s.epoch reach before kept few) (length s.kept) s.kept l.keys.kept;
      few = omega (arith, (fits_version k saved l).few_kept, kept-limit saved.version);
      waiting = are-waiting (has_receipts saved.version) s.side s.epoch s.phase s.awaiting (few_sent k s.side s.epoch s.phase phase) l.awaiting;
    }

pub lawful : (k : Mechanism) (saved : Saved) → Passes k saved → IsLawfulSaved k saved
lawful k saved l =
    let version = saved.version in
    let c = saved.client in
    let s = c.state in
    let reach = reach_of s.receiving in
    let fits = fits_version k saved l in
    record {
      client = record {
        state = lawful_state k saved l;
        keys_long = each_of (PassesKept s.side s.epoch reach) (λ kept. length kept.key.bytes ≡ 32) (λ before kept passes. passes.key_long) (length s.kept) s.kept l.keys.kept;
        inbox = each_of (PassesEntry version s.side s.epoch) (IsLawfulEntry s) (lawful_entry version s) (length c.inbox) c.inbox l.boxes.inbox;
        few_entries = omega (arith, fits.few_entries, inbox-limit version);
        outbox = each_of (PassesPost k version s.session s.side s.epoch) (IsLawfulPost k s) (lawful_post k version s) (length c.outbox) c.outbox l.boxes.outbox;
        few_posts = omega (arith, fits.few_posts, outbox-limit version);
        relay = l.relay.long;
      };
      fits = fits;
    }
