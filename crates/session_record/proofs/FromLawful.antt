-- A lawful client passes the tests.
use Rattle.std.proofs.Common.{◌≡◌, ℕ, ◌≤◌, ◌==◌, Bool, true, false, List, [], length, take, get_or, refl, sym, ◌∙◌, ap, arith, if◌then◌else◌}
use Rattle.std.specs.Prelude.{nat_le, ◌&&◌, ◌||◌}
use Rattle.std.proofs.lemmas.Bool.{le-leb, and_from, not_from_false}
use Rattle.std.proofs.lemmas.Bool.Decides.{nat_tests}
use Rattle.std.proofs.lemmas.Slice.Eq.{bytes_eq-Decides}
use Rattle.dr_base.specs.declared.position.Side.{Side}
use Rattle.boxes.specs.Entries.{Entry, entry_under}
use Rattle.boxes.specs.Posts.{Post, post_under}
use Rattle.kem_laws.specs.Mechanism.{IsLawful}
use Rattle.dr_base.specs.Position.{is_own, position_at}
use Rattle.session_model.specs.LawfulStates.{IsLawfulPhase, IsLawfulPrevious}
use Rattle.session_model.specs.States.{Phase, in_own, in_peers, State}
use Rattle.dr_base.specs.declared.limits.TheConstants.{INDEX_LIMIT, LAST_EPOCH}
use Rattle.kem_laws.specs.Mechanism.{Mechanism}
use Rattle.grammar.proofs.Lists.{items-from}
use Rattle.session_record.specs.Versions.{has_receipts}
use Rattle.session_record.specs.Fields.{is_good, is_previous, up_to}
use Rattle.session_record.specs.Lists.{is_post, is_posted, place_of, post_of}
use Rattle.session_record.proofs.Passing.{Passes, PassesEntry, PassesPhase, PassesPost}
use Rattle.session_record.specs.Lawful.{IsLawfulEntry, IsLawfulPost, IsLawfulSaved, IsPostOf}
use Rattle.session_record.specs.Record.{Saved}
use Rattle.session_record.specs.Versions.{inbox_most, is_kind_of, kept_most, outbox_most, text_most}
use Rattle.session_record.specs.declared.versions.Version.{Version}
use Rattle.session_record.proofs.Waiting.{awaiting-passes}
use Rattle.session_record.proofs.KeptFromLawful.{AreKeys, received}

-- ---- the fields before

good : (k : Mechanism) (secret : List ℕ) → IsLawful k.meaning secret → is_good (k.meaning.bad_byte secret) ≡ true
good k secret lawful = ap is_good lawful

phase_part : (k : Mechanism) (side : Side) (epoch : ℕ) (phase : Phase) → IsLawfulPhase k side epoch phase
    → PassesPhase k side epoch phase
phase_part k side epoch (in_own own) l = (
  l.0,
  record {
    secret_long = l.1.secret_long;
    secret_good = good k own.secret l.1.secret_lawful;
    agreement_long = l.1.agreement_long;
    chain_long = l.1.chain_long;
    few = le-leb own.sent INDEX_LIMIT l.1.few;
  },
)
phase_part k side epoch (in_peers public) l = l

previous_part : (k : Mechanism) (side : Side) (epoch previous : ℕ) (phase : Phase) → IsLawfulPhase k side epoch phase → IsLawfulPrevious previous epoch phase → is_previous side epoch previous ≡ true
previous_part k side epoch previous (in_own own) l h = by_side (is_own side epoch) l.0 h.0 h.1
  where
    by_side : (b : Bool) → b ≡ true → previous ≤ INDEX_LIMIT → (epoch ≤ 1 → previous ≡ 0)
        → (nat_le previous INDEX_LIMIT && ((previous == 0) || nat_le (if b then 2 else 1) epoch)) ≡ true
    by_side true is few none = grind (arith, nat_tests)
    by_side false is few none = absurd (let e : false ≡ true = is in cc)
previous_part k side epoch previous (in_peers public) l h = by_side (is_own side epoch) l.0 h.0 h.1
  where
    by_side : (b : Bool) → b ≡ false → previous ≤ INDEX_LIMIT → (epoch ≡ 0 → previous ≡ 0)
        → (nat_le previous INDEX_LIMIT && ((previous == 0) || nat_le (if b then 2 else 1) epoch)) ≡ true
    by_side false is few none = grind (arith, nat_tests)
    by_side true is few none = absurd (let e : true ≡ false = is in cc)

epoch_part : (epoch : ℕ) → epoch ≤ LAST_EPOCH → up_to LAST_EPOCH epoch ≡ true
epoch_part epoch fits = grind (arith, nat_tests)

-- ---- the boxes

entry_passes : (version : Version) (s : State) (before : List Entry) (entry : Entry) → s.epoch ≤ LAST_EPOCH
    → is_kind_of version entry.kind ≡ true → length entry.text ≤ text_most version → IsLawfulEntry s entry → PassesEntry version s.side s.epoch before entry
entry_passes version s before entry fits kind short l = record {
  epoch_is = and_from _ _ (not_from_false _ l.peers) (le-leb _ _ l.reached);
  epoch_fits = omega (arith, l.reached);
  index_is = and_from _ _ (le-leb 1 entry.position.index l.from_one) (le-leb entry.position.index INDEX_LIMIT l.most);
  kind_is = kind;
  short = le-leb (length entry.text) (text_most version) short;
  content = l.content;
}

post_passes : (k : Mechanism) (version : Version) (s : State) (before : List Post) (one : Post) → IsLawfulPost k s one
    → IsPostOf k version one → PassesPost k version s.session s.side s.epoch before one
unfolding is_post post_of
post_passes k version s before one l of =
    let same = (bytes_eq-Decides l.fields.session s.session).1 l.session in
    record {
      post = ap (is_posted version s.session s.side s.epoch) l.reads
          ∙ and_from _ _ same (and_from _ _ l.own (and_from _ _ (le-leb _ _ l.reached) (of l.fields l.reads)));
      fits = l.fits;
      own_place = ap (λ r. post_under (place_of r) one.packet) l.reads ∙ ap (λ p. post_under p one.packet) (sym l.place);
    }

no_entry : Entry
no_entry = entry_under (position_at 0 0) []

no_post : Post
no_post = post_under (position_at 0 0) []

pub passes : (k : Mechanism) (saved : Saved) → IsLawfulSaved k saved → Passes k saved
passes k saved l =
    let version = saved.version in
    let c = saved.client in
    let s = l.client.state in
    let keys : AreKeys c.state.side c.state.kept = record { each = s.each; long = l.client.keys_long; up = s.kept } in
    let got = received c.state.side c.state.epoch (is_own c.state.side c.state.epoch) refl s.epoch_fits c.state.receiving c.state.kept keys s.receiving in
    record {
      heading = record {
        format = l.fits.format;
        session_long = s.session_long;
        root_long = s.root_long;
        epoch_fits = epoch_part c.state.epoch s.epoch_fits;
      };
      keys = record {
        phase = phase_part k c.state.side c.state.epoch c.state.phase s.phase;
        previous = previous_part k c.state.side c.state.epoch c.state.previous c.state.phase s.phase s.previous;
        receiving = got.there;
        few_kept = le-leb (length c.state.kept) (kept_most version) l.fits.few_kept;
        kept = got.keys;
      };
      boxes = record {
        few_entries = le-leb (length c.inbox) (inbox_most version) l.fits.few_entries;
        inbox = items-from (PassesEntry version c.state.side c.state.epoch) c.inbox no_entry (λ i d inside.
            entry_passes version c.state (take i c.inbox) (get_or c.inbox i d) s.epoch_fits (l.fits.kinds i d inside) (l.fits.short_texts i d inside) (l.client.inbox i d inside));
        few_posts = le-leb (length c.outbox) (outbox_most version) l.fits.few_posts;
        outbox = items-from (PassesPost k version c.state.session c.state.side c.state.epoch) c.outbox no_post (λ i d inside.
            post_passes k version c.state (take i c.outbox) (get_or c.outbox i d) (l.client.outbox i d inside) (l.fits.posts i d inside));
      };
      awaiting = awaiting-passes (has_receipts version) c.state.side c.state.epoch c.state.phase c.state.awaiting s.epoch_fits l.fits.awaiting s.waiting;
      relay = record { long = l.client.relay; allowed = l.fits.relay };
    }
