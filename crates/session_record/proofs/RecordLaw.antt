-- The laws of the record.
use Rattle.std.proofs.Common.{◌≡◌, ◌==◌, List, ℕ, Result, Ok, Err, true, false, get_or, refl, sym, ap, subst, ◌∙◌, arith}
use Rattle.dr_base.specs.Bytes.{AreBytes}
use Rattle.grammar.specs.Grammar.{IsWholeGrammar}
use Rattle.kem_laws.specs.Mechanism.{Mechanism}
use Rattle.session_model.specs.Clients.{Client}
use Rattle.session_record.specs.Lawful.{FitsVersion, IsLawfulClient, IsLawfulSaved}
use Rattle.session_record.specs.Record.{Saved, record_read, record_text, saved_read, saved_text, without_version}
use Rattle.boxes.proofs.Contents.{content_fits}
use Rattle.session_record.specs.Versions.{is_newest, newest, version_code}
use Rattle.session_record.specs.declared.versions.Version.{Version}
use Rattle.session_record.specs.declared.versions.Version.TheVariants.{One, Two, Three, Four, Five}
use Rattle.session_record.proofs.FromLawful.{passes}
use Rattle.session_record.proofs.RecordGrammar.{passing_grammar}
use Rattle.session_record.proofs.ToLawful.{lawful}
use Rattle.session_record.proofs.VersionLimits.{format-newest, inbox-newest, is-newest, kept-newest, kind-newest, outbox-newest, packet-newest, text-newest}

-- in each version
pub saved_grammar : (k : Mechanism) → IsWholeGrammar saved_text (IsLawfulSaved k) (saved_read k)
saved_grammar k =
    let grammar = passing_grammar k in
    record {
      reads = λ s l. grammar.reads s (passes k s l);
      only = λ text s are read. let was = grammar.only text s are read in (was.0, lawful k s was.1);
    }

-- the newest version allows what a client may hold
fits-newest : (k : Mechanism) (c : Client) → IsLawfulClient k c → FitsVersion k newest c
fits-newest k c l = record {
  format = format-newest c.state.format;
  few_kept = omega (arith, l.state.few, kept-newest);
  few_entries = omega (arith, l.few_entries, inbox-newest);
  kinds = λ i d inside. let entry = get_or c.inbox i d in kind-newest entry.kind entry.text (l.inbox i d inside).content;
  short_texts = λ i d inside. let entry = get_or c.inbox i d in
      omega (arith, content_fits entry.kind entry.text (l.inbox i d inside).content, text-newest);
  few_posts = omega (arith, l.few_posts, outbox-newest);
  posts = λ i d inside f reads. packet-newest f;
  awaiting = λ without. absurd (let e : true ≡ false = without in cc);
  relay = λ without. absurd (let e : true ≡ false = without in cc);
}

-- what is written is read as it
pub written : (k : Mechanism) (c : Client) → IsLawfulClient k c → record_read k (record_text c) ≡ Ok c
unfolding record_read record_text
written k c l =
    ap without_version
    ((saved_grammar k).reads (record { version = newest; client = c }) (record { client = l; fits = fits-newest k c l }))

-- what was read without its version was read in one
with-version : (r : Result Saved ℕ) (c : Client) → without_version r ≡ Ok c → (s : Saved) × (r ≡ Ok s) × (s.client ≡ c)
with-version (Ok s) c is = (s, refl, (let e : Ok s.client ≡ Ok c = is in cc))
with-version (Err at) c is = cc

-- ---- a text begins with the byte of its version

first-byte : (version : Version) (c : Client) → get_or (saved_text (record { version = version; client = c })) 0 0 ≡ version_code version
unfolding saved_text
first-byte One c = refl
first-byte Two c = refl
first-byte Three c = refl
first-byte Four c = refl
first-byte Five c = refl

pub newest-byte : (c : Client) → is_newest (record_text c) ≡ true
unfolding record_text
newest-byte c = ap (λ n. n == version_code newest) (first-byte newest c)

-- one that begins as the newest version does is in it
in-newest : (version : Version) (c : Client) → is_newest (saved_text (record { version = version; client = c })) ≡ true
    → saved_text (record { version = version; client = c }) ≡ record_text c
unfolding record_text
in-newest version c begins =
    let same = ap (λ n. n == version_code newest) (sym (first-byte version c)) ∙ begins in
    ap (λ v. saved_text (record { version = v; client = c })) (is-newest version same)

-- ---- what a text was read as

record WasRecord (k : Mechanism) (text : List ℕ) (c : Client) : Type 0 where
  newest : is_newest text ≡ true → text ≡ record_text c
  lawful : IsLawfulClient k c

was-record : (k : Mechanism) (text : List ℕ) (c : Client) → AreBytes text → record_read k text ≡ Ok c → WasRecord k text c
unfolding record_read
was-record k text c are read =
    let s = with-version (saved_read k text) c read in
    let was = (saved_grammar k).only text s.0 are s.1 in
    let of_version : WasRecord k text s.0.client = record {
      newest = λ begins. was.0 ∙ in-newest s.0.version s.0.client (ap is_newest (sym was.0) ∙ begins);
      lawful = was.1.client;
    } in
    subst (WasRecord k text) s.2 of_version

pub read-lawful : (k : Mechanism) (text : List ℕ) (c : Client) → AreBytes text → record_read k text ≡ Ok c → IsLawfulClient k c
read-lawful k text c are read = (was-record k text c are read).lawful

pub read-newest : (k : Mechanism) (text : List ℕ) (c : Client) → AreBytes text → record_read k text ≡ Ok c → is_newest text ≡ true
    → text ≡ record_text c
read-newest k text c are read = (was-record k text c are read).newest
