-- The record in whatever version: what is written is read, and what is read is lawful.
use Rattle.std.proofs.Common.{◌≡◌, ℕ, Bool, true, false, List, length, Result, Ok, Err, refl, sym, ◌∙◌, ap, ap₂, subst, if◌then◌else◌}
use Rattle.std.specs.Prelude.{◌==◌}
use Rattle.dr_base.specs.Bytes.{AreBytes}
use Rattle.grammar.specs.Reader.{Read, and_then, ended, gives}
use Rattle.relay_core.specs.Boxes.{Box, Kept}
use Rattle.relay_core.specs.Lawful.{IsLawfulBox}
use Rattle.relay_core.specs.Record.{HeadParts, Saved, box_fields, box_of_parts, box_read, box_text, record_parts, saved_of_parts, saved_read, saved_text}
use Rattle.relay_core.specs.Saved.{IsLawfulSaved}
use Rattle.relay_core.specs.Versions.{is_newest, newest}
use Rattle.relay_core.specs.declared.versions.Version.{Version}
use Rattle.relay_core.specs.declared.versions.Version.TheVariants.{One, Two}
use Rattle.relay_core.proofs.BoxGrammar.{record_grammar}

-- ---- a box, and the box in its version

abbrev box_in : Result Saved ℕ → Result Box ℕ
box_in (Ok s) = Ok s.box
box_in (Err at) = Err at

same_end : (x : Read (HeadParts × List Kept)) (is : Bool)
    → (let r : Result Box ℕ = (if is then Ok (box_of_parts x.value) else Err x.at) in r)
    ≡ box_in (if is then Ok (saved_of_parts x.value) else Err x.at)
same_end x true = refl
same_end x false = refl

both_read : (r : Result (Read (HeadParts × List Kept)) ℕ)
    → ended (and_then r (λ e. gives (box_of_parts e))) ≡ box_in (ended (and_then r (λ e. gives (saved_of_parts e))))
both_read (Ok x) = same_end x (length x.rest == 0)
both_read (Err at) = refl

read_in : (text : List ℕ) → box_read text ≡ box_in (saved_read text)
unfolding box_read box_fields saved_read
read_in text = both_read (record_parts 0 text)

from_box : (r : Result Saved ℕ) (box : Box) → box_in r ≡ Ok box → (s : Saved) × (r ≡ Ok s) × (s.box ≡ box)
from_box (Ok s) box h = (s, refl, (let e : (let x : Result Box ℕ = Ok s.box in x) ≡ Ok box = h in cc))
from_box (Err at) box h = absurd (let e : (let x : Result Box ℕ = Err at in x) ≡ Ok box = h in cc)

-- ---- the law

has_guards_now : (box : Box) → IsLawfulBox box → IsLawfulSaved (record { version = newest; box = box })
has_guards_now box lawful =
    record { box = lawful; guard = λ without. absurd (let e : true ≡ false = without in cc) }

pub written : (box : Box) → IsLawfulBox box → box_read (box_text box) ≡ Ok box
unfolding box_text
written box lawful =
    read_in (box_text box) ∙ ap box_in (record_grammar.reads (record { version = newest; box = box }) (has_guards_now box lawful))

pub read-lawful : (text : List ℕ) (box : Box) → AreBytes text → box_read text ≡ Ok box → IsLawfulBox box
read-lawful text box are read =
    let s = from_box (saved_read text) box (sym (read_in text) ∙ read) in
    subst IsLawfulBox s.2 (record_grammar.only text s.0 are s.1).1.box

-- a text that begins as the newest version does is of it
first_byte : (s : Saved) → is_newest (saved_text s) ≡ true → s.version ≡ newest
unfolding saved_text
first_byte s is = by_version s.version is
  where
    by_version : (v : Version) → is_newest (saved_text (record { version = v; box = s.box })) ≡ true → v ≡ newest
    by_version One e = absurd (let f : false ≡ true = e in cc)
    by_version Two e = refl

pub read-newest : (text : List ℕ) (box : Box) → AreBytes text → box_read text ≡ Ok box → is_newest text ≡ true → text ≡ box_text box
unfolding box_text
read-newest text box are read is =
    let s = from_box (saved_read text) box (sym (read_in text) ∙ read) in
    let printed : text ≡ saved_text s.0 = (record_grammar.only text s.0 are s.1).0 in
    let version = first_byte s.0 (sym (ap is_newest printed) ∙ is) in
    printed ∙ ap₂ (λ (v : Version) (b : Box). saved_text (record { version = v; box = b })) version s.2

pub newest-byte : (box : Box) → is_newest (box_text box) ≡ true
unfolding box_text saved_text
newest-byte box = refl
