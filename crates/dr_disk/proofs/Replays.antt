-- Events one after the other.
use Rattle.std.proofs.Common.{◌≡◌, ◌⊎◌, inl, inr, ⊎_elim, subst, ℕ, ◌+◌, ◌≤◌, Bool, List, [], ◌∷◌, ◌++◌, length, take, drop, refl, sym, ◌∙◌, ap, ap₂, arith, length-append, length-drop, Some, None}
use Rattle.std.proofs.lemmas.Bool.{cases_lt}
use Rattle.std.proofs.lemmas.List.{drop-append-le, take_all, take-append-le, nil_from_length}
use Rattle.dr_disk.specs.declared.tape.Recorded.{Recorded}
use Rattle.dr_disk.specs.Spans.{GoesBy}
use Rattle.dr_disk.specs.Memory.{Counts, IsImage}
use Rattle.dr_disk.specs.Recorded.{Bits, Event, WasImage, after, blank, event_of, events_of, recording_state, replayed, total_of}
use Rattle.dr_disk.proofs.Passing.{counted, counts_grow}

pub replayed_more : (bits : Bits) (events : List Event) (event : Event) → replayed bits (events ++ event ∷ []) ≡ after (replayed bits events) event
replayed_more bits [] event = refl
replayed_more bits (e ∷ events) event = replayed_more (after bits e) events event

-- a call more on the tape
pub events_more : (calls : List Recorded) (bytes new : List ℕ) (call : Recorded) → total_of calls ≡ length bytes → call.len ≡ length new
    → events_of (calls ++ call ∷ []) (bytes ++ new) ≡ events_of calls bytes ++ event_of call new ∷ []
events_more [] bytes new call total len =
    let empty : bytes ≡ [] = nil_from_length bytes (sym total) in
    ap₂ (λ (x : List ℕ) (y : List Event). event_of call x ∷ y) (ap (λ (l : List ℕ). take call.len (l ++ new)) empty ∙ take_all call.len new (omega arith)) refl
events_more (c ∷ calls) bytes new call total len =
    let fits : c.len ≤ length bytes = omega arith in
    let rest : total_of calls ≡ length (drop c.len bytes) = omega (arith, length-drop c.len bytes) in
    ap₂ (λ (x : List ℕ) (y : List Event). event_of c x ∷ y)
    (take-append-le c.len bytes new fits)
    (ap (λ (l : List ℕ). events_of (calls ++ call ∷ []) l) (drop-append-le c.len bytes new fits) ∙ events_more calls (drop c.len bytes) new call rest len)

pub total_more : (calls : List Recorded) (call : Recorded) → total_of (calls ++ call ∷ []) ≡ total_of calls + call.len
total_more [] call = omega arith
total_more (c ∷ calls) call = let e = total_more calls call in omega arith

-- what might have been left meanwhile was left before, or is left now
pub was_image : (size : ℕ) (events events' : List Event) (event : Event) (from : ℕ) (c : List ℕ) → events' ≡ events ++ event ∷ [] → WasImage size events' from c
    → WasImage size events from c ⊎ IsImage (replayed (blank size) events').durable (replayed (blank size) events').marks c
was_image size events events' event from c more was = elim (cases_lt was.index (length events + 1)) [
  | inl before ↦
      let same : take was.index events' ≡ take was.index events = ap (λ (es : List Event). take was.index es) more ∙ take-append-le was.index events (event ∷ []) (omega arith) in
      inl (record { index = was.index; later = was.later; within = omega arith; image = subst (λ (es : List Event). IsImage (replayed (blank size) es).durable (replayed (blank size) es).marks c) same was.image })
  | inr now ↦
      let all : take was.index events' ≡ events' = take_all was.index events' (omega (arith, ap (λ (es : List Event). length es) more, length-append events (event ∷ []))) in
      inr (subst (λ (es : List Event). IsImage (replayed (blank size) es).durable (replayed (blank size) es).marks c) all was.image)
]

pub goes_on : (size : ℕ) (events events' : List Event) (event : Event) (bytes bytes' durable durable' asked asked' : List ℕ) (marks marks' : List Bool) (full full' : Bool) (passed passed' : ℕ) (counts counts' : Counts)
    → events' ≡ events ++ event ∷ [] → length bytes' ≡ length bytes → passed ≤ passed' → counts.reads ≤ counts'.reads → counts.writes ≤ counts'.writes → counts.syncs ≤ counts'.syncs
    → durable' ≡ (replayed (blank size) events').durable → marks' ≡ (replayed (blank size) events').marks
    → GoesBy (recording_state size events bytes durable asked marks full passed counts) (recording_state size events' bytes' durable' asked' marks' full' passed' counts')
goes_on size events events' event bytes bytes' durable durable' asked asked' marks marks' full full' passed passed' counts counts' more same on reads writes syncs kept unsynced = record {
  size = same;
  counts = counts_grow counts counts' reads writes syncs;
  later = omega (arith, ap (λ (es : List Event). length es) more, length-append events (event ∷ []));
  passes = λ m told. counted passed passed' m on told;
  keeps = refl;
  fates = λ n told. absurd (let e : None ≡ Some n = told in cc);
  all = λ is. is;
  told = λ s is. (bytes', refl);
  each = λ t c le was. ⊎_elim (λ before. inl before) (λ now. inr (subst (λ (d : List ℕ). IsImage d marks' c) (sym kept) (subst (λ (m : List Bool). IsImage (replayed (blank size) events').durable m c) (sym unsynced) now))) (was_image size events events' event t c more was);
  last = λ c left. inr left;
}

-- a call that was recorded
module _ (size : ℕ) (calls calls' : List Recorded) (tape tape' : List ℕ) (call : Recorded) (piece : List ℕ) (total : total_of calls ≡ length tape) (len : call.len ≡ length piece)
    (more : calls' ≡ calls ++ call ∷ []) (longer : tape' ≡ tape ++ piece) where
  pub events_now : events_of calls' tape' ≡ events_of calls tape ++ event_of call piece ∷ []
  events_now = ap₂ events_of more longer ∙ events_more calls tape piece call total len

  pub total_now : total_of calls' ≡ length tape'
  total_now = omega (arith, ap total_of more ∙ total_more calls call, ap (λ (l : List ℕ). length l) longer, length-append tape piece)

  replayed_now : replayed (blank size) (events_of calls' tape') ≡ after (replayed (blank size) (events_of calls tape)) (event_of call piece)
  replayed_now = ap (replayed (blank size)) events_now ∙ replayed_more (blank size) (events_of calls tape) (event_of call piece)

  pub bytes_now : (bytes bytes' : List ℕ) → bytes ≡ (replayed (blank size) (events_of calls tape)).bytes → ((bits : Bits) → bytes ≡ bits.bytes → bytes' ≡ (after bits (event_of call piece)).bytes)
      → bytes' ≡ (replayed (blank size) (events_of calls' tape')).bytes
  bytes_now bytes bytes' was goes = goes (replayed (blank size) (events_of calls tape)) was ∙ sym (ap (λ b. b.bytes) replayed_now)

  pub durable_now : (bytes durable durable' : List ℕ) → bytes ≡ (replayed (blank size) (events_of calls tape)).bytes → durable ≡ (replayed (blank size) (events_of calls tape)).durable
      → ((bits : Bits) → bytes ≡ bits.bytes → durable ≡ bits.durable → durable' ≡ (after bits (event_of call piece)).durable)
      → durable' ≡ (replayed (blank size) (events_of calls' tape')).durable
  durable_now bytes durable durable' was kept goes = goes (replayed (blank size) (events_of calls tape)) was kept ∙ sym (ap (λ b. b.durable) replayed_now)

  pub marks_now : (marks marks' : List Bool) → marks ≡ (replayed (blank size) (events_of calls tape)).marks → ((bits : Bits) → marks ≡ bits.marks → marks' ≡ (after bits (event_of call piece)).marks)
      → marks' ≡ (replayed (blank size) (events_of calls' tape')).marks
  marks_now marks marks' was goes = goes (replayed (blank size) (events_of calls tape)) was ∙ sym (ap (λ b. b.marks) replayed_now)
