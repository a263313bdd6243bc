-- A script that is played: what stands once some of its lines are answered.
use Rattle.std.proofs.Common.{None, Option, Some, ◌≡◌, ℕ, ◌+◌, ◌-◌, ◌^◌, ◌<◌, ◌≤◌, List, [], ◌∷◌, ◌++◌, length, refl, sym, ◌∙◌, ap, arith, subst, append_assoc, append-nil}
use Rattle.std.proofs.lemmas.List.{length-append}
use Rattle.dr_base.specs.declared.position.Side.{Side}
use Rattle.dr_base.specs.declared.position.Side.TheVariants.{First, Second}
use Rattle.dr_ports.specs.Ports.{appended}
use Rattle.dr_ports.specs.States.{SinkState}
use Rattle.dr_ports.specs.Writing.{TookBeginning}
use Rattle.session_model.specs.declared.answer.Answer.{Answer}
use Rattle.session_model.specs.declared.answer.Answer.TheVariants.{Said, Opened, Nothing, Refused}
use Rattle.dr_disk.specs.declared.call.Call.{Call}
use Rattle.dr_model.specs.Machines.Events.{Event, does}
use Rattle.dr_model.specs.Machines.Sides.{Sides, called_on, client_of}
use Rattle.dr_model.specs.Machines.Steps.{Step}
use Rattle.session_model.specs.Clients.{Client}
use Rattle.kem_laws.specs.Mechanism.{Mechanism}
use Rattle.duet.specs.Outcomes.{Beside, Played, SidesBeside, SidesPlayed, barring, deed_on, failed, freely_on, opened}
use Rattle.scripts.specs.Deeds.{Deed, acts, fails, joins, reopens, stops, syncs}
use Rattle.scripts.specs.Sides.{acting_side, deed_side}
use Rattle.duet.specs.Gathering.{gathers}
use Rattle.parties.specs.Shuts.{Shut, failing_call, left_of}
use Rattle.duet.specs.Shuts.{shut_of}
use Rattle.duet.proofs.Barred.{barred_or}
use Rattle.duet.specs.Held.{DuetNow, after_deed, beside, opening_duet}
use Rattle.scripts.specs.Script.{Scripted}
use Rattle.duet.specs.Tally.{IsBelow, IsSideBelow, both_reached, with_answer, counted_all, counted_by, counted_of, no_tally, opening_tally, tally_of}
use Rattle.duet.specs.Trace.{after_by, beginning, lines_by, played}
use Rattle.duet.specs.declared.tally.SideTally.{SideTally}
use Rattle.duet.specs.declared.tally.Tally.{Tally}
use Rattle.duet.proofs.Beginning.{opening_stands}
use Rattle.duet.proofs.Showing.{adds_few}
use Rattle.duet.proofs.Trace.{stands_more, wrote_first, wrote_more, wrote_part, no_lines_yet}

-- ---- what was counted

counted_by-push : {S L : Type 0} (act : Beside S L → Deed → Played S L) (s : Beside S L) (t : Tally) (deeds : List Deed) (deed : Deed)
    → counted_by act s t (deeds ++ deed ∷ []) ≡ counted_all (deed_side deed) (act (after_by act s deeds) deed).answers (counted_by act s t deeds)
unfolding after_by counted_by
counted_by-push act s t [] deed = refl
counted_by-push act s t (first ∷ deeds) deed =
    counted_by-push act (act s first).next (counted_all (deed_side first) (act s first).answers t) deeds deed

none_below : IsSideBelow 1 no_tally
none_below = record { said = omega arith; opened = omega arith; refused = omega arith }

side_wider : (n m : ℕ) (t : SideTally) → n ≤ m → IsSideBelow n t → IsSideBelow m t
side_wider n m t h b = record { said = omega (arith, b.said); opened = omega (arith, b.opened); refused = omega (arith, b.refused) }

pub wider : (n m : ℕ) (t : Tally) → n ≤ m → IsBelow n t → IsBelow m t
wider n m t h b = record { first = side_wider n m t.first h b.first; second = side_wider n m t.second h b.second }

side_more : (n : ℕ) (answer : Answer) (t : SideTally) → IsSideBelow n t → IsSideBelow (n + 1) (with_answer answer t)
side_more n (Said p) t b = record { said = omega (arith, b.said); opened = omega (arith, b.opened); refused = omega (arith, b.refused) }
side_more n (Opened p) t b = record { said = omega (arith, b.said); opened = omega (arith, b.opened); refused = omega (arith, b.refused) }
side_more n Nothing t b = record { said = omega (arith, b.said); opened = omega (arith, b.opened); refused = omega (arith, b.refused) }
side_more n (Refused refusal) t b = record { said = omega (arith, b.said); opened = omega (arith, b.opened); refused = omega (arith, b.refused) }
side_more n answer t b = side_wider n (n + 1) t (omega arith) b

one_more : (n : ℕ) (side : Side) (answer : Answer) (t : Tally) → IsBelow n t → IsBelow (n + 1) (counted_of side answer t)
one_more n First answer t b = record { first = side_more n answer t.first b.first; second = side_wider n (n + 1) t.second (omega arith) b.second }
one_more n Second answer t b = record { first = side_wider n (n + 1) t.first (omega arith) b.first; second = side_more n answer t.second b.second }

-- a deed counts one answer at most
failed_more : (event : Event) (s : SidesBeside) (made : Step Sides) (drawn : Sides) (left : Client) (fault : Option Call) (n : ℕ)
    (t : Tally) → IsBelow n t
    → IsBelow (n + 1) (counted_all (acting_side event) (failed event s made drawn left fault).answers t)
failed_more event s made drawn left None n t b = one_more n (acting_side event) made.answer t b
failed_more event s made drawn left (Some call) n t b = wider n (n + 1) t (omega arith) b

opened_more : (side : Side) (s : SidesBeside) (by : Client → Sides) (shut : Option (Shut Client)) (n : ℕ) (t : Tally) → IsBelow n t
    → IsBelow (n + 1) (counted_all side (opened side s by shut).answers t)
opened_more side s by None n t b = wider n (n + 1) t (omega arith) b
opened_more side s by (Some shut) n t b = wider n (n + 1) t (omega arith) b

freely_more : (k : Mechanism) (s : SidesBeside) (deed : Deed) (n : ℕ) (t : Tally) → IsBelow n t
    → IsBelow (n + 1) (counted_all (deed_side deed) (freely_on k s deed).answers t)
freely_more k s (acts event) n t b = one_more n (acting_side event) _ t b
freely_more k s (stops after mode side call) n t b = one_more n side _ t b
freely_more k s (fails at side call) n t b =
    let made = called_on k s.ends side call in
    let before = client_of s.ends side in
    let after = client_of made.next side in
    failed_more (does side call) s made (record s.ends { draws = made.next.draws }) (left_of at before after after before)
    (failing_call at made.answer before after) n t b
freely_more k s (reopens side) n t b = opened_more side s (gathers s.ends side) (shut_of s.shuts side) n t b
freely_more k s (syncs side lost) n t b = wider n (n + 1) t (omega arith) b
freely_more k s (joins side id) n t b = wider n (n + 1) t (omega arith) b

deed_more : (k : Mechanism) (s : SidesBeside) (deed : Deed) (n : ℕ) (t : Tally) → IsBelow n t
    → IsBelow (n + 1) (counted_all (deed_side deed) (deed_on k s deed).answers t)
unfolding deed_on
deed_more k s deed n t b =
    barred_or (λ (made : SidesPlayed). IsBelow (n + 1) (counted_all (deed_side deed) made.answers t)) (deed_side deed) s
    (freely_on k s deed) (barring s.shuts deed) (freely_more k s deed n t b) (λ call. wider n (n + 1) t (omega arith) b)

-- ---- a run

-- Some deeds were done, and these are left: what both sides hold, what was counted, and what a sink took.
pub record IsPlaying (k : Mechanism) (script : Scripted) (left : List Deed) (duet : DuetNow) (tally : Tally)
    (told mid : SinkState) : Type 0 where
  pub deeds : List Deed
  pub all : script.deeds ≡ deeds ++ left
  pub stands : beside duet ≡ after_by (deed_on k) (beginning k script) deeds
  pub room : duet.room ≡ length script.deeds
  pub few : duet.room < 2 ^ 32 - 1
  pub posts : length duet.sides.posts ≤ length deeds
  pub draws : duet.sides.draws.made ≤ length deeds
  pub counts : tally ≡ counted_by (deed_on k) (beginning k script) (opening_tally script.rounds) deeds
  pub below : IsBelow (length deeds + 1) tally
  pub written : mid.taken ≡ appended told.taken (lines_by (deed_on k) (beginning k script) deeds)
  pub quiet : mid.faults ≡ told.faults

-- before the first
pub plays_first : (k : Mechanism) (script : Scripted) (left : List Deed) (duet : DuetNow) (tally : Tally) (told : SinkState) (room : ℕ)
    → left ≡ script.deeds → room ≡ length script.deeds → duet ≡ opening_duet k script.key script.formats script.guarded room
    → room < 2 ^ 32 - 1 → tally ≡ opening_tally script.rounds
    → IsPlaying k script left duet tally told told
unfolding after_by counted_by
plays_first k script left duet tally told room all rooms begins few none = record {
  deeds = [];
  all = sym all;
  stands = ap beside begins ∙ opening_stands k script room;
  room = ap (λ (d : DuetNow). d.room) begins ∙ rooms;
  few = omega (arith, ap (λ (d : DuetNow). d.room) begins);
  posts = omega (arith, ap (λ (d : DuetNow). length d.sides.posts) begins);
  draws = omega (arith, ap (λ (d : DuetNow). d.sides.draws.made) begins);
  counts = none;
  below = subst (IsBelow 1) (sym none) (record { first = none_below; second = none_below });
  written = no_lines_yet (deed_on k) told.taken (beginning k script);
  quiet = refl;
}

-- how many were done, where one is left
pub answered : (deeds left rest all : List Deed) (deed : Deed) → all ≡ deeds ++ left → left ≡ deed ∷ rest → length deeds < length all
answered deeds left rest all deed whole first = omega (arith, ap length whole, length-append deeds left, ap length first)

-- one deed more
pub plays_on : (k : Mechanism) (script : Scripted) (left rest : List Deed) (deed : Deed) (duet next : DuetNow) (tally more : Tally)
    (told mid new : SinkState) → IsPlaying k script left duet tally told mid → left ≡ deed ∷ rest
    → next ≡ after_deed duet (deed_on k (beside duet) deed) → more ≡ counted_all (deed_side deed) (deed_on k (beside duet) deed).answers tally
    → new.taken ≡ appended mid.taken (deed_on k (beside duet) deed).lines → new.faults ≡ mid.faults → IsPlaying k script rest next more told new
plays_on k script left rest deed duet next tally more told mid new p first steps counts wrote quiet =
    let start = beginning k script in
    let size = length-append p.deeds (deed ∷ []) in
    let added = adds_few k (beside duet) deed in
    record {
      deeds = p.deeds ++ deed ∷ [];
      all = p.all ∙ ap (λ ds. p.deeds ++ ds) first ∙ sym (append_assoc p.deeds (deed ∷ []) rest);
      stands = stands_more k start p.deeds deed duet next steps p.stands;
      room = ap (λ (d : DuetNow). d.room) steps ∙ p.room;
      few = omega (arith, ap (λ (d : DuetNow). d.room) steps, p.few);
      posts = omega (arith, size, ap (λ (d : DuetNow). length d.sides.posts) steps, added.posts, p.posts);
      draws = omega (arith, size, ap (λ (d : DuetNow). d.sides.draws.made) steps, added.draws, p.draws);
      counts = counts
          ∙ ap (λ (s : SidesBeside). counted_all (deed_side deed) (deed_on k s deed).answers tally) p.stands
          ∙ ap (counted_all (deed_side deed) (deed_on k (after_by (deed_on k) start p.deeds) deed).answers) p.counts
          ∙ sym (counted_by-push (deed_on k) start (opening_tally script.rounds) p.deeds deed);
      below = subst (IsBelow _) (sym counts)
          (wider _ _ _ (omega (arith, size)) (deed_more k (beside duet) deed (length p.deeds + 1) tally p.below));
      written = wrote_more k start told.taken mid.taken new.taken p.deeds deed (beside duet) wrote p.stands p.written;
      quiet = quiet ∙ p.quiet;
    }

-- a write failed in the lines of the next deed
pub plays_cut : (k : Mechanism) (script : Scripted) (left rest : List Deed) (deed : Deed) (duet : DuetNow) (tally : Tally)
    (told mid : SinkState) (new : Option (List ℕ)) → IsPlaying k script left duet tally told mid → left ≡ deed ∷ rest
    → TookBeginning mid.taken new (deed_on k (beside duet) deed).lines → TookBeginning told.taken new (played k script)
unfolding played
plays_cut k script left rest deed duet tally told mid new p first part =
    wrote_part k (beginning k script) told.taken mid.taken new p.deeds rest script.deeds deed (beside duet) part
    (p.all ∙ ap (λ ds. p.deeds ++ ds) first ∙ sym (append_assoc p.deeds (deed ∷ []) rest)) p.stands p.written

-- no memory was left for the next deed
pub plays_short : (k : Mechanism) (script : Scripted) (left : List Deed) (duet : DuetNow) (tally : Tally) (told mid : SinkState)
    → IsPlaying k script left duet tally told mid → TookBeginning told.taken mid.taken (played k script)
unfolding played
plays_short k script left duet tally told mid p =
    wrote_first k (beginning k script) told.taken mid.taken p.deeds left script.deeds p.all p.written

-- the last was done
pub plays_last : (k : Mechanism) (script : Scripted) (left : List Deed) (duet : DuetNow) (tally : Tally) (told mid : SinkState)
    → IsPlaying k script left duet tally told mid → left ≡ [] → mid.taken ≡ appended told.taken (played k script)
unfolding played
plays_last k script left duet tally told mid p none =
    p.written
    ∙ ap (λ ds. appended told.taken (lines_by (deed_on k) (beginning k script) ds)) (sym (p.all ∙ ap (λ ds. p.deeds ++ ds) none ∙ append-nil p.deeds))

pub tallies_last : (k : Mechanism) (script : Scripted) (left : List Deed) (duet : DuetNow) (tally : Tally) (told mid : SinkState)
    → IsPlaying k script left duet tally told mid → left ≡ [] → both_reached duet.sides tally ≡ tally_of k script
unfolding tally_of
tallies_last k script left duet tally told mid p none =
    let whole : script.deeds ≡ p.deeds = p.all ∙ ap (λ ds. p.deeds ++ ds) none ∙ append-nil p.deeds in
    ap (λ (s : SidesBeside). both_reached s.ends tally) p.stands
    ∙ ap (both_reached (after_by (deed_on k) (beginning k script) p.deeds).ends) p.counts
    ∙ ap (λ ds. both_reached (after_by (deed_on k) (beginning k script) ds).ends (counted_by (deed_on k) (beginning k script) (opening_tally script.rounds) ds)) (sym whole)
