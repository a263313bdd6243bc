-- The lines of a course in a world: what they say was opened is what the side opened.
use Rattle.std.proofs.Common.{Bool, List, [], ap, append_assoc, append-nil, false, if◌then◌else◌, refl, sym, true, ℕ, ◌+◌, ◌++◌, ◌==◌, ◌∙◌, ◌∷◌, ◌≡◌}
use Rattle.std.specs.Prelude.{flat_map}
use Rattle.std.proofs.lemmas.Grind.{flat_map-append}
use Rattle.dr_base.specs.declared.position.Position.{Position}
use Rattle.dr_base.specs.declared.position.Side.{Side}
use Rattle.dr_model.specs.Machines.Worlds.{World}
use Rattle.kem_laws.specs.Mechanism.{Mechanism}
use Rattle.relay_wire.specs.Replies.{Replied, absent, acked, bad, box_full, denied, empty, item, stored as is_stored, unknown}
use Rattle.sync_model.specs.Courses.{Course, all_lines, begun, course_from, heard, last_line, read_one, repeats}
use Rattle.sync_model.specs.Moves.{Move, Wait, acking, acknowledged, box_is_full, denied_by, ended as came_to_end, fetching, goes, inbox_full, move, no_such_box, over, posting, took_by, wrong}
use Rattle.sync_model.specs.Parties.{Party}
use Rattle.sync_model.specs.declared.limits.TheConstants.{ITEM_LIMIT}
use Rattle.client.specs.Syncing.InWorlds.{course_in}
use Rattle.client.specs.Syncing.Parties.{world_party}
use Rattle.conversation.specs.Shown.{SyncLine, TellsOpened, ended, opened, opened_in, refused, stored}
use Rattle.conversation.proofs.Onward.Words.{end_line_is, stored_line_is, sync_line}
use Rattle.conversation.proofs.Onward.Lines.{Tells, arrived_in, as_told, line_taken, sent_arrived}

opened_both : (xs ys : List SyncLine) → opened_in (xs ++ ys) ≡ opened_in xs ++ opened_in ys
opened_both [] ys = refl
opened_both (opened p ∷ xs) ys = ap (λ (ps : List Position). p ∷ ps) (opened_both xs ys)
opened_both (refused refusal ∷ xs) ys = opened_both xs ys
opened_both (stored number ∷ xs) ys = opened_both xs ys
opened_both (ended which ∷ xs) ys = opened_both xs ys

-- nothing was printed, and nothing was opened
silent : (side : Side) (w : World) → Tells side w w []
silent side w =
    record { printed = []; text_is = refl; arrived = sym (append-nil (arrived_in w side)) }

pub tells_nothing : (side : Side) (w : World) → TellsOpened side w w []
tells_nothing side w = as_told side w w [] (silent side w)

-- ---- reply by reply

-- the lines of a course from there on
record TellsOn (side : Side) (c d : Course World) : Type 0 where
  printed : List SyncLine
  lines_are : d.lines ≡ c.lines ++ flat_map sync_line printed
  arrived : arrived_in d.state side ≡ arrived_in c.state side ++ opened_in printed

module _ (k : Mechanism) (side : Side) (first : World) where
  abbrev p : Party World
  p = world_party k [] side first

  abbrev Says : World → Move World → Type 0
  Says s m = Tells side s m.state m.lines

  goes_on : (s : World) (wait : Wait) → Says s (goes p s wait)
  goes_on s wait = silent side s

  either : (s : World) (test : Bool) (one other : Move World) → Says s one → Says s other
      → Says s (if◌then◌else◌ {A = Move World} test one other)
  either s true one other is is_other = is
  either s false one other is is_other = is_other

  takes : (s : World) (n number : ℕ) (packet : List ℕ)
      → Says s (took_by p s n number packet (p.take s packet))
  takes s n number packet =
      let has = line_taken k side s packet in
      either s (p.take s packet).full _ _
      (record { printed = []; text_is = refl; arrived = sym (append-nil (arrived_in s side)) })
      (record {
        printed = has.line ∷ [];
        text_is = has.line_is ∙ sym (append-nil (sync_line has.line));
        arrived = has.arrived;
      })

  acknowledges : (s : World) (n : ℕ) → Says s (acknowledged p s n)
  acknowledges s n =
      either s (n + 1 == ITEM_LIMIT) _ _ (silent side s) (silent side s)

  says : (s : World) (wait : Wait) (reply : Replied) → Says s (move p s wait reply)
  says s (fetching n) (item number packet) = takes s n number packet
  says s (fetching n) (is_stored m) = silent side s
  says s (fetching n) empty = silent side s
  says s (fetching n) acked = silent side s
  says s (fetching n) box_full = silent side s
  says s (fetching n) unknown = silent side s
  says s (fetching n) (absent m) = silent side s
  says s (fetching n) (bad kind) = silent side s
  says s (fetching n) (denied rule last) = silent side s
  says s (acking n number) acked = acknowledges s n
  says s (acking n number) (absent m) =
      either s (m == number) _ _ (acknowledges s n) (silent side s)
  says s (acking n number) (item m packet) = silent side s
  says s (acking n number) (is_stored m) = silent side s
  says s (acking n number) empty = silent side s
  says s (acking n number) box_full = silent side s
  says s (acking n number) unknown = silent side s
  says s (acking n number) (bad kind) = silent side s
  says s (acking n number) (denied rule last) = silent side s
  says s (posting which) (is_stored number) = record {
    printed = stored number ∷ [];
    text_is = stored_line_is number ∙ sym (append-nil (sync_line (stored number)));
    arrived = sent_arrived k side s ∙ sym (append-nil (arrived_in s side));
  }
  says s (posting which) (item m packet) = silent side s
  says s (posting which) empty = silent side s
  says s (posting which) acked = silent side s
  says s (posting which) box_full = silent side s
  says s (posting which) unknown = silent side s
  says s (posting which) (absent m) = silent side s
  says s (posting which) (bad kind) = silent side s
  says s (posting which) (denied rule last) = silent side s
  says s (over ending) reply = silent side s

  hears : (c : Course World) (reply : Replied) (again : Bool)
      → Tells side c.state (heard p c reply again).state (heard p c reply again).lines
  hears c reply again =
      either c.state again (goes p c.state c.wait) (move p c.state c.wait reply)
      (silent side c.state) (says c.state c.wait reply)

  tells_on : (c : Course World) (replies : List Replied)
      → TellsOn side c (course_from p c replies)
  tells_on c [] = record {
    printed = [];
    lines_are = sym (append-nil c.lines);
    arrived = sym (append-nil (arrived_in c.state side));
  }
  tells_on c (reply ∷ replies) =
      let one = hears c reply (repeats p c reply) in
      let rest = tells_on (read_one p c reply) replies in
      record {
        printed = one.printed ++ rest.printed;
        lines_are = rest.lines_are
            ∙ ap (λ (text : List ℕ). (c.lines ++ text) ++ flat_map sync_line rest.printed) one.text_is
            ∙ append_assoc c.lines (flat_map sync_line one.printed) (flat_map sync_line rest.printed)
            ∙ ap (λ (text : List ℕ). c.lines ++ text)
            (sym (flat_map-append sync_line one.printed rest.printed));
        arrived = rest.arrived
            ∙ ap (λ (ps : List Position). ps ++ opened_in rest.printed) one.arrived
            ∙ append_assoc (arrived_in c.state side) (opened_in one.printed) (opened_in rest.printed)
            ∙ ap (λ (ps : List Position). arrived_in c.state side ++ ps)
            (sym (opened_both one.printed rest.printed));
      }

  -- ---- with the last line

  record HasEnd (wait : Wait) : Type 0 where
    lines : List SyncLine
    text_is : last_line p wait ≡ flat_map sync_line lines
    none_opened : opened_in lines ≡ []

  no_end : (wait : Wait) → last_line p wait ≡ [] → HasEnd wait
  no_end wait is = record { lines = []; text_is = is; none_opened = refl }

  end_of : (wait : Wait) → HasEnd wait
  end_of (fetching n) = no_end (fetching n) refl
  end_of (acking n number) = no_end (acking n number) refl
  end_of (posting which) = no_end (posting which) refl
  end_of (over (came_to_end which)) = record {
    lines = ended which ∷ [];
    text_is = end_line_is which ∙ sym (append-nil (sync_line (ended which)));
    none_opened = refl;
  }
  end_of (over inbox_full) = no_end (over inbox_full) refl
  end_of (over box_is_full) = no_end (over box_is_full) refl
  end_of (over no_such_box) = no_end (over no_such_box) refl
  end_of (over (denied_by rule)) = no_end (over (denied_by rule)) refl
  end_of (over wrong) = no_end (over wrong) refl

  -- all that a course has printed by now, without a last line and with it
  pub course_tells : (replies : List Replied)
      → TellsOpened side first (course_in k [] side first replies).state
      (course_in k [] side first replies).lines
  course_tells replies =
      let on = tells_on (begun p first) replies in
      as_told side first _ _
      (record { printed = on.printed; text_is = on.lines_are; arrived = on.arrived })

  pub whole_tells : (replies : List Replied)
      → TellsOpened side first (course_in k [] side first replies).state
      (all_lines p (course_in k [] side first replies))
  whole_tells replies =
      let c = course_in k [] side first replies in
      let on = tells_on (begun p first) replies in
      let last = end_of c.wait in
      as_told side first c.state (all_lines p c)
      (record {
        printed = on.printed ++ last.lines;
        text_is = ap (λ (text : List ℕ). text ++ last_line p c.wait) on.lines_are
            ∙ ap (λ (text : List ℕ). flat_map sync_line on.printed ++ text) last.text_is
            ∙ sym (flat_map-append sync_line on.printed last.lines);
        arrived = on.arrived
            ∙ ap (λ (ps : List Position). arrived_in first side ++ ps)
            (sym (append-nil (opened_in on.printed))
            ∙ ap (λ (ps : List Position). opened_in on.printed ++ ps) (sym last.none_opened)
            ∙ sym (opened_both on.printed last.lines));
      })
