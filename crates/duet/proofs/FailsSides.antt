-- A call of both sides in which one side's disk fails once.
use Rattle.std.proofs.Common.{Err, None, Ok, Option, Result, Some, ap, ap₂, arith, false, length, subst, sym, ℕ, ◌+◌, ◌<◌, ◌∙◌, ◌≡◌, ◌≤◌}
use Rattle.std.specs.Prelude.{IfSome, IsSome}
use Rattle.dr_base.specs.declared.position.Side.{Side}
use Rattle.dr_base.specs.declared.position.Side.TheVariants.{First, Second}
use Rattle.dr_disk.specs.declared.call.Call.{Call}
use Rattle.dr_model.specs.Machines.Acts.{Act, act_on}
use Rattle.dr_model.specs.Machines.Draws.{Draws}
use Rattle.dr_model.specs.Machines.Events.{Event}
use Rattle.dr_model.specs.Machines.Sides.{Sides, client_of, step_on, with_client}
use Rattle.dr_model.specs.Machines.Steps.{Step, has_effect, settled, step}
use Rattle.dr_model.proofs.Acting.Keeping.{own_client}
use Rattle.kem_laws.specs.Mechanism.{Mechanism}
use Rattle.session_model.specs.Clients.{Client}
use Rattle.session_model.specs.declared.answer.Answer.{Answer}
use Rattle.scripts.specs.Seen.{CallOfLine, call_event}
use Rattle.scripts.specs.Sides.{acting_side}
use Rattle.duet.specs.Acts.{acted_by}
use Rattle.duet.specs.Failing.{FailsGathering, FailsOn, FailsSides}
use Rattle.duet.specs.Gathering.{gathered, gathers, newest_from}
use Rattle.duet.specs.Held.{DuetNow, after_step, after_deed, beside, with_draws}
use Rattle.duet.specs.Outcomes.{SidesPlayed, failed, failed_on, opened}
use Rattle.duet.specs.Replies.{failed_line, reply_line}
use Rattle.parties.specs.Shuts.{Shut, failing_call, left_of}
use Rattle.duet.specs.Shuts.{with_shut}
use Rattle.duet.specs.Tally.{counted_all, counted_of}
use Rattle.duet.specs.declared.tally.Tally.{Tally}
use Rattle.duet.proofs.Gathering.{acted_few, gathers_none, own_next, same_client, same_draws}
use Rattle.duet.proofs.Moving.{drawn_same}
use Rattle.duet.proofs.Showing.{call_reply}
use Rattle.parties.proofs.Stopped.Fails.{no_effect}

module _ (k : Mechanism) (old mid : DuetNow) (side : Side) (call : CallOfLine) (n : ℕ)
    (drawn : mid ≡ with_draws old mid.sides.draws) where
  abbrev event : Event
  event = call_event side call

  abbrev own : Side
  own = acting_side event

  abbrev s : Sides
  s = old.sides

  abbrev t : Sides
  t = mid.sides

  abbrev made_on : Step Sides
  made_on = step_on k s event

  abbrev before : Client
  before = client_of s own

  abbrev after_own : Client
  after_own = client_of made_on.next own

  abbrev Fault : Option Call
  Fault = failing_call n made_on.answer before after_own

  same_kept : client_of s side ≡ client_of t side
  same_kept =
      sym (ap (λ (d : DuetNow). client_of d.sides side) drawn ∙ drawn_same s side mid.sides.draws)

  -- where nothing fails
  unfailed : Fault ≡ None → after_deed old (failed_on k (beside old) n event) ≡ after_step old made_on
  unfailed none =
      ap (λ (fault : Option Call). after_deed old
      (failed event (beside old) made_on (record s { draws = made_on.next.draws }) (left_of n before after_own after_own before) fault)) none

  after_drawn : (made : Step Sides) → after_step mid made ≡ after_step old made
  after_drawn made = ap (λ (d : DuetNow). after_step d made) drawn

  module _ (act : Act) (does : made_on ≡ acted_by k t side act) where
    abbrev c : Client
    c = client_of t side

    abbrev made : Step Client
    made = settled c (act_on k c act)

    own_before : before ≡ c
    own_before = same_kept

    own_after : after_own ≡ made.next
    own_after = ap (λ (m : Step Sides). client_of m.next side) does ∙ own_next t side made

    same_answer : made_on.answer ≡ made.answer
    same_answer = ap (λ (m : Step Sides). m.answer) does

    same_fault : Fault ≡ failing_call n made.answer c made.next
    same_fault =
        ap (λ (answer : Answer). failing_call n answer before after_own) same_answer
        ∙ ap₂ (failing_call n made.answer) own_before own_after

    same_left : left_of n before after_own after_own before ≡ left_of n c made.next made.next c
    same_left = ap₂ (λ (a b : Client). left_of n a b b a) own_before own_after

    draws_are : made_on.next.draws ≡ mid.sides.draws
    draws_are = ap (λ (m : Step Sides). m.next.draws) does ∙ same_draws t side made

    -- how both sides stand where the call failed
    shut_at : Draws → Side → Call → Client → DuetNow
    shut_at draws at kind left = record old {
      sides = record s { draws = draws };
      shuts = with_shut old.shuts at (Some (record { call = kind; left = left }));
    }

    shut_next : (kind : Call) → Fault ≡ Some kind
        → after_deed old (failed_on k (beside old) n event)
        ≡ shut_at mid.sides.draws side kind (left_of n c made.next made.next c)
    unfolding shut_at
    shut_next kind is =
        ap (λ (fault : Option Call). after_deed old
        (failed event (beside old) made_on (record s { draws = made_on.next.draws }) (left_of n before after_own after_own before) fault)) is
        ∙ ap (λ (draws : Draws). shut_at draws side kind (left_of n before after_own after_own before)) draws_are
        ∙ ap (shut_at mid.sides.draws side kind) same_left

    shut_mid : (kind : Call) (left : Client)
        → (let d : DuetNow = record mid { shuts = with_shut mid.shuts side (Some (record { call = kind; left = left })) } in d)
        ≡ shut_at mid.sides.draws side kind left
    unfolding shut_at
    shut_mid kind left =
        ap (λ (e : DuetNow). let d : DuetNow = record e { shuts = with_shut e.shuts side (Some (record { call = kind; left = left })) } in d) drawn

    pub act_fails : (new : DuetNow) (result : Result Answer Call) → FailsGathering k side n act mid new result
        → FailsOn k n event old new result
    act_fails new (Ok answer) goes =
        let none = same_fault ∙ goes.0 in record {
          ends = (none, goes.1 ∙ sym same_answer);
          next = goes.2 ∙ ap (after_step mid) (sym does) ∙ after_drawn made_on ∙ sym (unfailed none);
        }
    act_fails new (Err kind) goes =
        let is = same_fault ∙ goes.0 in record {
          ends = is;
          next = goes.1 ∙ shut_mid kind (left_of n c made.next made.next c) ∙ sym (shut_next kind is);
        }

  -- one that comes to an answer without an act
  pub answer_unfailed : (answer : Answer) → made_on ≡ step answer t → has_effect answer ≡ false
      → FailsOn k n event old mid (Ok answer)
  answer_unfailed answer does idle =
      let same : made_on.answer ≡ answer = ap (λ (m : Step Sides). m.answer) does in
      let none : Fault ≡ None = no_effect n made_on.answer before after_own (ap has_effect same ∙ idle) in record {
        ends = (none, sym same);
        next = drawn
            ∙ sym (ap (λ (d : DuetNow). let left : DuetNow = record old { sides = d.sides } in left) drawn)
            ∙ ap (after_step old) (sym does) ∙ sym (unfailed none);
      }

-- ---- an act of one side, of which the network gets what it adds

module _ (k : Mechanism) (side : Side) (n : ℕ) (act : Act) (old mid : DuetNow) where
  pub outbox_few : (result : Result Answer Call) → FailsSides k side n act old mid result
      → length (client_of mid.sides side).outbox ≤ length (client_of old.sides side).outbox + 1
  outbox_few (Ok answer) goes =
      let c = client_of old.sides side in
      let made = settled c (act_on k c act) in
      omega (
        arith,
        acted_few k c act,
        ap (λ (d : DuetNow). length (client_of d.sides side).outbox) goes.2,
        ap (λ (x : Client). length x.outbox) (own_client old.sides side made.next),
      )
  outbox_few (Err call) goes = omega (arith, ap (λ (d : DuetNow). length (client_of d.sides side).outbox) goes.1)

  none_gathered : (held : ℕ) → held ≡ length (client_of old.sides side).outbox → gathered held side old.sides ≡ old.sides
  none_gathered held is =
      ap (λ (h : ℕ). gathered h side old.sides) is
      ∙ sym (ap (gathered (length (client_of old.sides side).outbox) side) (same_client old.sides side))
      ∙ gathers_none old.sides side

  pub gathers_after : (held : ℕ) (new : DuetNow) (result : Result Answer Call) → held ≡ length (client_of old.sides side).outbox
      → new ≡ (let d : DuetNow = record mid { sides = gathered held side mid.sides } in d)
      → FailsSides k side n act old mid result → FailsGathering k side n act old new result
  gathers_after held new (Ok answer) is goes by =
      let c = client_of old.sides side in
      let made = settled c (act_on k c act) in (
        by.0,
        by.1,
        goes
            ∙ ap (λ (m : DuetNow). let d : DuetNow = record m { sides = gathered held side m.sides } in d) by.2
            ∙ ap (λ (h : ℕ). let d : DuetNow = record old { sides = gathered h side (with_client old.sides side made.next) } in d) is,
      )
  gathers_after held new (Err call) is goes by =
      let c = client_of old.sides side in
      let made = settled c (act_on k c act) in
      let shuts = with_shut old.shuts side (Some (record { call = call; left = left_of n c made.next made.next c })) in (
        by.0,
        goes
            ∙ ap (λ (m : DuetNow). let d : DuetNow = record m { sides = gathered held side m.sides } in d) by.1
            ∙ ap (λ (s : Sides). let d : DuetNow = record old { sides = s; shuts = shuts } in d) (none_gathered held is),
      )

-- ---- an opening

pub opens_after : (old mid new : DuetNow) (side : Side) (held : ℕ) (shut : Option (Shut Client)) → IsSome shut
    → IfSome shut (λ shut. mid ≡ record old { sides = with_client old.sides side shut.left; shuts = with_shut old.shuts side None })
    → held ≡ length (client_of old.sides side).outbox
    → new ≡ (let d : DuetNow = record mid { sides = gathered (newest_from held (length (client_of mid.sides side).outbox)) side mid.sides } in d)
    → new ≡ after_deed old (opened side (beside old) (gathers old.sides side) shut)
opens_after old mid new side held None some by is goes = absurd (cc some)
opens_after old mid new side held (Some shut) some by is goes =
    let t = with_client old.sides side shut.left in
    goes
    ∙ ap (λ (m : DuetNow). let d : DuetNow = record m { sides = gathered (newest_from held (length (client_of m.sides side).outbox)) side m.sides } in d) by
    ∙ ap₂ (λ (h : ℕ) (c : Client). let d : DuetNow = record old {
      sides = gathered (newest_from h (length c.outbox)) side t;
      shuts = with_shut old.shuts side None;
    } in d) is (own_client old.sides side shut.left)

-- and the network has its room
pub opens_roomy : (old mid : DuetNow) (side : Side) (shut : Option (Shut Client)) → IsSome shut
    → IfSome shut (λ shut. mid ≡ record old { sides = with_client old.sides side shut.left; shuts = with_shut old.shuts side None })
    → length old.sides.posts < old.room → length mid.sides.posts < mid.room
opens_roomy old mid side None some by room = absurd (cc some)
opens_roomy old mid First (Some shut) some by room = subst (λ (m : DuetNow). length m.sides.posts < m.room) (sym by) room
opens_roomy old mid Second (Some shut) some by room = subst (λ (m : DuetNow). length m.sides.posts < m.room) (sym by) room

-- ---- lines

module _ (k : Mechanism) (duet : DuetNow) (side : Side) (call : CallOfLine) (n : ℕ) where
  abbrev called : Event
  called = call_event side call

  abbrev does : Step Sides
  does = step_on k duet.sides called

  abbrev fault : Option Call
  fault = failing_call n does.answer (client_of duet.sides (acting_side called)) (client_of does.next (acting_side called))

  abbrev by_fault : Option Call → SidesPlayed
  by_fault =
      let before = client_of duet.sides (acting_side called) in
      let next = client_of does.next (acting_side called) in
      failed called (beside duet) does (record duet.sides { draws = does.next.draws }) (left_of n before next next before)

  pub well_lines : (answer : Answer) → fault ≡ None → answer ≡ does.answer
      → reply_line side answer ≡ (failed_on k (beside duet) n called).lines
  well_lines answer none is =
      call_reply k duet.sides side call answer is ∙ sym (ap (λ (f : Option Call). (by_fault f).lines) none)

  pub well_counts : (answer : Answer) (tally : Tally) → fault ≡ None → answer ≡ does.answer
      → counted_of side answer tally ≡ counted_all (acting_side called) (failed_on k (beside duet) n called).answers tally
  well_counts answer tally none is =
      ap (λ (a : Answer). counted_of side a tally) is
      ∙ sym (ap (λ (f : Option Call). counted_all (acting_side called) (by_fault f).answers tally) none)

  pub shut_lines : (kind : Call) → fault ≡ Some kind → failed_line side kind ≡ (failed_on k (beside duet) n called).lines
  shut_lines kind is = sym (ap (λ (f : Option Call). (by_fault f).lines) is)

  pub shut_counts : (kind : Call) (tally : Tally) → fault ≡ Some kind
      → tally ≡ counted_all (acting_side called) (failed_on k (beside duet) n called).answers tally
  shut_counts kind tally is = sym (ap (λ (f : Option Call). counted_all (acting_side called) (by_fault f).answers tally) is)
