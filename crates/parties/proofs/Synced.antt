-- The lines of a side that syncs.
use Rattle.std.proofs.Common.{◌≡◌, ℕ, List, [], ◌++◌, Option, Some, None, Result, Ok, Err, refl, sym, ◌∙◌, ap, subst, arith, append-nil}
use Rattle.std.specs.Prelude.{OnOk, codes, decimal, option_map}
use Rattle.dr_base.specs.declared.failed.Failed.{Failed}
use Rattle.dr_base.specs.declared.position.Side.{Side}
use Rattle.dr_ports.specs.Ports.{appended}
use Rattle.dr_ports.specs.States.{SinkState}
use Rattle.dr_ports.specs.Writing.{TookBeginning, Writes}
use Rattle.dr_ports.proofs.WritingLemmas.{took_of_first, writes_behind}
use Rattle.relay_core.specs.Boxes.{Box}
use Rattle.relay_wire.specs.Requests.{Asked}
use Rattle.session_model.specs.Clients.{Client}
use Rattle.sync_model.specs.Parties.{Party}
use Rattle.sync_model.specs.Moves.{Ending, Wait, acking, asked_in, box_is_full, denied_by, ended, fetching, inbox_full, no_such_box, over, posting, wrong}
use Rattle.sync_model.specs.Courses.{all_lines}
use Rattle.sync_model.specs.Tokens.{Tokens, tagged}
use Rattle.sync_model.specs.Courses as courses
use Rattle.sync_model.specs.Transfers.{Meeting}
use Rattle.sync_model.specs.declared.more.More.{More}
use Rattle.sync_model.proofs.Growing.{Begins}
use Rattle.client.specs.Syncing.Moments.{Moment, Wrote}
use Rattle.client.specs.Syncing.Rounds.{sync_fault_of}
use Rattle.client.specs.declared.syncing.faults.SyncFault.{SyncFault}
use Rattle.client.specs.declared.syncing.faults.SyncFault.TheVariants.{Closed, Link, Peer, Refused, Store, Write}
use Rattle.client.specs.declared.syncing.faults.SyncRefusal.{SyncRefusal}
use Rattle.parties.specs.SyncLines.{ending_line, closing_line, sync_lines, fault_line, fault_text}
use Rattle.parties.specs.Meetings.{IsOpenAtRest, Plays, Reaches, Tells}
use Rattle.scripts.specs.Sides.{side_text}

abbrev text_in : Option SyncFault → List ℕ
text_in None = []
text_in (Some fault) = fault_text fault

module _ {S : Type 0} (p : Party S) (side : Side) where
  -- bytes after no last line
  none_behind : (lines more : List ℕ) → Begins (lines ++ []) (lines ++ more)
  none_behind lines more = (more, ap (λ (b : List ℕ). b ++ more) (sym (append-nil lines)))

  -- what the client prints begins all lines
  begins_by : (lines : List ℕ) (wait : Wait) → Begins (lines ++ courses.last_line p wait) (lines ++ closing_line p side wait)
  begins_by lines (over (ended which)) = ([], sym (append-nil (lines ++ p.end_line which)))
  begins_by lines (over inbox_full) = none_behind lines (ending_line p side inbox_full)
  begins_by lines (over box_is_full) = none_behind lines (ending_line p side box_is_full)
  begins_by lines (over no_such_box) = none_behind lines (ending_line p side no_such_box)
  begins_by lines (over (denied_by rule)) = none_behind lines (ending_line p side (denied_by rule))
  begins_by lines (over wrong) = none_behind lines []
  begins_by lines (fetching n) = none_behind lines (closing_line p side (fetching n))
  begins_by lines (acking n number) = none_behind lines (closing_line p side (acking n number))
  begins_by lines (posting which) = none_behind lines (closing_line p side (posting which))

  told_behind : (lines text : List ℕ) (refusal : SyncRefusal) → text ≡ fault_text (Refused refusal)
      → (lines ++ []) ++ fault_line side (Refused refusal) ≡ lines ++ (side_text side ++ text)
  told_behind lines text refusal is =
      ap (λ (b : List ℕ). b ++ fault_line side (Refused refusal)) (append-nil lines) ∙ ap (λ (t : List ℕ). lines ++ (side_text side ++ t)) (sym is)

  -- after a refusal
  refused_by : (lines : List ℕ) (ending : Ending) (refusal : SyncRefusal) → sync_fault_of ending ≡ Some (Refused refusal)
      → (lines ++ courses.last_line p (over ending)) ++ fault_line side (Refused refusal) ≡ lines ++ closing_line p side (over ending)
  refused_by lines (ended which) refusal is = absurd (cc)
  refused_by lines inbox_full refusal is = told_behind lines (codes "refused InboxFull\n") refusal (ap text_in is)
  refused_by lines box_is_full refusal is = told_behind lines (codes "refused BoxFull\n") refusal (ap text_in is)
  refused_by lines no_such_box refusal is = told_behind lines (codes "refused Unknown\n") refusal (ap text_in is)
  refused_by lines (denied_by rule) refusal is =
      told_behind lines (codes "refused Denied " ++ decimal rule ++ codes "\n") refusal (ap text_in is)
  refused_by lines wrong refusal is = absurd (cc)

  -- where it still waits
  waits_by : (tokens : Tokens) (s : S) (wait : Wait) (asked : Asked) → option_map (tagged p.keys tokens) (asked_in p s wait) ≡ Some asked
      → fault_line side Link ≡ closing_line p side wait
  waits_by tokens s (fetching n) asked is = refl
  waits_by tokens s (acking n number) asked is = refl
  waits_by tokens s (posting which) asked is = refl
  waits_by tokens s (over ending) asked is = absurd (let e : None ≡ Some asked = is in cc)

module _ (p : Party Client) (side : Side) (m : Meeting Client) (a b : Moment) (boxes : List Box) where
  abbrev lines : List ℕ
  lines = sync_lines p side m

  -- it ended, and wrote its last line
  pub ended_lines : (which : More) → Plays p m a b boxes (Ok which)
      → Writes {T = Unit} {E = Failed} a.sink b.sink lines (Ok tt)
  ended_lines which plays =
      let wait = plays.1.0 in
      let wrote = plays.1.1 in record {
        whole = wrote.bytes_are
            ∙ ap (λ (w : Wait). appended a.sink.taken (m.course.lines ++ courses.last_line p w)) wait
            ∙ sym (ap (λ (w : Wait). appended a.sink.taken (m.course.lines ++ closing_line p side w)) wait);
        part = tt;
        cause = record { later = omega (arith, wrote.unfailing); failed = tt; passed = wrote.unfailing };
      }

  behind : (bytes line : List ℕ) (new : SinkState) (result : Result Unit Failed) → bytes ++ line ≡ lines
      → Wrote bytes a b
      → Writes b.sink new line result → Writes a.sink new lines result
  behind bytes line new result is wrote told =
      subst (λ (x : List ℕ). Writes a.sink new x result) is
      (writes_behind a.sink b.sink new bytes line result wrote.bytes_are wrote.unfailing told)

  -- it broke off, and that is told after its lines
  pub broken_lines : (fault : SyncFault) (new : SinkState) (result : Result Unit Failed)
      → Plays p m a b boxes (Err fault)
      → Tells side fault b.sink new result → Writes a.sink new lines result
  broken_lines (Refused refusal) new result plays told =
      let by = plays.1 in
      behind (all_lines p m.course) (fault_line side (Refused refusal)) new result
      (ap (λ (w : Wait). (m.course.lines ++ courses.last_line p w) ++ fault_line side (Refused refusal)) by.2.0
      ∙ refused_by p side m.course.lines by.0 refusal by.1 ∙ sym (ap (λ (w : Wait). m.course.lines ++ closing_line p side w) by.2.0))
      by.2.1 told
  broken_lines Link new result plays told =
      behind m.course.lines (fault_line side Link) new result
      (ap (λ (b : List ℕ). m.course.lines ++ b) (waits_by p side m.course.tokens m.course.state m.course.wait plays.1.0 plays.1.1)) plays.2 told
  broken_lines Write new (Ok u) plays told = absurd (let e = told.0 in cc)
  broken_lines Write new (Err failed) plays told =
      let all = begins_by p side m.course.lines m.course.wait in
      let began = plays.1 in record {
        whole = tt;
        part = subst (TookBeginning a.sink.taken new.taken) (sym all.1)
            (took_of_first a.sink.taken new.taken (all_lines p m.course) all.0 (subst (λ (t : Option (List ℕ)). TookBeginning a.sink.taken t (all_lines p m.course)) (sym told.1) began.beginning));
        cause = record { later = omega (arith, plays.2, told.2); failed = omega (arith, began.rose, told.2); passed = tt };
      }
  broken_lines (Peer at what) new result plays told = absurd plays
  broken_lines (Store call) new result plays told = absurd plays
  broken_lines (Closed call) new result plays told = absurd plays

  -- how far it came, where the call fails at no write
  pub broken_reaches : (fault : SyncFault) (new : SinkState) (result : Result Unit Failed)
      → Plays p m a b boxes (Err fault)
      → Tells side fault b.sink new result → OnOk result (Reaches m b boxes)
  broken_reaches fault new (Err failed) plays told = tt
  broken_reaches (Refused refusal) new (Ok u) plays told = plays.0
  broken_reaches Link new (Ok u) plays told = plays.0
  broken_reaches Write new (Ok u) plays told = absurd (let e = told.0 in cc)
  broken_reaches (Peer at what) new (Ok u) plays told = absurd plays
  broken_reaches (Store call) new (Ok u) plays told = absurd plays
  broken_reaches (Closed call) new (Ok u) plays told = absurd plays

  -- however it came out, the client is open and at rest
  pub plays_rests : (result : Result More SyncFault) → Plays p m a b boxes result → IsOpenAtRest b
  plays_rests (Ok which) plays = plays.0.rests
  plays_rests (Err (Refused refusal)) plays = plays.0.rests
  plays_rests (Err Link) plays = plays.0.rests
  plays_rests (Err Write) plays = plays.0
  plays_rests (Err (Peer at what)) plays = absurd plays
  plays_rests (Err (Store call)) plays = absurd plays
  plays_rests (Err (Closed call)) plays = absurd plays
