-- What a sync wrote, and the last line after it.
use Rattle.std.proofs.Common.{Bool, Err, List, None, Ok, Result, Some, [], ap, arith, drop, false, inl, inr, length, refl, sym, take, true, ℕ, ⊎_elim, ◌+◌, ◌++◌, ◌-◌, ◌<◌, ◌^◌, ◌≤◌, ◌∙◌, ◌∷◌, ◌≡◌, append-nil}
use Rattle.std.specs.Prelude.{option_map, IfErr, if◌then◌else◌, nat_le, ◌&&◌}
use Rattle.std.proofs.lemmas.Bool.Decides.{nat_tests}
use Rattle.std.proofs.lemmas.List.{drop_at, length_push, take_at}
use Rattle.dr_disk.specs.Spans.{IsQuiet}
use Rattle.dr_ports.specs.Ports.{appended}
use Rattle.dr_ports.specs.States.{SinkState}
use Rattle.dr_ports.specs.Wires.{Port}
use Rattle.dr_ports.specs.declared.pipe.Part.{Part}
use Rattle.dr_ports.specs.declared.pipe.Part.TheVariants.{Flow, Gate}
use Rattle.endings.specs.Ending.{code_of}
use Rattle.endings.specs.Ends.{Ends as CommandEnds}
use Rattle.endings.proofs.Closing.{ends_behind}
use Rattle.relay_pipe.specs.Asking.{fault_at}
use Rattle.relay_pipe.specs.declared.faults.PeerFault.{PeerFault}
use Rattle.relay_pipe.specs.declared.faults.PeerKind.{PeerKind}
use Rattle.relay_pipe.specs.declared.faults.PeerKind.TheVariants.{Wrong}
use Rattle.relay_wire.specs.Frames.{frame_size, is_body_size, size_of}
use Rattle.relay_wire.specs.Replies.{Replied}
use Rattle.relay_wire.specs.Requests.{Asked}
use Rattle.relay_wire.specs.declared.limits.TheConstants.{BODY_LIMIT}
use Rattle.relay_wire.specs.declared.reply.BadReply.TheVariants.{Frame as NoFrame, Kind as NoKind, Size as NoSize}
use Rattle.session_model.specs.Clients.{Client}
use Rattle.sync_model.specs.Tokens.{Tokens, tagged}
use Rattle.sync_model.specs.Courses.{asked_now, all_lines, course_of, last_line}
use Rattle.sync_model.specs.Moves.{Ending as CourseEnding, Wait, acking, asked_in, box_is_full, denied_by, ended, fetching, inbox_full, no_such_box, over, posting, wrong}
use Rattle.sync_model.specs.Parties.{Party}
use Rattle.sync_model.specs.declared.more.More.{More}
use Rattle.client.specs.Syncing.Moments.{Moment, Wrote}
use Rattle.client.specs.Syncing.Rounds.{sync_fault_of}
use Rattle.client.specs.Syncing.Syncs.{EndsSync, IsNoReply, Syncs, is_cut, is_unread}
use Rattle.client.specs.declared.syncing.faults.SyncFault.{SyncFault}
use Rattle.client.specs.declared.syncing.faults.SyncFault.TheVariants.{Closed, Link, Peer, Refused, Store, Write}
use Rattle.client.specs.declared.syncing.faults.SyncRefusal.TheVariants.{BoxFull, Denied, InboxFull, Unknown}
use Rattle.session_commands.specs.Syncing.{HasWritten, HasPrintedPlace, broken_of, ending_of_fault, lines_of_sync, made_of}

-- ---- what was written

-- the step that broke off is the last reply's
pub parted : (replies before : List Replied) (last : Replied) → replies ≡ before ++ last ∷ []
    → (before ≡ made_of replies) × (last ∷ [] ≡ broken_of replies)
parted replies before last split =
    let long : length replies - 1 ≡ length before = omega (arith, ap length split ∙ length_push before last) in (
      sym (take_at before (last ∷ []) (length before) refl) ∙ ap (take (length before)) (sym split) ∙ ap (λ (n : ℕ). take n replies) (sym long),
      sym (drop_at before (last ∷ []) (length before) refl) ∙ ap (drop (length before)) (sym split) ∙ ap (λ (n : ℕ). drop n replies) (sym long),
    )

module _ (p : Party Client) where
  -- while a reply is waited for there is no last line
  no_line : (tokens : Tokens) (s : Client) (wait : Wait) (asked : Asked) → option_map (tagged p.keys tokens) (asked_in p s wait) ≡ Some asked → last_line p wait ≡ []
  no_line tokens s (fetching n) asked waits = refl
  no_line tokens s (acking n number) asked waits = refl
  no_line tokens s (posting which) asked waits = refl
  no_line tokens s (over ending) asked waits = absurd (let e : None ≡ Some asked = waits in cc)

  still_lines : (kept : Client) (replies : List Replied) (asked : Asked) → asked_now p (course_of p kept replies) ≡ Some asked
      → (course_of p kept replies).lines ≡ all_lines p (course_of p kept replies)
  still_lines kept replies asked waits =
      sym (append-nil (course_of p kept replies).lines)
      ∙ ap (λ (l : List ℕ). (course_of p kept replies).lines ++ l) (sym (no_line (course_of p kept replies).tokens (course_of p kept replies).state (course_of p kept replies).wait asked waits))

  wrote_so : (lines : List ℕ) (other : List ℕ) (a b : Moment) → lines ≡ other → Wrote lines a b → (b.sink.taken ≡ appended a.sink.taken other) × (b.sink.faults ≡ a.sink.faults)
  wrote_so lines other a b is wrote = (wrote.bytes_are ∙ ap (appended a.sink.taken) is, wrote.unfailing)

  pub has_written : (replies : List Replied) (a b : Moment) (start now : Port) (result : Result More SyncFault) → EndsSync p replies a b start now result
      → HasWritten (lines_of_sync p a.client.kept replies result) a.sink b.sink result
  has_written replies a b start now (Ok which) ends = (ends.wrote.bytes_are, ends.wrote.unfailing)
  has_written replies a b start now (Err (Closed call)) ends = absurd ends
  has_written replies a b start now (Err Link) ends = wrote_so _ _ a b (still_lines a.client.kept replies ends.1.asked ends.1.waits) ends.2
  has_written replies a b start now (Err (Peer at what)) ends =
      ⊎_elim (λ over. (over.2.wrote.bytes_are, over.2.wrote.unfailing))
      (λ cut. wrote_so _ _ a b (still_lines a.client.kept replies cut.1.asked cut.1.waits) cut.2) ends
  has_written replies a b start now (Err (Refused refusal)) ends = (ends.2.wrote.bytes_are, ends.2.wrote.unfailing)
  has_written replies a b start now (Err (Store call)) ends =
      wrote_so _ _ a b (ap (λ (rs : List Replied). (course_of p a.client.kept rs).lines) (parted replies ends.before ends.last ends.split).0) ends.wrote
  has_written replies a b start now (Err Write) ends = (ends.wrote.beginning, ends.wrote.rose)

-- ---- where a fault of the relay's lies

most_size : (rest : List ℕ) → frame_size rest ≤ 2 + BODY_LIMIT
most_size [] = omega arith
most_size (high ∷ []) = omega arith
most_size (high ∷ (low ∷ more)) = by_test (is_body_size (size_of high low)) refl
  where
    by_test : (test : Bool) → (nat_le 1 (size_of high low) && nat_le (size_of high low) BODY_LIMIT) ≡ test → (if test then 2 + size_of high low else 2) ≤ 2 + BODY_LIMIT
    by_test true is = omega (arith, below (size_of high low) BODY_LIMIT is)
      where
        below : (n most : ℕ) → (nat_le 1 n && nat_le n most) ≡ true → n ≤ most
        below n most e = grind (arith, nat_tests)
    by_test false is = omega arith

near_fault : (now : Port) (rest : List ℕ) (fault : PeerFault) → IsNoReply now rest fault → fault.at < 2 ^ 32
near_fault now rest fault (is_unread NoFrame whole reads) = omega arith
near_fault now rest fault (is_unread NoKind whole reads) = omega arith
near_fault now rest fault (is_unread NoSize whole reads) = omega arith
near_fault now rest fault (is_cut partial end) = omega (arith, partial, most_size rest)

near_end : (ending : CourseEnding) (at : ℕ) (what : PeerKind) → sync_fault_of ending ≡ Some (Peer at what) → at < 2 ^ 32
near_end (ended which) at what is = absurd (let e : None ≡ Some (Peer at what) = is in cc)
near_end inbox_full at what is = absurd (let e : Some (Refused InboxFull) ≡ Some (Peer at what) = is in cc)
near_end box_is_full at what is = absurd (let e : Some (Refused BoxFull) ≡ Some (Peer at what) = is in cc)
near_end no_such_box at what is = absurd (let e : Some (Refused Unknown) ≡ Some (Peer at what) = is in cc)
near_end (denied_by rule) at what is = absurd (let e : Some (Refused (Denied rule)) ≡ Some (Peer at what) = is in cc)
near_end wrong at what is = let e : Some (Peer 2 Wrong) ≡ Some (Peer at what) = is in let f : 2 ≡ at = cc in omega (arith, f)

pub near : (p : Party Client) (replies : List Replied) (a b : Moment) (start now : Port) (fault : SyncFault) → EndsSync p replies a b start now (Err fault) → HasPrintedPlace fault
near p replies a b start now (Closed call) ends = tt
near p replies a b start now Link ends = tt
near p replies a b start now (Peer at what) ends =
    ⊎_elim (λ over. near_end over.0 at what over.1) (λ cut. near_fault now cut.1.rest (fault_at at what) cut.1.came) ends
near p replies a b start now (Refused refusal) ends = tt
near p replies a b start now (Store call) ends = tt
near p replies a b start now Write ends = tt

-- ---- the last line

module _ (lines : List ℕ) (old mid new : SinkState) where
  has_all : (fault : SyncFault) → (fault ≡ Write → ⊥) → HasWritten lines old mid (Err fault) → (mid.taken ≡ appended old.taken lines) × (mid.faults ≡ old.faults)
  has_all (Closed call) not wrote = wrote
  has_all Link not wrote = wrote
  has_all (Peer at what) not wrote = wrote
  has_all (Refused refusal) not wrote = wrote
  has_all (Store call) not wrote = wrote
  has_all Write not wrote = absurd (not refl)

  pub closes : (fault : SyncFault) (code : ℕ) → (fault ≡ Write → ⊥) → CommandEnds (ending_of_fault fault) [] mid new code
      → HasWritten lines old mid (Err fault) → CommandEnds (ending_of_fault fault) lines old new code
  closes fault code not ends wrote =
      let all = has_all fault not wrote in ends_behind (ending_of_fault fault) lines old mid new code all.0 all.1 ends

fault_code : (fault : SyncFault) → (fault ≡ Write → ⊥) → code_of (ending_of_fault fault) ≡ 0 → ⊥
fault_code (Closed call) not e = omega (arith, e)
fault_code Link not e = omega (arith, e)
fault_code (Peer at what) not e = omega (arith, e)
fault_code (Refused InboxFull) not e = omega (arith, e)
fault_code (Refused (Denied rule)) not e = omega (arith, e)
fault_code (Refused BoxFull) not e = omega (arith, e)
fault_code (Refused Unknown) not e = omega (arith, e)
fault_code (Store call) not e = omega (arith, e)
fault_code Write not e = not refl

pub not_done : (fault : SyncFault) (old new : SinkState) (code : ℕ) → (fault ≡ Write → ⊥) → CommandEnds (ending_of_fault fault) [] old new code
    → code ≡ 0 → ⊥
not_done fault old new code not (inl all) zero = fault_code fault not (sym all.code_is ∙ zero)
not_done fault old new code not (inr cut) zero = omega (arith, zero, cut.code_is)

-- ---- a whole sync

pub near_result : (p : Party Client) (a b : Moment) (start now : Port) (result : Result More SyncFault) → Syncs p a b start now result → IfErr result HasPrintedPlace
near_result p a b start now (Ok which) syncs = tt
near_result p a b start now (Err fault) syncs = near p syncs.replies a b start now fault syncs.syncs.ends

-- a sync that did its work met no failing call
pub done_quiet : (p : Party Client) (a b : Moment) (start now : Port) (result : Result More SyncFault) (which : More) → Syncs p a b start now result → result ≡ Ok which
    → IsQuiet a.disk b.disk × (b.sink.faults ≡ a.sink.faults) × (now.faults Flow ≡ start.faults Flow)
done_quiet p a b start now (Ok other) which syncs is = (syncs.syncs.ends.stands.quiet, syncs.syncs.ends.wrote.unfailing, syncs.syncs.ends.talked.quiet)
done_quiet p a b start now (Err fault) which syncs is = absurd (let e : (Err fault) ≡ (Ok which) = is in cc)

pub each_part : (before now : Part → ℕ) → now Flow ≡ before Flow → now Gate ≡ before Gate → (part : Part) → now part ≡ before part
each_part before now flow gate Flow = flow
each_part before now flow gate Gate = gate
