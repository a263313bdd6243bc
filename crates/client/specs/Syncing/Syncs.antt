-- What a sync does, by how it ends.
use Rattle.std.specs.Prelude.{Err, List, Ok, Result, Some, [], drop, length, ◌++◌, ◌∷◌, ◌≡◌, ◌⊎◌, ℕ}
use Rattle.std.specs.List.{AllByRecursion}
use Rattle.dr_base.specs.Causes.{Rose}
use Rattle.dr_disk.specs.State.{Always, all_pass}
use Rattle.dr_disk.specs.declared.call.Call.{Call}
use Rattle.dr_ports.specs.Wires.{EndsAt, Port}
use Rattle.dr_ports.specs.declared.pipe.Part.TheVariants.{Flow}
use Rattle.relay_pipe.specs.Asking.{fault_at, peer_fault}
use Rattle.relay_wire.specs.Framed.{request_frame}
use Rattle.relay_pipe.specs.Exchanging.{Exchanges}
use Rattle.relay_pipe.specs.declared.faults.PeerFault.{PeerFault}
use Rattle.relay_pipe.specs.declared.faults.PeerKind.TheVariants.{Ended}
use Rattle.relay_wire.specs.Frames.{IsFrame, IsPartial}
use Rattle.relay_wire.specs.Replies.{IsLawfulReplied, Replied, read_reply}
use Rattle.relay_wire.specs.Requests.{Asked}
use Rattle.relay_wire.specs.declared.reply.BadReply.{BadReply}
use Rattle.session_model.specs.Clients.{Client}
use Rattle.session_record.specs.Record.{record_text}
use Rattle.slot_store.specs.Records.{stored_record}
use Rattle.sync_model.specs.Carried.{replied_bytes, request_bytes}
use Rattle.sync_model.specs.Courses.{all_lines, asked_now, course_of, made_requests}
use Rattle.sync_model.specs.Moves.{Ending, ended, over}
use Rattle.sync_model.specs.Parties.{Party}
use Rattle.sync_model.specs.declared.more.More.{More}
use Rattle.client.specs.Clients.{client_area}
use Rattle.client.specs.declared.syncing.faults.SyncFault.{SyncFault}
use Rattle.client.specs.declared.syncing.faults.SyncFault.TheVariants.{Closed, Link, Peer, Refused, Store, Write}
use Rattle.client.specs.Syncing.Moments.{Moment, Wrote, WroteBeginning}
use Rattle.client.specs.Syncing.Rounds.{sync_fault_of}
use Rattle.client.specs.Syncing.SoFar.{Passed, Stands, Talked}

-- ---- on the link, where the last request has no reply

-- the call that failed took a beginning of the request, and less than a frame came
pub record IsRequestCut (p : Party Client) (first : Client) (replies : List Replied) (start now : Port) : Type 0 where
  pub asked : Asked
  pub waits : asked_now p (course_of p first replies) ≡ Some asked
  pub put : List ℕ
  pub left : List ℕ
  pub rest : List ℕ
  pub split : request_frame asked ≡ put ++ left
  pub told : Exchanges (replied_bytes replies ++ rest) (request_bytes (course_of p first replies).requests ++ put) start now
  pub waited : length (course_of p first replies).requests ≡ length replies
  pub partial : IsPartial rest
  pub rose : Rose (start.faults Flow) (now.faults Flow)

-- what came in place of a reply: a whole frame that is none, or, where the link ended, less than a frame
pub data IsNoReply (now : Port) (rest : List ℕ) : PeerFault → Type 0 where
  is_unread : (bad : BadReply) → IsFrame rest → read_reply (drop 2 rest) ≡ Err bad → IsNoReply now rest (peer_fault bad)
  is_cut : IsPartial rest → EndsAt now → IsNoReply now rest (fault_at (length rest) Ended)

pub record IsUnheard (p : Party Client) (first : Client) (replies : List Replied) (start now : Port) (fault : PeerFault) : Type 0 where
  pub asked : Asked
  pub waits : asked_now p (course_of p first replies) ≡ Some asked
  pub rest : List ℕ
  pub told : Exchanges (replied_bytes replies ++ rest) (request_bytes (made_requests p (course_of p first replies))) start now
  pub waited : length (course_of p first replies).requests ≡ length replies
  pub came : IsNoReply now rest fault
  pub quiet : now.faults Flow ≡ start.faults Flow

-- ---- how it ends

-- the course has this end
pub record IsSyncOver (p : Party Client) (replies : List Replied) (ending : Ending) (a b : Moment) (start now : Port) : Type 0 where
  pub is_over : (course_of p a.client.kept replies).wait ≡ over ending
  pub stands : Stands p replies a b
  pub talked : Talked p a.client.kept replies start now
  pub wrote : Wrote (all_lines p (course_of p a.client.kept replies)) a b

-- a write failed
pub record IsUnwritten (p : Party Client) (replies : List Replied) (a b : Moment) (start now : Port) : Type 0 where
  pub stands : Stands p replies a b
  pub talked : Talked p a.client.kept replies start now
  pub wrote : WroteBeginning (all_lines p (course_of p a.client.kept replies)) a b

-- bytes with the record of a client
abbrev pub HasRecord : Client → List ℕ → Type 0
HasRecord kept c = stored_record client_area c ≡ Some (record_text kept)

-- a call on the disk failed, of this kind, in the step that the last reply asks for
pub record IsUnstored (p : Party Client) (replies : List Replied) (call : Call) (a b : Moment) (start now : Port) : Type 0 where
  pub before : List Replied
  pub last : Replied
  pub split : replies ≡ before ++ last ∷ []
  pub keeps : b.client.kept ≡ (course_of p a.client.kept before).state
  pub closes : b.client.closed ≡ Some call
  pub rose : Rose (a.disk.faults call) (b.disk.faults call)
  pub fate : a.disk.fate ≡ all_pass → ⊥
  -- each image has the record of before that step, or the one after it
  pub leaves : Always (λ c. HasRecord (course_of p a.client.kept before).state c ⊎ HasRecord (course_of p a.client.kept replies).state c) b.disk
  pub talked : Talked p a.client.kept replies start now
  pub wrote : Wrote (course_of p a.client.kept before).lines a b

abbrev pub EndsSync : Party Client → List Replied → Moment → Moment → Port → Port → Result More SyncFault → Type 0
EndsSync p replies a b start now (Ok more) = IsSyncOver p replies (ended more) a b start now
EndsSync p replies a b start now (Err (Refused refusal)) =
    (ending : Ending) × (sync_fault_of ending ≡ Some (Refused refusal)) × IsSyncOver p replies ending a b start now
EndsSync p replies a b start now (Err (Peer at kind)) =
    ((ending : Ending) × (sync_fault_of ending ≡ Some (Peer at kind)) × IsSyncOver p replies ending a b start now)
    ⊎ (Stands p replies a b × IsUnheard p a.client.kept replies start now (fault_at at kind)
    × Wrote (course_of p a.client.kept replies).lines a b)
EndsSync p replies a b start now (Err Link) =
    Stands p replies a b × IsRequestCut p a.client.kept replies start now × Wrote (course_of p a.client.kept replies).lines a b
EndsSync p replies a b start now (Err Write) = IsUnwritten p replies a b start now
EndsSync p replies a b start now (Err (Store call)) = IsUnstored p replies call a b start now
EndsSync p replies a b start now (Err (Closed call)) = ⊥

-- An open client syncs, by these replies: how it ends, and what each crash meanwhile leaves.
pub record SyncsBy (p : Party Client) (replies : List Replied) (a b : Moment) (start now : Port) (result : Result More SyncFault) : Type 0 where
  pub lawful : AllByRecursion IsLawfulReplied replies
  pub passed : Passed p replies a b
  pub ends : EndsSync p replies a b start now result

-- by the replies that were read
pub record Syncs (p : Party Client) (a b : Moment) (start now : Port) (result : Result More SyncFault) : Type 0 where
  pub replies : List Replied
  pub syncs : SyncsBy p replies a b start now result
