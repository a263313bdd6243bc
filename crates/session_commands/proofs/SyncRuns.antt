-- A command that syncs, from its calls.
use Rattle.std.proofs.Common.{Err, List, Ok, Result, Some, [], ap, arith, inl, inr, refl, subst, sym, ℕ, ⊎_elim, ◌≤◌, ◌∙◌, ◌≡◌, ◌⊎◌}
use Rattle.dr_base.specs.Causes.{Rose}
use Rattle.dr_base.specs.declared.position.Side.{Side}
use Rattle.dr_disk.specs.Spans.{IsQuiet, Span}
use Rattle.dr_disk.specs.State.{Always, DiskState, IsLawful}
use Rattle.dr_disk.proofs.Steps.{quiet_twice, spans, widen}
use Rattle.dr_model.specs.Machines.WorldSides.{kept_in}
use Rattle.dr_model.specs.Machines.Worlds.{World}
use Rattle.dr_model.specs.Theorems.LawfulWorlds.{IsLawfulWorld}
use Rattle.dr_ports.specs.States.{SinkState}
use Rattle.dr_ports.specs.Wires.{Port}
use Rattle.kem_laws.specs.Mechanism.{Mechanism}
use Rattle.relay_pipe.specs.Asking.{fault_at}
use Rattle.relay_wire.specs.Replies.{Replied}
use Rattle.session_model.specs.Clients.{Client}
use Rattle.sync_model.specs.Courses.{course_of}
use Rattle.sync_model.specs.Moves.{Ending}
use Rattle.sync_model.specs.Parties.{Party}
use Rattle.sync_model.specs.declared.more.More.{More}
use Rattle.slot_store.proofs.Outside.{twice_outside}
use Rattle.client.specs.Cells.{client_cell}
use Rattle.client.specs.Clients.{ClientNow, IsReady, client_area}
use Rattle.client.specs.InWorlds.{IsIn, StandsFor}
use Rattle.client.specs.Opening.{IsAsRead, IsEntryOrAsRead, OpensIn, ReadsAsSide}
use Rattle.client.specs.Syncing.InWorlds.{AreUnforged, IsReachedIn, LeadsTo, SyncsIn}
use Rattle.client.specs.Syncing.Moments.{Moment, moment}
use Rattle.client.specs.Syncing.Parties.{client_party}
use Rattle.client.specs.Syncing.SoFar.{IsReached, Stands, Talked}
use Rattle.client.specs.Syncing.Syncs.{EndsSync, HasRecord, IsRequestCut, IsSyncOver, IsUnheard}
use Rattle.client.specs.declared.syncing.faults.SyncFault.{SyncFault}
use Rattle.client.specs.declared.syncing.faults.SyncFault.TheVariants.{Closed, Link, Peer, Refused, Store, Write}
use Rattle.session_commands.specs.Disks.{ClientStandsOpen, IsClientAtRest}
use Rattle.session_commands.specs.SyncMoments.{IsSyncLeft, LeavesCourse, StandsForCourse, SyncsBehind, is_as_read, is_of_course}
use Rattle.session_commands.specs.Syncing.{CameToEnd, IsStored, RestsIn, SyncEnds, SyncRunsIn}
use Rattle.command_lines.proofs.Standing.{as_read_sound, both_left, left_sound, only_opened}
use Rattle.command_lines.proofs.Truly.{same_told}
use Rattle.session_commands.proofs.Opened.{stands_at}

-- ---- after an opening of the client

module _ (p : Party Client) (kept : Client) (replies : List Replied) (opened now : Port) where
  module _ (start mid end : DiskState) (client after : ClientNow) (before wrote : SinkState) (final : ℕ) (same : client.kept ≡ kept)
      (opening : IsQuiet start mid) (later : wrote.faults ≤ final) where
    abbrev from : Moment
    from = moment client mid before

    abbrev to : Moment
    to = moment after end wrote

    stored_by : Stands p replies from to → IsStored p kept replies start end
    stored_by stands = record {
      rests = record {
        store = after.store;
        ready = subst (λ (x : Client). IsReady x after.store end) (stands.keeps ∙ ap (λ (x : Client). (course_of p x replies).state) same) stands.ready;
      };
      quiet = quiet_twice start mid end opening stands.quiet;
    }

    came_by : (ending : Ending) → IsSyncOver p replies ending from to opened now → CameToEnd p kept replies ending start end opened now
    came_by ending is = record {
      is_over = ap (λ (x : Client). (course_of p x replies).wait) (sym same) ∙ is.is_over;
      talked = subst (λ (x : Client). Talked p x replies opened now) same is.talked;
      stored = stored_by is.stands;
    }

    pub sync_ends : (result : Result More SyncFault) → EndsSync p replies from to opened now result
        → SyncEnds p kept replies start end opened now before.faults final result
    sync_ends (Ok which) ends = came_by _ ends
    sync_ends (Err (Closed call)) ends = ends
    sync_ends (Err Link) ends = (subst (λ (x : Client). IsRequestCut p x replies opened now) same ends.1, stored_by ends.0)
    sync_ends (Err (Peer at what)) ends =
        ⊎_elim (λ over. inl (over.0, over.1, came_by over.0 over.2))
        (λ cut. inr (subst (λ (x : Client). IsUnheard p x replies opened now (fault_at at what)) same cut.1, stored_by cut.0)) ends
    sync_ends (Err (Refused refusal)) ends = (ends.0, ends.1, came_by ends.0 ends.2)
    sync_ends (Err (Store call)) ends = record {
      before = ends.before;
      last = ends.last;
      split = ends.split;
      leaves = subst (λ (x : Client). Always (λ c. HasRecord (course_of p x ends.before).state c
          ⊎ HasRecord (course_of p x replies).state c) end) same ends.leaves;
      rose = subst (λ (n : ℕ). Rose n (end.faults call)) (opening call) ends.rose;
      talked = subst (λ (x : Client). Talked p x replies opened now) same ends.talked;
    }
    sync_ends (Err Write) ends =
        (subst (λ (x : Client). Talked p x replies opened now) same ends.talked, stored_by ends.stands, omega (arith, ends.wrote.rose, later))

-- ---- what the disk holds

module _ (k : Mechanism) (start mid now : DiskState) (lawful : IsLawful now) where
  module _ (alike : Always (IsAsRead k start) mid) where
    of_course : (p : Party Client) (kept : Client) (replies : List Replied) (c : List ℕ) → IsReached p kept replies mid c
        → IsSyncLeft k p kept replies start c
    of_course p kept replies c r =
        is_of_course r.front r.back r.split
        (record { has = r.holds; undamaged = r.undamaged; sound = left_sound client_cell client_cell (twice_outside client_area) k start mid c alike r.undamaged r.outside })

    in_course : (side : Side) (w : World) (replies : List Replied) (c : List ℕ) → IsReachedIn k [] side w replies mid c
        → StandsForCourse k side w replies start c
    in_course side w replies c r = record {
      front = r.front;
      back = r.back;
      split = r.split;
      stands = r.stands;
      sound = left_sound client_cell client_cell (twice_outside client_area) k start mid c alike r.undamaged r.outside;
    }

  module _ (side : Side) (w : World) (replies : List Replied) where
    stands_first : (c : List ℕ) → IsAsRead k start c → StandsFor k w side c → StandsForCourse k side w replies start c
    stands_first c as_read stands = record {
      front = [];
      back = replies;
      split = refl;
      stands = stands;
      sound = as_read_sound client_cell k start c as_read;
    }

    module _ (client after : ClientNow) (before wrote : SinkState) (p : Party Client) (from to : Port) where
      abbrev ahead : Moment
      ahead = moment client mid before

      abbrev behind : Moment
      behind = moment after now wrote

      at_rest : Stands p replies ahead behind → (last : World) → IsIn k last side after → IsClientAtRest (kept_in k last side) now
      at_rest stands last is =
          record { store = after.store; ready = subst (λ (x : Client). IsReady x after.store now) is.keeps stands.ready }

      rests_in : (result : Result More SyncFault) → EndsSync p replies ahead behind from to result → LeadsTo k [] side w replies behind result
          → RestsIn k side w replies now result
      rests_in (Ok which) ends leads = at_rest ends.stands _ leads.0
      rests_in (Err (Closed call)) ends leads = absurd ends
      rests_in (Err Link) ends leads = at_rest ends.0 _ leads.0
      rests_in (Err (Peer at what)) ends leads = ⊎_elim (λ over. at_rest over.2.stands _ leads.0) (λ cut. at_rest cut.0 _ leads.0) ends
      rests_in (Err (Refused refusal)) ends leads = at_rest ends.2.stands _ leads.0
      rests_in (Err (Store call)) ends leads =
          record { before = leads.0; last = leads.1; split = leads.2; either = leads.4 }
      rests_in (Err Write) ends leads = at_rest ends.stands _ leads.0

      pub sync_runs : (result : Result More SyncFault) → OpensIn k w side start mid (Ok client) → Span start mid (IsEntryOrAsRead k start)
          → Always (IsAsRead k start) mid → EndsSync p replies ahead behind from to result
          → SyncsIn k [] side w replies ahead behind result → SyncRunsIn k side w client.kept replies start now result
      sync_runs result opens opening alike ends syncs = record {
        same = syncs.same;
        any_moment =
            spans start mid now (λ c. start.image c ⊎ StandsForCourse k side w replies start c)
            (both_left start mid (IsAsRead k start) (StandsFor k w side) (StandsForCourse k side w replies start) stands_first
            opening opens.any_moment)
            (widen mid now (IsReachedIn k [] side w replies mid) (λ c. start.image c ⊎ StandsForCourse k side w replies start c)
            (λ c r. inr (in_course alike side w replies c r)) syncs.passed);
        reads = λ s told.
            ⊎_elim (λ was. stands_first s (alike s was) (opens.client.1 s was)) (λ r. in_course alike side w replies s r)
            (syncs.passed.last s (lawful.seen_now s told));
        rests = rests_in result ends syncs.leads;
        arrived = λ s told.
            ⊎_elim (λ was. same_told client_cell k w side s (opens.client.1 s was)) (λ truly. truly) (syncs.arrived.stored.last s (lawful.seen_now s told));
      }

      -- from the opening on
      pub syncs_behind : (result : Result More SyncFault) → OpensIn k w side start mid (Ok client)
          → Span start mid (IsEntryOrAsRead k start)
          → ((s : List ℕ) → mid.seen ≡ Some s → IsAsRead k start s) → Always (IsAsRead k start) mid
          → SyncsIn k [] side w replies ahead behind result → SyncsBehind k side w replies start mid now
      syncs_behind result opens opening reads alike syncs = record {
        opening = only_opened client_cell k side w start mid (stands_at k w side start mid (Ok client) opens) opening reads;
        stands = opens.client.1;
        passed =
            widen mid now (IsReachedIn k [] side w replies mid) (StandsForCourse k side w replies start) (in_course alike side w replies)
            syncs.passed;
      }

module _ {X : Type 0} (state : X → DiskState) (k : Mechanism) (kept : Client) (replies : List Replied) (start mid now : X)
    (lawful : IsLawful (state now)) (stands : ClientStandsOpen k kept (state start) (state mid)) where
  abbrev Left : List ℕ → Type 0
  Left = IsSyncLeft k (client_party k [] kept) kept replies (state start)

  pub leaves_course : Span (state start) (state mid) (IsEntryOrAsRead k (state start))
      → Span (state mid) (state now) (IsReached (client_party k [] kept) kept replies (state mid))
      → ((w : World) (side : Side) → IsLawfulWorld k w → ReadsAsSide k w side (state start) → AreUnforged k [] side w replies
      → SyncsBehind k side w replies (state start) (state mid) (state now))
      → LeavesCourse state k kept replies start now
  leaves_course opening passed in_worlds =
      let reached : (c : List ℕ) → IsReached (client_party k [] kept) kept replies (state mid) c → Left c =
      of_course k (state start) (state mid) (state now) lawful stands.alike (client_party k [] kept) kept replies in
      record {
        any_moment =
            spans (state start) (state mid) (state now) (λ c. (state start).image c ⊎ Left c)
            (widen (state start) (state mid) (IsEntryOrAsRead k (state start)) (λ c. (state start).image c ⊎ Left c)
            (λ c s. ⊎_elim (λ was. inl was) (λ as_read. inr (is_as_read as_read)) s) opening)
            (widen (state mid) (state now) (IsReached (client_party k [] kept) kept replies (state mid))
            (λ c. (state start).image c ⊎ Left c) (λ c r. inr (reached c r)) passed);
        reads = λ s told.
            ⊎_elim (λ was. is_as_read (stands.alike s was)) (reached s) (passed.last s (lawful.seen_now s told));
        opened = mid;
        stands = stands;
        behind =
            widen (state mid) (state now) (IsReached (client_party k [] kept) kept replies (state mid)) Left reached passed;
        in_worlds = in_worlds;
      }
