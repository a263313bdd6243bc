-- Runs of commands are links between moments of a disk.
use Rattle.std.proofs.Common.{Err, List, Ok, Result, Some, [], arith, append-nil, inl, inr, refl, subst, sym, ℕ, ⊎_elim, ◌++◌, ◌≡◌, ◌⊎◌}
use Rattle.dr_base.specs.declared.position.Side.{Side}
use Rattle.dr_disk.specs.Spans.{Span}
use Rattle.dr_disk.specs.State.{Always, DiskState, IsLawful}
use Rattle.dr_disk.proofs.Steps.{widen}
use Rattle.dr_model.specs.Machines.WorldActs.{act_in}
use Rattle.dr_model.specs.Machines.WorldSides.{kept_in}
use Rattle.dr_model.specs.Machines.Worlds.{World}
use Rattle.dr_model.specs.Theorems.LawfulWorlds.{IsLawfulWorld}
use Rattle.endings.specs.declared.ending.Ending.{Ending}
use Rattle.kem_laws.specs.Mechanism.{Mechanism}
use Rattle.relay_wire.specs.Replies.{Replied}
use Rattle.session_model.specs.Clients.{Client}
use Rattle.sync_model.specs.Courses.{begun}
use Rattle.sync_model.specs.declared.more.More.{More}
use Rattle.client.specs.Grounds.{Grounds}
use Rattle.client.specs.InWorlds.{StandsFor}
use Rattle.client.specs.Moments.{IsKnown, IsLater, IsAmongKnown, Known, Link, StandsStill, known_after_sync, was_acknowledged, was_cut, was_cut_in_sync, was_left, was_opened, was_synced}
use Rattle.client.specs.Opening.{ReadsAsSide}
use Rattle.client.specs.Syncing.InOrder.{IsLeftBetween}
use Rattle.client.specs.Syncing.InWorlds.{AreUnforged, course_in}
use Rattle.client.specs.Syncing.Parties.{world_party}
use Rattle.client.specs.declared.syncing.faults.SyncFault.{SyncFault}
use Rattle.client.specs.declared.syncing.faults.SyncFault.TheVariants.{Closed, Link as LinkFault, Peer, Refused, Store, Write}
use Rattle.client.proofs.Later.{front_later, later_twice, lawful_at}
use Rattle.client.proofs.Lifted.{ready_stands}
use Rattle.client.proofs.Standing.{among}
use Rattle.client.proofs.Syncs.Links.{reaches, step_links}
use Rattle.command_lines.specs.Acting.{ClientAsk}
use Rattle.session_commands.specs.Disks.{IsClientAtRest, RunsOn, StandsForOne}
use Rattle.session_commands.specs.Histories.{acted_known, cut_in_sync, cut_known, shown_known, synced_known}
use Rattle.command_lines.specs.InWorlds.{goes_on, is_in_doubt, stays_refused, stays_undrawn, stays_unopened}
use Rattle.session_commands.specs.Acting.{RunsIn}
use Rattle.command_lines.specs.Showing.{shows_nothing, shows_world}
use Rattle.session_commands.specs.Showing.{ShowsIn}
use Rattle.session_commands.specs.SyncMoments.{StandsForCourse, SyncsBehind}
use Rattle.session_commands.specs.Syncing.{SyncRunsIn, broken_of}
use Rattle.session_commands.proofs.Syncs.{parted}

-- ---- what is read at entry

read_one_of : (k : Mechanism) (side : Side) (first : World) (known : Known) (disk : DiskState) (c : List ℕ) → StandsStill k side first known disk
    → IsKnown k side known c → (w : World) × IsAmongKnown known w × IsLater k first w × StandsFor k w side c
read_one_of k side first known disk c still (inl stood) = (known.last, inl refl, still.last_later, stood)
read_one_of k side first known disk c still (inr at) = (
  at.1,
  inr (at.0, at.2, at.3),
  later_twice k first known.last at.1 still.last_later
      (among (IsLater k known.last) known.doubtful at.1 still.doubtful_later (at.0, at.2, at.3)),
  at.4,
)

pub reads_one : (k : Mechanism) (side : Side) (first : World) (known : Known) (disk : DiskState) (lawful : IsLawful disk) (bytes : List ℕ)
    → IsLawfulWorld k first → StandsStill k side first known disk → disk.seen ≡ Some bytes
    → (w : World) × IsAmongKnown known w × IsLawfulWorld k w × ReadsAsSide k w side disk
reads_one k side first known disk lawful bytes whole still told =
    let found = read_one_of k side first known disk bytes still (still.images bytes (lawful.seen_now bytes told)) in
    (found.0, found.1, lawful_at k first found.0 whole found.2, record { bytes = bytes; told = told; stands = found.3 })

-- what stands for one of the worlds is known
is_known : (k : Mechanism) (side : Side) (known : Known) (w : World) (c : List ℕ) → IsAmongKnown known w → StandsFor k w side c → IsKnown k side known c
is_known k side known w c which stood =
    ⊎_elim (λ e. inl (subst (λ v. StandsFor k v side c) e stood)) (λ at. inr (at.0, w, at.1, at.2, stood)) which

-- bytes that a crash between two moments leaves
pub left_by : (start now : DiskState) (P : List ℕ → Type 0) (lawful : IsLawful start) → Span start now (λ c. start.image c ⊎ P c) → (c : List ℕ)
    → IsLeftBetween start now c → start.image c ⊎ P c
left_by start now P lawful span c left =
    ⊎_elim (λ here. ⊎_elim inl (λ is. is) (span.last c here))
    (λ since. ⊎_elim (λ was. inl (lawful.only_now c was)) (λ is. is) (span.each start.moment c (omega arith) since)) left

-- what stands for a world of a course
course_known : (k : Mechanism) (side : Side) (w : World) (replies : List Replied) (start : DiskState) (c : List ℕ)
    → StandsForCourse k side w replies start c → IsKnown k side (known_after_sync k [] side w [] replies) c
course_known k side w replies start c r =
    subst (λ (xs : List Replied). IsKnown k side (known_after_sync k [] side w [] xs) c) (sym r.split)
    (reaches k [] side w r.front r.back (begun (world_party k [] side w) w) c r.stands)

module _ (k : Mechanism) (side : Side) (known : Known) (w : World) (which : IsAmongKnown known w) where
  on_known : (start : DiskState) (c : List ℕ) → StandsForOne k side w w start c → IsKnown k side known c
  on_known start c stood = is_known k side known w c which (⊎_elim (λ is. is) (λ is. is) stood.either)

  pub stays_link : (start now : DiskState) → RunsOn k side w w start now → Link k side start now known known
  stays_link start now on =
      was_left known (λ c left. ⊎_elim inl (λ s. ⊎_elim inl (λ stood. inr (on_known start c stood)) s) (on.any_moment.last c left))

  -- ---- a crash inside a command

  module _ (start now crashed : DiskState) (lawful : IsLawful start)
      (leaves : (c : List ℕ) → crashed.image c → IsLeftBetween start now c) where
    pub stays_cut : RunsOn k side w w start now → Link k side start crashed known known
    stays_cut on =
        was_left known (λ c left. ⊎_elim inl (λ stood. inr (on_known start c stood))
        (left_by start now (StandsForOne k side w w start) lawful on.any_moment c (leaves c left)))

    in_doubt : (next : World) → RunsOn k side w next start now → (c : List ℕ) → crashed.image c
        → start.image c ⊎ (StandsFor k w side c ⊎ StandsFor k next side c)
    in_doubt next on c left =
        ⊎_elim inl (λ stood. inr stood.either) (left_by start now (StandsForOne k side w next start) lawful on.any_moment c (leaves c left))

    pub acts_cut : (asked : ClientAsk) (ending : Ending) (lines : List ℕ) (runs : RunsIn k w side asked start now ending lines)
        → Link k side start crashed known (cut_known runs known)
    acts_cut asked ending lines (stays_unopened refusal on) = stays_cut on
    acts_cut asked ending lines (stays_undrawn lacks on rests) = stays_cut on
    acts_cut asked ending lines (stays_refused act refusal asks fair answer on rests) = stays_cut on
    acts_cut asked ending lines (goes_on act asks fair on rests) =
        was_cut known w which act fair (in_doubt (act_in k w side act).next on)
    acts_cut asked ending lines (is_in_doubt act asks fair on) =
        was_cut known w which act fair (in_doubt (act_in k w side act).next on)

    pub syncs_cut : (kept : Client) (replies : List Replied) (result : Result More SyncFault) → AreUnforged k [] side w replies
        → SyncRunsIn k side w kept replies start now result → Link k side start crashed known (cut_in_sync k side w replies known)
    syncs_cut kept replies result fair runs =
        was_cut_in_sync known w which [] replies fair (λ c left. ⊎_elim inl (λ r. inr (course_known k side w replies start c r))
        (left_by start now (StandsForCourse k side w replies start) lawful runs.any_moment c (leaves c left)))

  -- behind the opening of a sync
  pub behind_cut : (start opened now crashed : DiskState) → IsLawful opened
      → ((c : List ℕ) → crashed.image c → IsLeftBetween opened now c) → (replies : List Replied) → AreUnforged k [] side w replies
      → SyncsBehind k side w replies start opened now → Link k side start crashed known (known_after_sync k [] side w [] replies)
  behind_cut start opened now crashed lawful leaves replies fair behind =
      was_synced known w which [] [] replies fair (λ c left.
      ⊎_elim (λ was. inl (behind.stands c was)) (course_known k side w replies start c)
      (left_by opened now (StandsForCourse k side w replies start) lawful
      (widen opened now (StandsForCourse k side w replies start)
      (λ d. opened.image d ⊎ StandsForCourse k side w replies start d) (λ d r. inr r) behind.passed) c (leaves c left)))

  -- ---- a command that ended

  module _ (grounds : Grounds k) (start now : DiskState) where
    rest_stands : (v : World) → IsLawfulWorld k v → IsClientAtRest (kept_in k v side) now → Always (StandsFor k v side) now
    rest_stands v lawful rests = ready_stands k grounds v side (kept_in k v side) rests.store now lawful refl rests.ready

    pub acts_link : IsLawfulWorld k w → (asked : ClientAsk) (ending : Ending) (lines : List ℕ) (runs : RunsIn k w side asked start now ending lines)
        → Link k side start now known (acted_known runs known)
    acts_link lawful asked ending lines (stays_unopened refusal on) = stays_link start now on
    acts_link lawful asked ending lines (stays_undrawn lacks on rests) = was_opened known w which (rest_stands w lawful rests)
    acts_link lawful asked ending lines (stays_refused act refusal asks fair answer on rests) = was_opened known w which (rest_stands w lawful rests)
    acts_link lawful asked ending lines (goes_on act asks fair on rests) =
        was_acknowledged known w which act fair
        (rest_stands (act_in k w side act).next (grounds.follow.lawful w side act lawful fair) rests)
    acts_link lawful asked ending lines (is_in_doubt act asks fair on) =
        was_cut known w which act fair (λ c left. ⊎_elim inl (λ s. ⊎_elim inl (λ stood. inr stood.either) s) (on.any_moment.last c left))

    pub shows_link : IsLawfulWorld k w → (shows : Client → List ℕ) (ending : Ending) (lines : List ℕ)
        (runs : ShowsIn k w side shows start now ending lines) → Link k side start now known (shown_known runs known)
    shows_link lawful shows ending lines (shows_nothing refusal on) = stays_link start now on
    shows_link lawful shows ending lines (shows_world on rests) = was_opened known w which (rest_stands w lawful rests)

    -- and where a crash came once the session was open
    pub shown_cut : (crashed : DiskState) → ((c : List ℕ) → crashed.image c → now.image c) → IsLawfulWorld k w
        → (shows : Client → List ℕ) (ending : Ending) (lines : List ℕ)
        (runs : ShowsIn k w side shows start now ending lines) → Link k side start crashed known (shown_known runs known)
    shown_cut crashed alone lawful shows ending lines (shows_nothing refusal on) =
        was_left known (λ c left.
        ⊎_elim inl (λ s. ⊎_elim inl (λ stood. inr (on_known start c stood)) s) (on.any_moment.last c (alone c left)))
    shown_cut crashed alone lawful shows ending lines (shows_world on rests) =
        was_opened known w which (λ c left. rest_stands w lawful rests c (alone c left))

    module _ (lawful : IsLawfulWorld k w) (kept : Client) (replies : List Replied) (fair : AreUnforged k [] side w replies) where
      stored : IsClientAtRest (kept_in k (course_in k [] side w replies).state side) now
          → Link k side start now known (known_after_sync k [] side w replies [])
      stored rests =
          let there = course_in k [] side w replies in
          let whole : AreUnforged k [] side w (replies ++ []) = subst (AreUnforged k [] side w) (sym (append-nil replies)) fair in
          was_synced known w which [] replies [] whole
          (λ c left. inl (rest_stands there.state (lawful_at k w there.state lawful (front_later k [] side w replies [] whole)) rests c left))

      pub syncs_link : (result : Result More SyncFault) → SyncRunsIn k side w kept replies start now result
          → Link k side start now known (synced_known k side w replies result)
      syncs_link (Ok _) runs = stored runs.rests
      syncs_link (Err (Closed call)) runs = stored runs.rests
      syncs_link (Err LinkFault) runs = stored runs.rests
      syncs_link (Err (Peer at what)) runs = stored runs.rests
      syncs_link (Err (Refused refusal)) runs = stored runs.rests
      syncs_link (Err Write) runs = stored runs.rests
      syncs_link (Err (Store call)) runs =
          let doubt = runs.rests in
          let parts = parted replies doubt.before doubt.last doubt.split in
          subst (λ front. Link k side start now known (known_after_sync k [] side w front (broken_of replies))) parts.0
          (subst (λ back. Link k side start now known (known_after_sync k [] side w doubt.before back)) parts.1
          (step_links k [] side w known which doubt.before doubt.last replies start now doubt.split fair doubt.either))
