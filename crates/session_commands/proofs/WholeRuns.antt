-- A run of commands is a run of linked moments, its worlds are lawful, and what is read without
-- damage stays so.
use Rattle.std.proofs.Common.{List, Some, ap, arith, inl, inr, subst, suc, sym, zero, ℕ, ◌+◌, ◌∙◌, ◌≡◌}
use Rattle.std.specs.Prelude.{slice_get}
use Rattle.std.proofs.lemmas.List.Elements.{All-nil}
use Rattle.dr_base.specs.declared.position.Side.{Side}
use Rattle.dr_disk.specs.State.{Always, DiskState, IsLawful}
use Rattle.dr_model.specs.Machines.WorldActs.{act_in}
use Rattle.dr_model.specs.Machines.Worlds.{World}
use Rattle.dr_model.specs.Theorems.LawfulWorlds.{IsLawfulWorld}
use Rattle.dr_ports.specs.States.{DrawsState}
use Rattle.endings.specs.declared.ending.Ending.{Ending}
use Rattle.kem_laws.specs.Mechanism.{Mechanism}
use Rattle.session_model.specs.Clients.{Client}
use Rattle.slot_store.specs.Reading.{IsUndamaged}
use Rattle.client.specs.Cells.{client_cell}
use Rattle.client.specs.Clients.{client_area}
use Rattle.client.specs.Grounds.{Grounds}
use Rattle.client.specs.Moments.{AreLinked, IsAmongKnown, Known, Link, was_left, was_moved}
use Rattle.client.proofs.Standing.{get_before, stands}
use Rattle.command_lines.specs.Acting.{ClientAsk}
use Rattle.session_commands.specs.Completing.{ReadsWhole}
use Rattle.session_commands.specs.Disks.{RunsOn}
use Rattle.command_lines.specs.InWorlds.{goes_on, is_in_doubt, stays_refused, stays_undrawn, stays_unopened}
use Rattle.session_commands.specs.Acting.{RunsIn}
use Rattle.command_lines.specs.Showing.{shows_nothing, shows_world}
use Rattle.session_commands.specs.Showing.{ShowsIn}
use Rattle.session_commands.specs.WholeRuns.{AreRun, Passed, Ran, acted, asked_by, showed, stayed, synced, was_cut_acting, was_cut_showing, was_cut_shown, was_cut_staying, was_cut_synced, was_cut_syncing, was_left_alone}
use Rattle.session_commands.proofs.KnownWorlds.{AreLawful, link_lawful, one_lawful}
use Rattle.session_commands.proofs.Linking.{acts_cut, acts_link, behind_cut, reads_one, shown_cut, shows_link, stays_cut, stays_link, syncs_cut, syncs_link}
use Rattle.session_commands.proofs.Wholeness.{behind_whole, reads_whole, runs_whole, syncs_whole}

-- ---- the disk over a command

stays_on : (k : Mechanism) (w : World) (side : Side) (asked : ClientAsk) (start now : DiskState)
    (ending : Ending) (lines : List ℕ)
    → RunsIn k w side asked start now ending lines → (next : World) × RunsOn k side w next start now
stays_on k w side asked start now ending lines (stays_unopened refusal on) = (w, on)
stays_on k w side asked start now ending lines (stays_undrawn lacks on rests) = (w, on)
stays_on k w side asked start now ending lines
    (stays_refused act refusal asks fair answer on rests) = (w, on)
stays_on k w side asked start now ending lines (goes_on act asks fair on rests) =
    ((act_in k w side act).next, on)
stays_on k w side asked start now ending lines (is_in_doubt act asks fair on) =
    ((act_in k w side act).next, on)

shows_on : (k : Mechanism) (w : World) (side : Side) (shows : Client → List ℕ)
    (start now : DiskState) (ending : Ending) (lines : List ℕ)
    → ShowsIn k w side shows start now ending lines → RunsOn k side w w start now
shows_on k w side shows start now ending lines (shows_nothing refusal on) = on
shows_on k w side shows start now ending lines (shows_world on rests) = on

module _ {X W : Type 0} (state : X → DiskState) (sound : (x : X) → IsLawful (state x))
    (draws : W → DrawsState)
    (k : Mechanism) (side : Side) where
  -- ---- from one moment to the next

  module _ (a b : X) where
    pub ran_link : (grounds : Grounds k) (before after : Known) → AreLawful k before
        → Ran state draws k side a b before after
        → Link k side (state a) (state b) before after
    ran_link grounds before after are (acted known w which command ending lines runs) =
        acts_link k side known w which grounds (state a) (state b) (one_lawful k known w are which)
        (asked_by draws k command) ending lines runs
    ran_link grounds before after are
        (was_cut_acting known w which command now ending lines runs leaves) =
        acts_cut k side known w which (state a) (state now) (state b) (sound a) leaves
        (asked_by draws k command) ending lines runs
    ran_link grounds before after are (showed known w which shows ending lines runs) =
        shows_link k side known w which grounds (state a) (state b) (one_lawful k known w are which)
        shows ending lines runs
    ran_link grounds before after are
        (was_cut_showing known w which shows now ending lines runs leaves) =
        stays_cut k side known w which (state a) (state now) (state b) (sound a) leaves
        (shows_on k w side shows (state a) (state now) ending lines runs)
    ran_link grounds before after are (was_cut_shown known w which shows opened ending lines runs alone) =
        shown_cut k side known w which grounds (state a) (state opened) (state b) alone (one_lawful k known w are which)
        shows ending lines runs
    ran_link grounds before after are (synced known w which kept replies result fair runs) =
        syncs_link k side known w which grounds (state a) (state b) (one_lawful k known w are which)
        kept replies fair result runs
    ran_link grounds before after are
        (was_cut_syncing known w which kept replies now result fair runs leaves) =
        syncs_cut k side known w which (state a) (state now) (state b) (sound a) leaves kept replies
        result fair runs
    ran_link grounds before after are (was_cut_synced known w which kept replies opened now result fair runs behind leaves) =
        behind_cut k side known w which (state a) (state opened) (state now) (state b) (sound opened) leaves replies fair behind
    ran_link grounds before after are (stayed known w which on) =
        stays_link k side known w which (state a) (state b) on
    ran_link grounds before after are (was_cut_staying known w which now on leaves) =
        stays_cut k side known w which (state a) (state now) (state b) (sound a) leaves on
    ran_link grounds before after are (was_left_alone known alone) =
        was_left known (λ c left. inl (alone c left))

    passed_link : (grounds : Grounds k) (before after : Known) → AreLawful k before
        → Passed state draws k side a b before after
        → Link k side (state a) (state b) before after
    passed_link grounds before after are (inl ran) = ran_link grounds before after are ran
    passed_link grounds before after are (inr went) =
        was_moved before after went.moves (λ c left. inl (went.alone c left))

    ran_whole : (before after : Known) → Ran state draws k side a b before after
        → Always (IsUndamaged client_area) (state a)
        → Always (IsUndamaged client_area) (state b)
    ran_whole before after (acted known w which command ending lines runs) whole c left =
        let on = stays_on k w side (asked_by draws k command) (state a) (state b) ending
        lines runs in
        runs_whole (state a) (state b) (sound a) whole k side w on.0 on.1 c (inl left)
    ran_whole before after (was_cut_acting known w which command now ending lines runs leaves) whole
        c left =
        let on = stays_on k w side (asked_by draws k command) (state a) (state now) ending
        lines runs in
        runs_whole (state a) (state now) (sound a) whole k side w on.0 on.1 c (leaves c left)
    ran_whole before after (showed known w which shows ending lines runs) whole c left =
        runs_whole (state a) (state b) (sound a) whole k side w w
        (shows_on k w side shows (state a) (state b) ending lines runs) c (inl left)
    ran_whole before after (was_cut_showing known w which shows now ending lines runs leaves) whole
        c left =
        runs_whole (state a) (state now) (sound a) whole k side w w
        (shows_on k w side shows (state a) (state now) ending lines runs) c (leaves c left)
    ran_whole before after (was_cut_shown known w which shows opened ending lines runs alone) whole c left =
        runs_whole (state a) (state opened) (sound a) whole k side w w
        (shows_on k w side shows (state a) (state opened) ending lines runs) c (inl (alone c left))
    ran_whole before after (synced known w which kept replies result fair runs) whole c left =
        syncs_whole (state a) (state b) (sound a) whole k side w kept replies result runs c
        (inl left)
    ran_whole before after (was_cut_syncing known w which kept replies now result fair runs leaves)
        whole c left =
        syncs_whole (state a) (state now) (sound a) whole k side w kept replies result runs c
        (leaves c left)
    ran_whole before after (was_cut_synced known w which kept replies opened now result fair runs behind leaves) whole c left =
        behind_whole (state a) (state now) (sound a) whole (state opened) (sound opened) k side w replies behind c (leaves c left)
    ran_whole before after (stayed known w which on) whole c left =
        runs_whole (state a) (state b) (sound a) whole k side w w on c (inl left)
    ran_whole before after (was_cut_staying known w which now on leaves) whole c left =
        runs_whole (state a) (state now) (sound a) whole k side w w on c (leaves c left)
    ran_whole before after (was_left_alone known alone) whole c left = whole c (alone c left)

    passed_whole : (before after : Known) → Passed state draws k side a b before after
        → Always (IsUndamaged client_area) (state a)
        → Always (IsUndamaged client_area) (state b)
    passed_whole before after (inl ran) whole c left = ran_whole before after ran whole c left
    passed_whole before after (inr went) whole c left = whole c (went.alone c left)

  -- ---- over all moments

  module _ (xs : List X) (first : World) (known : ℕ → Known)
      (run : AreRun state draws xs k side first known) where
    ran_at : (n : ℕ) (b : X) → slice_get xs (suc n) ≡ Some b
        → (a : X) × (slice_get xs n ≡ Some a) × Passed state draws k side a b (known n)
        (known (suc n))
    ran_at n b is =
        let before = get_before xs n b is in
        let step : n + 1 ≡ suc n = omega arith in (
          before.0,
          before.1,
          subst
              (λ m. Passed state draws k side before.0 b (known n) (known m)) step
              (run.ran n before.0 b before.1 (ap (slice_get xs) step ∙ is)),
        )

    pub all_whole : ((a : X) → slice_get xs 0 ≡ Some a → Always (IsUndamaged client_area) (state a))
        → (n : ℕ) (a : X)
        → slice_get xs n ≡ Some a → Always (IsUndamaged client_area) (state a)
    all_whole whole zero a is = whole a is
    all_whole whole (suc n) b is =
        let before = ran_at n b is in
        passed_whole before.0 b (known n) (known (suc n)) before.2
        (all_whole whole n before.0 before.1)

    module _ (grounds : Grounds k) (lawful : IsLawfulWorld k first) where
      pub all_lawful : (n : ℕ) (a : X) → slice_get xs n ≡ Some a → AreLawful k (known n)
      all_lawful zero a is = subst (AreLawful k) (sym run.begins)
          (record { last = lawful; doubtful = All-nil (IsLawfulWorld k) })
      all_lawful (suc n) b is =
          let before = ran_at n b is in
          let are = all_lawful n before.0 before.1 in
          link_lawful k side (state before.0) (state b) (known n) (known (suc n))
          (passed_link before.0 b grounds (known n) (known (suc n)) are before.2) are

      pub all_linked : AreLinked state xs k side first known
      all_linked = record {
        begins = run.begins;
        stands = run.stands;
        links = λ n a b here next. passed_link a b grounds (known n) (known (n + 1))
            (all_lawful n a here) (run.ran n a b here next);
      }

      pub all_read : ((a : X) → slice_get xs 0 ≡ Some a
          → Always (IsUndamaged client_area) (state a)) → (n : ℕ) (a : X) (bytes : List ℕ)
          → slice_get xs n ≡ Some a → (state a).seen ≡ Some bytes
          → (w : World) × IsAmongKnown (known n) w × ReadsWhole k w side (state a)
      all_read whole n a bytes is told =
          let found = reads_one k side first (known n) (state a) (sound a) bytes lawful
          (stands client_cell state xs k side first known all_linked n a is) told in (
            found.0,
            found.1,
            reads_whole k found.0 side (state a) (sound a) (all_whole whole n a is)
                found.2 found.3,
          )
