-- What a run handed out comes from an outbox that it opened, so it is forged in no later world.
use Rattle.std.proofs.Common.{List, Some, [], arith, inl, refl, ℕ, ◌+◌, ◌<◌, ◌≡◌}
use Rattle.std.specs.Prelude.{All, slice_get}
use Rattle.std.proofs.lemmas.List.Elements.{All-nil}
use Rattle.dr_base.specs.declared.position.Side.{Side}
use Rattle.dr_disk.specs.State.{DiskState}
use Rattle.dr_model.specs.Machines.WorldSides.{kept_in}
use Rattle.dr_model.specs.Machines.Worlds.{World}
use Rattle.dr_model.specs.Theorems.Fairness.{IsUnforged}
use Rattle.dr_model.specs.Theorems.Headline.{Headline}
use Rattle.dr_model.specs.Theorems.LawfulWorlds.{IsLawfulWorld}
use Rattle.dr_ports.specs.States.{DrawsState}
use Rattle.endings.specs.declared.ending.Ending.{Ending}
use Rattle.kem_laws.specs.Mechanism.{Mechanism}
use Rattle.relay_wire.specs.Replies.{Replied}
use Rattle.relay_wire.specs.Requests.{Asked, posts}
use Rattle.session_model.specs.Clients.{Client}
use Rattle.sync_model.specs.Courses.{made_requests}
use Rattle.client.specs.Grounds.{Grounds}
use Rattle.client.specs.Moments.{AreLinked, IsActed, IsAmongKnown, IsLater, Known, settled_in}
use Rattle.client.specs.Syncing.InWorlds.{AreUnforged, course_in}
use Rattle.client.specs.Syncing.Parties.{waiting, world_party}
use Rattle.client.proofs.Later.{acted_later, itself, later_twice}
use Rattle.client.proofs.Standing.{among}
use Rattle.command_lines.specs.Showing.{shows_nothing, shows_world}
use Rattle.session_commands.specs.Histories.{shown_known, synced_known}
use Rattle.session_commands.specs.Showing.{ShowsIn}
use Rattle.session_commands.specs.WholeRuns.{Ran, acted, showed, stayed, synced, was_cut_acting, was_cut_showing, was_cut_shown, was_cut_staying, was_cut_synced, was_cut_syncing, was_left_alone}
use Rattle.conversation.specs.HandedOut.{HandsOut, HasHandedOut, IsPacketOf, IsRequested, IsListed}
use Rattle.conversation.specs.Joints.{Joint, known_in}
use Rattle.conversation.proofs.Held.{later_known}
use Rattle.conversation.proofs.Honest.{waiting_real, waiting_said}
use Rattle.conversation.proofs.Lasting.{keeps}
use Rattle.conversation.proofs.Own.{by_syncing}
use Rattle.conversation.proofs.Posting.{sync_posts}

-- The world whose outbox a run opened, from which the run leads on: what holds of all packets that
-- wait there holds of the one that it handed out.
pub record IsFrom (k : Mechanism) (side : Side) (before : Known) (last : World)
    (Fine : List ℕ → Type 0) (packet : List ℕ) : Type 0 where
  pub world : World
  pub which : IsAmongKnown before world
  pub later : IsLater k world last
  pub fine : IsLawfulWorld k world → All Fine (waiting (kept_in k world side)) → Fine packet

module _ (k : Mechanism) (grounds : Grounds k) (side : Side) (Fine : List ℕ → Type 0)
    (packet : List ℕ) where
  from_shown : (known : Known) (w : World) → IsAmongKnown known w → (shows : Client → List ℕ)
      (start now : DiskState) (ending : Ending) (lines : List ℕ)
      (runs : ShowsIn k w side shows start now ending lines)
      → IsListed runs packet → IsFrom k side known (shown_known runs known).last Fine packet
  from_shown known w which shows start now ending lines (shows_nothing refusal on) is = absurd is
  from_shown known w which shows start now ending lines (shows_world on rests) is = record {
    world = w;
    which = which;
    later = itself k w;
    fine = λ lawful all. among Fine (waiting (kept_in k w side)) packet all is;
  }

  from_requests : (known : Known) (w last : World) → IsAmongKnown known w → (replies : List Replied)
      → AreUnforged k [] side w replies → IsLater k w last → IsRequested k side w replies packet
      → IsFrom k side known last Fine packet
  from_requests known w last which replies fair later is = record {
    world = w;
    which = which;
    later = later;
    fine = λ lawful all.
        among (λ (asked : Asked). (q : List ℕ) → asked.ask ≡ posts q → Fine q)
        (made_requests (world_party k [] side w) (course_in k [] side w replies)) is.asked
        (sync_posts Fine k grounds side w replies fair (record { lawful = lawful; all = all })) is.made
        packet is.posts_it;
  }

  module _ {X W : Type 0} (state : X → DiskState) (draws : W → DrawsState) (a b : X) where
    pub from_run : (before after : Known) (ran : Ran state draws k side a b before after)
        → HandsOut ran packet → IsFrom k side before after.last Fine packet
    from_run before after (showed known w which shows ending lines runs) is =
        from_shown known w which shows (state a) (state b) ending lines runs is
    from_run before after (was_cut_shown known w which shows opened ending lines runs alone) is =
        from_shown known w which shows (state a) (state opened) ending lines runs is
    from_run before after (synced known w which kept replies result fair runs) is =
        from_requests known w (synced_known k side w replies result).last which replies fair
        (acted_later k side w (synced_known k side w replies result).last
        (by_syncing k side (settled_in w) w (inl refl) (All-nil (IsActed k side w)) (state a) (state b)
        replies fair result)) is
    from_run before after
        (was_cut_synced known w which kept replies opened now result fair runs behind leaves) is =
        from_requests known w w which replies fair (itself k w) is
    from_run before after (acted known w which command ending lines runs) is = absurd is
    from_run before after (was_cut_acting known w which command now ending lines runs leaves) is =
        absurd is
    from_run before after (was_cut_showing known w which shows now ending lines runs leaves) is =
        absurd is
    from_run before after
        (was_cut_syncing known w which kept replies now result fair runs leaves) is =
        absurd is
    from_run before after (stayed known w which on) is = absurd is
    from_run before after (was_cut_staying known w which now on leaves) is = absurd is
    from_run before after (was_left_alone known alone) is = absurd is

module _ {Y W : Type 0} (others : Y → DiskState) (draws : W → DrawsState) (k : Mechanism)
    (grounds : Grounds k) (laws : Headline k) (mover : Side) (ys : List Y) (joints : ℕ → Joint)
    (lawful_known : (n : ℕ) (c : Y) (v : World) → slice_get ys n ≡ Some c
    → IsAmongKnown (known_in k mover (joints n)) v → IsLawfulWorld k v)
    (n : ℕ) (packet : List ℕ) (has : HasHandedOut others draws k mover ys joints n packet) where
  from_here : (Fine : List ℕ → Type 0)
      → IsFrom k mover (known_in k mover (joints n)) (joints (n + 1)).world Fine packet
  from_here Fine =
      from_run k grounds mover Fine packet others draws has.before has.after
      (known_in k mover (joints n)) (known_in k mover (joints (n + 1))) has.ran has.handed

  -- it stands in the world where both have come
  pub handed_said : IsPacketOf k (joints (n + 1)).world packet
  handed_said =
      let from = from_here (IsPacketOf k (joints (n + 1)).world) in
      let sound = lawful_known n has.before from.world has.here from.which in
      from.fine sound
      (waiting_said k from.world (joints (n + 1)).world mover mover
      (keeps k laws mover from.world (joints (n + 1)).world sound from.later))

  -- so it is real to a taker later, whose disk may be the mover's own
  module _ {X : Type 0} (state : X → DiskState) (taker : Side) (xs : List X) (w : World)
      (lawful : IsLawfulWorld k w)
      (linked : AreLinked state xs k taker w (λ i. known_in k taker (joints i))) where
    pub handed_later : (m : ℕ) (b : X) (v : World) → n < m → slice_get xs m ≡ Some b
        → IsAmongKnown (known_in k taker (joints m)) v → IsUnforged k v taker packet
    handed_later m b v less is which =
        let from = from_here (IsUnforged k v taker) in
        let sound = lawful_known n has.before from.world has.here from.which in
        from.fine sound
        (waiting_real k from.world v mover taker
        (keeps k laws taker from.world v sound
        (later_twice k from.world (joints (n + 1)).world v from.later
        (later_known state k laws taker xs w lawful joints linked (n + 1) m b v (omega (arith, less)) is
        which))))
