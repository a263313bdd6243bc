-- A sync in the worlds that the client stands for.
use Rattle.std.proofs.Common.{Err, List, Ok, Result, [], ap, append-nil, inl, inr, refl, subst, sym, ℕ, ⊎_elim, ◌++◌, ◌∙◌, ◌∷◌, ◌≡◌}
use Rattle.dr_base.specs.declared.position.Side.{Side}
use Rattle.dr_disk.specs.State.{Always}
use Rattle.dr_disk.proofs.Steps.{widen}
use Rattle.dr_model.specs.Machines.Acts.{Act, act_on, taking}
use Rattle.dr_model.specs.Machines.WorldActs.{act_in, kept_by}
use Rattle.dr_model.specs.Machines.Steps.{Step, settled}
use Rattle.dr_model.specs.Machines.WorldSides.{kept_in}
use Rattle.dr_model.specs.Machines.Worlds.{World}
use Rattle.dr_model.specs.Theorems.Acting.{IsFairAct}
use Rattle.dr_model.specs.Theorems.Fairness.{IsUnforged}
use Rattle.dr_ports.specs.Wires.{Port}
use Rattle.kem_laws.specs.Mechanism.{Mechanism}
use Rattle.relay_wire.specs.Replies.{Replied}
use Rattle.session_model.specs.Clients.{Client}
use Rattle.sync_model.specs.Courses.{Course, begun, course_of, read_one}
use Rattle.sync_model.specs.Parties.{Party}
use Rattle.sync_model.specs.Simulation.{AreAlike, AreFairFrom, IsSameCourse}
use Rattle.sync_model.specs.declared.more.More.{More}
use Rattle.sync_model.proofs.Alike.{alike}
use Rattle.client.specs.Cells.{client_cell}
use Rattle.client.specs.Grounds.{Grounds}
use Rattle.client.specs.InWorlds.{IsIn, StandsFor}
use Rattle.client.specs.Receipts.{HaveArrived, TellTruly, waits}
use Rattle.client.specs.Syncing.InWorlds.{AreUnforged, IsKeptIn, IsReachedIn, LeadsTo, SyncsIn, course_in}
use Rattle.client.specs.Syncing.Keys.{keys_in}
use Rattle.client.specs.Syncing.Lines.{answer_line, own_box, peers_box}
use Rattle.client.specs.Syncing.Moments.{Moment}
use Rattle.client.specs.Syncing.Parties.{client_party, is_inbox_full, oldest_sent, waiting, world_party}
use Rattle.client.specs.Syncing.SoFar.{IsReached, Stands}
use Rattle.client.specs.Syncing.Syncs.{EndsSync, SyncsBy}
use Rattle.client.specs.declared.syncing.faults.SyncFault.{SyncFault}
use Rattle.client.specs.declared.syncing.faults.SyncFault.TheVariants.{Closed, Link, Peer, Refused, Store, Write}
use Rattle.client.proofs.Lifted.{ready_stands, record_stands}
use Rattle.client.proofs.Receipts.{one_client}
use Rattle.client.proofs.Syncs.Covered.{sync_arrives}

-- what is fair for all replies is fair for a beginning of them
pub fair_front : {T : Type 0} (q : Party T) (Fair : T → List ℕ → Type 0) (front back : List Replied) (c : Course T) → AreFairFrom q Fair c (front ++ back)
    → AreFairFrom q Fair c front
fair_front q Fair [] back c fair = tt
fair_front q Fair (reply ∷ front) back c fair = (fair.0, fair_front q Fair front back (read_one q c reply) fair.1)

module _ (k : Mechanism) (grounds : Grounds k) (prefix : List ℕ) (side : Side) where
  -- a step of the client is that of the world
  module _ (kept : Client) (w : World) (is : IsKeptIn k side kept w) (act : Act) (fair : IsFairAct k w side act) where
    made : settled kept (act_on k kept act) ≡ kept_by k side (act_in k w side act)
    made = ap (λ (c : Client). settled c (act_on k c act)) is.keeps ∙ grounds.follow.follows w side act is.lawful fair

    pub next_kept : IsKeptIn k side (settled kept (act_on k kept act)).next (act_in k w side act).next
    next_kept = record { lawful = grounds.follow.lawful w side act is.lawful fair; keeps = ap (λ (s : Step Client). s.next) made }

    pub answers : (settled kept (act_on k kept act)).answer ≡ (act_in k w side act).answer
    answers = ap (λ (s : Step Client). s.answer) made

  module _ (first : Client) (w : World) (is : IsKeptIn k side first w) where
    abbrev mine : Party Client
    mine = client_party k prefix first

    abbrev theirs : Party World
    theirs = world_party k prefix side w

    are : AreAlike mine theirs (IsKeptIn k side) (λ (turn : World) (packet : List ℕ). IsUnforged k turn side packet)
    are = record {
      own = ap own_box is.keeps;
      keys = ap keys_in is.keeps;
      peers = ap peers_box is.keeps;
      stored_line = λ number. refl;
      end_line = λ which. refl;
      outbox = λ s t at. ap waiting at.keeps;
      sent = λ s t at. next_kept s t at oldest_sent tt;
      takes = λ s t packet at fair. record {
        line = ap (answer_line prefix) (answers s t at (taking packet) fair);
        full = ap is_inbox_full (answers s t at (taking packet) fair);
        next = next_kept s t at (taking packet) fair;
      };
    }

    same_course : (replies : List Replied) → AreUnforged k prefix side w replies
        → IsSameCourse (IsKeptIn k side) (course_of mine first replies) (course_in k prefix side w replies)
    same_course replies fair = alike mine theirs (IsKeptIn k side) (λ (turn : World) (packet : List ℕ). IsUnforged k turn side packet) are first w is replies fair

    -- after a beginning of the replies
    kept_behind : (front back replies : List Replied) → replies ≡ front ++ back → AreUnforged k prefix side w replies
        → IsKeptIn k side (course_of mine first front).state (course_in k prefix side w front).state
    kept_behind front back replies split fair =
        (same_course front (fair_front theirs (λ (turn : World) (packet : List ℕ). IsUnforged k turn side packet) front back (begun theirs w)
        (subst (AreUnforged k prefix side w) split fair))).state

  module _ (w : World) (a b : Moment) (is_in : IsIn k w side a.client) (replies : List Replied) (fair : AreUnforged k prefix side w replies) where
    abbrev first : Client
    first = a.client.kept

    is_kept : IsKeptIn k side first w
    is_kept = record { lawful = is_in.lawful; keeps = is_in.keeps }

    there : IsKeptIn k side (course_of (client_party k prefix first) first replies).state (course_in k prefix side w replies).state
    there = (same_course first w is_kept replies fair).state

    stands_in : Stands (client_party k prefix first) replies a b
        → IsIn k (course_in k prefix side w replies).state side b.client × Always (StandsFor k (course_in k prefix side w replies).state side) b.disk
    stands_in stands = (
      record { lawful = there.lawful; keeps = stands.keeps ∙ there.keeps },
      ready_stands k grounds (course_in k prefix side w replies).state side b.client.kept b.client.store b.disk there.lawful (stands.keeps ∙ there.keeps) stands.ready,
    )

    leads : (start now : Port) (result : Result More SyncFault) → EndsSync (client_party k prefix first) replies a b start now result → LeadsTo k prefix side w replies b result
    leads start now (Ok which) ends = stands_in ends.stands
    leads start now (Err (Closed call)) ends = absurd ends
    leads start now (Err Link) ends = stands_in ends.0
    leads start now (Err (Peer at what)) ends = ⊎_elim (λ over. stands_in over.2.stands) (λ cut. stands_in cut.0) ends
    leads start now (Err (Refused refusal)) ends = stands_in ends.2.stands
    leads start now (Err (Store call)) ends =
        let before = kept_behind first w is_kept ends.before (ends.last ∷ []) replies ends.split fair in
        let stood =
        record_stands client_cell k grounds (course_in k prefix side w ends.before).state side
        (course_of (client_party k prefix first) first ends.before).state in (
          ends.before,
          ends.last,
          ends.split,
          record { lawful = before.lawful; keeps = ends.keeps ∙ before.keeps },
          λ c left. ⊎_elim (λ old. inl (stood c before.lawful before.keeps old))
              (λ new. inr (record_stands client_cell k grounds (course_in k prefix side w replies).state side (course_of (client_party k prefix first) first replies).state c there.lawful there.keeps new))
              (ends.leaves c left),
        )
    leads start now (Err Write) ends = stands_in ends.stands

    -- what a client kept after a beginning of the replies tells the truth
    truly : (front back : List Replied) → replies ≡ front ++ back → (after : Client)
        → after ≡ kept_in k (course_in k prefix side w front).state side → HaveArrived w side (kept_in k w side) after
    truly front back split after is p waited over =
        sync_arrives k side prefix w replies is_in.lawful fair front back p split
        (record { waited = waited; over = ap (λ (c : Client). waits c p) (sym is) ∙ over })

    shown_truly : (front back : List Replied) → replies ≡ front ++ back → IsIn k (course_in k prefix side w front).state side b.client
        → HaveArrived w side a.client.kept b.client.kept
    shown_truly front back split is =
        subst (λ (before : Client). HaveArrived w side before b.client.kept) (sym is_in.keeps) (truly front back split b.client.kept is.keeps)

    told_truly : (front back : List Replied) → replies ≡ front ++ back → (c : List ℕ)
        → StandsFor k (course_in k prefix side w front).state side c → TellTruly k w side c
    told_truly front back split c stands after reads =
        truly front back split after (one_client _ after (kept_in k (course_in k prefix side w front).state side) reads stands)

    last_truly : IsIn k (course_in k prefix side w replies).state side b.client → HaveArrived w side a.client.kept b.client.kept
    last_truly = shown_truly replies [] (sym (append-nil replies))

    shown : (result : Result More SyncFault) → LeadsTo k prefix side w replies b result → HaveArrived w side a.client.kept b.client.kept
    shown (Ok which) leads = last_truly leads.0
    shown (Err (Closed call)) leads = last_truly leads.0
    shown (Err Link) leads = last_truly leads.0
    shown (Err (Peer at what)) leads = last_truly leads.0
    shown (Err (Refused refusal)) leads = last_truly leads.0
    shown (Err (Store call)) leads = shown_truly leads.0 (leads.1 ∷ []) leads.2 leads.3
    shown (Err Write) leads = last_truly leads.0

    pub in_world : (start now : Port) (result : Result More SyncFault) → SyncsBy (client_party k prefix first) replies a b start now result
        → SyncsIn k prefix side w replies a b result
    in_world start now result syncs = record {
      same = same_course first w is_kept replies fair;
      leads = leads start now result syncs.ends;
      passed =
          widen a.disk b.disk (IsReached (client_party k prefix first) first replies a.disk) (IsReachedIn k prefix side w replies a.disk)
          (λ c r. let at = kept_behind first w is_kept r.front r.back replies r.split fair in record {
            front = r.front;
            back = r.back;
            split = r.split;
            stands =
                record_stands client_cell k grounds (course_in k prefix side w r.front).state side
                (course_of
                (client_party k prefix first) first r.front).state c at.lawful at.keeps r.holds;
            undamaged = r.undamaged;
            outside = r.outside;
          }) syncs.passed;
      arrived = record {
        shown = shown result (leads start now result syncs.ends);
        stored =
            widen a.disk b.disk (IsReached (client_party k prefix first) first replies a.disk) (TellTruly k w side)
            (λ c r. let at = kept_behind first w is_kept r.front r.back replies r.split fair in
            told_truly r.front r.back r.split c
            (record_stands client_cell k grounds (course_in k prefix side w r.front).state side
            (course_of (client_party k prefix first) first r.front).state c at.lawful at.keeps r.holds)) syncs.passed;
      };
    }
