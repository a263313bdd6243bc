-- What a sync used up is erased.
use Rattle.std.proofs.Common.{Bool, Err, List, Ok, Result, [], ap, append_assoc, false, if◌then◌else◌, inl, refl, subst, sym, ℕ, ⊎_elim, ◌++◌, ◌∙◌, ◌∷◌, ◌≡◌}
use Rattle.dr_base.specs.declared.position.Position.{Position}
use Rattle.dr_base.specs.declared.position.Side.{Side}
use Rattle.dr_disk.specs.State.{Always}
use Rattle.dr_model.specs.Machines.Acts.{taking}
use Rattle.dr_model.specs.Machines.WorldActs.{act_in}
use Rattle.dr_model.specs.Machines.Worlds.{World}
use Rattle.dr_model.specs.Theorems.Erasure.{IsErased}
use Rattle.dr_model.specs.Theorems.Fairness.{IsUnforged}
use Rattle.dr_model.specs.Theorems.LawfulWorlds.{IsLawfulWorld}
use Rattle.kem_laws.specs.Mechanism.{Mechanism}
use Rattle.relay_wire.specs.Replies.{Replied, item}
use Rattle.session_model.specs.declared.answer.Answer.TheVariants.{Opened}
use Rattle.sync_model.specs.Courses.{Course, begun, heard}
use Rattle.sync_model.specs.Moves.{Move, Wait, fetching, move}
use Rattle.sync_model.specs.Parties.{Party}
use Rattle.sync_model.specs.declared.more.More.{More}
use Rattle.sync_model.proofs.Reading.{read_last}
use Rattle.client.specs.Cells.{client_cell}
use Rattle.client.specs.InWorlds.{StandsFor}
use Rattle.client.specs.Moments.{IsLater}
use Rattle.client.specs.Spent.{IsErasedOn, IsUsed}
use Rattle.client.specs.Syncing.InWorlds.{AreBehind, AreUnforged, LeadsTo, SyncSpends, SyncsIn, course_in}
use Rattle.client.specs.Syncing.Moments.{Moment}
use Rattle.client.specs.Syncing.Parties.{is_inbox_full, world_party}
use Rattle.client.specs.declared.syncing.faults.SyncFault.{SyncFault}
use Rattle.client.specs.declared.syncing.faults.SyncFault.TheVariants.{Closed, Link, Peer, Refused, Store, Write}
use Rattle.client.proofs.Later.{front_later, lawful_at, whole_later}
use Rattle.client.proofs.Spending.{erased_in, taken_used}
use Rattle.client.proofs.Syncs.Asking.{not_behind}
use Rattle.client.proofs.Syncs.Courses.{before_last}
use Rattle.client.proofs.Syncs.Worlds.{fair_front}

other_state : {S : Type 0} (test : Bool) (one other : Move S) → test ≡ false
    → (if◌then◌else◌ {A = Move S} test one other).state ≡ other.state
other_state {S = S} test one other is = ap (λ (b : Bool). (if◌then◌else◌ {A = Move S} b one other).state) is

module _ (k : Mechanism) (prefix : List ℕ) (side : Side) (w : World) where
  abbrev p : Party World
  p = world_party k prefix side w

  abbrev at : List Replied → Course World
  at replies = course_in k prefix side w replies

  -- ---- a packet that is opened

  opened_state : (s : World) (n number : ℕ) (packet : List ℕ) (position : Position) → (act_in k s side (taking packet)).answer ≡ Opened position
      → (move p s (fetching n) (item number packet)).state ≡ (act_in k s side (taking packet)).next
  opened_state s n number packet position opens =
      other_state (is_inbox_full (act_in k s side (taking packet)).answer) _ _ (ap is_inbox_full opens)

  used_now : (front : List Replied) (n number : ℕ) (packet : List ℕ) (position : Position) → (at front).wait ≡ fetching n
      → (act_in k (at front).state side (taking packet)).answer ≡ Opened position
      → IsUsed (at (front ++ item number packet ∷ [])).state side position
  used_now front n number packet position waits opens =
      let s = (at front).state in
      let there : (at (front ++ item number packet ∷ [])).state ≡ (act_in k s side (taking packet)).next =
      ap (λ (c : Course World). c.state) (read_last p front (item number packet) (begun p w))
      ∙ ap (λ (again : Bool). (heard p (at front) (item number packet) again).state) (not_behind p.keys (at front).tokens (item number packet) refl)
      ∙ ap (λ (wait : Wait). (move p s wait (item number packet)).state) waits
      ∙ opened_state s n number packet position opens in
      subst (λ (v : World). IsUsed v side position) (sym there) (inl (taken_used k s side packet position opens))

  -- ---- no image gives its key

  module _ (erased : IsErased k) (lawful : IsLawfulWorld k w) (replies : List Replied) (b : Moment) (front back : List Replied)
      (split : replies ≡ front ++ back) (unforged : AreUnforged k prefix side w replies) (position : Position) (used : IsUsed (at front).state side position) where
    fair : AreUnforged k prefix side w (front ++ back)
    fair = subst (AreUnforged k prefix side w) split unforged

    front_lawful : IsLawfulWorld k (at front).state
    front_lawful = lawful_at k w (at front).state lawful (front_later k prefix side w front back fair)

    to_end : IsLater k (at front).state (at replies).state
    to_end = subst (λ (xs : List Replied). IsLater k (at front).state (at xs).state) (sym split) (whole_later k prefix side w front back fair)

    -- as far as a beginning of those behind
    on : (more rest : List Replied) → back ≡ more ++ rest → IsLater k (at front).state (at (front ++ more)).state
    on more rest is =
        whole_later k prefix side w front more
        (fair_front p (λ turn packet. IsUnforged k turn side packet) (front ++ more) rest (begun p w)
        (subst (AreUnforged k prefix side w) (ap (λ (xs : List Replied). front ++ xs) is ∙ sym (append_assoc front more rest)) fair))

    gone : Always (StandsFor k (at replies).state side) b.disk → IsErasedOn k position b.disk
    gone stands c kept left =
        erased_in client_cell k erased (at front).state
        (at replies).state side position c kept front_lawful to_end (stands c left) used

    all_gone : (result : Result More SyncFault) → LeadsTo k prefix side w replies b result → AreBehind result back → IsErasedOn k position b.disk
    all_gone (Ok which) leads behind = gone leads.1
    all_gone (Err (Closed call)) leads behind = gone leads.1
    all_gone (Err Link) leads behind = gone leads.1
    all_gone (Err (Peer place what)) leads behind = gone leads.1
    all_gone (Err (Refused refusal)) leads behind = gone leads.1
    all_gone (Err Write) leads behind = gone leads.1
    all_gone (Err (Store call)) leads behind = λ c kept left reads made.
        let before = leads.0 in
        let found = before_last front back before leads.1 (sym split ∙ leads.2) behind in
        let to_before : IsLater k (at front).state (at before).state =
        subst (λ (xs : List Replied). IsLater k (at front).state (at xs).state) (sym found.split) (on found.rest (leads.1 ∷ []) found.behind) in
        ⊎_elim (λ old. erased_in client_cell k erased (at front).state (at before).state side position c kept front_lawful to_before old used reads made)
        (λ new. erased_in client_cell k erased (at front).state (at replies).state side position c kept front_lawful to_end new used reads made)
        (leads.4 c left)

  pub sync_spends : IsErased k → IsLawfulWorld k w → (replies : List Replied) (a b : Moment) (result : Result More SyncFault)
      → AreUnforged k prefix side w replies → SyncsIn k prefix side w replies a b result → SyncSpends k prefix side w replies b.disk result
  sync_spends erased lawful replies a b result unforged syncs = record {
    used = used_now;
    erased = λ front back split behind position used. all_gone erased lawful replies b front back split unforged position used result syncs.leads behind;
  }
