-- A sync is a link between moments of a disk.
use Rattle.std.proofs.Common.{Err, List, Ok, Result, [], ap, append-nil, arith, inl, inr, refl, suc, sym, ℕ, ⊎_elim, subst, ◌++◌, ◌∙◌, ◌∷◌, ◌≡◌, ◌⊎◌}
use Rattle.std.specs.Prelude.{Any}
use Rattle.dr_base.specs.declared.position.Side.{Side}
use Rattle.dr_disk.specs.State.{Always, DiskState}
use Rattle.dr_model.specs.Machines.Worlds.{World}
use Rattle.kem_laws.specs.Mechanism.{Mechanism}
use Rattle.relay_wire.specs.Replies.{Replied}
use Rattle.sync_model.specs.Courses.{Course, begun, course_from, read_one}
use Rattle.sync_model.specs.Parties.{Party}
use Rattle.sync_model.specs.declared.more.More.{More}
use Rattle.sync_model.proofs.Reading.{read_last}
use Rattle.client.specs.Cells.{client_cell}
use Rattle.client.specs.InWorlds.{IsIn, StandsFor}
use Rattle.client.specs.Moments.{IsKnown, IsAmongKnown, Known, Link, reached_by, known_after_sync, was_cut_in_sync, was_synced, with_doubts}
use Rattle.client.specs.Syncing.InWorlds.{AreLeft, AreUnforged, IsReachedIn, LeadsTo, SyncsIn, course_in}
use Rattle.client.specs.Syncing.Moments.{Moment}
use Rattle.client.specs.Syncing.Parties.{world_party}
use Rattle.client.specs.declared.syncing.faults.SyncFault.{SyncFault}
use Rattle.client.specs.declared.syncing.faults.SyncFault.TheVariants.{Closed, Link as LinkFault, Peer, Refused, Store, Write}
use Rattle.client.proofs.Standing.{one_known}

module _ (k : Mechanism) (prefix : List ℕ) (side : Side) (w : World) where
  abbrev pub p : Party World
  p = world_party k prefix side w

  -- what stands for a world that the course reaches stands for one of those that it may reach
  pub reaches : (front back : List Replied) (from : Course World) (c : List ℕ) → StandsFor k (course_from p from front).state side c
      → StandsFor k from.state side c ⊎ Any (λ v. StandsFor k v side c) (reached_by p from (front ++ back))
  reaches [] back from c stands = inl stands
  reaches (reply ∷ front) back from c stands =
      let next = read_one p from reply in
      ⊎_elim (λ here. inr (0, next.state, omega arith, refl, here))
      (λ (there : Any (λ (v : World). StandsFor k v side c) (reached_by p next (front ++ back))).
      inr (suc there.0, there.1, omega (arith, there.2), there.3, there.4)) (reaches front back next c stands)

module _ (k : Mechanism) (prefix : List ℕ) (side : Side) (w : World) (known : Known) (which : IsAmongKnown known w) where
  pub cut_links : (replies : List Replied) (a b : DiskState) → AreUnforged k prefix side w replies
      → ((c : List ℕ) → b.image c → a.image c ⊎ IsReachedIn k prefix side w replies a c)
      → Link k side a b known (with_doubts known (reached_by (world_party k prefix side w) (begun (world_party k prefix side w) w) replies))
  cut_links replies a b fair left_by =
      was_cut_in_sync known w which prefix replies fair (λ c left. ⊎_elim inl
      (λ (r : IsReachedIn k prefix side w replies a c). inr (subst (λ (xs : List Replied). IsKnown k side (known_after_sync k prefix side w [] xs) c) (sym r.split)
      (reaches k prefix side w r.front r.back (begun (world_party k prefix side w) w) c r.stands))) (left_by c left))

  -- a call on the disk failed in the step of the last reply
  pub step_links : (before : List Replied) (last : Replied) (replies : List Replied) (a b : DiskState) → replies ≡ before ++ last ∷ []
      → AreUnforged k prefix side w replies
      → Always (λ c. StandsFor k (course_in k prefix side w before).state side c ⊎ StandsFor k (course_in k prefix side w replies).state side c) b
      → Link k side a b known (known_after_sync k prefix side w before (last ∷ []))
  step_links before last replies a b split fair either =
      let from = course_in k prefix side w before in
      let after : course_in k prefix side w replies ≡ read_one (world_party k prefix side w) from last =
      ap (course_in k prefix side w) split ∙ read_last (world_party k prefix side w) before last (begun (world_party k prefix side w) w) in
      was_synced known w which prefix before (last ∷ []) (subst (AreUnforged k prefix side w) split fair)
      (λ c left. ⊎_elim (λ old. inl old)
      (λ new. inr (one_known client_cell k (read_one (world_party k prefix side w) from last).state side c
      (subst (λ (x : Course World). StandsFor k x.state side c) after new))) (either c left))

  abbrev Ended : List Replied → Result More SyncFault → Moment → Moment → Type 0
  Ended replies result a b =
      (front back : List Replied) × (replies ≡ front ++ back) × AreLeft result back
      × IsIn k (course_in k prefix side w front).state side b.client
      × Link k side a.disk b.disk known (known_after_sync k prefix side w front back)

  whole : (replies : List Replied) (a b : Moment) → AreUnforged k prefix side w replies → IsIn k (course_in k prefix side w replies).state side b.client
      → Always (StandsFor k (course_in k prefix side w replies).state side) b.disk
      → (replies ≡ replies ++ []) × Link k side a.disk b.disk known (known_after_sync k prefix side w replies [])
  whole replies a b fair is stands = (
    sym (append-nil replies),
    was_synced known w which prefix replies [] (subst (AreUnforged k prefix side w) (sym (append-nil replies)) fair) (λ c left. inl (stands c left)),
  )

  ends : (replies : List Replied) (a b : Moment) (result : Result More SyncFault) → AreUnforged k prefix side w replies → LeadsTo k prefix side w replies b result → Ended replies result a b
  ends replies a b (Ok which) fair leads = let all = whole replies a b fair leads.0 leads.1 in (replies, [], all.0, refl, leads.0, all.1)
  ends replies a b (Err (Closed call)) fair leads = let all = whole replies a b fair leads.0 leads.1 in (replies, [], all.0, refl, leads.0, all.1)
  ends replies a b (Err LinkFault) fair leads = let all = whole replies a b fair leads.0 leads.1 in (replies, [], all.0, refl, leads.0, all.1)
  ends replies a b (Err (Peer place what)) fair leads = let all = whole replies a b fair leads.0 leads.1 in (replies, [], all.0, refl, leads.0, all.1)
  ends replies a b (Err (Refused refusal)) fair leads = let all = whole replies a b fair leads.0 leads.1 in (replies, [], all.0, refl, leads.0, all.1)
  ends replies a b (Err Write) fair leads = let all = whole replies a b fair leads.0 leads.1 in (replies, [], all.0, refl, leads.0, all.1)
  ends replies a b (Err (Store call)) fair leads =
      (leads.0, leads.1 ∷ [], leads.2, (leads.1, refl), leads.3, step_links leads.0 leads.1 replies a.disk b.disk leads.2 fair leads.4)

  pub ended_links : (replies : List Replied) (a b : Moment) (result : Result More SyncFault) → AreUnforged k prefix side w replies
      → SyncsIn k prefix side w replies a b result → Ended replies result a b
  ended_links replies a b result fair syncs = ends replies a b result fair syncs.leads
