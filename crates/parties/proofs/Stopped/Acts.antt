-- What an act comes to on a disk that stops in it.
use Rattle.std.proofs.Common.{Bool, None, Result, Some, ap, arith, false, if◌then◌else◌, inl, inr, refl, subst, sym, true, ℕ, ◌+◌, ◌-◌, ◌<◌, ◌∙◌, ◌≡◌, ◌≤◌}
use Rattle.dr_disk.specs.MemoryDisks.{IsLeftBy, going_on, state_of, stopped_after}
use Rattle.dr_disk.specs.MemoryLaws.{memory_lawful}
use Rattle.dr_disk.specs.State.{DiskState, IsLawful, to_failure}
use Rattle.dr_disk.specs.declared.call.Call.{Call}
use Rattle.dr_disk.proofs.Exactly.{enough as enough_told, too_few}
use Rattle.dr_disk.specs.declared.call.Mode.{Mode}
use Rattle.dr_disk.specs.declared.memory.MemoryDisk.{MemoryDisk}
use Rattle.dr_model.specs.Machines.Steps.{Step, has_effect, settled, step}
use Rattle.session_model.specs.Clients.{Client}
use Rattle.session_model.specs.declared.answer.Answer.{Answer}
use Rattle.session_model.specs.declared.answer.Answer.TheVariants.{Refused, Stopped}
use Rattle.session_model.specs.declared.answer.Refusal.{Refusal}
use Rattle.session_record.specs.Record.{record_text}
use Rattle.slot_store.proofs.Standing.{rests_undamaged}
use Rattle.slot_store.specs.Reading.{IsUndamaged}
use Rattle.slot_store.specs.Records.{stored_record}
use Rattle.slot_store.specs.Stops.{took}
use Rattle.slot_store.specs.Store.{HasArea, SlotStore}
use Rattle.slot_store.specs.Areas.{Area}
use Rattle.client.specs.Clients.{ClientNow, IsReady, client_area}
use Rattle.client.specs.Outcomes.{Acts, IsCutOff, IsDone, IsEffected, acknowledged, refused, replacing_calls}
use Rattle.client.specs.Opening.{SaysNothing}
use Rattle.client.specs.declared.refusals.OpenRefusal.{OpenRefusal}
use Rattle.client.specs.declared.refusals.OpenRefusal.TheVariants.{Damaged, Memory, NoSession, StoreFault}
use Rattle.parties.specs.Parties.{DiskHasRecord, IsHeld, IsWantOfMemory}
use Rattle.parties.specs.Stops.{is_replaced, stopped_client}
use Rattle.parties.proofs.Stopped.Steps.{cut, enough, idle_stopped}

-- no call on it fails, and nothing is said of what was read
pub only_memory : (refusal : OpenRefusal) → SaysNothing refusal → ((call : Call) → refusal ≡ StoreFault call → ⊥) → IsWantOfMemory refusal
only_memory Memory says passes = tt
only_memory (StoreFault call) says passes = absurd (passes call refl)
only_memory (Damaged slot at) says passes = says
only_memory NoSession says passes = says

-- the count of a disk is told while a call on it is told to fail
abbrev pub IsCounted : DiskState → Type 0
IsCounted disk = (j : ℕ) → to_failure disk.fate ≡ Some j → (m : ℕ) × (disk.passed ≡ Some m)

pub lawful_disk : (d : MemoryDisk) → IsLawful (state_of d)
lawful_disk d =
    memory_lawful d.platter.bytes.items d.platter.durable.items d.platter.asked.items
    d.platter.marks.items d.meter.fate d.meter.passed
    (record { reads = d.reads; writes = d.writes; syncs = d.syncs; tried = d.tried }) d.platter.agrees
    d.platter.asks
    d.platter.one_mark_each

pub ready_stopped : (n : ℕ) (client : Client) (store : SlotStore) (disk : MemoryDisk) → IsReady client store (state_of disk)
    → IsReady client store (state_of (stopped_after n disk))
ready_stopped n client store disk ready =
    record { area = ready.area; within = ready.within; holds = ready.holds; rests = ready.rests }

pub held_going : (client : ClientNow) (disk : MemoryDisk) → client.closed ≡ None → IsReady client.kept client.store (state_of disk)
    → IsHeld client (going_on disk)
held_going client disk unclosed ready = record {
  is_open = unclosed;
  ready = record { area = ready.area; within = ready.within; holds = ready.holds; rests = ready.rests };
  passes = refl;
}

-- ---- an act

module _ (n : ℕ) (mode : Mode) (made : Result (Step Client) Refusal) (old new : ClientNow) (start now : MemoryDisk)
    (unclosed : old.closed ≡ None) (ready : IsReady old.kept old.store (state_of start))
    (fails : to_failure (state_of start).fate ≡ Some n) (anew : (state_of start).passed ≡ Some 0) where
  abbrev Comes : Answer → Type 0
  Comes answer =
      (step answer new.kept ≡ stopped_client n mode old.kept (settled old.kept made))
      × IsHeld new (going_on now)

  pub stays : new ≡ old → now ≡ start → IsHeld new (going_on now)
  stays same still =
      subst (λ (d : MemoryDisk). IsHeld new (going_on d)) (sym still)
      (subst (λ (c : ClientNow). IsHeld c (going_on start)) (sym same) (held_going old start unclosed ready))

  -- enough calls passed where the record was replaced
  pub many : (answer : Answer)
      → IsDone made old new (state_of start) (state_of now) answer
      → IsCounted (state_of now)
      → replacing_calls old.kept new.kept ≤ n
  many answer done told =
      let left = done.disk.ahead n fails in
      let m = told left.0 left.1 in
      enough_told (replacing_calls old.kept new.kept) n (state_of start)
      (state_of now) fails done.disk.any_moment.fates done.disk.ahead done.disk.passed m.0 m.1

  effected : (answer : Answer) (b : Bool) → has_effect answer ≡ b
      → IsEffected state_of b made old new start now answer → IsCounted (state_of now) → Comes answer
  effected answer true effect done told = (
    sym (ap (λ r. stopped_client n mode old.kept (settled old.kept r)) done.made_is
        ∙ enough n mode old.kept (step answer new.kept) (many answer done told)),
    held_going new now done.stays_open done.disk.ready,
  )
  effected answer false effect idle told = (
    sym (ap (λ r. stopped_client n mode old.kept (settled old.kept r)) idle.0
        ∙ idle_stopped n mode old.kept (step answer new.kept) effect),
    stays idle.2 idle.3,
  )

  pub acknowledged_comes : (answer : Answer) → Acts state_of made old new start now (acknowledged answer)
      → IsCounted (state_of now) → Comes answer
  acknowledged_comes answer acts told = effected answer (has_effect answer) refl acts told

  pub refused_comes : (refusal : Refusal) → Acts state_of made old new start now (refused refusal)
      → Comes (Refused refusal)
  refused_comes refusal acts = (
    ap (λ (c : ClientNow). step (Refused refusal) c.kept) acts.2
        ∙ sym (ap (λ r. stopped_client n mode old.kept (settled old.kept r)) acts.1
        ∙ idle_stopped n mode old.kept (step (Refused refusal) old.kept) refl),
    stays acts.2 acts.3,
  )

  -- how many calls passed where one failed
  pub passed_all : (call : Call) (c : IsCutOff made old new (state_of start) (state_of now) call)
      → ((state_of now).passed ≡ Some n) × (n < replacing_calls old.kept c.next.next)
  passed_all call c =
      let end = c.disk.ended n fails in
      let none : end.1 ≡ 0 = let e : Some end.1 ≡ Some 0 = sym end.2 ∙ anew in cc in
      let all : end.1 + n ≡ n = omega (arith, none) in (
        end.3 ∙ ap Some all,
        too_few (replacing_calls old.kept c.next.next) n (state_of start)
            (state_of now) fails c.disk.ended c.disk.few,
      )

  -- what the client kept, or what it would have kept
  abbrev pub Left : (call : Call) → IsCutOff made old new (state_of start) (state_of now) call → Client
  Left call c = if is_replaced n mode old.kept c.next.next then c.next.next else old.kept

  pub chosen : (b : Bool) (a z : Client) → (if b then Some (record_text a) else Some (record_text z)) ≡ Some (record_text (if b then a else z))
  chosen true a z = refl
  chosen false a z = refl

  -- and that its record stands where the disk has crashed
  pub cut_record : (call : Call) (c : IsCutOff made old new (state_of start) (state_of now) call) (left : MemoryDisk)
      → IsLeftBy mode (state_of now) (state_of left) → DiskHasRecord (Left call c) (state_of left)
  cut_record call c left by = λ s seen.
      let passed = (passed_all call c).0 in
      let same : by.bytes ≡ s = let e : Some by.bytes ≡ Some s = sym by.fresh.seen ∙ seen in cc in
      let off : n - 0 ≡ n = omega arith in
      ap (stored_record client_area) (sym same) ∙ c.disk.stopped.crash 0 n mode by.bytes anew passed by.left
      ∙ ap (λ j. if took (Some (record_text old.kept)) (Some (record_text c.next.next)) j mode then Some (record_text c.next.next)
      else Some (record_text old.kept)) off
      ∙ chosen (is_replaced n mode old.kept c.next.next) c.next.next old.kept

  -- which is read without damage
  pub cut_undamaged : (call : Call) (c : IsCutOff made old new (state_of start) (state_of now) call) (left : MemoryDisk)
      → (by : IsLeftBy mode (state_of now) (state_of left)) → IsUndamaged client_area by.bytes
  cut_undamaged call c left by =
      let image = (lawful_disk now).leaves_now mode by.bytes by.left in
      elim (c.disk.any_moment.last by.bytes image) [
        | inl entry ↦ subst (λ (a : Area). IsUndamaged a by.bytes) ready.area (rests_undamaged old.store by.bytes (ready.rests by.bytes entry))
        | inr one ↦ one.undamaged
      ]

  pub cut_comes : (call : Call) (c : IsCutOff made old new (state_of start) (state_of now) call)
      → step Stopped (Left call c) ≡ stopped_client n mode old.kept (settled old.kept made)
  cut_comes call c =
      sym (ap (λ r. stopped_client n mode old.kept (settled old.kept r)) c.made_is
      ∙ cut n mode old.kept c.next c.effect (passed_all call c).1)

  pub cut_within : (call : Call) (c : IsCutOff made old new (state_of start) (state_of now) call) (left : MemoryDisk)
      → IsLeftBy mode (state_of now) (state_of left) → HasArea client_area (state_of left)
  cut_within call c left by =
      let lawful = lawful_disk now in
      let long = lawful.sized by.bytes (lawful.leaves_now mode by.bytes by.left) in
      omega (arith, ready.within, by.fresh.size, long, c.disk.any_moment.size)
