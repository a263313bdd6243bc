-- What an act comes to on a disk that fails once in it.
use Rattle.std.proofs.Common.{Bool, None, Ok, Result, Some, ap, arith, false, if◌then◌else◌, inl, inr, refl, subst, sym, true, ℕ, ◌-◌, ◌<◌, ◌∙◌, ◌≡◌, ◌≤◌}
use Rattle.std.specs.Prelude.{nat_le, option_map, ◌&&◌}
use Rattle.std.proofs.lemmas.Bool.Decides.{nat_tests}
use Rattle.dr_disk.specs.MemoryDisks.{failing_at, going_on, state_of}
use Rattle.dr_disk.specs.declared.call.Call.{Call}
use Rattle.dr_disk.specs.declared.call.Mode.TheVariants.{Old}
use Rattle.dr_disk.specs.declared.memory.MemoryDisk.{MemoryDisk}
use Rattle.dr_model.specs.Machines.Steps.{Step, has_effect, settled, step}
use Rattle.kem_laws.specs.Mechanism.{Mechanism}
use Rattle.session_model.specs.Clients.{Client}
use Rattle.session_model.specs.declared.answer.Answer.{Answer}
use Rattle.session_model.specs.declared.answer.Answer.TheVariants.{Refused}
use Rattle.session_model.specs.declared.answer.Refusal.{Refusal}
use Rattle.session_record.specs.Lawful.{IsLawfulClient}
use Rattle.session_record.specs.Record.{record_read, record_text}
use Rattle.slot_store.proofs.Standing.{rests_undamaged}
use Rattle.slot_store.specs.Areas.{Area}
use Rattle.slot_store.specs.Reading.{IsUndamaged}
use Rattle.slot_store.specs.Records.{stored_record}
use Rattle.slot_store.specs.Stops.{shows}
use Rattle.client.specs.Clients.{ClientNow, IsReady, client_area}
use Rattle.client.specs.Outcomes.{Acts, IsCutOff, IsEffected, acknowledged, refused, replacing_call, replacing_calls}
use Rattle.parties.specs.Parties.{DiskHasRecord, IsHeld, IsClosedParty, found_on}
use Rattle.parties.specs.Shuts.{failing_call, is_shown, left_of}
use Rattle.parties.proofs.Closed.{found_is, record_reads}
use Rattle.parties.proofs.Stopped.Acts.{IsCounted, chosen, held_going, lawful_disk, many, passed_all, stays}
use Rattle.parties.proofs.LawfulActs.{left_lawful}

-- ---- which call fails

pub no_effect : (n : ℕ) (answer : Answer) (before after : Client) → has_effect answer ≡ false → failing_call n answer before after ≡ None
unfolding failing_call
no_effect n answer before after idle =
    ap (λ (b : Bool). if b && nat_le n (replacing_calls before after) then Some (replacing_call before after (n - 1)) else None) idle

neither : (b : Bool) (x : Call) → (if b && false then Some x else None) ≡ None
neither true x = refl
neither false x = refl

enough : (n : ℕ) (answer : Answer) (before after : Client) → 1 ≤ n → replacing_calls before after ≤ n - 1
    → failing_call n answer before after ≡ None
unfolding failing_call
enough n answer before after some few =
    let calls = replacing_calls before after in
    let more : nat_le n calls ≡ false = grind (arith, nat_tests) in
    ap (λ (b : Bool). if has_effect answer && b then Some (replacing_call before after (n - 1)) else None) more
    ∙ neither (has_effect answer) (replacing_call before after (n - 1))

one_fails : (n : ℕ) (answer : Answer) (before after : Client) → 1 ≤ n → has_effect answer ≡ true → n - 1 < replacing_calls before after
    → failing_call n answer before after ≡ Some (replacing_call before after (n - 1))
unfolding failing_call
one_fails n answer before after some effect many =
    let calls = replacing_calls before after in
    let enough : nat_le n calls ≡ true = grind (arith, nat_tests) in
    ap (λ (b : Bool). if b && nat_le n calls then Some (replacing_call before after (n - 1)) else None) effect
    ∙ ap (λ (b : Bool). if b then Some (replacing_call before after (n - 1)) else None) enough

-- ---- an act

module _ (n : ℕ) (some : 1 ≤ n) (made : Result (Step Client) Refusal) (old new : ClientNow) (disk now : MemoryDisk) (held : IsHeld old disk) where
  abbrev start : MemoryDisk
  start = failing_at n disk

  abbrev result : Step Client
  result = settled old.kept made

  ready : IsReady old.kept old.store (state_of start)
  ready = record { area = held.ready.area; within = held.ready.within; holds = held.ready.holds; rests = held.ready.rests }

  -- it takes place
  abbrev Passes : Answer → Type 0
  Passes answer =
      (failing_call n result.answer old.kept result.next ≡ None) × (step answer new.kept ≡ result) × IsHeld new (going_on now)

  effected : (answer : Answer) (b : Bool) → has_effect answer ≡ b → IsEffected state_of b made old new start now answer
      → IsCounted (state_of now) → Passes answer
  effected answer true effect done told =
      let same : result ≡ step answer new.kept = ap (settled old.kept) done.made_is in (
        ap (λ (m : Step Client). failing_call n m.answer old.kept m.next) same
            ∙ enough n answer old.kept new.kept some
            (many (n - 1) Old made old new start now held.is_open ready refl refl answer done told),
        sym same,
        held_going new now done.stays_open done.disk.ready,
      )
  effected answer false effect idle told =
      let same : result ≡ step answer new.kept = ap (settled old.kept) idle.0 in (
        ap (λ (m : Step Client). failing_call n m.answer old.kept m.next) same ∙ no_effect n answer old.kept new.kept effect,
        sym same,
        stays (n - 1) Old made old new start now held.is_open ready refl refl idle.2 idle.3,
      )

  pub acknowledged_passes : (answer : Answer) → Acts state_of made old new start now (acknowledged answer) → IsCounted (state_of now)
      → Passes answer
  acknowledged_passes answer acts told = effected answer (has_effect answer) refl acts told

  pub refused_passes : (refusal : Refusal) → Acts state_of made old new start now (refused refusal) → Passes (Refused refusal)
  refused_passes refusal acts =
      let same : result ≡ step (Refused refusal) old.kept = ap (settled old.kept) acts.1 in (
        ap (λ (m : Step Client). failing_call n m.answer old.kept m.next) same ∙ no_effect n (Refused refusal) old.kept old.kept refl,
        ap (λ (c : ClientNow). step (Refused refusal) c.kept) acts.2 ∙ sym same,
        stays (n - 1) Old made old new start now held.is_open ready refl refl acts.2 acts.3,
      )

  -- ---- it is cut off

  module _ (call : Call) (c : IsCutOff made old new (state_of start) (state_of now) call) where
    abbrev next : Client
    next = c.next.next

    all : ((state_of now).passed ≡ Some (n - 1)) × (n - 1 < replacing_calls old.kept next)
    all = passed_all (n - 1) Old made old new start now held.is_open ready refl refl call c

    off : (n - 1) - 0 ≡ n - 1
    off = omega arith

    same : result ≡ c.next
    same = ap (settled old.kept) c.made_is

    pub cut_fault : failing_call n result.answer old.kept result.next ≡ Some call
    cut_fault =
        ap (λ (m : Step Client). failing_call n m.answer old.kept m.next) same
        ∙ one_fails n c.next.answer old.kept next some c.effect all.1
        ∙ sym (ap Some (c.disk.kind 0 (n - 1) refl all.0 ∙ ap (replacing_call old.kept next) off))

    -- the client whose record is read
    abbrev left : Client
    left = left_of n old.kept next next old.kept

    left_record : stored_record client_area now.platter.bytes.items ≡ Some (record_text left)
    unfolding is_shown
    left_record =
        c.disk.stopped.read refl 0 (n - 1) now.platter.bytes.items refl all.0 refl
        ∙ ap (λ (j : ℕ). if shows (Some (record_text old.kept)) (Some (record_text next)) j then Some (record_text next)
        else Some (record_text old.kept)) off
        ∙ chosen (n - 1) Old made old new start now held.is_open ready refl refl (is_shown n old.kept next) next old.kept

    has_left : DiskHasRecord left (state_of (going_on now))
    has_left s seen =
        let same : s ≡ now.platter.bytes.items = let e : Some s ≡ Some now.platter.bytes.items = sym seen in cc in
        ap (stored_record client_area) same ∙ left_record

    undamaged : IsUndamaged client_area now.platter.bytes.items
    undamaged =
        let bytes = now.platter.bytes.items in
        elim (c.disk.any_moment.last bytes ((lawful_disk now).seen_now bytes refl)) [
          | inl entry ↦ subst (λ (a : Area). IsUndamaged a bytes) ready.area (rests_undamaged old.store bytes (ready.rests bytes entry))
          | inr one ↦ one.undamaged
        ]

    pub cut_found : (k : Mechanism) → record_read k (record_text left) ≡ Ok left
        → found_on k new.kept (going_on now) ≡ left_of n old.kept result.next result.next old.kept
    cut_found k back =
        found_is k new.kept left (going_on now) (record_reads k left (state_of (going_on now)) has_left back)
        ∙ sym (ap (λ (m : Step Client). left_of n old.kept m.next m.next old.kept) same)

    pub cut_shut : (k : Mechanism) → record_read k (record_text left) ≡ Ok left → IsClosedParty k (going_on now)
    cut_shut k back = record {
      within = omega (arith, ready.within, c.disk.any_moment.size);
      reads = record {
        kept = left;
        bytes = now.platter.bytes.items;
        told = refl;
        has = ap (option_map (record_read k)) left_record ∙ ap Some back;
        undamaged = undamaged;
      };
      passes = refl;
    }

    pub left_whole : (k : Mechanism) → IsLawfulClient k next → IsLawfulClient k old.kept → IsLawfulClient k left
    left_whole k first second = left_lawful k (is_shown n old.kept next) next old.kept first second
