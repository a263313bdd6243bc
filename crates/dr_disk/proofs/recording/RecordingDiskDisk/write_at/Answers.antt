use Rattle.std.proofs.Common.{ℕ, Bool, false, List, length, refl, ◌∙◌, ap, arith}
use Rattle.std.proofs.lemmas.Grind.{common_steps}
use Rattle.dr_disk.specs.declared.tape.Recorded.{Recorded}
use Rattle.dr_disk.specs.Bytes.{overwritten}
use Rattle.dr_disk.specs.State.{all_pass}
use Rattle.dr_disk.specs.Memory.{marked, no_faults}
use Rattle.dr_disk.proofs.Filled.{left_recorded}
use Rattle.dr_disk.proofs.Overwrites.{length-overwritten}
use Rattle.dr_disk.proofs.Replays.{bytes_now, durable_now, events_now, goes_on, marks_now, total_now}
use Rattle.dr_disk.proofs.Tears.{within_written}
use Rattle.dr_disk.proofs.recording.RecordingDiskDisk.write_at.Goals as goal

pub invariant_of-self-2 : goal.invariant_of-self-2
invariant_of-self-2 c =
    let self = c.args.self.now in
    let at = c.args.at in
    let new = c.args.bytes.now in
    let call : Recorded = record { at = at; len = length new; is_sync = false } in
    let old = self.tape.calls.items in
    let kept = self.tape.bytes.items in
    let calls = c.write.new.self.calls.items in
    let kept' = c.write.new.self.bytes.items in
    let done = c.write-2.ensures in
    record {
      sized = ap (λ (l : List ℕ). length l) done.bytes ∙ length-overwritten self.platter.bytes.items at new c.requires ∙ self.sized;
      total = total_now self.size old calls kept kept' call new self.total refl c.write.ensures.calls c.write.ensures.bytes;
      bytes = bytes_now self.size old calls kept kept' call new self.total refl c.write.ensures.calls c.write.ensures.bytes self.platter.bytes.items _ self.bytes (λ bits was. done.bytes ∙ ap (λ (l : List ℕ). overwritten l at new) was);
      durable = durable_now self.size old calls kept kept' call new self.total refl c.write.ensures.calls c.write.ensures.bytes self.platter.bytes.items self.platter.durable.items _ self.bytes self.durable (λ bits was stays. done.durable ∙ stays);
      marks = marks_now self.size old calls kept kept' call new self.total refl c.write.ensures.calls c.write.ensures.bytes self.platter.marks.items _ self.marks (λ bits was. done.marks ∙ ap (λ (m : List Bool). marked m at (length new)) was);
    }

pub returns-clause-passes : goal.returns-clause-passes
returns-clause-passes c =
    let self = c.args.self.now in
    let at = c.args.at in
    let new = c.args.bytes.now in
    let call : Recorded = record { at = at; len = length new; is_sync = false } in
    let old = self.tape.calls.items in
    let kept = self.tape.bytes.items in
    let calls = c.write.new.self.calls.items in
    let kept' = c.write.new.self.bytes.items in
    let done = c.write-2.ensures in
    goes_on self.size _ _ _ _ _ _ _ _ _ _ _ _ _ _ _ _ _
    (events_now self.size old calls kept kept' call new self.total refl c.write.ensures.calls c.write.ensures.bytes)
    (ap (λ (l : List ℕ). length l) done.bytes ∙ length-overwritten self.platter.bytes.items at new c.requires)
    c.count_passed.ensures.no_less (omega arith) (omega arith) (omega arith)
    (durable_now self.size old calls kept kept' call new self.total refl c.write.ensures.calls c.write.ensures.bytes self.platter.bytes.items self.platter.durable.items _ self.bytes self.durable (λ bits was stays. done.durable ∙ stays))
    (marks_now self.size old calls kept kept' call new self.total refl c.write.ensures.calls c.write.ensures.bytes self.platter.marks.items _ self.marks (λ bits was. done.marks ∙ ap (λ (m : List Bool). marked m at (length new)) was))

pub returns-clause-within : goal.returns-clause-within
returns-clause-within c =
    let platter = c.args.self.now.platter in
    let within = within_written platter.bytes.items platter.durable.items _ platter.marks.items _ c.args.at (length c.args.bytes.now) platter.asked.items platter.asked.items all_pass all_pass 0 0 no_faults no_faults
    platter.one_mark_each c.write-2.ensures.marks c.write-2.ensures.durable c.args.bytes.now _ refl c.requires platter.agrees.size c.write-2.ensures.bytes in
    record { images = within.images; seen = within.seen }

pub returns-clause-leaves : goal.returns-clause-leaves
returns-clause-leaves c =
    let platter = c.args.self.now.platter in
    left_recorded c.args.self.now.full _ _ _ _ _ _ c.args.at c.args.bytes.now (omega (arith, platter.agrees.size)) platter.one_mark_each c.write-2.ensures.durable c.write-2.ensures.asked c.write-2.ensures.marks

pub returns-then-not-has_room-clause-passes : goal.returns-then-not-has_room-clause-passes
returns-then-not-has_room-clause-passes c = grind (arith, common_steps)

pub returns-clause-told : goal.returns-clause-told
returns-clause-told c = grind (arith, common_steps)
