use Rattle.std.proofs.Common.{◌≡◌, ℕ, Bool, true, false, List, [], ◌++◌, length, replicate, refl, sym, ◌∙◌, ap, arith}
use Rattle.std.proofs.lemmas.Grind.{common_steps}
use Rattle.std.proofs.lemmas.List.{append-nil}
use Rattle.dr_disk.specs.declared.tape.Recorded.{Recorded}
use Rattle.dr_disk.proofs.Replays.{bytes_now, durable_now, events_now, goes_on, marks_now, total_now}
use Rattle.dr_disk.proofs.Tears.{settled_seen}
use Rattle.dr_disk.proofs.recording.RecordingDiskDisk.sync.Goals as goal

pub invariant_of-self-2 : goal.invariant_of-self-2
invariant_of-self-2 c =
    let self = c.args.self.now in
    let call : Recorded = record { at = 0; len = 0; is_sync = true } in
    let old = self.tape.calls.items in
    let kept = self.tape.bytes.items in
    let calls = c.sync.new.self.calls.items in
    let kept' = c.sync.new.self.bytes.items in
    let longer : kept' ≡ kept ++ [] = c.sync.ensures.bytes ∙ sym (append-nil kept) in
    let done = c.settle.ensures in
    record {
      sized = ap (λ (l : List ℕ). length l) done.bytes ∙ self.sized;
      total = total_now self.size old calls kept kept' call [] self.total refl c.sync.ensures.calls longer;
      bytes = bytes_now self.size old calls kept kept' call [] self.total refl c.sync.ensures.calls longer self.platter.bytes.items _ self.bytes (λ bits was. done.bytes ∙ was);
      durable = durable_now self.size old calls kept kept' call [] self.total refl c.sync.ensures.calls longer self.platter.bytes.items self.platter.durable.items _ self.bytes self.durable (λ bits was stays. done.durable ∙ was);
      marks = marks_now self.size old calls kept kept' call [] self.total refl c.sync.ensures.calls longer self.platter.marks.items _ self.marks (λ bits was. done.marks ∙ ap (λ (m : List Bool). replicate (length m) false) was);
    }

pub returns-clause-passes : goal.returns-clause-passes
returns-clause-passes c =
    let self = c.args.self.now in
    let call : Recorded = record { at = 0; len = 0; is_sync = true } in
    let old = self.tape.calls.items in
    let kept = self.tape.bytes.items in
    let calls = c.sync.new.self.calls.items in
    let kept' = c.sync.new.self.bytes.items in
    let longer : kept' ≡ kept ++ [] = c.sync.ensures.bytes ∙ sym (append-nil kept) in
    let done = c.settle.ensures in
    goes_on self.size _ _ _ _ _ _ _ _ _ _ _ _ _ _ _ _ _
    (events_now self.size old calls kept kept' call [] self.total refl c.sync.ensures.calls longer)
    (ap (λ (l : List ℕ). length l) done.bytes)
    c.count_passed.ensures.no_less (omega arith) (omega arith) (omega arith)
    (durable_now self.size old calls kept kept' call [] self.total refl c.sync.ensures.calls longer self.platter.bytes.items self.platter.durable.items _ self.bytes self.durable (λ bits was stays. done.durable ∙ was))
    (marks_now self.size old calls kept kept' call [] self.total refl c.sync.ensures.calls longer self.platter.marks.items _ self.marks (λ bits was. done.marks ∙ ap (λ (m : List Bool). replicate (length m) false) was))

pub returns-clause-settled : goal.returns-clause-settled
returns-clause-settled c = settled_seen _ _ _ _ _ c.settle.ensures.bytes c.settle.ensures.durable c.settle.ensures.marks

pub returns-then-not-has_room-clause-passes : goal.returns-then-not-has_room-clause-passes
returns-then-not-has_room-clause-passes c = grind (arith, common_steps)

pub returns-clause-unwritten : goal.returns-clause-unwritten
returns-clause-unwritten c = grind (arith, common_steps)
