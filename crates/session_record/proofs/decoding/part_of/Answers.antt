use Rattle.std.proofs.Common.{sym, subst, List}
use Rattle.dr_base.specs.declared.key.Kept.{Kept}
use Rattle.session_model.specs.LawfulStates.{IsLawfulState}
use Rattle.session_record.specs.Record.{state_of_groups}
use Rattle.session_record.specs.Seen.{keys_seen}
use Rattle.session_record.proofs.decoding.part_of.Goals as goal

pub resume-requires-clause-ascending : goal.resume-requires-clause-ascending
resume-requires-clause-ascending g c = c.requires.kept

pub invariant_of-result : goal.invariant_of-result
invariant_of-result g c =
    subst (λ (kept : List Kept). IsLawfulState g.K.Kem.mechanism (record (state_of_groups c.args.heading (keys_seen c.args.keys c.args.kept.now) c.args.awaiting) { kept = kept }))
    (sym c.resume.ensures) c.requires
