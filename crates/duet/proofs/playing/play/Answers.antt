use Rattle.std.proofs.Common.{◌∙◌, ℕ, Bool, List, Err, ap, ap₂, inr, subst, sym, arith}
use Rattle.std.specs.Prelude.{IsSome}
use Rattle.bodies.specs.declared.format.Format.{Format}
use Rattle.dr_ports.specs.Writing.{TookBeginning}
use Rattle.session_model.specs.Schedule.{agreement_seed}
use Rattle.duet.specs.Held.{DuetNow, opening_duet}
use Rattle.duet.specs.Tally.{opening_tally}
use Rattle.duet.specs.Trace.{played}
use Rattle.duet.proofs.Following.{receipts_hold}
use Rattle.duet.proofs.PlayedLines.{plays_cut, plays_first, plays_last, plays_on, plays_short, tallies_last}
use Rattle.duet.proofs.playing.play.Goals as goal

pub deeds-init : goal.deeds-init
deeds-init g c =
    let k = g.K.Kem.mechanism in
    let begun : List ℕ → Bool → Format → Format → DuetNow = λ key guarded first second.
    opening_duet k key (record { first = first; second = second }) guarded c.len.result in
    plays_first k _ _ _ _ _ c.len.result c.lines-lines.ensures c.len.ensures
    (c.in-Ok.ensures.ok
    ∙ ap₂ (λ key guarded. begun key guarded c.format-first.result c.format-second.result) c.key.ensures c.guarded.ensures
    ∙ ap₂ (begun c.args.script.now.key c.args.script.now.guarded) c.format-first.ensures c.format-second.ensures)
    c.in-Ok.ensures.few (c.new-tally.ensures ∙ ap opening_tally c.rounds.ensures)

pub deeds-preserved : goal.deeds-preserved
deeds-preserved g c =
    let e = c.in-Ok-play_deed.ensures in
    plays_on _ _ _ _ _ _ _ _ _ _ _ _ c.deeds.invariant c.in-Some.ensures e.next e.counts e.whole (e.quiet (λ h. absurd (cc h)))

pub returns-in-Err-Memory-play_deed-clause-memory : goal.returns-in-Err-Memory-play_deed-clause-memory
returns-in-Err-Memory-play_deed-clause-memory g c _ =
    let short = plays_short _ _ _ _ _ _ _ c.deeds.invariant in
    inr (
      subst (λ taken. TookBeginning (g.O.Sink.at c.args.out.now).taken taken (played g.K.Kem.mechanism c.args.script.now))
          (sym (c.in-Err-Memory-play_deed.ensures.memory (ap Err c.in-Err-Memory-play_deed.field-0-is))) short,
      subst (λ key. IsSome (g.K.Kem.mechanism.meaning.pair_of (agreement_seed key))) c.key.ensures c.in-Ok.ensures.pair,
    )

pub returns-in-Err-Write-clause-write : goal.returns-in-Err-Write-clause-write
returns-in-Err-Write-clause-write g c _ =
    let e = c.in-Err-Write.ensures in (
      plays_cut _ _ _ _ _ _ _ _ _ _ c.deeds.invariant c.in-Some.ensures (e.part (ap Err c.in-Err-Write.field-0-is)),
      omega (arith, e.rose (ap Err c.in-Err-Write.field-0-is), c.deeds.invariant.quiet),
      subst (λ key. IsSome (g.K.Kem.mechanism.meaning.pair_of (agreement_seed key))) c.key.ensures c.in-Ok.ensures.pair,
    )

pub returns-in-Err-Write-clause-later : goal.returns-in-Err-Write-clause-later
returns-in-Err-Write-clause-later g c = omega (arith, c.in-Err-Write.ensures.later, c.deeds.invariant.quiet)

pub returns-clause-ok : goal.returns-clause-ok
returns-clause-ok g c = plays_last _ _ _ _ _ _ _ c.deeds.invariant c.in_default.ensures

pub returns-clause-tally : goal.returns-clause-tally
returns-clause-tally g c = c.reached.ensures ∙ tallies_last _ _ _ _ _ _ _ c.deeds.invariant c.in_default.ensures

pub returns-clause-receipts : goal.returns-clause-receipts
returns-clause-receipts g c = λ whole fair.
    receipts_hold g.K.Kem.mechanism c.args.script.now g.met.K.Kem.law
    (subst (λ key. IsSome (g.K.Kem.mechanism.meaning.pair_of (agreement_seed key))) c.key.ensures c.in-Ok.ensures.pair) whole fair
