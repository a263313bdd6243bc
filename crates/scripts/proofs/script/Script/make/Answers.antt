use Rattle.std.proofs.Common.{◌∙◌, ◌++◌, List, ap, arith}
use Rattle.std.specs.Prelude.{false, replicate}
use Rattle.scripts.specs.Deeds.{Deed}
use Rattle.scripts.specs.Heads.{both_plain}
use Rattle.scripts.specs.Script.{Scripted}
use Rattle.scripts.specs.declared.script.KemName.TheVariants.{Open}
use Rattle.scripts.proofs.Making.{makes_all, makes_first, makes_on}
use Rattle.scripts.proofs.script.Script.make.Goals as goal

pub rounds-init : goal.rounds-init
rounds-init c = makes_first _ _ _ _ c.new-made.ensures c.new-text.ensures.items

pub rounds-preserved : goal.rounds-preserved
rounds-preserved c =
    makes_on _ _ _ _ _ c.round-turn.result _ _ _ c.turn_count-count.result c.rounds.invariant (omega (arith, c.rounds-test.true)) c.ranges.rounds.fits c.round-turn.ensures.turn c.round-turn.ensures.next
    (c.in_ok-extend_from_slice.ensures.items ∙ ap (λ bytes. c.rounds.text.items ++ bytes) (c.as_bytes.ensures ∙ c.turn_text.ensures)) c.turn_count-count.ensures.count c.turn_count-count.ensures.few

pub returns : goal.returns
returns c =
    let all = makes_all _ _ _ _ _ _ c.rounds.invariant (omega arith) in
    ap (λ (deeds : List Deed). let script : Scripted = record {
      kem = Open;
      key = replicate 32 0;
      formats = both_plain;
      guarded = false;
      deeds = deeds;
      rounds = c.args.rounds;
    } in script) all.1

pub invariant_of-result : goal.invariant_of-result
invariant_of-result c = (makes_all _ _ _ _ _ _ c.rounds.invariant (omega arith)).0
