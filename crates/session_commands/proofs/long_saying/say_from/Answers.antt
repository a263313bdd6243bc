use Rattle.std.proofs.lemmas.Grind.{common_steps}
use Rattle.std.proofs.Common.{[], arith, refl, subst, ℕ, ◌<◌, ◌∙◌, ◌≡◌, ◌≤◌, ◌⊎◌}
use Rattle.endings.specs.declared.ending.Ending.TheVariants.{NoSuchPart}
use Rattle.long_text.specs.Cuts.{count_of}
use Rattle.session_commands.specs.LongSaying.{has_no_part, has_part}
use Rattle.session_commands.specs.Showing.{RunsTell}
use Rattle.session_commands.proofs.long_saying.say_from.Goals as goal

pub returns-then-from-lt1-clause-runs : goal.returns-then-from-lt1-clause-runs
returns-then-from-lt1-clause-runs g c =
    let tells = c.tell_no_part.ensures.runs in
    let are : c.from-count.result ≡ count_of c.args.text.now = c.from-count.ensures ∙ c.part_count.ensures.value in
    let none : (c.args.from ≡ 0) ⊎ (count_of c.args.text.now < c.args.from) = grind (arith, common_steps, are) in
    record {
      ending = tells.ending;
      lines = tells.lines;
      came =
          has_no_part tells.ending tells.lines none refl
          (subst (λ (n : ℕ). RunsTell g.D.Disk.state g.K.Kem.mechanism (λ kept. NoSuchPart n) (λ kept. []) c.args.disk.now
          c.tell_no_part.new.disk tells.ending tells.lines) are tells.came);
      ends = tells.ends;
    }

pub returns-then-from-lt1-clause-quiet : goal.returns-then-from-lt1-clause-quiet
returns-then-from-lt1-clause-quiet g c = λ zero. ((c.tell_no_part.ensures.quiet zero).0, refl)

pub returns-clause-runs : goal.returns-clause-runs
returns-clause-runs g c =
    let says = c.say_parts.ensures.runs in
    let are : c.from-count.result ≡ count_of c.args.text.now = c.from-count.ensures ∙ c.part_count.ensures.value in
    let one : 1 ≤ c.args.from = omega arith in
    let most : c.args.from ≤ count_of c.args.text.now = omega (arith, are) in
    record {
      ending = says.ending;
      lines = says.lines;
      came = has_part says.ending says.lines one most says.came;
      ends = says.ends;
    }
