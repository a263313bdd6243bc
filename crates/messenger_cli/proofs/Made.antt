-- The numbers of a script that was made, and their lines.
use Rattle.std.proofs.Common.{List, ap, subst, ℕ, ◌∙◌, ◌≡◌}
use Rattle.std.specs.Prelude.{IsSome}
use Rattle.kem_laws.specs.Open.{open_kem}
use Rattle.kem_laws.specs.OpenLaw.{open_law}
use Rattle.session_model.specs.Schedule.{agreement_seed}
use Rattle.scripts.specs.Make.{made_script}
use Rattle.scripts.specs.Script.{Scripted}
use Rattle.duet.specs.Summary.{summary_lines}
use Rattle.duet.specs.Tally.{tally_of}
use Rattle.duet.specs.declared.tally.Tally.{Tally}
use Rattle.duet.proofs.Following.{tallies_follow}
use Rattle.duet.proofs.MadeFairly.{made_fair, made_whole}
use Rattle.messenger_cli.specs.Making.{IsSummaryOf, IsTallyOf}

pub made_tally : (rounds number : ℕ) (script : Scripted) (tally : Tally) → script ≡ made_script rounds number → tally ≡ tally_of open_kem script
    → IsSome (open_kem.meaning.pair_of (agreement_seed script.key)) → IsTallyOf rounds number tally
made_tally rounds number script tally made is pairs =
    let played : tally ≡ tally_of open_kem (made_script rounds number) = is ∙ ap (tally_of open_kem) made in
    record {
      tally_is = played;
      machine_is = played
          ∙ tallies_follow open_kem (made_script rounds number) open_law (subst (λ (s : Scripted). IsSome (open_kem.meaning.pair_of (agreement_seed s.key))) made pairs) (made_whole rounds number) (made_fair open_kem rounds number);
    }

pub made_summary : (rounds number : ℕ) (tally : Tally) (lines : List ℕ) → IsTallyOf rounds number tally → lines ≡ summary_lines tally → IsSummaryOf rounds number lines
made_summary rounds number tally lines counted is =
    record { lines_are = is ∙ ap summary_lines counted.tally_is; machine_is = is ∙ ap summary_lines counted.machine_is }
