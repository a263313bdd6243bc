-- A last line after the lines of the work.
use Rattle.std.proofs.Common.{◌≡◌, ℕ, List, [], refl, sym, subst, ◌∙◌, ap, append-nil, arith, inl, inr}
use Rattle.dr_ports.specs.Ports.{Rose, appended}
use Rattle.dr_ports.specs.States.{SinkState}
use Rattle.dr_ports.specs.Writing.{TookBeginning}
use Rattle.dr_ports.proofs.Told.{appended-appended}
use Rattle.dr_ports.proofs.WritingLemmas.{took_of_second}
use Rattle.endings.specs.declared.ending.Ending.{Ending}
use Rattle.endings.specs.declared.ending.Ending.TheVariants.{Done}
use Rattle.endings.specs.Ending.{last_line}
use Rattle.endings.specs.Ends.{Ends}

-- what was written after the lines was written after all that stood before them
pub ends_behind : (ending : Ending) (lines : List ℕ) (old mid new : SinkState) (code : ℕ) → mid.taken ≡ appended old.taken lines → mid.faults ≡ old.faults → Ends ending [] mid new code → Ends ending lines old new code
ends_behind ending lines old mid new code e same (inl all) = inl (record {
  code_is = all.code_is;
  wrote = all.wrote ∙ ap (λ t. appended t (last_line ending)) e ∙ appended-appended old.taken lines (last_line ending);
  quiet = all.quiet ∙ same;
})
ends_behind ending lines old mid new code e same (inr cut) = inr (record {
  code_is = cut.code_is;
  wrote = took_of_second old.taken mid.taken new.taken lines (last_line ending) e cut.wrote;
  rose = omega (arith, cut.rose);
})

-- work that a failed write cut off
pub ends_cut : (lines : List ℕ) (old new : SinkState) → TookBeginning old.taken new.taken lines → Rose old.faults new.faults → Ends Done lines old new 5
unfolding last_line
ends_cut lines old new wrote rose = inr (record {
  code_is = refl;
  wrote = subst (λ text. TookBeginning old.taken new.taken text) (sym (append-nil lines)) wrote;
  rose = rose;
})
