use Rattle.std.proofs.Common.{arith, Ok, Some, ap, refl, sym, ◌∙◌, ◌≡◌}
use Rattle.std.proofs.lemmas.Grind.{common_steps}
use Rattle.dr_disk.specs.MemoryDisks.{state_of}
use Rattle.client.proofs.Reopening.{not_refused}
use Rattle.parties.specs.Shuts.{open_party}
use Rattle.parties.proofs.Stopped.Acts.{only_memory}
use Rattle.parties.proofs.stopping.reopened.Goals as goal

pub want_of_memory-requires : goal.want_of_memory-requires
want_of_memory-requires g c =
    let says = not_refused state_of g.K.Kem.mechanism c.args.disk c.open.new.disk c.requires.holds c.in-Err.refusal
    c.in-Err.ensures.unopened in
    only_memory c.in-Err.refusal says (c.in-Err.ensures.fate c.requires.passes).0

pub returns-in-Ok : goal.returns-in-Ok
returns-in-Ok g c = λ kept reads.
    let bytes = c.args.disk.platter.bytes.items in
    let same : Some (Ok c.in-Ok.client.kept) ≡ Some (Ok kept) = sym (c.in-Ok.ensures.opened.read bytes refl) ∙ reads bytes refl in
    let is : c.in-Ok.client.kept ≡ kept = cc in
    ap open_party is

pub invariant_of-result : goal.invariant_of-result
invariant_of-result g c = grind (arith, common_steps)
