use Rattle.std.proofs.Common.{ap, arith, subst, ◌≡◌}
use Rattle.dr_disk.specs.MemoryDisks.{state_of}
use Rattle.client.specs.Beginning.{IsUnbegun}
use Rattle.parties.specs.Shuts.{open_party}
use Rattle.parties.specs.declared.party.BeginError.TheVariants.{NoPair}
use Rattle.parties.proofs.Blank.{blank_within, first_refusal}
use Rattle.parties.proofs.party.Party.begin.Goals as goal

pub begin_error-requires : goal.begin_error-requires
begin_error-requires g c =
    let blank = c.in-Ok.ensures in
    first_refusal g.K.Kem.mechanism c.args.begin.now _ _ c.begin.new.disk (omega arith) blank c.in-Err.refusal
    c.in-Err.ensures.unbegun (c.in-Err.ensures.fate blank.fresh.fate).0

pub returns-in-Err-clause-none : goal.returns-in-Err-clause-none
returns-in-Err-clause-none g c = λ is.
    let none : c.begin_error.result ≡ NoPair = cc in
    (subst (IsUnbegun state_of g.K.Kem.mechanism c.args.begin.now c.in-Ok.disk c.begin.new.disk)
    (c.begin_error.ensures none) c.in-Err.ensures.unbegun).1

pub returns-in-Ok-begin-clause-ok : goal.returns-in-Ok-begin-clause-ok
returns-in-Ok-begin-clause-ok g c = ap open_party c.in-Ok-begin.ensures.begun.keeps

pub begin-requires : goal.begin-requires
begin-requires g c = blank_within _ _ (omega arith) c.in-Ok.ensures

pub invariant_of-result : goal.invariant_of-result
invariant_of-result g c =
    let begun = c.in-Ok-begin.ensures.begun in
    record { is_open = begun.is_open; ready = begun.ready; passes = (c.in-Ok-begin.ensures.fate c.in-Ok.ensures.fresh.fate).1 }
