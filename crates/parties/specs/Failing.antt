-- What an act comes to in which its disk fails once.
use Rattle.std.specs.Prelude.{Err, None, Ok, Result, Some, ℕ, ◌≡◌}
use Rattle.dr_disk.specs.declared.call.Call.{Call}
use Rattle.dr_model.specs.Machines.Acts.{Act, act_on}
use Rattle.dr_model.specs.Machines.Steps.{settled, step}
use Rattle.kem_laws.specs.Mechanism.{Mechanism}
use Rattle.session_model.specs.Clients.{Client}
use Rattle.session_model.specs.declared.answer.Answer.{Answer}
use Rattle.parties.specs.Shuts.{PartyNow, failing_call, left_of, shut_party}

-- An act of which the write or sync of a number, from 1, fails: it takes place where it makes fewer, else it closes the client.
abbrev pub FailsAt : Mechanism → ℕ → Act → Client → PartyNow → Result Answer Call → Type 0
FailsAt k n act kept new (Ok answer) =
    let made = settled kept (act_on k kept act) in
    (failing_call n made.answer kept made.next ≡ None) × (step answer new.kept ≡ made) × (new.shut ≡ None)
FailsAt k n act kept new (Err call) =
    let made = settled kept (act_on k kept act) in
    (failing_call n made.answer kept made.next ≡ Some call)
    × (new ≡ shut_party kept call (left_of n kept made.next made.next kept))
