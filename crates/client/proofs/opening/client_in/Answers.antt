use Rattle.std.proofs.Common.{Ok, Some, ap, subst, sym, ◌∙◌, ◌≡◌}
use Rattle.std.specs.Prelude.{is_some}
use Rattle.session_model.specs.States.{State}
use Rattle.session_record.specs.Lawful.{IsLawfulClient}
use Rattle.session_record.specs.Record.{client_of}
use Rattle.slot_store.specs.Store.{content}
use Rattle.client.proofs.Renewing.{has_some}
use Rattle.client.proofs.opening.client_in.Goals as goal

pub into_core-requires-clause-some : goal.into_core-requires-clause-some
into_core-requires-clause-some g c =
    let text = has_some (content c.args.store) c.requires.some in
    ap is_some (c.requires.read text.0 text.1).session_is

pub into_core-requires-clause-lawful : goal.into_core-requires-clause-lawful
into_core-requires-clause-lawful g c = λ s is.
    let text = has_some (content c.args.store) c.requires.some in
    let read = c.requires.read text.0 text.1 in
    let core = c.args.room.record.room in
    let same : read.state ≡ s = let e : Some read.state ≡ Some s = sym read.session_is ∙ is in cc in
    subst (λ (s : State). IsLawfulClient g.K.Kem.mechanism (client_of s core.inbox core.outbox c.args.room.record.keys)) same read.lawful

pub returns-clause-read : goal.returns-clause-read
returns-clause-read g c = λ text is.
    let read = c.requires.read text is in
    read.read ∙ ap Ok (sym (c.into_core.ensures read.state read.session_is))
