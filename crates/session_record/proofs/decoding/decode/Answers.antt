use Rattle.std.proofs.Common.{ap, arith}
use Rattle.dr_base.proofs.Bytes.{are_bytes}
use Rattle.session_record.specs.Record.{record_read, saved_of, without_version}
use Rattle.session_record.specs.Seen.{groups_read}
use Rattle.session_record.proofs.Places.{fault-place}
use Rattle.session_record.proofs.decoding.decode.Goals as goal

pub part_of-part-requires : goal.part_of-part-requires
part_of-part-requires g c =
    let bytes = are_bytes c.args.text.now (λ i. omega (arith, c.type_inv.text i)) in
    let saved = saved_of (groups_read c.in-Ok.heading c.in-Ok.keys c.read_whole.new.kept.items (c.in-Ok.awaiting, c.in-Ok.relay) c.read_whole.new.inbox c.read_whole.new.outbox) in
    rw c.as_slice.ensures.value ((c.version_law.ensures g.K.Kem.mechanism).only c.args.text.now saved bytes c.in-Ok.ensures).1.client.state

pub returns-in-Ok-clause-exact : goal.returns-in-Ok-clause-exact
unfolding record_read
returns-in-Ok-clause-exact g c = rw (c.part_of-part.ensures, c.as_slice.ensures.value) (ap without_version c.in-Ok.ensures)

pub returns-in-Ok-clause-lawful : goal.returns-in-Ok-clause-lawful
returns-in-Ok-clause-lawful g c =
    let bytes = are_bytes c.args.text.now (λ i. omega (arith, c.type_inv.text i)) in
    let saved = saved_of (groups_read c.in-Ok.heading c.in-Ok.keys c.read_whole.new.kept.items (c.in-Ok.awaiting, c.in-Ok.relay) c.read_whole.new.inbox c.read_whole.new.outbox) in
    rw (c.part_of-part.ensures, c.as_slice.ensures.value) ((c.version_law.ensures g.K.Kem.mechanism).only c.args.text.now saved bytes c.in-Ok.ensures).1.client

pub returns-in-Err-clause-exact : goal.returns-in-Err-clause-exact
unfolding record_read
returns-in-Err-clause-exact g c = ap without_version c.in-Err.ensures

pub returns-in-Err-clause-within : goal.returns-in-Err-clause-within
returns-in-Err-clause-within g c =
    let bytes = are_bytes c.args.text.now (λ i. omega (arith, c.type_inv.text i)) in
    fault-place g.K.Kem.mechanism c.args.text.now c.in-Err.at c.laws.ensures.law bytes c.in-Err.ensures
