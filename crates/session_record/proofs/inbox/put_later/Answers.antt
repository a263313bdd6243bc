use Rattle.std.proofs.Common.{◌≡◌, ◌-◌, drop, length, ◌∙◌, ap, sym}
use Rattle.std.proofs.lemmas.List.{length-drop}
use Rattle.dr_base.proofs.Putting.{then_puts}
use Rattle.session_record.proofs.inbox.put_later.Goals as goal

pub returns : goal.returns
returns c =
    let count : c.len.result - c.args.from ≡ length (drop c.args.from c.args.inbox.now) =
    ap (λ n. n - c.args.from) c.len.ensures.value ∙ sym (length-drop c.args.from c.args.inbox.now) in
    then_puts (rw count at c.put_u8-next.ensures) c.put_entries.ensures
