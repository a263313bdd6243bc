use Rattle.std.proofs.Common.{◌≡◌, List, ℕ, ap, arith, length, subst, sym}
use Rattle.dr_base.specs.Buffer.{Puts}
use Rattle.dr_base.proofs.Putting.{then_puts}
use Rattle.session_record.proofs.OtherTexts.{others_text}
use Rattle.session_record.proofs.others.put_others.Goals as goal

pub put_each_other-requires : goal.put_each_other-requires
put_each_other-requires c =
    omega (arith, c.requires, c.put_u8-next.ensures.next_is, c.put_u8-next.auto.out, ap (λ (l : List ℕ). length l) (others_text c.args.id c.args.inbox.now))

pub returns : goal.returns
returns c =
    then_puts (rw c.others_count.ensures.value at c.put_u8-next.ensures)
    (subst (λ (text : List ℕ). Puts c.put_u8-next.new.out c.put_each_other.new.out c.put_u8-next.result text c.put_each_other.result)
    (others_text c.args.id c.args.inbox.now) c.put_each_other.ensures)
