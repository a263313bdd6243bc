use Rattle.std.proofs.Common.{◌≡◌, Option, Ok, sym, ◌∙◌, ap, subst}
use Rattle.dr_base.specs.Buffer.{Puts}
use Rattle.relay_guard.specs.declared.guard.Guard.{Guard}
use Rattle.relay_core.specs.Boxes.{Answer, Box, answer_in, answer_of, passed_by}
use Rattle.relay_core.proofs.Judged.{Serves, apart, serves}
use Rattle.relay_wire.specs.Frames.{framed}
use Rattle.relay_wire.specs.Replies.{Replied, reply_body}
use Rattle.relay_wire.specs.Requests.{Asked}
use Rattle.relay_wire.specs.Seen.{asked_of}
use Rattle.relay_core.proofs.mailbox.Mailbox.answer.Goals as goal

-- the box that serves is the one that was asked, with the guard then
module _ (inside box : Box) (asked : Asked) (next : Option Guard) (seen : inside ≡ box) (passed : passed_by inside.guard asked ≡ Ok next) where
  there : Serves box asked next (answer_in box asked)
  there = serves box asked next (ap (λ (b : Box). passed_by b.guard asked) (sym seen) ∙ passed)

  behind : answer_of (record inside { guard = next }) asked.ask ≡ answer_of (record box { guard = next }) asked.ask
  behind = ap (λ (b : Box). answer_of (record b { guard = next }) asked.ask) seen

  next_is : (answer_of (record inside { guard = next }) asked.ask).next ≡ (answer_in box asked).next
  next_is = ap (λ (a : Answer). a.next) (behind ∙ apart box next asked.ask) ∙ sym there.next

  reply_is : (answer_of (record inside { guard = next }) asked.ask).reply ≡ (answer_in box asked).reply
  reply_is = ap (λ (a : Answer). a.reply) (behind ∙ apart box next asked.ask) ∙ sym there.reply

pub returns-then-guarded-clause-next : goal.returns-then-guarded-clause-next
returns-then-guarded-clause-next c =
    let inside = c.self.inside in
    let was : Box = record { name = inside.name; last = inside.last; packets = inside.packets; guard = inside.guard } in
    c.serve-size.ensures.next ∙ next_is was c.args.self.now (asked_of c.args.request.now) c.pass.new.guard c.self.view_is c.in-Ok.ensures.passed

pub returns-then-guarded-clause-reply : goal.returns-then-guarded-clause-reply
returns-then-guarded-clause-reply c =
    let inside = c.self.inside in
    let was : Box = record { name = inside.name; last = inside.last; packets = inside.packets; guard = inside.guard } in
    subst (λ (r : Replied). Puts c.args.out.now c.serve-size.new.out 0 (framed (reply_body r)) c.serve-size.result.0)
    (reply_is was c.args.self.now (asked_of c.args.request.now) c.pass.new.guard c.self.view_is c.in-Ok.ensures.passed) c.serve-size.ensures.reply
