use Rattle.std.proofs.Common.{Err, Ok, ap, refl, subst, sym, ◌∙◌}
use Rattle.book.specs.Books.{BookNow}
use Rattle.book.specs.Fanning.{AsksInTurn}
use Rattle.book.specs.Fans.{AreListed}
use Rattle.book.proofs.Fanning.Put.{all_of, refused, said_by_all, still_open}
use Rattle.book.proofs.book.Book.fan.Goals as goal

pub ask_all-requires-clause-listed : goal.ask_all-requires-clause-listed
ask_all-requires-clause-listed g c =
    subst (λ (b : BookNow). AreListed b.rows c.args.list.now) (sym c.self.view_is) c.requires.listed

pub returns-in-Err : goal.returns-in-Err
returns-in-Err g c =
    refused g.D.Disk.state g.W.Draws.at g.K.Kem.mechanism c.args.text.now c.args.list.now c.args.self.now
    c.ask_all.new.self.book (c.ask_all.ensures.same ∙ c.self.view_is)
    (sym (ap (λ (b : BookNow). b.closed) c.self.view_is) ∙ sym c.closed.ensures ∙ c.in_default.is)
    c.args.disk.now c.args.draws.now c.ask_all.new.draws c.ask_all.new.seeds.items c.in-Err.refusal c.args.disk.now refl
    (subst (λ (b : BookNow). AsksInTurn g.W.Draws.at g.K.Kem.mechanism c.args.text.now b.rows c.args.list.now
    c.args.draws.now c.ask_all.new.draws c.ask_all.new.seeds.items (Err c.in-Err.refusal)) c.self.view_is c.in-Err.ensures.asks)

pub fan_out-requires-clause-say : goal.fan_out-requires-clause-say
fan_out-requires-clause-say g c =
    all_of g.D.Disk.state g.W.Draws.at g.K.Kem.mechanism c.args.text.now c.args.list.now c.args.self.now
    c.ask_all.new.self.book (c.ask_all.ensures.same ∙ c.self.view_is)
    (sym (ap (λ (b : BookNow). b.closed) c.self.view_is) ∙ sym c.closed.ensures ∙ c.in_default.is)
    c.args.disk.now c.args.draws.now c.ask_all.new.draws c.ask_all.new.seeds.items
    (subst (λ (b : BookNow). AsksInTurn g.W.Draws.at g.K.Kem.mechanism c.args.text.now b.rows c.args.list.now
    c.args.draws.now c.ask_all.new.draws c.ask_all.new.seeds.items (Ok tt)) c.self.view_is c.in-Ok.ensures.asks)
    c.is_fair.ensures c.requires.listed

pub fan_out-requires-clause-open : goal.fan_out-requires-clause-open
fan_out-requires-clause-open g c =
    still_open g.D.Disk.state g.W.Draws.at g.K.Kem.mechanism c.args.text.now c.args.list.now c.args.self.now
    c.ask_all.new.self.book (c.ask_all.ensures.same ∙ c.self.view_is)
    (sym (ap (λ (b : BookNow). b.closed) c.self.view_is) ∙ sym c.closed.ensures ∙ c.in_default.is)
    c.args.disk.now c.args.draws.now c.ask_all.new.draws c.ask_all.new.seeds.items
    (subst (λ (b : BookNow). AsksInTurn g.W.Draws.at g.K.Kem.mechanism c.args.text.now b.rows c.args.list.now
    c.args.draws.now c.ask_all.new.draws c.ask_all.new.seeds.items (Ok tt)) c.self.view_is c.in-Ok.ensures.asks)
    c.requires.may

pub returns-in-Ok-fan_out : goal.returns-in-Ok-fan_out
returns-in-Ok-fan_out g c =
    said_by_all g.D.Disk.state g.W.Draws.at g.K.Kem.mechanism c.args.text.now c.args.list.now c.args.self.now
    c.ask_all.new.self.book (c.ask_all.ensures.same ∙ c.self.view_is)
    (sym (ap (λ (b : BookNow). b.closed) c.self.view_is) ∙ sym c.closed.ensures ∙ c.in_default.is)
    c.args.disk.now c.args.draws.now c.ask_all.new.draws c.ask_all.new.seeds.items
    (subst (λ (b : BookNow). AsksInTurn g.W.Draws.at g.K.Kem.mechanism c.args.text.now b.rows c.args.list.now
    c.args.draws.now c.ask_all.new.draws c.ask_all.new.seeds.items (Ok tt)) c.self.view_is c.in-Ok.ensures.asks)
    c.fan_out.new.self.book (g.D.Disk.state c.fan_out.new.disk) (Ok tt) (c.is_empty.ensures.some c.if-is_empty.false)
    c.in-Ok-fan_out.ensures

pub returns-in-Err-fan_out : goal.returns-in-Err-fan_out
returns-in-Err-fan_out g c =
    said_by_all g.D.Disk.state g.W.Draws.at g.K.Kem.mechanism c.args.text.now c.args.list.now c.args.self.now
    c.ask_all.new.self.book (c.ask_all.ensures.same ∙ c.self.view_is)
    (sym (ap (λ (b : BookNow). b.closed) c.self.view_is) ∙ sym c.closed.ensures ∙ c.in_default.is)
    c.args.disk.now c.args.draws.now c.ask_all.new.draws c.ask_all.new.seeds.items
    (subst (λ (b : BookNow). AsksInTurn g.W.Draws.at g.K.Kem.mechanism c.args.text.now b.rows c.args.list.now
    c.args.draws.now c.ask_all.new.draws c.ask_all.new.seeds.items (Ok tt)) c.self.view_is c.in-Ok.ensures.asks)
    c.fan_out.new.self.book (g.D.Disk.state c.fan_out.new.disk) (Err c.in-Err-fan_out.fault) (c.is_empty.ensures.some c.if-is_empty.false)
    c.in-Err-fan_out.ensures
