use Rattle.std.proofs.Common.{Err, Ok, ap, subst, sym, ◌∙◌}
use Rattle.dr_model.specs.Machines.Acts.{act_on, taking}
use Rattle.client.specs.Outcomes.{KeeperActs, taken_as}
use Rattle.book.specs.Books.{BookNow}
use Rattle.book.specs.Calling.{RowTakes, row_in}
use Rattle.book.specs.Naming.{IsPlaceOf}
use Rattle.book.specs.RowKeepings.{RowNow, row_keeping}
use Rattle.book.proofs.Called.{of_book, stays_at}
use Rattle.book.proofs.Stepped.{act_step}
use Rattle.book.proofs.book.Book.take.Goals as goal

pub returns-in-Ok-clause-answers : goal.returns-in-Ok-clause-answers
returns-in-Ok-clause-answers g c =
    let old = c.args.self.now in
    let at = c.in-Some-place.at in
    let was = c.use_row.new.self in
    let is = c.take.new.keeper in
    let is_open = sym (ap (λ (b : BookNow). b.closed) c.self.view_is) ∙ sym c.closed.ensures ∙ c.in_default.is in
    let place = subst (λ (b : BookNow). IsPlaceOf c.args.name.now b.rows at) c.self.view_is c.in-Some-place.ensures in
    let same = c.use_row.ensures ∙ ap (λ (b : BookNow). row_in b at) c.self.view_is in (
      is_open,
      (
        at,
        place,
        of_book (λ (a b : RowNow). RowTakes g.D.Disk.state g.K.Kem.mechanism c.args.packet.now a b
            c.args.disk.now c.take.new.disk (Ok c.in-Ok.position)) old at was is same
            (stays_at g.D.Disk.state (act_on g.K.Kem.mechanism (row_keeping.kept was) (taking c.args.packet.now)) was is c.args.disk.now
            c.take.new.disk (taken_as (Ok c.in-Ok.position)) c.in-Ok.ensures.exact)
            (record {
              exact = c.in-Ok.ensures.exact;
              ready = c.in-Ok.ensures.ready;
              in_worlds = c.in-Ok.ensures.in_worlds;
              spent = c.in-Ok.ensures.spent;
              arrived = c.in-Ok.ensures.arrived;
              fate = c.in-Ok.ensures.fate;
            }),
      ),
    )

pub returns-in-Ok-clause-steps : goal.returns-in-Ok-clause-steps
returns-in-Ok-clause-steps g c =
    let old = c.args.self.now in
    let at = c.in-Some-place.at in
    let was = c.use_row.new.self in
    let is = c.take.new.keeper in
    let is_open = sym (ap (λ (b : BookNow). b.closed) c.self.view_is) ∙ sym c.closed.ensures ∙ c.in_default.is in
    let place = subst (λ (b : BookNow). IsPlaceOf c.args.name.now b.rows at) c.self.view_is c.in-Some-place.ensures in
    let same = c.use_row.ensures ∙ ap (λ (b : BookNow). row_in b at) c.self.view_is in
    let k = g.K.Kem.mechanism in
    act_step k c.args.name.now (taking c.args.packet.now) old is.book at place (g.D.Disk.state c.args.disk.now) (c.requires is_open)
    g.D.Disk.state c.args.disk.now c.take.new.disk (taken_as (Ok c.in-Ok.position)) is_open
    (of_book (λ (a b : RowNow). KeeperActs row_keeping g.D.Disk.state (act_on k (row_keeping.kept a) (taking c.args.packet.now)) a b
    c.args.disk.now c.take.new.disk (taken_as (Ok c.in-Ok.position))) old at was is same
    (stays_at g.D.Disk.state (act_on g.K.Kem.mechanism (row_keeping.kept was) (taking c.args.packet.now)) was is c.args.disk.now
    c.take.new.disk (taken_as (Ok c.in-Ok.position)) c.in-Ok.ensures.exact)
    c.in-Ok.ensures.exact)

pub returns-in-Err-clause-answers : goal.returns-in-Err-clause-answers
returns-in-Err-clause-answers g c =
    let old = c.args.self.now in
    let at = c.in-Some-place.at in
    let was = c.use_row.new.self in
    let is = c.take.new.keeper in
    let is_open = sym (ap (λ (b : BookNow). b.closed) c.self.view_is) ∙ sym c.closed.ensures ∙ c.in_default.is in
    let place = subst (λ (b : BookNow). IsPlaceOf c.args.name.now b.rows at) c.self.view_is c.in-Some-place.ensures in
    let same = c.use_row.ensures ∙ ap (λ (b : BookNow). row_in b at) c.self.view_is in (
      is_open,
      (
        at,
        place,
        of_book (λ (a b : RowNow). RowTakes g.D.Disk.state g.K.Kem.mechanism c.args.packet.now a b
            c.args.disk.now c.take.new.disk (Err c.in-Err.refusal)) old at was is same
            (stays_at g.D.Disk.state (act_on g.K.Kem.mechanism (row_keeping.kept was) (taking c.args.packet.now)) was is c.args.disk.now
            c.take.new.disk (taken_as (Err c.in-Err.refusal)) c.in-Err.ensures.exact)
            (record {
              exact = c.in-Err.ensures.exact;
              ready = c.in-Err.ensures.ready;
              in_worlds = c.in-Err.ensures.in_worlds;
              spent = c.in-Err.ensures.spent;
              arrived = c.in-Err.ensures.arrived;
              fate = c.in-Err.ensures.fate;
            }),
      ),
    )

pub returns-in-Err-clause-steps : goal.returns-in-Err-clause-steps
returns-in-Err-clause-steps g c =
    let old = c.args.self.now in
    let at = c.in-Some-place.at in
    let was = c.use_row.new.self in
    let is = c.take.new.keeper in
    let is_open = sym (ap (λ (b : BookNow). b.closed) c.self.view_is) ∙ sym c.closed.ensures ∙ c.in_default.is in
    let place = subst (λ (b : BookNow). IsPlaceOf c.args.name.now b.rows at) c.self.view_is c.in-Some-place.ensures in
    let same = c.use_row.ensures ∙ ap (λ (b : BookNow). row_in b at) c.self.view_is in
    let k = g.K.Kem.mechanism in
    act_step k c.args.name.now (taking c.args.packet.now) old is.book at place (g.D.Disk.state c.args.disk.now) (c.requires is_open)
    g.D.Disk.state c.args.disk.now c.take.new.disk (taken_as (Err c.in-Err.refusal)) is_open
    (of_book (λ (a b : RowNow). KeeperActs row_keeping g.D.Disk.state (act_on k (row_keeping.kept a) (taking c.args.packet.now)) a b
    c.args.disk.now c.take.new.disk (taken_as (Err c.in-Err.refusal))) old at was is same
    (stays_at g.D.Disk.state (act_on g.K.Kem.mechanism (row_keeping.kept was) (taking c.args.packet.now)) was is c.args.disk.now
    c.take.new.disk (taken_as (Err c.in-Err.refusal)) c.in-Err.ensures.exact)
    c.in-Err.ensures.exact)
