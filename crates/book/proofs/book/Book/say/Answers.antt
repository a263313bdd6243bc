use Rattle.std.proofs.Common.{Err, None, Ok, ap, refl, subst, sym, ◌∙◌, ◌≡◌}
use Rattle.book_model.specs.Rows.{under}
use Rattle.book_model.specs.Steps.{calls}
use Rattle.dr_model.specs.Machines.Acts.{saying}
use Rattle.client.specs.Saying.{KeeperSaysWithDraw}
use Rattle.book.specs.Books.{BookNow}
use Rattle.book.specs.Calling.{RowSays, row_in}
use Rattle.book.specs.Machines.{acts}
use Rattle.book.specs.Naming.{IsPlaceOf}
use Rattle.book.specs.RowKeepings.{RowNow, row_keeping}
use Rattle.book.specs.Stepping.{was_none}
use Rattle.book.proofs.Called.{of_book, says_at}
use Rattle.book.proofs.Said.{says_step}
use Rattle.book.proofs.Stepped.{closed_step, none_step}
use Rattle.book.proofs.book.Book.say.Goals as goal
use Rattle.session_model.specs.Contents.{text_content}

pub returns-in-Some-clause-steps : goal.returns-in-Some-clause-steps
returns-in-Some-clause-steps g c = (
  None,
  was_none refl,
  closed_step g.K.Kem.mechanism c.args.name.now c.args.self.now c.args.self.now (calls (acts (saying (text_content c.args.text.now) None)))
      c.in-Some.call refl (sym (ap (λ (b : BookNow). b.closed) c.self.view_is) ∙ sym c.closed.ensures ∙ c.in-Some.is) refl,
)

pub returns-in_default-place-clause-steps : goal.returns-in_default-place-clause-steps
returns-in_default-place-clause-steps g c = (
  None,
  was_none refl,
  none_step g.K.Kem.mechanism c.args.name.now c.args.self.now c.args.self.now (acts (saying (text_content c.args.text.now) None))
      (sym (ap (λ (b : BookNow). b.closed) c.self.view_is) ∙ sym c.closed.ensures ∙ c.in_default.is)
      (subst (λ (b : BookNow). under c.args.name.now b.rows ≡ None) c.self.view_is c.in_default-place.ensures) refl,
)

pub returns-in-Ok-clause-answers : goal.returns-in-Ok-clause-answers
returns-in-Ok-clause-answers g c =
    let old = c.args.self.now in
    let at = c.in-Some-place.at in
    let was = c.use_row.new.self in
    let is = c.say.new.keeper in
    let is_open = sym (ap (λ (b : BookNow). b.closed) c.self.view_is) ∙ sym c.closed.ensures ∙ c.in_default.is in
    let place = subst (λ (b : BookNow). IsPlaceOf c.args.name.now b.rows at) c.self.view_is c.in-Some-place.ensures in
    let same = c.use_row.ensures ∙ ap (λ (b : BookNow). row_in b at) c.self.view_is in (
      is_open,
      (
        at,
        place,
        of_book (λ (a b : RowNow). RowSays g.D.Disk.state g.W.Draws.at g.K.Kem.mechanism c.args.text.now a b
            c.args.disk.now c.say.new.disk c.args.draws.now c.say.new.draws (Ok c.in-Ok.position)) old at was is same
            (says_at g.D.Disk.state g.W.Draws.at g.K.Kem.mechanism (text_content c.args.text.now) was is c.args.disk.now c.say.new.disk
            c.args.draws.now c.say.new.draws (Ok c.in-Ok.position) c.in-Ok.ensures.exact)
            (record {
              exact = c.in-Ok.ensures.exact;
              ready = c.in-Ok.ensures.ready;
              in_worlds = c.in-Ok.ensures.in_worlds;
              spent = c.in-Ok.ensures.spent;
              fate = c.in-Ok.ensures.fate;
            }),
      ),
    )

pub returns-in-Ok-clause-steps : goal.returns-in-Ok-clause-steps
returns-in-Ok-clause-steps g c =
    let old = c.args.self.now in
    let at = c.in-Some-place.at in
    let was = c.use_row.new.self in
    let is = c.say.new.keeper in
    let is_open = sym (ap (λ (b : BookNow). b.closed) c.self.view_is) ∙ sym c.closed.ensures ∙ c.in_default.is in
    let place = subst (λ (b : BookNow). IsPlaceOf c.args.name.now b.rows at) c.self.view_is c.in-Some-place.ensures in
    let same = c.use_row.ensures ∙ ap (λ (b : BookNow). row_in b at) c.self.view_is in
    says_step g.K.Kem.mechanism c.args.name.now c.args.text.now old is.book at place (g.D.Disk.state c.args.disk.now) (c.requires is_open)
    is_open g.D.Disk.state g.W.Draws.at c.args.disk.now c.say.new.disk c.args.draws.now c.say.new.draws (Ok c.in-Ok.position)
    (of_book (λ (a b : RowNow). KeeperSaysWithDraw row_keeping g.D.Disk.state g.W.Draws.at g.K.Kem.mechanism (text_content c.args.text.now)
    a b c.args.disk.now c.say.new.disk c.args.draws.now c.say.new.draws (Ok c.in-Ok.position)) old at was is same
    (says_at g.D.Disk.state g.W.Draws.at g.K.Kem.mechanism (text_content c.args.text.now) was is c.args.disk.now c.say.new.disk
    c.args.draws.now c.say.new.draws (Ok c.in-Ok.position) c.in-Ok.ensures.exact)
    c.in-Ok.ensures.exact)

pub returns-in-Err-clause-answers : goal.returns-in-Err-clause-answers
returns-in-Err-clause-answers g c =
    let old = c.args.self.now in
    let at = c.in-Some-place.at in
    let was = c.use_row.new.self in
    let is = c.say.new.keeper in
    let is_open = sym (ap (λ (b : BookNow). b.closed) c.self.view_is) ∙ sym c.closed.ensures ∙ c.in_default.is in
    let place = subst (λ (b : BookNow). IsPlaceOf c.args.name.now b.rows at) c.self.view_is c.in-Some-place.ensures in
    let same = c.use_row.ensures ∙ ap (λ (b : BookNow). row_in b at) c.self.view_is in (
      is_open,
      (
        at,
        place,
        of_book (λ (a b : RowNow). RowSays g.D.Disk.state g.W.Draws.at g.K.Kem.mechanism c.args.text.now a b
            c.args.disk.now c.say.new.disk c.args.draws.now c.say.new.draws (Err c.in-Err.refusal)) old at was is same
            (says_at g.D.Disk.state g.W.Draws.at g.K.Kem.mechanism (text_content c.args.text.now) was is c.args.disk.now c.say.new.disk
            c.args.draws.now c.say.new.draws (Err c.in-Err.refusal) c.in-Err.ensures.exact)
            (record {
              exact = c.in-Err.ensures.exact;
              ready = c.in-Err.ensures.ready;
              in_worlds = c.in-Err.ensures.in_worlds;
              spent = c.in-Err.ensures.spent;
              fate = c.in-Err.ensures.fate;
            }),
      ),
    )

pub returns-in-Err-clause-steps : goal.returns-in-Err-clause-steps
returns-in-Err-clause-steps g c =
    let old = c.args.self.now in
    let at = c.in-Some-place.at in
    let was = c.use_row.new.self in
    let is = c.say.new.keeper in
    let is_open = sym (ap (λ (b : BookNow). b.closed) c.self.view_is) ∙ sym c.closed.ensures ∙ c.in_default.is in
    let place = subst (λ (b : BookNow). IsPlaceOf c.args.name.now b.rows at) c.self.view_is c.in-Some-place.ensures in
    let same = c.use_row.ensures ∙ ap (λ (b : BookNow). row_in b at) c.self.view_is in
    says_step g.K.Kem.mechanism c.args.name.now c.args.text.now old is.book at place (g.D.Disk.state c.args.disk.now) (c.requires is_open)
    is_open g.D.Disk.state g.W.Draws.at c.args.disk.now c.say.new.disk c.args.draws.now c.say.new.draws (Err c.in-Err.refusal)
    (of_book (λ (a b : RowNow). KeeperSaysWithDraw row_keeping g.D.Disk.state g.W.Draws.at g.K.Kem.mechanism (text_content c.args.text.now)
    a b c.args.disk.now c.say.new.disk c.args.draws.now c.say.new.draws (Err c.in-Err.refusal)) old at was is same
    (says_at g.D.Disk.state g.W.Draws.at g.K.Kem.mechanism (text_content c.args.text.now) was is c.args.disk.now c.say.new.disk
    c.args.draws.now c.say.new.draws (Err c.in-Err.refusal) c.in-Err.ensures.exact)
    c.in-Err.ensures.exact)
