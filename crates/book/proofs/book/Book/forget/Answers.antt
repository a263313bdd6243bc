use Rattle.std.proofs.Common.{None, Ok, ap, subst, sym, ◌∙◌, ◌≡◌}
use Rattle.std.proofs.Math.ListN.{set}
use Rattle.book_store.specs.Store.{without_row}
use Rattle.book.specs.Books.{BookNow, IsBookReady}
use Rattle.book.specs.Changing.{TakesPlaceOf}
use Rattle.book.specs.Naming.{IsPlaceOf}
use Rattle.book.proofs.Begun.{cleared, forgotten_step, row_inside}
use Rattle.book.proofs.book.Book.forget.Goals as goal

pub clear-requires-clause-row : goal.clear-requires-clause-row
clear-requires-clause-row g c =
    let is_open = sym c.closed.ensures ∙ c.in_default.is in
    let start = g.D.Disk.state c.args.disk.now in
    let book = c.self.inside.shelf.book in
    let ready = subst (λ (b : BookNow). b.closed ≡ None → IsBookReady b start) (sym c.self.view_is) c.requires is_open in
    row_inside c.args.name.now book c.in-Some-place.at c.in-Some-place.ensures start ready

pub returns-in-Ok-clause-forgets : goal.returns-in-Ok-clause-forgets
returns-in-Ok-clause-forgets g c =
    let old = c.args.self.now in
    let at = c.in-Some-place.at in
    let start = g.D.Disk.state c.args.disk.now in
    let end = g.D.Disk.state c.clear.new.disk in
    let is_open = sym (ap (λ (b : BookNow). b.closed) c.self.view_is) ∙ sym c.closed.ensures ∙ c.in_default.is in
    let place = subst (λ (b : BookNow). IsPlaceOf c.args.name.now b.rows at) c.self.view_is c.in-Some-place.ensures in
    let stays = c.in-Ok.ensures.stays ∙ sym c.closed.ensures ∙ c.in_default.is in
    let rows = c.in-Ok.ensures.rows ∙ ap (λ (b : BookNow). set b.rows at None) c.self.view_is in
    let takes = subst (λ (b : BookNow). TakesPlaceOf {T = Unit} 0 (without_row b.store at) c.clear.new.self.book.store
    b.store.held start end (Ok tt))
    c.self.view_is c.in-Ok.ensures.takes in (
      is_open,
      (
        at,
        place,
        cleared g.K.Kem.mechanism c.args.name.now old c.clear.new.self.book at place start end
            (c.requires is_open) takes stays rows,
      ),
    )

pub returns-in-Ok-clause-steps : goal.returns-in-Ok-clause-steps
returns-in-Ok-clause-steps g c =
    let old = c.args.self.now in
    let at = c.in-Some-place.at in
    let start = g.D.Disk.state c.args.disk.now in
    let end = g.D.Disk.state c.clear.new.disk in
    let is_open = sym (ap (λ (b : BookNow). b.closed) c.self.view_is) ∙ sym c.closed.ensures ∙ c.in_default.is in
    let place = subst (λ (b : BookNow). IsPlaceOf c.args.name.now b.rows at) c.self.view_is c.in-Some-place.ensures in
    let stays = c.in-Ok.ensures.stays ∙ sym c.closed.ensures ∙ c.in_default.is in
    let rows = c.in-Ok.ensures.rows ∙ ap (λ (b : BookNow). set b.rows at None) c.self.view_is in
    forgotten_step g.K.Kem.mechanism c.args.name.now old c.clear.new.self.book at place start end (c.requires is_open) is_open stays rows
