use Rattle.std.proofs.Common.{◌≡◌, ℕ, List, length, ap, refl, sym, ◌∙◌, subst, arith}
use Rattle.std.proofs.lemmas.List.{with_items_is}
use Rattle.dr_disk.specs.State.{OnSeen}
use Rattle.pages.specs.Layouts.{IsPage}
use Rattle.pages.specs.Snapshots.{page_of}
use Rattle.pages.specs.Writing.{AreWritten, Stages, piece_at}
use Rattle.book_store.specs.Desk.{StandsStaged, holding}
use Rattle.book_store.specs.Rows.{book_names, row_in, row_names, row_text, with_row_in}
use Rattle.book_store.proofs.Names.{names_back}
use Rattle.book_store.proofs.Staged.{staged}
use Rattle.book_store.proofs.desk.Desk.stage.Goals as goal

pub returns-clause-staged : goal.returns-clause-staged
returns-clause-staged g c = λ was held next before plan.
    let start = g.D.Disk.state c.args.disk.now in
    let now = g.D.Disk.state c.write_pages.new.disk in
    let new = c.put_row.new.body in
    let items = with_items_is c.args.self.now.body new (c.put_row.auto.body ∙ c.deref_mut.ensures.len) in
    subst (λ b. StandsStaged c.args.self.now.rows c.args.self.now.second c.args.self.now.turn b was
    (holding held c.args.row next) now) (sym items)
    (staged c.args.self.now.rows c.args.row c.args.self.now.second c.args.self.now.turn
    c.args.self.now.body.items new was held next start now c.args.numbers.now c.args.fresh.now
    c.args.places.now c.args.pages.now before plan
    (subst (λ l. Stages book_names l c.args.fresh.now start now) c.book_layout.ensures c.write_pages.ensures.stages)
    (subst (λ l. OnSeen (AreWritten l c.args.fresh.now (piece_at c.args.pages.now c.args.places.now)
    (length c.args.fresh.now) start) now) c.book_layout.ensures c.in-Ok.ensures.written)
    c.requires.writes.pieces c.requires.row
    (ap row_names c.put_row.ensures.this
    ∙ names_back c.args.name.now c.args.len c.args.numbers.now c.requires.named (omega (arith, c.ranges.len.fits))
    c.requires.each c.requires.small)
    (λ r other. c.put_row.ensures.others r other ∙ ap (λ (b : List ℕ). row_in b r) c.deref_mut.ensures.value))

pub returns-clause-rest : goal.returns-clause-rest
returns-clause-rest g c = λ s told.
    let late = c.in-Ok.ensures.written s told in
    record {
      read = late.read;
      told = late.told;
      rest = λ m is none.
          subst (λ l. page_of l s m ≡ page_of l late.read m) c.book_layout.ensures
          (late.others m (subst (λ l. IsPage l m) (sym c.book_layout.ensures) is) none);
    }

pub returns-clause-next : goal.returns-clause-next
returns-clause-next g c = record {
  rows = refl;
  second = refl;
  turn = refl;
  body_is = with_items_is c.args.self.now.body c.put_row.new.body (c.put_row.auto.body ∙ c.deref_mut.ensures.len)
      ∙ c.put_row.ensures.whole
      ∙ ap (λ (b : List ℕ). with_row_in b c.args.row (row_text c.args.name.now c.args.len c.args.numbers.now))
      c.deref_mut.ensures.value;
}

pub returns-in-Err-clause-next : goal.returns-in-Err-clause-next
returns-in-Err-clause-next g c = record {
  rows = refl;
  second = refl;
  turn = refl;
  body_is = with_items_is c.args.self.now.body c.put_row.new.body (c.put_row.auto.body ∙ c.deref_mut.ensures.len)
      ∙ c.put_row.ensures.whole
      ∙ ap (λ (b : List ℕ). with_row_in b c.args.row (row_text c.args.name.now c.args.len c.args.numbers.now))
      c.deref_mut.ensures.value;
}
