use Rattle.std.proofs.Common.{ℕ, List, ap, ◌∙◌}
use Rattle.std.specs.Prelude.{slice_index}
use Rattle.std.proofs.lemmas.List.{with_items_is}
use Rattle.book_store.specs.Layout.{book_layout}
use Rattle.book_store.specs.Rows.{book_pages, row_in}
use Rattle.book_store.proofs.Tabled.{placed, ready}
use Rattle.book_store.proofs.desk.Desk.commit.Goals as goal

pub returns-in-Ok-clause-takes_place : goal.returns-in-Ok-clause-takes_place
returns-in-Ok-clause-takes_place g c = λ was held before.
    let start = g.D.Disk.state c.args.disk.now in
    let items = with_items_is c.args.self.now.body c.set_turn.new.body (c.set_turn.auto.body ∙ c.deref_mut.ensures.len) in
    placed {T = Unit} c.args.self.now.second start (g.D.Disk.state c.commit.new.disk) _ c.book_layout.result
    (book_layout c.args.self.now.rows) c.deref.result.now _ c.book_layout.ensures c.deref.ensures.value
    c.in-Ok.ensures.takes_place was (book_pages held)
    (ready c.args.self.now.rows c.args.self.now.second c.args.self.now.turn c.args.self.now.body.items _ was held
    start c.next-turn.result before
    (λ r. ap (λ (b : List ℕ). row_in b r) items ∙ c.set_turn.ensures.rows r
    ∙ ap (λ (b : List ℕ). row_in b r) c.deref_mut.ensures.value)
    (ap (λ (b : List ℕ). slice_index b 0) items ∙ c.set_turn.ensures.turn)
    c.next-turn.ensures.next c.next-turn.ensures.low c.next-turn.ensures.high)

pub returns-in-Err-clause-takes_place : goal.returns-in-Err-clause-takes_place
returns-in-Err-clause-takes_place g c = λ was held before.
    let start = g.D.Disk.state c.args.disk.now in
    let items = with_items_is c.args.self.now.body c.set_turn.new.body (c.set_turn.auto.body ∙ c.deref_mut.ensures.len) in
    placed {T = Unit} c.args.self.now.second start (g.D.Disk.state c.commit.new.disk) _ c.book_layout.result
    (book_layout c.args.self.now.rows) c.deref.result.now _ c.book_layout.ensures c.deref.ensures.value
    c.in-Err.ensures.takes_place was (book_pages held)
    (ready c.args.self.now.rows c.args.self.now.second c.args.self.now.turn c.args.self.now.body.items _ was held
    start c.next-turn.result before
    (λ r. ap (λ (b : List ℕ). row_in b r) items ∙ c.set_turn.ensures.rows r
    ∙ ap (λ (b : List ℕ). row_in b r) c.deref_mut.ensures.value)
    (ap (λ (b : List ℕ). slice_index b 0) items ∙ c.set_turn.ensures.turn)
    c.next-turn.ensures.next c.next-turn.ensures.low c.next-turn.ensures.high)
