use Rattle.std.proofs.Common.{Err, List, Option, ap, arith, length, refl, subst, sym, true, ◌+◌, ◌∙◌, ◌≡◌}
use Rattle.std.specs.Prelude.{is_some}
use Rattle.dr_base.specs.declared.key.Key32.{Key32}
use Rattle.book.specs.Fans.{AreAsked, none_asked}
use Rattle.book.specs.Books.{BookNow}
use Rattle.book.specs.RowKeepings.{RowNow, row_at, row_keeping}
use Rattle.book.proofs.Fanning.Asked.{asked_long}
use Rattle.book.proofs.Fanning.Steps.{asked_more, asks_next}
use Rattle.book.proofs.shelf.Shelf.ask_all.Goals as goal

pub list-init : goal.list-init
list-init g c = record {
  asked = subst (λ (s : List (Option Key32)). AreAsked g.W.Draws.at g.K.Kem.mechanism c.args.text.now c.args.self.now.book.rows
      c.args.list.now c.args.draws.now 0 c.args.draws.now s) (sym c.requires.empty) none_asked;
  same = refl;
}

pub ask-requires : goal.ask-requires
ask-requires g c = record {
  there = subst (λ (s : RowNow). row_keeping.there s) (sym c.use_row.ensures)
      (subst (λ (b : BookNow). is_some (row_at b.rows c.place.result) ≡ true) (sym c.list.invariant.same)
      (subst (λ q. is_some (row_at c.args.self.now.book.rows q) ≡ true) (sym c.place.ensures)
      (c.requires.listed c.list.i (omega (arith, c.list-test.true, c.len-i-end.ensures)))));
}

pub returns-in-Err-clause-asks : goal.returns-in-Err-clause-asks
returns-in-Err-clause-asks g c = (
  omega (arith, c.list-test.true, c.len-i-end.ensures),
  (
    c.list.draws,
    c.list.invariant.asked,
    asks_next g.W.Draws.at g.K.Kem.mechanism c.args.text.now c.args.draws.now c.args.self.now c.args.list.now c.list.i c.list.draws
        c.list.seeds.items c.list.invariant.asked c.list.self c.use_row.new.self c.place.result c.use_row.ensures c.list.invariant.same
        c.place.ensures c.ask.new.draws (Err c.in-Err.refusal) c.in-Err.ensures.asks,
  ),
)

pub list-preserved : goal.list-preserved
list-preserved g c = record {
  asked = subst (λ (s : List (Option Key32)). AreAsked g.W.Draws.at g.K.Kem.mechanism c.args.text.now c.args.self.now.book.rows
      c.args.list.now c.args.draws.now (c.list.i + 1) c.ask.new.draws s) (sym c.push.ensures.items)
      (asked_more g.W.Draws.at g.K.Kem.mechanism c.args.text.now c.args.draws.now c.args.self.now c.args.list.now c.list.i c.list.draws
      c.list.seeds.items c.list.invariant.asked c.list.self c.use_row.new.self c.place.result c.use_row.ensures c.list.invariant.same
      c.place.ensures c.ask.new.draws c.in-Ok.seed c.in-Ok.ensures.asks);
  same = ap (λ (s : RowNow). s.book) (c.ask.ensures.same ∙ c.use_row.ensures) ∙ c.list.invariant.same;
}

pub returns-clause-asks : goal.returns-clause-asks
returns-clause-asks g c =
    let end : c.list.i ≡ length c.args.list.now = omega (arith, c.list-test.false, c.len-i-end.ensures) in
    subst (λ n. AreAsked g.W.Draws.at g.K.Kem.mechanism c.args.text.now c.args.self.now.book.rows
    c.args.list.now c.args.draws.now n c.list.draws c.list.seeds.items) end c.list.invariant.asked

pub push-requires : goal.push-requires
push-requires g c =
    let long = asked_long g.W.Draws.at g.K.Kem.mechanism c.args.text.now c.args.self.now.book.rows c.args.list.now c.args.draws.now
    c.list.i c.list.draws c.list.seeds.items c.list.invariant.asked in
    omega (arith, long, c.list-test.true, c.len-i-end.ensures, c.is_fair.ensures.few)
