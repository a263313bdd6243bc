use Rattle.std.proofs.Common.{◌++◌, [], List, ℕ, get_or, sym, ◌∙◌, ap, arith}
use Rattle.book_store.specs.Held.{drops_seen}
use Rattle.book_store.specs.Rows.{shifted}
use Rattle.book_store.proofs.Books.Seen.{drops_at_row, gathered_next}
use Rattle.book_store.proofs.gathering.gather.Goals as goal

pub rows-preserved : goal.rows-preserved
rows-preserved c =
    let f : ℕ → List ℕ = λ r. get_or (drops_seen c.args.staged.now c.args.rows.now) r [] in
    record {
      gathered = c.rows.invariant.gathered
          ∙ gathered_next c.args.count c.rows.row f c.rows.out.items c.append_drops.new.out.items c.rows-test.true
          (c.append_drops.ensures.drops
          ∙ ap (λ (l : List ℕ). c.rows.out.items ++ shifted c.rows.row l)
          (sym (drops_at_row c.args.staged.now c.args.rows.now c.rows.row c.index-rows-row.result _ c.requires.each
          (omega (arith, c.rows-test.true, c.requires.all)) c.index-rows-row.is)));
      long = omega (arith, c.rows.invariant.long, c.append_drops.ensures.long);
      room = omega (arith, c.rows.invariant.room, c.append_drops.ensures.room);
    }
