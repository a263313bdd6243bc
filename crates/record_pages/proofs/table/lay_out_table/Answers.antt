use Rattle.std.proofs.Common.{◌++◌, ◌∷◌, ℕ, List, ap, sym, ◌∙◌, arith}
use Rattle.std.specs.Prelude.{slice_index}
use Rattle.std.specs.Int.{w16, w32, to_be_bytes}
use Rattle.record_pages.proofs.Printing.{printed_more}
use Rattle.record_pages.proofs.table.lay_out_table.Goals as goal

pub numbers-preserved : goal.numbers-preserved
numbers-preserved c =
    record {
      place = omega (arith, c.put_u16-at.ensures.next_is, c.numbers.invariant.place);
      long = omega (arith, c.put_u16-at.auto.out, c.numbers.invariant.long);
      front = c.put_u16-at.ensures.front
          ∙ ap (λ (l : List ℕ). l ++ to_be_bytes w16 (slice_index c.args.numbers.now c.numbers.i)) c.numbers.invariant.front
          ∙ ap (λ (l : List ℕ). c.args.turn ∷ (to_be_bytes w32 c.args.len ++ l)) (sym (printed_more c.numbers.i c.args.numbers.now c.numbers-test.true));
    }
