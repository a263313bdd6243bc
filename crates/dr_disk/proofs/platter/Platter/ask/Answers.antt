use Rattle.std.proofs.Common.{length}
use Rattle.dr_disk.proofs.Bounds.{around_more}
use Rattle.dr_disk.proofs.Tears.{marks_each, now_agrees, still_agrees}
use Rattle.dr_disk.proofs.platter.Platter.ask.Goals as goal

pub invariant_of-self : goal.invariant_of-self
invariant_of-self c =
    let self = c.args.self.now in
    let n = length c.args.bytes.now in
    let bounds = c.around-low.ensures in
    record {
      agrees = still_agrees _ _ _ _ c.args.at n c.requires self.one_mark_each c.mark.ensures self.agrees;
      asks = now_agrees _ _ _ _ _ c.args.at c.args.bytes.now c.requires self.one_mark_each c.mark.ensures c.put.ensures self.asks;
      one_mark_each = marks_each _ _ _ c.args.at n c.requires self.one_mark_each c.mark.ensures;
      order = bounds.order;
      end = bounds.end (length self.durable.items) self.end c.requires;
      around = around_more self.durable.items self.marks.items _ c.args.at n self.low self.high _ _ c.requires self.one_mark_each c.mark.ensures bounds.first bounds.second self.around;
    }
