use Rattle.std.proofs.Common.{◌≡◌, ◌<◌, length, get_or, false, sym, ◌∙◌, ap, arith, if◌then◌else◌}
use Rattle.std.proofs.Math.ListN.{length-set}
use Rattle.std.proofs.lemmas.List.{ext_get_or, get_or_default, get_or-set_other}
use Rattle.dr_disk.specs.Memory.{filled}
use Rattle.dr_disk.proofs.Filled.{filled_more, length-filled}
use Rattle.dr_disk.proofs.platter.fill_marked.Goals as goal

pub places-preserved : goal.places-preserved
places-preserved c =
    let old = c.args.bytes.now.items in
    let bytes = c.places.bytes.items in
    let marks = c.args.marks.now.items in
    let at = c.places.at in
    let inv = c.places.invariant in
    let within : at < length old = omega arith in
    let value : c.choose.result ≡ (if get_or marks at false then c.args.byte else get_or bytes at 0) =
    c.choose.ensures
    ∙ ap (λ m. if m then c.args.byte else c.index-in-places.result.now) (c.index.ensures ∙ get_or_default marks at _ false (omega arith))
    ∙ ap (λ n. if get_or marks at false then c.args.byte else n) (c.index-in-places.ensures ∙ get_or_default bytes at _ 0 (omega arith)) in
    record {
      size = length-set bytes at c.choose.result ∙ inv.size;
      done = filled_more c.args.byte old bytes marks at c.choose.result within inv.size inv.done inv.rest value;
      rest = λ k le. get_or-set_other bytes at k c.choose.result 0 (λ e. absurd (omega arith)) ∙ inv.rest k (omega arith);
    }

pub returns-clause-bytes : goal.returns-clause-bytes
returns-clause-bytes c =
    let old = c.args.bytes.now.items in
    let full = filled c.args.byte old c.args.marks.now.items in
    let inv = c.places.invariant in
    let size : length c.places.bytes.items ≡ length full = inv.size ∙ sym (length-filled c.args.byte old c.args.marks.now.items) in
    ext_get_or 0 c.places.bytes.items full size (λ k lt. inv.done k (omega arith))
