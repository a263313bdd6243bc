use Rattle.std.proofs.Common.{◌-◌, take, refl, sym, ap, subst, arith}
use Rattle.dr_base.specs.declared.limits.TheConstants.{PAGE}
use Rattle.pages.specs.Clearing.{AreReadBlank}
use Rattle.pages.specs.Counted.{lookings, tidyings}
use Rattle.pages.specs.Tables.{AreZeros}
use Rattle.pages.specs.Tidying.{IsToTidy}
use Rattle.pages.proofs.Counting.{few_more}
use Rattle.pages.proofs.Looking.{reads_more}
use Rattle.record_pages.specs.Tables.{record_names}
use Rattle.slot_store.specs.Areas.{layout_of}
use Rattle.slot_store.proofs.Wipings.Wiping.{blank_true, to_tidy, zeros_for}
use Rattle.slot_store.proofs.settling.wipe_table.Goals as goal

pub tidy-requires-clause-read : goal.tidy-requires-clause-read
tidy-requires-clause-read g c =
    let start = g.D.Disk.state c.args.disk.now in
    subst (λ l. IsToTidy record_names l c.args.second c.args.gate c.is_blank-blank.result c.args.named.now start)
    (sym c.layout.ensures.layout)
    (to_tidy c.args.area c.args.second c.args.gate c.args.body.now start c.requires.ready c.requires.read
    c.is_blank-blank.result c.args.named.now c.layout.ensures.lawful (omega arith) c.requires.long c.is_blank-blank.ensures.zeros
    c.requires.counts c.requires.unnamed c.requires.mute)

pub tidy-requires-clause-zeros : goal.tidy-requires-clause-zeros
tidy-requires-clause-zeros g c =
    subst (λ l. AreZeros l c.args.zeros.now (take (PAGE - 1) c.args.zeros.now)) (sym c.layout.ensures.layout)
    (zeros_for c.args.area c.args.zeros.now (take (PAGE - 1) c.args.zeros.now) c.requires.zero refl)

pub returns-in-Ok-clause-still : goal.returns-in-Ok-clause-still
returns-in-Ok-clause-still g c = λ gate zero blank. c.tidy.ensures.still gate
    (blank_true c.is_blank-blank.result c.args.body.now c.is_blank-blank.ensures.others zero c.requires.long)
    (subst (λ l. AreReadBlank l c.args.named.now (g.D.Disk.state c.args.disk.now)) (sym c.layout.ensures.layout) blank)

pub returns-in-Err-clause-still : goal.returns-in-Err-clause-still
returns-in-Err-clause-still g c = λ gate zero blank. c.tidy.ensures.still gate
    (blank_true c.is_blank-blank.result c.args.body.now c.is_blank-blank.ensures.others zero c.requires.long)
    (subst (λ l. AreReadBlank l c.args.named.now (g.D.Disk.state c.args.disk.now)) (sym c.layout.ensures.layout) blank)

pub returns-in-Ok-clause-few : goal.returns-in-Ok-clause-few
returns-in-Ok-clause-few g c = few_more {T = Unit {0}} (tidyings c.layout.result) (tidyings (layout_of c.args.area))
    (g.D.Disk.state c.args.disk.now) (g.D.Disk.state c.tidy.new.disk) _
    (omega (arith, ap tidyings c.layout.ensures.layout)) c.in-Ok.ensures.few

pub returns-in-Err-clause-few : goal.returns-in-Err-clause-few
returns-in-Err-clause-few g c = few_more {T = Unit {0}} (tidyings c.layout.result) (tidyings (layout_of c.args.area))
    (g.D.Disk.state c.args.disk.now) (g.D.Disk.state c.tidy.new.disk) _
    (omega (arith, ap tidyings c.layout.ensures.layout)) c.in-Err.ensures.few

pub returns-in-Ok-clause-reads : goal.returns-in-Ok-clause-reads
returns-in-Ok-clause-reads g c = reads_more (lookings c.layout.result) (lookings (layout_of c.args.area)) _ _
    (omega (arith, ap lookings c.layout.ensures.layout)) c.tidy.ensures.reads

pub returns-in-Err-clause-reads : goal.returns-in-Err-clause-reads
returns-in-Err-clause-reads g c = reads_more (lookings c.layout.result) (lookings (layout_of c.args.area)) _ _
    (omega (arith, ap lookings c.layout.ensures.layout)) c.tidy.ensures.reads
