use Rattle.std.proofs.Common.{take, refl, sym, ap, subst, arith}
use Rattle.dr_base.specs.declared.limits.TheConstants.{PAGE}
use Rattle.pages.specs.Clearing.{AreReadBlank}
use Rattle.pages.specs.Counted.{lookings, tidyings}
use Rattle.pages.specs.Tables.{AreZeros}
use Rattle.pages.specs.Tidying.{IsToTidy}
use Rattle.pages.proofs.Counting.{few_more}
use Rattle.pages.proofs.Looking.{reads_more}
use Rattle.book_store.specs.Layout.{book_layout}
use Rattle.book_store.specs.Rows.{book_names}
use Rattle.book_store.proofs.Openings.Wiping.{blank_true, to_tidy, zeros_for}
use Rattle.book_store.proofs.settling.wipe_table.Goals as goal

pub tidy-requires-clause-read : goal.tidy-requires-clause-read
tidy-requires-clause-read g c =
    let start = g.D.Disk.state c.args.disk.now in
    subst (λ l. IsToTidy book_names l c.args.second c.args.gate c.is_blank-blank.result c.args.named.now start)
    (sym c.book_layout.ensures)
    (to_tidy c.args.rows c.args.second c.args.gate c.args.body.now start c.requires.ready c.requires.read
    c.is_blank-blank.result c.args.named.now (omega arith) c.requires.long c.is_blank-blank.ensures.zeros
    c.requires.counts c.requires.unnamed c.requires.mute)

pub tidy-requires-clause-zeros : goal.tidy-requires-clause-zeros
tidy-requires-clause-zeros g c =
    subst (λ l. AreZeros l (take PAGE c.args.zeros.now) c.args.zeros.now) (sym c.book_layout.ensures)
    (zeros_for c.args.rows c.args.zeros.now (take PAGE c.args.zeros.now) c.requires.zero refl)

pub returns-in-Ok-clause-still : goal.returns-in-Ok-clause-still
returns-in-Ok-clause-still g c = λ gate zero blank. c.tidy.ensures.still gate
    (blank_true c.is_blank-blank.result c.args.body.now c.is_blank-blank.ensures.others zero c.requires.long)
    (subst (λ l. AreReadBlank l c.args.named.now (g.D.Disk.state c.args.disk.now)) (sym c.book_layout.ensures) blank)

pub returns-in-Err-clause-still : goal.returns-in-Err-clause-still
returns-in-Err-clause-still g c = λ gate zero blank. c.tidy.ensures.still gate
    (blank_true c.is_blank-blank.result c.args.body.now c.is_blank-blank.ensures.others zero c.requires.long)
    (subst (λ l. AreReadBlank l c.args.named.now (g.D.Disk.state c.args.disk.now)) (sym c.book_layout.ensures) blank)

pub returns-in-Ok-clause-few : goal.returns-in-Ok-clause-few
returns-in-Ok-clause-few g c = few_more {T = Unit {0}} (tidyings c.book_layout.result) (tidyings (book_layout c.args.rows))
    (g.D.Disk.state c.args.disk.now) (g.D.Disk.state c.tidy.new.disk) _
    (omega (arith, ap tidyings c.book_layout.ensures)) c.in-Ok.ensures.few

pub returns-in-Err-clause-few : goal.returns-in-Err-clause-few
returns-in-Err-clause-few g c = few_more {T = Unit {0}} (tidyings c.book_layout.result) (tidyings (book_layout c.args.rows))
    (g.D.Disk.state c.args.disk.now) (g.D.Disk.state c.tidy.new.disk) _
    (omega (arith, ap tidyings c.book_layout.ensures)) c.in-Err.ensures.few

pub returns-in-Ok-clause-reads : goal.returns-in-Ok-clause-reads
returns-in-Ok-clause-reads g c = reads_more (lookings c.book_layout.result) (lookings (book_layout c.args.rows)) _ _
    (omega (arith, ap lookings c.book_layout.ensures)) c.tidy.ensures.reads

pub returns-in-Err-clause-reads : goal.returns-in-Err-clause-reads
returns-in-Err-clause-reads g c = reads_more (lookings c.book_layout.result) (lookings (book_layout c.args.rows)) _ _
    (omega (arith, ap lookings c.book_layout.ensures)) c.tidy.ensures.reads
