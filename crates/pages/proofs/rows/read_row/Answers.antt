use Rattle.std.proofs.Common.{◌*◌, drop, refl, arith, length-take}
use Rattle.dr_base.specs.declared.limits.TheConstants.{PAGE}
use Rattle.dr_disk.specs.Called.{itself}
use Rattle.dr_disk.specs.declared.call.Call.TheVariants.{Read}
use Rattle.dr_disk.proofs.Calling.{read_fails, reads_well}
use Rattle.pages.proofs.Looking.{looked}
use Rattle.pages.proofs.RowPages.{row_ends, row_read}
use Rattle.pages.proofs.rows.read_row.Goals as goal

pub read-requires : goal.read-requires
read-requires g c =
    omega (
      arith,
      c.page_at-at.ensures,
      c.requires.long,
      length-take (PAGE * c.args.count) c.args.into.now,
      row_ends c.args.layout c.args.number c.args.count c.requires.row
          (g.D.Disk.state c.args.disk.now).size c.requires.sound,
    )

pub returns-in_default-clause-looks : goal.returns-in_default-clause-looks
returns-in_default-clause-looks g c =
    looked _ _ _ c.read.ensures.passes c.read.ensures.unwritten c.in_default.ensures.told.passed c.read.ensures.one_read
    (read_fails itself Read _ _ _ c.in_default.ensures.told c.in_default.ensures.cause) refl

pub returns-clause-pages : goal.returns-clause-pages
returns-clause-pages g c = λ s told j lt.
    let start = g.D.Disk.state c.args.disk.now in
    let lawful = g.met.D.Disk.lawful c.args.disk.now in
    let ends = row_ends c.args.layout c.args.number c.args.count c.requires.row start.size
    c.requires.sound in
    row_read c.args.layout c.args.number c.args.count c.requires.row s c.read.new.into
    (drop (PAGE * c.args.count) c.args.into.now) _ _ j c.page_at-at.ensures
    (omega (arith, c.page_at-at.ensures, c.requires.long, length-take (PAGE * c.args.count) c.args.into.now))
    (omega (arith, ends, c.page_at-at.ensures, c.requires.long, length-take (PAGE * c.args.count) c.args.into.now, lawful.sized s (lawful.seen_now s told)))
    (c.in-Ok.ensures.bytes s told) lt

pub returns-clause-looks : goal.returns-clause-looks
returns-clause-looks g c =
    looked _ _ _ c.read.ensures.passes c.read.ensures.unwritten c.in-Ok.ensures.told.passed c.read.ensures.one_read
    (reads_well itself Read _ _ _ _ c.in-Ok.ensures.told c.in-Ok.ensures.cause) tt
