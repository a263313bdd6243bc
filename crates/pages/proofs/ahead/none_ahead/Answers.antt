use Rattle.std.proofs.Common.{refl}
use Rattle.dr_disk.specs.Called.{itself}
use Rattle.dr_disk.specs.declared.call.Call.TheVariants.{Read}
use Rattle.dr_disk.proofs.Calling.{read_fails, reads_well}
use Rattle.pages.proofs.Looking.{looked}
use Rattle.pages.proofs.ReadAhead.{nothing_ahead}
use Rattle.pages.proofs.ahead.none_ahead.Goals as goal

pub returns-in_default-clause-looks : goal.returns-in_default-clause-looks
returns-in_default-clause-looks g c =
    looked _ _ _ c.end.ensures.passes c.end.ensures.unwritten c.in_default.ensures.told.passed c.end.ensures.one_read
    (read_fails itself Read _ _ _ c.in_default.ensures.told c.in_default.ensures.cause) refl

pub returns-clause-ahead : goal.returns-clause-ahead
returns-clause-ahead g c = λ bytes. nothing_ahead c.args.layout _ bytes
    (g.D.Disk.state c.args.disk.now) (g.met.D.Disk.lawful c.args.disk.now) c.requires refl
    c.in-Ok.ensures.zeros

pub returns-clause-looks : goal.returns-clause-looks
returns-clause-looks g c =
    looked _ _ _ c.end.ensures.passes c.end.ensures.unwritten c.in-Ok.ensures.told.passed c.end.ensures.one_read
    (reads_well itself Read _ _ _ _ c.in-Ok.ensures.told c.in-Ok.ensures.cause) tt
