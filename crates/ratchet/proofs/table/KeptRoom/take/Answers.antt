use Rattle.std.proofs.Common.{ap, sym, ◌∙◌}
use Rattle.fs_aead.proofs.Tables.{kept_key-none, without-none}
use Rattle.ratchet.specs.Seen.{kept_in}
use Rattle.ratchet.proofs.table.KeptRoom.take.Goals as goal

pub returns-in-None-clause-key : goal.returns-in-None-clause-key
returns-in-None-clause-key c = sym (kept_key-none c.args.kept.now c.args.position (sym c.in-None.ensures.place))

pub returns-in-None-clause-rest : goal.returns-in-None-clause-rest
returns-in-None-clause-rest c =
    ap (kept_in c.args.kept.now) c.requires ∙ sym (without-none c.args.kept.now c.args.position (sym c.in-None.ensures.place))
