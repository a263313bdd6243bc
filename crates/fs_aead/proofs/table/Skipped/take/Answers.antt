use Rattle.std.proofs.Common.{Some, ◌∙◌, ap, sym}
use Rattle.fs_aead.specs.Rows.{no_kept}
use Rattle.fs_aead.proofs.Tables.{kept_key-at, kept_key-none, without-at, without-none}
use Rattle.fs_aead.proofs.table.Skipped.take.Goals as goal

pub returns-in-Some-clause-key : goal.returns-in-Some-clause-key
returns-in-Some-clause-key c =
    ap Some c.take_at.ensures.key
    ∙ sym (kept_key-at c.args.self.now c.args.position c.in-Some.place no_kept (sym c.in-Some.ensures.place))

pub returns-in-Some-clause-rest : goal.returns-in-Some-clause-rest
returns-in-Some-clause-rest c =
    c.take_at.ensures.rest
    ∙ sym (without-at c.args.self.now c.args.position c.in-Some.place c.in-Some.ensures.ascending (sym c.in-Some.ensures.place))

pub returns-in-None-clause-key : goal.returns-in-None-clause-key
returns-in-None-clause-key c = sym (kept_key-none c.args.self.now c.args.position (sym c.in-None.ensures.place))

pub returns-in-None-clause-rest : goal.returns-in-None-clause-rest
returns-in-None-clause-rest c = sym (without-none c.args.self.now c.args.position (sym c.in-None.ensures.place))
