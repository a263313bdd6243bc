use Rattle.std.proofs.Common.{[], ◌<◌, arith, length, subst, sym}
use Rattle.std.specs.Borrow.{Bor}
use Rattle.clap.specs.Walk.{Text}
use Rattle.command_words.specs.Application.{Makes}
use Rattle.command_words.proofs.Building.{all_named, how_many, one_more}
use Rattle.command_words.proofs.application.application.Goals as goal

-- what a place past the end gives
abbrev some : Bor Text
some = record { ref_ptr = (0, 0); now = [] }

pub names-preserved : goal.names-preserved
names-preserved c =
    let within : c.names.at < length c.names-names.result = omega (arith, c.names-test.true, how_many c.names-names.result c.names-names.ensures) in
    subst (Makes c.with_command-command.result) (sym (one_more c.names-names.result c.names.at some within))
    (c.with_command-command.ensures _ c.names.invariant)

pub returns : goal.returns
returns c = subst (Makes c.names.command) (all_named c.names-names.result c.names.at c.names-names.ensures c.names-test.false) c.names.invariant
