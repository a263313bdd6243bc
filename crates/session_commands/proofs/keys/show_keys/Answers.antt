use Rattle.std.proofs.Common.{List, None, Some, arith, subst, sym, ℕ, ◌∙◌, ◌≡◌}
use Rattle.dr_ports.specs.Writing.{Writes}
use Rattle.endings.specs.Ends.{Ends}
use Rattle.session_model.specs.declared.relay_keys.RelayKeys.{RelayKeys}
use Rattle.command_lines.specs.KeysLines.{both_lines, keys_lines, lines_of_keys}
use Rattle.session_commands.specs.KeysShown.{ending_of_keys, keys_ending}
use Rattle.session_commands.proofs.Told.{tells_opened, tells_unopened}
use Rattle.session_commands.proofs.keys.show_keys.Goals as goal

pub returns-in-Err : goal.returns-in-Err
returns-in-Err g c =
    tells_unopened g.D.Disk.state g.K.Kem.mechanism keys_ending keys_lines c.args.disk.now c.open.new.disk
    (g.O.Sink.at c.args.out.now) (g.O.Sink.at c.finish.new.out) c.finish.result.code
    c.in-Err.refusal c.in-Err.ensures.unopened c.open.ensures.any_moment c.open.ensures.reads c.in-Err.ensures.in_worlds
    c.unopened.result c.unopened.ensures c.finish.ensures.ends c.finish.ensures.later

pub returns-in-None : goal.returns-in-None
returns-in-None g c =
    let kept = c.in-Ok.client.kept in
    let none : kept.relay ≡ None = sym c.relay_keys.ensures ∙ c.in-None.is in
    tells_opened g.D.Disk.state g.K.Kem.mechanism keys_ending keys_lines c.args.disk.now c.open.new.disk
    (g.O.Sink.at c.args.out.now) (g.O.Sink.at c.finish-in-None.new.out) c.finish-in-None.result.code
    (g.met.D.Disk.lawful c.open.new.disk) c.in-Ok.client c.in-Ok.ensures.opened c.open.ensures.any_moment
    c.in-Ok.ensures.still c.in-Ok.ensures.in_worlds
    (subst (λ keys. Ends (ending_of_keys keys) (lines_of_keys kept.state.session keys) (g.O.Sink.at c.args.out.now)
    (g.O.Sink.at c.finish-in-None.new.out) c.finish-in-None.result.code)
    (sym none) c.finish-in-None.ensures.ends)
    c.finish-in-None.ensures.later

pub returns : goal.returns
returns g c =
    let kept = c.in-Ok.client.kept in
    let keys : RelayKeys = c.in-Some.keys in
    let some : kept.relay ≡ Some keys = sym c.relay_keys.ensures ∙ c.in-Some.is in
    tells_opened g.D.Disk.state g.K.Kem.mechanism keys_ending keys_lines c.args.disk.now c.open.new.disk
    (g.O.Sink.at c.args.out.now) (g.O.Sink.at c.finish_written.new.out) c.finish_written.result.code
    (g.met.D.Disk.lawful c.open.new.disk) c.in-Ok.client c.in-Ok.ensures.opened c.open.ensures.any_moment
    c.in-Ok.ensures.still c.in-Ok.ensures.in_worlds
    (subst (λ keys. Ends (ending_of_keys keys) (lines_of_keys kept.state.session keys) (g.O.Sink.at c.args.out.now)
    (g.O.Sink.at c.finish_written.new.out) c.finish_written.result.code)
    (sym some)
    (c.finish_written.ensures.ends _ _
    (subst (λ (session : List ℕ). Writes (g.O.Sink.at c.args.out.now) (g.O.Sink.at c.write_keys-wrote.new.out) (both_lines session keys) c.write_keys-wrote.result)
    c.session.ensures c.write_keys-wrote.ensures)))
    (omega (arith, c.write_keys-wrote.ensures.cause.later, c.finish_written.ensures.later))
