use Rattle.std.proofs.Common.{List, arith, length, subst, sym, ℕ, ◌-◌, ◌<◌}
use Rattle.book.specs.Naming.{IsPlaceOf}
use Rattle.book.specs.declared.fans.list.TheConstants.{FAN_LIMIT}
use Rattle.hub.proofs.Placing.{not_refused}
use Rattle.hub.proofs.everyone.add.Goals as goal

pub unreachable-requires : goal.unreachable-requires
unreachable-requires g c =
    let place = subst (λ (n : List ℕ). IsPlaceOf n c.args.book.now.rows (c.args.number - 1))
    (sym c.peer_name.ensures.name) c.requires.named in
    let room : length c.args.list.now < FAN_LIMIT = omega (arith, c.requires.room, c.requires.few) in
    not_refused c.peer_name.result.now c.args.book.now.rows (c.args.number - 1) place c.args.list.now c.add.new.self
    c.requires.unlisted room c.in-Err.field-0 c.in-Err.ensures.adds
