use Rattle.std.proofs.Common.{rules}
use Rattle.std.specs.Prelude.{vec_capacity}
use Rattle.relay_link.specs.Connections.{boxes_now}
use Rattle.duet.proofs.SidesOpened.{opens_first, opens_second}
use Rattle.duet.proofs.sides.Duet.opened.Goals as goal
use Rattle.duet.proofs.sides.Duet.opened.Goals.{in-First, in-Second, in-First-side, in-Second-side}

pub returns : goal.returns
returns g c =
    let d = c.self.inside in
    elim c.match-side.branch [
      | in-First w ↦ elim c.match-side-2.branch [
        | in-First-side v ↦
            opens_first d.key.bytes d.posts.items d.draws (boxes_now d.relay) (vec_capacity d.posts) c.args.self c.args.side d.first d.second
            c.in-Ok.opened c.match-side.closed c.match-side-2.first c.self.view_is c.in-Ok.ensures w.in-First.is w.closed-is v.first-is
        | in-Second-side v ↦ search rules
      ]
      | in-Second w ↦ elim c.match-side-2.branch [
        | in-First-side v ↦ search rules
        | in-Second-side v ↦
            opens_second d.key.bytes d.posts.items d.draws (boxes_now d.relay) (vec_capacity d.posts) c.args.self c.args.side d.first d.second
            c.in-Ok.opened c.match-side.closed c.match-side-2.first c.self.view_is c.in-Ok.ensures w.in-Second.is w.closed-is v.first-is
      ]
    ]
