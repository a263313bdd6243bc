use Rattle.std.proofs.Common.{[], ap, subst, sym}
use Rattle.std.specs.Prelude.{is_some}
use Rattle.endings.specs.declared.ending.Ending.TheVariants.{Done}
use Rattle.client.specs.Beginning.{begun_client}
use Rattle.book_commands.specs.Beginning.{BeginsUnder}
use Rattle.book_commands.proofs.Begins.{begun_is_there, begun_runs, refused, unopened_begins}
use Rattle.book_commands.proofs.beginning.begin_on.Goals as goal

pub returns-in-Err : goal.returns-in-Err
returns-in-Err g c =
    let k = g.K.Kem.mechanism in
    subst (λ e. BeginsUnder g.D.Disk.state k c.args.name.now c.args.begin.now c.args.disk.now c.open.new.disk e [])
    (sym c.unopened.ensures)
    (unopened_begins g.D.Disk.state k (c.record_law.ensures.written k) c.args.name.now c.args.begin.now c.args.disk.now
    c.open.new.disk c.open.ensures.any_moment c.open.ensures.reads c.in-Err.error
    (record { refused = c.in-Err.ensures.refused; memory = c.in-Err.ensures.memory }))

pub returns-in-Err-begin : goal.returns-in-Err-begin
returns-in-Err-begin g c =
    let k = g.K.Kem.mechanism in
    subst (λ e. BeginsUnder g.D.Disk.state k c.args.name.now c.args.begin.now c.args.disk.now c.begin.new.disk e [])
    (sym c.unbegun.ensures)
    (refused g.D.Disk.state k (c.record_law.ensures.written k) c.args.name.now c.args.begin.now c.args.disk.now
    c.open.new.disk c.open.ensures.any_moment c.open.ensures.reads c.in-Ok.book c.in-Ok.ensures.opened c.in-Ok.ensures.quiet
    c.resting_books.ensures (c.both_sides_follow.ensures k c.laws.ensures.law) c.begin.new.disk
    (g.met.D.Disk.lawful c.begin.new.disk) c.begin.new.self c.in-Err-begin.error c.in-Err-begin.ensures.begins)

pub begun_line-requires : goal.begun_line-requires
begun_line-requires g c =
    let k = g.K.Kem.mechanism in
    ap is_some
    (begun_is_there g.D.Disk.state k (c.record_law.ensures.written k) c.args.name.now c.args.begin.now c.args.disk.now
    c.open.new.disk c.open.ensures.any_moment c.open.ensures.reads c.in-Ok.book c.in-Ok.ensures.opened c.in-Ok.ensures.quiet
    c.resting_books.ensures (c.both_sides_follow.ensures k c.laws.ensures.law) c.begin.new.disk
    (g.met.D.Disk.lawful c.begin.new.disk) c.begin.new.self c.in-Ok-begin.ensures.begins)

pub returns : goal.returns
returns g c =
    let k = g.K.Kem.mechanism in
    let is = begun_is_there g.D.Disk.state k (c.record_law.ensures.written k) c.args.name.now c.args.begin.now c.args.disk.now
    c.open.new.disk c.open.ensures.any_moment c.open.ensures.reads c.in-Ok.book c.in-Ok.ensures.opened c.in-Ok.ensures.quiet
    c.resting_books.ensures (c.both_sides_follow.ensures k c.laws.ensures.law) c.begin.new.disk
    (g.met.D.Disk.lawful c.begin.new.disk) c.begin.new.self c.in-Ok-begin.ensures.begins in
    subst
    (λ line. BeginsUnder g.D.Disk.state k c.args.name.now c.args.begin.now c.args.disk.now c.begin.new.disk Done line)
    (sym (c.begun_line.ensures (begun_client k c.args.begin.now) is))
    (begun_runs g.D.Disk.state k (c.record_law.ensures.written k) c.args.name.now c.args.begin.now c.args.disk.now
    c.open.new.disk c.open.ensures.any_moment c.open.ensures.reads c.in-Ok.book c.in-Ok.ensures.opened c.in-Ok.ensures.quiet
    c.resting_books.ensures (c.both_sides_follow.ensures k c.laws.ensures.law) c.begin.new.disk
    (g.met.D.Disk.lawful c.begin.new.disk) c.begin.new.self c.in-Ok-begin.ensures.begins)
