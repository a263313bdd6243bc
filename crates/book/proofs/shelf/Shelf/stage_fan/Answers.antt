use Rattle.std.proofs.Common.{add-one, ap, arith, length, refl, subst, sym, ◌∙◌, ◌≡◌}
use Rattle.book.specs.Fans.{fan_of, fanned_store}
use Rattle.book.specs.Putting.{StagesFirst, with_store}
use Rattle.book.proofs.Fanning.Staged.{none_first}
use Rattle.book.proofs.Fanning.Steps.{fails_staging, inside, may, more_staged, name, next_self, once, only_store, same_rows, says, there}
use Rattle.book.proofs.Imaged.{has_rows}
use Rattle.book.proofs.shelf.Shelf.stage_fan.Goals as goal

pub list-init : goal.list-init
list-init g c =
    let store = c.args.self.now.book.store in
    let start = g.D.Disk.state c.args.disk.now in
    record {
      so = none_first g.K.Kem.mechanism (fan_of c.args.self.now.book.rows c.args.list.now c.args.text.now c.args.seeds.now.items)
          store start c.may_stage.ensures (has_rows c.resting_books.ensures store start c.requires.ready.rests);
      self_is = refl;
    }

pub stage_at-requires-clause-there : goal.stage_at-requires-clause-there
stage_at-requires-clause-there g c =
    there g.K.Kem.mechanism c.args.self.now c.args.list.now c.args.text.now c.args.seeds.now.items c.requires.say
    (g.D.Disk.state c.args.disk.now) c.requires.ready c.list.i
    (omega (arith, c.list-test.true, c.len-i-end.ensures)) c.list.self c.list.invariant.self_is c.place.result c.place.ensures
    c.seed_at.result
    c.seed_at.ensures (g.D.Disk.state c.list.disk) c.list.invariant.so

pub stage_at-requires-clause-says : goal.stage_at-requires-clause-says
stage_at-requires-clause-says g c =
    says g.K.Kem.mechanism c.args.self.now c.args.list.now c.args.text.now c.args.seeds.now.items c.requires.say
    (g.D.Disk.state c.args.disk.now) c.requires.ready c.list.i
    (omega (arith, c.list-test.true, c.len-i-end.ensures)) c.list.self c.list.invariant.self_is c.place.result c.place.ensures
    c.seed_at.result
    c.seed_at.ensures (g.D.Disk.state c.list.disk) c.list.invariant.so

pub stage_at-requires-clause-inside : goal.stage_at-requires-clause-inside
stage_at-requires-clause-inside g c =
    inside g.K.Kem.mechanism c.args.self.now c.args.list.now c.args.text.now c.args.seeds.now.items c.requires.say
    (g.D.Disk.state c.args.disk.now) c.requires.ready c.list.i
    (omega (arith, c.list-test.true, c.len-i-end.ensures)) c.list.self c.list.invariant.self_is c.place.result c.place.ensures
    c.seed_at.result
    c.seed_at.ensures (g.D.Disk.state c.list.disk) c.list.invariant.so

pub stage_at-requires-clause-once : goal.stage_at-requires-clause-once
stage_at-requires-clause-once g c =
    once g.K.Kem.mechanism c.args.self.now c.args.list.now c.args.text.now c.args.seeds.now.items c.requires.say
    (g.D.Disk.state c.args.disk.now) c.requires.ready c.list.i
    (omega (arith, c.list-test.true, c.len-i-end.ensures)) c.list.self c.list.invariant.self_is c.place.result c.place.ensures
    c.seed_at.result
    c.seed_at.ensures (g.D.Disk.state c.list.disk) c.list.invariant.so

pub stage_at-requires-clause-name : goal.stage_at-requires-clause-name
stage_at-requires-clause-name g c =
    name g.K.Kem.mechanism c.args.self.now c.args.list.now c.args.text.now c.args.seeds.now.items c.requires.say
    (g.D.Disk.state c.args.disk.now) c.requires.ready c.list.i
    (omega (arith, c.list-test.true, c.len-i-end.ensures)) c.list.self c.list.invariant.self_is c.place.result c.place.ensures
    c.seed_at.result
    c.seed_at.ensures (g.D.Disk.state c.list.disk) c.list.invariant.so

pub stage_at-requires-clause-may : goal.stage_at-requires-clause-may
stage_at-requires-clause-may g c =
    may g.K.Kem.mechanism c.args.self.now c.args.list.now c.args.text.now c.args.seeds.now.items c.requires.say
    (g.D.Disk.state c.args.disk.now) c.requires.ready c.list.i
    (omega (arith, c.list-test.true, c.len-i-end.ensures)) c.list.self c.list.invariant.self_is c.place.result c.place.ensures
    c.seed_at.result
    c.seed_at.ensures (g.D.Disk.state c.list.disk) c.list.invariant.so

pub list-preserved : goal.list-preserved
list-preserved g c = record {
  so = more_staged g.K.Kem.mechanism c.args.self.now c.args.list.now c.args.text.now c.args.seeds.now.items c.requires.say
      (g.D.Disk.state c.args.disk.now) c.requires.ready c.list.i
      (omega (arith, c.list-test.true, c.len-i-end.ensures)) c.list.self c.list.invariant.self_is c.place.result c.place.ensures
      c.seed_at.result
      c.seed_at.ensures (g.D.Disk.state c.list.disk) c.list.invariant.so c.stage_at.new.self c.stage_at.ensures.next
      (g.D.Disk.state c.stage_at.new.disk) c.stage_at.ensures.reads
      c.in-Ok.ensures.stages c.in-Ok.ensures.calls;
  self_is = next_self g.K.Kem.mechanism c.args.self.now c.args.list.now c.args.text.now c.args.seeds.now.items c.requires.say
      (g.D.Disk.state c.args.disk.now) c.requires.ready c.list.i
      (omega (arith, c.list-test.true, c.len-i-end.ensures)) c.list.self c.list.invariant.self_is c.place.result c.place.ensures
      c.seed_at.result
      c.seed_at.ensures (g.D.Disk.state c.list.disk) c.list.invariant.so c.stage_at.new.self c.stage_at.ensures.next
      (g.D.Disk.state c.stage_at.new.disk) c.stage_at.ensures.reads
      ∙ ap (λ m. with_store c.args.self.now (fanned_store g.K.Kem.mechanism
      (fan_of c.args.self.now.book.rows c.args.list.now c.args.text.now c.args.seeds.now.items) c.args.self.now.book.store m))
      (sym (add-one c.list.i));
}

pub returns-in-Err : goal.returns-in-Err
returns-in-Err g c = (
  only_store g.K.Kem.mechanism c.args.self.now c.args.list.now c.args.text.now c.args.seeds.now.items c.requires.say
      (g.D.Disk.state c.args.disk.now) c.requires.ready c.list.i
      (omega (arith, c.list-test.true, c.len-i-end.ensures)) c.list.self c.list.invariant.self_is c.place.result c.place.ensures
      c.seed_at.result
      c.seed_at.ensures (g.D.Disk.state c.list.disk) c.list.invariant.so c.stage_at.new.self c.stage_at.ensures.next
      (g.D.Disk.state c.stage_at.new.disk) c.stage_at.ensures.reads,
  same_rows g.K.Kem.mechanism c.args.self.now c.args.list.now c.args.text.now c.args.seeds.now.items c.requires.say
      (g.D.Disk.state c.args.disk.now) c.requires.ready c.list.i
      (omega (arith, c.list-test.true, c.len-i-end.ensures)) c.list.self c.list.invariant.self_is c.place.result c.place.ensures
      c.seed_at.result
      c.seed_at.ensures (g.D.Disk.state c.list.disk) c.list.invariant.so c.stage_at.new.self c.stage_at.ensures.next
      (g.D.Disk.state c.stage_at.new.disk) c.stage_at.ensures.reads,
  fails_staging g.K.Kem.mechanism c.args.self.now c.args.list.now c.args.text.now c.args.seeds.now.items c.requires.say
      (g.D.Disk.state c.args.disk.now) c.requires.ready c.list.i
      (omega (arith, c.list-test.true, c.len-i-end.ensures)) c.list.self c.list.invariant.self_is c.place.result c.place.ensures
      c.seed_at.result
      c.seed_at.ensures (g.D.Disk.state c.list.disk) c.list.invariant.so c.stage_at.new.self c.stage_at.ensures.next
      (g.D.Disk.state c.stage_at.new.disk) c.stage_at.ensures.reads
      c.in-Err.fault c.in-Err.ensures.stages c.in-Err.ensures.calls c.in-Err.ensures.kind,
)

pub returns : goal.returns
returns g c =
    let k = g.K.Kem.mechanism in
    let was = c.args.self.now in
    let fan = fan_of was.book.rows c.args.list.now c.args.text.now c.args.seeds.now.items in
    let end : c.list.i ≡ length c.args.list.now = omega (arith, c.list-test.false, c.len-i-end.ensures) in (
      c.list.invariant.self_is ∙ ap (λ m. with_store was (fanned_store k fan was.book.store m)) end,
      subst (λ m. StagesFirst k fan was.book.store (g.D.Disk.state c.args.disk.now) (g.D.Disk.state c.list.disk) m) end
          c.list.invariant.so,
    )
