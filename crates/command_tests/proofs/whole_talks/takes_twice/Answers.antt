use Rattle.command_tests.specs.Talks.{HasTaken, HasTakenTwice}
use Rattle.command_tests.proofs.Pieces.{if_ok, of_some}
use Rattle.command_tests.proofs.whole_talks.takes_twice.Goals as goal

pub returns : goal.returns
returns g c =
    let first = of_some (λ done. HasTaken g.K.Kem.mechanism c.args.digits.now c.stops.new.disk c.takes.new.disk done)
    c.in_ok-_was_done.field-0 c.in-Some._was_done c.in-Some.is c.in_ok-_was_done.ensures in
    if_ok (λ done. HasTaken g.K.Kem.mechanism c.args.digits.now c.crashes-crashed.result c.takes-2.new.disk done)
    (λ done. HasTakenTwice g.K.Kem.mechanism c.args.digits.now c.args.disk done)
    (λ done takes. record {
      stopped = c.stops.new.disk;
      rests = c.stops.ensures;
      cut = c.takes.new.disk;
      was_done = c.in-Some._was_done;
      takes = first;
      crashed = c.crashes-crashed.result;
      crashes = c.crashes-crashed.ensures;
      took = c.takes-2.new.disk;
      takes_again = takes;
    }) c.takes-2.result c.takes-2.ensures
