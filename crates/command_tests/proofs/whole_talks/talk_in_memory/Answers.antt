use Rattle.std.proofs.Common.{List, subst, true, ℕ}
use Rattle.command_tests.specs.Talks.{HasPosted, HasTakenTwice}
use Rattle.command_tests.proofs.Pieces.{of_some}
use Rattle.command_tests.proofs.whole_talks.talk_in_memory.Goals as goal

pub returns-in-Some-2 : goal.returns-in-Some-2
returns-in-Some-2 g c = λ done.
    let k = g.K.Kem.mechanism in
    let begun = c.in_ok-both_begin.ensures c.if-not-branch.false in
    let posted = of_some
    (λ digits. HasPosted k c.args.text.now digits.items c.both_begin.new.first)
    c.in_ok-digits.field-0 c.in-Some.digits c.in-Some.is c.in_ok-digits.ensures in
    let took = of_some
    (λ was. HasTakenTwice k c.as_slice.result.now c.both_begin.new.second was)
    c.in_ok-done.field-0 c.in-Some-2.done c.in-Some-2.is c.in_ok-done.ensures in
    c.pieces_are_whole.ensures c.args.key.now c.args.text.now c.in-Some.digits.items
    c.both_begin.new.first c.both_begin.new.second begun posted
    (subst (λ (digits : List ℕ). HasTakenTwice k digits c.both_begin.new.second true) c.as_slice.ensures.value
    (subst (λ was. HasTakenTwice k c.as_slice.result.now c.both_begin.new.second was) done took))
