use Rattle.std.proofs.Common.{refl}
use Rattle.duet.proofs.Barred.{line_open}
use Rattle.duet.proofs.PlayedDeeds.{goes_along, goes_written, of_ok}
use Rattle.duet.proofs.deeds.play_freely.Goals as goal

pub play_line-written-requires-clause-open : goal.play_line-written-requires-clause-open
play_line-written-requires-clause-open g c needs = line_open _ _ _ c.in-Plain.is c.requires.open needs

pub play_stop-requires-clause-open : goal.play_stop-requires-clause-open
play_stop-requires-clause-open g c = line_open _ _ _ c.in-Stopping.is c.requires.open refl

pub play_fail-written-requires-clause-open : goal.play_fail-written-requires-clause-open
play_fail-written-requires-clause-open g c = line_open _ _ _ c.in-Failing.is c.requires.open refl

pub sync-written-requires : goal.sync-written-requires
sync-written-requires g c = record { «open» = line_open _ _ _ c.in-Syncing.is c.requires.open refl }

pub returns-in-Plain : goal.returns-in-Plain
returns-in-Plain g c =
    let e = c.play_line-written.ensures in
    goes_along _ _ _ _ _ _ _ _ _ c.in-Plain.is
    (goes_written _ _ _ _ _ _ _ _ c.play_line-written.result _ c.unless_failed.ensures (λ v is. e.next) e.counts e.writes)

pub returns-in-Stopping : goal.returns-in-Stopping
returns-in-Stopping g c = goes_along _ _ _ _ _ _ _ _ _ c.in-Stopping.is c.play_stop.ensures

pub returns-in-Failing : goal.returns-in-Failing
returns-in-Failing g c =
    let e = c.play_fail-written.ensures in
    goes_along _ _ _ _ _ _ _ _ _ c.in-Failing.is
    (goes_written _ _ _ _ _ _ _ _ c.play_fail-written.result _ c.unless_failed-in-Failing.ensures (λ v is. e.next) e.counts e.writes)

pub returns-in-Opening : goal.returns-in-Opening
returns-in-Opening g c = goes_along _ _ _ _ _ _ _ _ _ c.in-Opening.is (c.play_opening.ensures c.args.tally.now)

pub returns-in-Syncing : goal.returns-in-Syncing
returns-in-Syncing g c =
    let e = c.sync-written.ensures in
    goes_along _ _ _ _ _ _ _ _ _ c.in-Syncing.is
    (goes_written _ _ _ _ _ _ _ _ c.sync-written.result _ c.unless_failed-in-Syncing.ensures
    (λ v is. of_ok c.sync-written.result v is e.next) refl e.writes)

pub returns-in-Joining : goal.returns-in-Joining
returns-in-Joining g c = goes_along _ _ _ _ _ _ _ _ _ c.in-Joining.is (c.play_joining.ensures c.args.tally.now)
