use Rattle.std.proofs.Common.{◌≤◌, vec_capacity}
use Rattle.record_pages.proofs.Turns.{IsSoFar}
use Rattle.record_pages.proofs.planning.plan_pages.Given as goal

abbrev pub invariant-pages : goal.invariant-pages
invariant-pages l = record {
  so : IsSoFar l.held l.count l.bytes l.text l.fn.numbers.items l.free l.at l.numbers.items l.plan.places.items l.plan.dropped.items;
  room : vec_capacity l.fn.numbers ≤ vec_capacity l.numbers;
  places_room : vec_capacity l.fn.plan.places ≤ vec_capacity l.plan.places;
  dropped_room : vec_capacity l.fn.plan.dropped ≤ vec_capacity l.plan.dropped;
}
