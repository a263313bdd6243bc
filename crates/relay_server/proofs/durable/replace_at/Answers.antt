use Rattle.std.proofs.Common.{Err, Ok, Some, false, get_or, subst, take, true, arith}
use Rattle.std.proofs.lemmas.Option.{get_or_from_slice_get, slice_get-get_or}
use Rattle.dr_disk.specs.Called.{Called, itself}
use Rattle.slot_store.specs.Putting.{call_of}
use Rattle.slot_store.specs.Stops.{calls_of}
use Rattle.slot_store.specs.Store.{content}
use Rattle.relay_server.specs.Durable.{IsReplaced}
use Rattle.relay_server.proofs.StorePlaces.{called_err, called_ok, others_stay, put_there}
use Rattle.relay_server.proofs.durable.replace_at.Goals as goal

pub replace-requires-clause-text : goal.replace-requires-clause-text
replace-requires-clause-text g c =
    (c.requires.ready (get_or c.args.stores.now c.args.place c.index-stores-place.result)
    (slice_get-get_or c.args.stores.now c.args.place c.index-stores-place.result c.requires.inside)).0

pub replace-requires-clause-within : goal.replace-requires-clause-within
replace-requires-clause-within g c =
    (c.requires.ready (get_or c.args.stores.now c.args.place c.index-stores-place.result)
    (slice_get-get_or c.args.stores.now c.args.place c.index-stores-place.result c.requires.inside)).1

pub replace-requires-clause-at_rest : goal.replace-requires-clause-at_rest
replace-requires-clause-at_rest g c =
    (c.requires.ready (get_or c.args.stores.now c.args.place c.index-stores-place.result)
    (slice_get-get_or c.args.stores.now c.args.place c.index-stores-place.result c.requires.inside)).2

pub returns-in-Ok-clause-others : goal.returns-in-Ok-clause-others
returns-in-Ok-clause-others g c = λ j apart. others_stay c.args.stores.now c.args.place c.replace.new.self j apart

pub returns-in-Err-clause-others : goal.returns-in-Err-clause-others
returns-in-Err-clause-others g c = λ j apart. others_stay c.args.stores.now c.args.place c.replace.new.self j apart

pub returns-in-Ok-clause-there : goal.returns-in-Ok-clause-there
returns-in-Ok-clause-there g c = λ old new was now.
    subst (λ x. IsReplaced (take c.args.len c.args.text.now.items) x new (g.D.Disk.state c.args.disk.now) (g.D.Disk.state c.replace.new.disk) true)
    (get_or_from_slice_get c.args.stores.now c.args.place old c.index-stores-place.result was)
    (subst (λ y. IsReplaced (take c.args.len c.args.text.now.items) (get_or c.args.stores.now c.args.place c.index-stores-place.result) y (g.D.Disk.state c.args.disk.now) (g.D.Disk.state c.replace.new.disk) true)
    (put_there c.args.stores.now c.args.place c.replace.new.self new c.requires.inside now)
    (record {
      any_moment = c.replace.ensures.replaces.any_moment;
      same = c.replace.ensures.next.area;
      holds = λ _. c.in-Ok.ensures.holds;
      rests = λ _ f left. (c.in-Ok.ensures.done f left).0;
      outside = λ _ f left. (c.in-Ok.ensures.done f left).2;
    }))

pub returns-in-Err-clause-there : goal.returns-in-Err-clause-there
returns-in-Err-clause-there g c = λ old new was now.
    subst (λ x. IsReplaced (take c.args.len c.args.text.now.items) x new (g.D.Disk.state c.args.disk.now) (g.D.Disk.state c.replace.new.disk) false)
    (get_or_from_slice_get c.args.stores.now c.args.place old c.index-stores-place.result was)
    (subst (λ y. IsReplaced (take c.args.len c.args.text.now.items) (get_or c.args.stores.now c.args.place c.index-stores-place.result) y (g.D.Disk.state c.args.disk.now) (g.D.Disk.state c.replace.new.disk) false)
    (put_there c.args.stores.now c.args.place c.replace.new.self new c.requires.inside now)
    (record {
      any_moment = c.replace.ensures.replaces.any_moment;
      same = c.replace.ensures.next.area;
      holds = λ e. absurd cc;
      rests = λ e. absurd cc;
      outside = λ e. absurd cc;
    }))

pub returns-in-Ok-clause-room : goal.returns-in-Ok-clause-room
returns-in-Ok-clause-room g c =
    let ready = c.requires.ready (get_or c.args.stores.now c.args.place c.index-stores-place.result)
    (slice_get-get_or c.args.stores.now c.args.place c.index-stores-place.result c.requires.inside) in
    omega (arith, ready.3, c.replace.ensures.room)

pub returns-in-Err-clause-room : goal.returns-in-Err-clause-room
returns-in-Err-clause-room g c =
    let ready = c.requires.ready (get_or c.args.stores.now c.args.place c.index-stores-place.result)
    (slice_get-get_or c.args.stores.now c.args.place c.index-stores-place.result c.requires.inside) in
    omega (arith, ready.3, c.replace.ensures.room)

pub returns-in-Ok-clause-calls : goal.returns-in-Ok-clause-calls
returns-in-Ok-clause-calls g c = λ store was.
    let start = g.D.Disk.state c.args.disk.now in
    let now = g.D.Disk.state c.replace.new.disk in
    subst (λ x. Called {T = Unit {0}} (calls_of (content x) (Some (take c.args.len c.args.text.now.items))) itself start now (Ok tt))
    (get_or_from_slice_get c.args.stores.now c.args.place store c.index-stores-place.result was)
    (called_ok _ call_of start now c.in-Ok.ensures.calls)

pub returns-in-Err-clause-calls : goal.returns-in-Err-clause-calls
returns-in-Err-clause-calls g c = λ store was.
    let start = g.D.Disk.state c.args.disk.now in
    let now = g.D.Disk.state c.replace.new.disk in
    subst (λ x. Called {T = Unit {0}} (calls_of (content x) (Some (take c.args.len c.args.text.now.items))) itself start now (Err (call_of c.in-Err.fault)))
    (get_or_from_slice_get c.args.stores.now c.args.place store c.index-stores-place.result was)
    (called_err _ call_of start now c.in-Err.fault c.in-Err.ensures.calls)
