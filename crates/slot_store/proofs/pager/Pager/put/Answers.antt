use Rattle.std.proofs.Common.{arith, refl, take}
use Rattle.slot_store.proofs.Puts.PutCalls.{IsCall, came_here, done_here, enough_free, failed_here, passed_here, reads_here, stopped_here, to_write_here, whole_here}
use Rattle.paged_records.proofs.Texts.{held_fits}
use Rattle.slot_store.specs.Areas.{bounds_of}
use Rattle.slot_store.proofs.pager.Pager.put.Goals as goal

pub slice_bounds-fresh-end : goal.slice_bounds-fresh-end
slice_bounds-fresh-end g c =
    enough_free c.args.self.now c.stage.new.self (take c.args.len c.args.text.now.items) c.len.result c.deref.result.now
    c.stage.ensures.staged (held_fits (bounds_of c.args.self.now.area) c.args.text.now c.args.len c.requires.text)
    (omega (arith, c.len.ensures, c.stage.new.self.draft.plan.places.ok.0)) c.deref.ensures.value

pub put-requires-clause-writes : goal.put-requires-clause-writes
put-requires-clause-writes g c =
    let call : IsCall c.args.self.now c.stage.new.self (take c.args.len c.args.text.now.items)
    (g.D.Disk.state c.args.disk.now) c.layout.result c.len.result c.deref.result.now
    c.deref-2.result.now c.deref-3.result.now c.deref-4.result.now = record {
      set = record {
        staged = c.stage.ensures.staged;
        fits = held_fits (bounds_of c.args.self.now.area) c.args.text.now c.args.len c.requires.text;
        ends = omega (arith, c.size-size.ensures, c.size-size.type_inv);
        within = c.requires.within;
        lawful = g.met.D.Disk.lawful c.args.disk.now;
        rests = c.requires.at_rest;
      };
      lay_is = c.layout.ensures.layout;
      k_is = omega (arith, c.len.ensures, c.stage.new.self.draft.plan.places.ok.0);
      free_are = c.deref.ensures.value;
      places_are = c.deref-2.ensures.value;
      bytes_are = c.deref-3.ensures.value;
      body_is = c.deref-4.ensures.value;
    } in
    to_write_here call

pub returns-in-Ok-clause-replaces : goal.returns-in-Ok-clause-replaces
returns-in-Ok-clause-replaces g c =
    let call : IsCall c.args.self.now c.stage.new.self (take c.args.len c.args.text.now.items)
    (g.D.Disk.state c.args.disk.now) c.layout.result c.len.result c.deref.result.now
    c.deref-2.result.now c.deref-3.result.now c.deref-4.result.now = record {
      set = record {
        staged = c.stage.ensures.staged;
        fits = held_fits (bounds_of c.args.self.now.area) c.args.text.now c.args.len c.requires.text;
        ends = omega (arith, c.size-size.ensures, c.size-size.type_inv);
        within = c.requires.within;
        lawful = g.met.D.Disk.lawful c.args.disk.now;
        rests = c.requires.at_rest;
      };
      lay_is = c.layout.ensures.layout;
      k_is = omega (arith, c.len.ensures, c.stage.new.self.draft.plan.places.ok.0);
      free_are = c.deref.ensures.value;
      places_are = c.deref-2.ensures.value;
      bytes_are = c.deref-3.ensures.value;
      body_is = c.deref-4.ensures.value;
    } in
    record {
      any_moment = whole_here call (g.D.Disk.state c.put.new.disk) _ c.in-Ok.ensures.takes_place;
      reads = reads_here call (g.D.Disk.state c.put.new.disk) c.in-Ok.ensures.runs.reads;
      stopped = tt;
    }

pub returns-in-Ok-clause-done : goal.returns-in-Ok-clause-done
returns-in-Ok-clause-done g c =
    let call : IsCall c.args.self.now c.stage.new.self (take c.args.len c.args.text.now.items)
    (g.D.Disk.state c.args.disk.now) c.layout.result c.len.result c.deref.result.now
    c.deref-2.result.now c.deref-3.result.now c.deref-4.result.now = record {
      set = record {
        staged = c.stage.ensures.staged;
        fits = held_fits (bounds_of c.args.self.now.area) c.args.text.now c.args.len c.requires.text;
        ends = omega (arith, c.size-size.ensures, c.size-size.type_inv);
        within = c.requires.within;
        lawful = g.met.D.Disk.lawful c.args.disk.now;
        rests = c.requires.at_rest;
      };
      lay_is = c.layout.ensures.layout;
      k_is = omega (arith, c.len.ensures, c.stage.new.self.draft.plan.places.ok.0);
      free_are = c.deref.ensures.value;
      places_are = c.deref-2.ensures.value;
      bytes_are = c.deref-3.ensures.value;
      body_is = c.deref-4.ensures.value;
    } in
    done_here call (g.D.Disk.state c.put.new.disk) _ c.in-Ok.ensures.takes_place

pub returns-in-Ok-clause-calls : goal.returns-in-Ok-clause-calls
returns-in-Ok-clause-calls g c =
    let call : IsCall c.args.self.now c.stage.new.self (take c.args.len c.args.text.now.items)
    (g.D.Disk.state c.args.disk.now) c.layout.result c.len.result c.deref.result.now
    c.deref-2.result.now c.deref-3.result.now c.deref-4.result.now = record {
      set = record {
        staged = c.stage.ensures.staged;
        fits = held_fits (bounds_of c.args.self.now.area) c.args.text.now c.args.len c.requires.text;
        ends = omega (arith, c.size-size.ensures, c.size-size.type_inv);
        within = c.requires.within;
        lawful = g.met.D.Disk.lawful c.args.disk.now;
        rests = c.requires.at_rest;
      };
      lay_is = c.layout.ensures.layout;
      k_is = omega (arith, c.len.ensures, c.stage.new.self.draft.plan.places.ok.0);
      free_are = c.deref.ensures.value;
      places_are = c.deref-2.ensures.value;
      bytes_are = c.deref-3.ensures.value;
      body_is = c.deref-4.ensures.value;
    } in
    passed_here call (g.D.Disk.state c.put.new.disk) _ _ c.in-Ok.ensures.runs

pub returns-in-Err-clause-replaces : goal.returns-in-Err-clause-replaces
returns-in-Err-clause-replaces g c =
    let call : IsCall c.args.self.now c.stage.new.self (take c.args.len c.args.text.now.items)
    (g.D.Disk.state c.args.disk.now) c.layout.result c.len.result c.deref.result.now
    c.deref-2.result.now c.deref-3.result.now c.deref-4.result.now = record {
      set = record {
        staged = c.stage.ensures.staged;
        fits = held_fits (bounds_of c.args.self.now.area) c.args.text.now c.args.len c.requires.text;
        ends = omega (arith, c.size-size.ensures, c.size-size.type_inv);
        within = c.requires.within;
        lawful = g.met.D.Disk.lawful c.args.disk.now;
        rests = c.requires.at_rest;
      };
      lay_is = c.layout.ensures.layout;
      k_is = omega (arith, c.len.ensures, c.stage.new.self.draft.plan.places.ok.0);
      free_are = c.deref.ensures.value;
      places_are = c.deref-2.ensures.value;
      bytes_are = c.deref-3.ensures.value;
      body_is = c.deref-4.ensures.value;
    } in
    record {
      any_moment = whole_here call (g.D.Disk.state c.put.new.disk) _ c.in-Err.ensures.takes_place;
      reads = reads_here call (g.D.Disk.state c.put.new.disk) c.in-Err.ensures.runs.reads;
      stopped = stopped_here call {T = Unit} (g.D.Disk.state c.put.new.disk) c.in-Err.call
          c.in-Err.ensures.takes_place;
    }

pub returns-in-Err-clause-calls : goal.returns-in-Err-clause-calls
returns-in-Err-clause-calls g c =
    let call : IsCall c.args.self.now c.stage.new.self (take c.args.len c.args.text.now.items)
    (g.D.Disk.state c.args.disk.now) c.layout.result c.len.result c.deref.result.now
    c.deref-2.result.now c.deref-3.result.now c.deref-4.result.now = record {
      set = record {
        staged = c.stage.ensures.staged;
        fits = held_fits (bounds_of c.args.self.now.area) c.args.text.now c.args.len c.requires.text;
        ends = omega (arith, c.size-size.ensures, c.size-size.type_inv);
        within = c.requires.within;
        lawful = g.met.D.Disk.lawful c.args.disk.now;
        rests = c.requires.at_rest;
      };
      lay_is = c.layout.ensures.layout;
      k_is = omega (arith, c.len.ensures, c.stage.new.self.draft.plan.places.ok.0);
      free_are = c.deref.ensures.value;
      places_are = c.deref-2.ensures.value;
      bytes_are = c.deref-3.ensures.value;
      body_is = c.deref-4.ensures.value;
    } in
    failed_here call {T = Unit} {U = Unit} (g.D.Disk.state c.put.new.disk) c.in-Err.call _
    c.in-Err.ensures.runs refl

pub returns-in-Err-clause-kind : goal.returns-in-Err-clause-kind
returns-in-Err-clause-kind g c =
    let call : IsCall c.args.self.now c.stage.new.self (take c.args.len c.args.text.now.items)
    (g.D.Disk.state c.args.disk.now) c.layout.result c.len.result c.deref.result.now
    c.deref-2.result.now c.deref-3.result.now c.deref-4.result.now = record {
      set = record {
        staged = c.stage.ensures.staged;
        fits = held_fits (bounds_of c.args.self.now.area) c.args.text.now c.args.len c.requires.text;
        ends = omega (arith, c.size-size.ensures, c.size-size.type_inv);
        within = c.requires.within;
        lawful = g.met.D.Disk.lawful c.args.disk.now;
        rests = c.requires.at_rest;
      };
      lay_is = c.layout.ensures.layout;
      k_is = omega (arith, c.len.ensures, c.stage.new.self.draft.plan.places.ok.0);
      free_are = c.deref.ensures.value;
      places_are = c.deref-2.ensures.value;
      bytes_are = c.deref-3.ensures.value;
      body_is = c.deref-4.ensures.value;
    } in
    came_here call (g.D.Disk.state c.put.new.disk) c.in-Err.call c.in-Err.ensures.kind
