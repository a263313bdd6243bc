-- How a connection ends, from the rounds so far and the last one.
use Rattle.std.proofs.Common.{◌≡◌, ℕ, ◌+◌, ◌<◌, ◌≤◌, Bool, true, false, List, [], ◌++◌, Ok, Err, refl, sym, ◌∙◌, ap, subst, arith, append_assoc, append-nil}
use Rattle.std.specs.Prelude.{flat_map}
use Rattle.dr_disk.specs.Spans.{IsQuiet}
use Rattle.dr_disk.specs.State.{DiskState}
use Rattle.dr_disk.proofs.Steps.{quiet_twice}
use Rattle.dr_ports.specs.Ports.{Rose}
use Rattle.dr_ports.specs.declared.pipe.Part.TheVariants.{Flow}
use Rattle.dr_ports.specs.Wires.{Port}
use Rattle.relay_wire.proofs.Joining.{flat}
use Rattle.relay_core.specs.declared.limits.TheConstants.{EXCHANGE_LIMIT}
use Rattle.relay_core.specs.Streams.{exchange_of, is_last, reply_frame}
use Rattle.relay_core.proofs.Apart.{isolated}
use Rattle.relay_server.specs.declared.serving.Ended.{Ended}
use Rattle.relay_server.specs.declared.serving.ServeFault.{ServeFault}
use Rattle.relay_server.specs.declared.serving.ServeFault.TheVariants.{Read, Write, Store}
use Rattle.relay_server.specs.declared.serving.Round.TheVariants.{AtEnd, Answered}
use Rattle.relay_server.specs.Durable.{ServerNow, IsServerReady}
use Rattle.relay_server.specs.Serving.{Exchanges, Rounds, IsServed, ServedSoFar, reply_to}
use Rattle.relay_server.proofs.Serve.{one_more_round}
use Rattle.relay_server.proofs.Ends.{idle_answers, idle_boxes, idle_during, idle_count, idle_all, came_boxes, came_during, came_bytes, came_answers, came_count, came_last, came_stands, full_answers, full_during, full_count, full_all}

pub rose_since : (a b c : ℕ) → a ≤ b → Rose b c → Rose a c
rose_since a b c le rose = omega (arith, le, rose)

module _ (old server new : ServerNow) (start now after : Port) (dstart dnow dafter : DiskState) (n : ℕ) (so : ServedSoFar EXCHANGE_LIMIT old server.boxes start now dstart dnow n) (under : n < EXCHANGE_LIMIT) where
  abbrev pub exit_fault : (fault : ServeFault) → IsQuiet dstart dnow → Rounds server new now after dnow dafter (Err fault) → IsServed old new start after dstart dafter (Err fault)
  exit_fault Read quiet r = record {
    got = flat so.frames ++ r.0;
    alone = λ name. isolated name old.boxes (flat so.frames ++ r.0);
    during = idle_during old server.boxes start now dstart dnow n so r.0 new.boxes after dafter r.1;
    count = idle_boxes old server.boxes start now dstart dnow n so r.0 new.boxes after dafter r.1;
    serves = (idle_answers old server.boxes start now dstart dnow n so r.0 new.boxes after dafter r.1, r.3, quiet_twice dstart dnow dafter quiet r.4, rose_since _ _ _ so.later r.2);
  }
  exit_fault Write quiet r = record {
    got = flat so.frames ++ r.0;
    alone = λ name. isolated name old.boxes (flat so.frames ++ r.0);
    during = came_during old server.boxes start now dstart dnow n so r.0 r.1 new.boxes after dafter under r.3;
    count = came_boxes old server.boxes start now dstart dnow n so r.0 r.1 new.boxes after dafter under r.3;
    serves = (
      flat_map reply_frame so.exs ++ r.1,
      r.2,
      came_answers old server.boxes start now dstart dnow n so r.0 r.1 new.boxes after dafter under r.3,
      came_bytes old server.boxes start now dstart dnow n so r.0 r.1 new.boxes after dafter under r.3 ∙ ap (λ (p : List ℕ). flat_map reply_frame so.exs ++ p) r.4 ∙ sym (append_assoc (flat_map reply_frame so.exs) r.1 r.2),
      r.6,
      quiet_twice dstart dnow dafter quiet r.7,
      rose_since _ _ _ so.later r.5,
    );
  }
  exit_fault (Store call) quiet r = record {
    got = flat so.frames ++ r.0;
    alone = λ name. isolated name old.boxes (flat so.frames ++ r.0);
    during = came_during old server.boxes start now dstart dnow n so r.0 [] new.boxes after dafter under r.1;
    count = came_boxes old server.boxes start now dstart dnow n so r.0 [] new.boxes after dafter under r.1;
    serves = (
      flat_map reply_frame so.exs ++ [],
      exchange_of server.boxes r.0,
      came_answers old server.boxes start now dstart dnow n so r.0 [] new.boxes after dafter under r.1,
      came_bytes old server.boxes start now dstart dnow n so r.0 [] new.boxes after dafter under r.1 ∙ ap (λ (p : List ℕ). p ++ reply_to server.boxes r.0) (sym (append-nil (flat_map reply_frame so.exs))),
      rose_since _ _ _ (so.during.counts call) r.2,
      came_stands old server.boxes start now dstart dnow n so r.0 [] new.boxes after dafter under r.1 r.3,
    );
  }

  abbrev pub exit_end : (ended : Ended) → ended.answered ≡ n → IsQuiet dstart dafter → Rounds server new now after dnow dafter (Ok AtEnd) → IsServed old new start after dstart dafter (Ok ended)
  exit_end ended is quiet r = record {
    got = flat so.frames ++ r.0;
    alone = λ name. isolated name old.boxes (flat so.frames ++ r.0);
    during = idle_during old server.boxes start now dstart dnow n so r.0 new.boxes after dafter r.1;
    count = idle_boxes old server.boxes start now dstart dnow n so r.0 new.boxes after dafter r.1;
    serves = (
      idle_answers old server.boxes start now dstart dnow n so r.0 new.boxes after dafter r.1,
      r.3,
      quiet,
      is ∙ sym (idle_count old server.boxes start now dstart dnow n so r.0 new.boxes after dafter r.1),
      idle_all old server.boxes start now dstart dnow n so r.0 new.boxes after dafter r.1 r.2,
    );
  }

  abbrev pub exit_last : (ended : Ended) (last : Bool) → ended.answered ≡ n + 1 → last ≡ true → IsQuiet dstart dafter → Rounds server new now after dnow dafter (Ok (Answered last)) → IsServed old new start after dstart dafter (Ok ended)
  exit_last ended last is is_last quiet r = record {
    got = flat so.frames ++ r.0;
    alone = λ name. isolated name old.boxes (flat so.frames ++ r.0);
    during = came_during old server.boxes start now dstart dnow n so r.0 (reply_to server.boxes r.0) new.boxes after dafter under r.1;
    count = came_boxes old server.boxes start now dstart dnow n so r.0 (reply_to server.boxes r.0) new.boxes after dafter under r.1;
    serves = (
      record {
        exchanges = subst (λ (p : List ℕ). Exchanges (flat so.frames ++ r.0) p start after) (sym (came_bytes old server.boxes start now dstart dnow n so r.0 (reply_to server.boxes r.0) new.boxes after dafter under r.1)) (came_answers old server.boxes start now dstart dnow n so r.0 (reply_to server.boxes r.0) new.boxes after dafter under r.1).exchanges;
        next_is = (came_answers old server.boxes start now dstart dnow n so r.0 (reply_to server.boxes r.0) new.boxes after dafter under r.1).next_is;
      },
      r.3,
      quiet,
      is ∙ sym (came_count old server.boxes start now dstart dnow n so r.0 (reply_to server.boxes r.0) new.boxes after dafter under r.1),
      λ t more told left. came_last old server.boxes start now dstart dnow n so r.0 (reply_to server.boxes r.0) new.boxes after dafter under r.1 (sym r.2 ∙ is_last) more,
    );
  }

  abbrev pub goes_on : (last : Bool) → last ≡ false → now.faults Flow ≤ after.faults Flow → Rounds server new now after dnow dafter (Ok (Answered last)) → ServedSoFar EXCHANGE_LIMIT old new.boxes start after dstart dafter (n + 1)
  goes_on last not_last later r = one_more_round EXCHANGE_LIMIT old server.boxes start now dstart dnow n so r.0 (reply_to server.boxes r.0) new.boxes after dafter under r.1 refl (sym r.2 ∙ not_last) later

abbrev pub exit_full : (old server : ServerNow) (start now : Port) (dstart dnow : DiskState) (n : ℕ) → ServedSoFar EXCHANGE_LIMIT old server.boxes start now dstart dnow n → n ≡ EXCHANGE_LIMIT → IsServerReady server dnow → IsQuiet dstart dnow → (ended : Ended) → ended.answered ≡ EXCHANGE_LIMIT
    → IsServed old server start now dstart dnow (Ok ended)
exit_full old server start now dstart dnow n so full ready quiet ended is = record {
  got = flat so.frames;
  alone = λ name. isolated name old.boxes (flat so.frames);
  during = full_during old server.boxes start now dstart dnow n so full;
  count = so.boxes_count;
  serves = (
    full_answers old server.boxes start now dstart dnow n so full,
    ready,
    quiet,
    is ∙ sym (full_count old server.boxes start now dstart dnow n so full),
    λ t more told left. full_all old server.boxes start now dstart dnow n so full more,
  );
}
