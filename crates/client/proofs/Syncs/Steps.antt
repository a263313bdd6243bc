-- What a sync makes of the replies that it reads, reply by reply: the side takes a packet, its oldest packet has gone, or nothing
-- is done. What holds of each of these, and of one after the other, holds of the whole.
use Rattle.std.proofs.Common.{Bool, List, [], false, if◌then◌else◌, true, ℕ, ◌+◌, ◌==◌, ◌∷◌}
use Rattle.dr_base.specs.declared.position.Side.{Side}
use Rattle.dr_model.specs.Machines.Acts.{taking}
use Rattle.dr_model.specs.Machines.WorldActs.{act_in}
use Rattle.dr_model.specs.Machines.Worlds.{World}
use Rattle.dr_model.specs.Theorems.Fairness.{IsUnforged}
use Rattle.kem_laws.specs.Mechanism.{Mechanism}
use Rattle.relay_wire.specs.Replies.{Replied, absent, acked, bad, denied, box_full, empty, item, stored, unknown}
use Rattle.sync_model.specs.Courses.{Course, course_from, heard, read_one, repeats}
use Rattle.sync_model.specs.Moves.{Move, Wait, acking, acknowledged, fetching, goes, move, over, posting}
use Rattle.sync_model.specs.Parties.{Party}
use Rattle.sync_model.specs.Simulation.{AreFairFrom, IsFairReply}
use Rattle.sync_model.specs.declared.limits.TheConstants.{ITEM_LIMIT}
use Rattle.client.specs.Syncing.Parties.{oldest_sent, world_party}

module _ (k : Mechanism) (prefix : List ℕ) (side : Side) (first : World) where
  abbrev pub p : Party World
  p = world_party k prefix side first

  abbrev pub Fair : World → List ℕ → Type 0
  Fair turn packet = IsUnforged k turn side packet

  -- what holds of two worlds where nothing was done between them, one packet was taken, or the oldest has gone, and where it holds
  -- as far as a world between them and from there
  pub record HoldsOfSteps (Leads : World → World → Type 0) : Type 0 where
    pub none : (w : World) → Leads w w
    pub takes : (w : World) (packet : List ℕ) → Fair w packet → Leads w (act_in k w side (taking packet)).next
    pub sends : (w : World) → Leads w (act_in k w side oldest_sent).next
    pub twice : (u v w : World) → Leads u v → Leads v w → Leads u w

  module _ (Leads : World → World → Type 0) (holds : HoldsOfSteps Leads) where
    either_leads : (s : World) (test : Bool) (one other : Move World) → Leads s one.state → Leads s other.state
        → Leads s (if◌then◌else◌ {A = Move World} test one other).state
    either_leads s true one other is is_other = is
    either_leads s false one other is is_other = is_other

    acknowledged_leads : (s : World) (n : ℕ) → Leads s (acknowledged p s n).state
    acknowledged_leads s n = either_leads s (n + 1 == ITEM_LIMIT) _ _ (holds.none s) (holds.none s)

    move_leads : (s : World) (wait : Wait) (reply : Replied) → IsFairReply Fair s wait reply → Leads s (move p s wait reply).state
    move_leads s (fetching n) (item number packet) fair =
        either_leads s (p.take s packet).full _ _ (holds.none s) (holds.takes s packet fair)
    move_leads s (fetching n) (stored m) fair = holds.none s
    move_leads s (fetching n) empty fair = holds.none s
    move_leads s (fetching n) acked fair = holds.none s
    move_leads s (fetching n) box_full fair = holds.none s
    move_leads s (fetching n) unknown fair = holds.none s
    move_leads s (fetching n) (absent m) fair = holds.none s
    move_leads s (fetching n) (bad kind) fair = holds.none s
    move_leads s (fetching n) (denied rule last) fair = holds.none s
    move_leads s (acking n number) acked fair = acknowledged_leads s n
    move_leads s (acking n number) (absent m) fair = either_leads s (m == number) _ _ (acknowledged_leads s n) (holds.none s)
    move_leads s (acking n number) (item m packet) fair = holds.none s
    move_leads s (acking n number) (stored m) fair = holds.none s
    move_leads s (acking n number) empty fair = holds.none s
    move_leads s (acking n number) box_full fair = holds.none s
    move_leads s (acking n number) unknown fair = holds.none s
    move_leads s (acking n number) (bad kind) fair = holds.none s
    move_leads s (acking n number) (denied rule last) fair = holds.none s
    move_leads s (posting which) (stored number) fair = holds.sends s
    move_leads s (posting which) (item m packet) fair = holds.none s
    move_leads s (posting which) empty fair = holds.none s
    move_leads s (posting which) acked fair = holds.none s
    move_leads s (posting which) box_full fair = holds.none s
    move_leads s (posting which) unknown fair = holds.none s
    move_leads s (posting which) (absent m) fair = holds.none s
    move_leads s (posting which) (bad kind) fair = holds.none s
    move_leads s (posting which) (denied rule last) fair = holds.none s
    move_leads s (over ending) reply fair = holds.none s

    -- a reply, after which its request may be made once more
    pub heard_leads : (c : Course World) (reply : Replied) (again : Bool) → IsFairReply Fair c.state c.wait reply → Leads c.state (heard p c reply again).state
    heard_leads c reply again fair =
        either_leads c.state again (goes p c.state c.wait) (move p c.state c.wait reply) (holds.none c.state) (move_leads c.state c.wait reply fair)

    -- a course, with each reply
    pub course_leads : (c : Course World) (replies : List Replied) → AreFairFrom p Fair c replies → Leads c.state (course_from p c replies).state
    course_leads c [] fair = holds.none c.state
    course_leads c (reply ∷ replies) fair =
        holds.twice c.state (read_one p c reply).state (course_from p (read_one p c reply) replies).state
        (heard_leads c reply (repeats p c reply) fair.0) (course_leads (read_one p c reply) replies fair.1)
