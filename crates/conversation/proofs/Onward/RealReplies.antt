-- Replies that bring real packets bring none that is forged, at each turn of the sync.
use Rattle.std.proofs.Common.{List, Some, [], subst, sym, ℕ, ◌∷◌, ◌≡◌}
use Rattle.std.specs.List.{AllByRecursion}
use Rattle.std.specs.Prelude.{slice_get}
use Rattle.dr_base.specs.declared.position.Side.{Side}
use Rattle.dr_disk.specs.State.{DiskState}
use Rattle.dr_model.specs.Machines.Worlds.{World}
use Rattle.dr_model.specs.Theorems.Fairness.{IsUnforged}
use Rattle.dr_model.specs.Theorems.Headline.{Headline}
use Rattle.dr_model.specs.Theorems.LawfulWorlds.{IsLawfulWorld}
use Rattle.kem_laws.specs.Mechanism.{Mechanism}
use Rattle.relay_wire.specs.Replies.{Replied, absent, acked, bad, box_full, denied, empty, item, stored, unknown}
use Rattle.sync_model.specs.Courses.{Course, begun, read_one}
use Rattle.sync_model.specs.Moves.{Wait, acking, fetching, over, posting}
use Rattle.sync_model.specs.Simulation.{AreFairFrom, IsFairReply}
use Rattle.client.specs.Cells.{client_cell}
use Rattle.client.specs.Moments.{AreLinked, IsAmongKnown, IsLater}
use Rattle.client.specs.Syncing.InWorlds.{AreUnforged}
use Rattle.client.specs.Syncing.Parties.{world_party}
use Rattle.client.proofs.Later.{acted_later, course_acted, itself, later_twice, lawful_at}
use Rattle.client.proofs.Standing.{first_later}
use Rattle.conversation.specs.Joints.{Joint, known_in}
use Rattle.conversation.specs.Replies.{BringsReal, IsReal}
use Rattle.conversation.proofs.Held.{later_known}
use Rattle.conversation.proofs.Honest.{real_later}
use Rattle.conversation.proofs.Lasting.{keeps}

module _ {X : Type 0} (state : X → DiskState) (k : Mechanism) (laws : Headline k) (side : Side)
    (xs : List X) (w : World) (lawful : IsLawfulWorld k w) (joints : ℕ → Joint)
    (linked : AreLinked state xs k side w (λ n. known_in k side (joints n)))
    (m : ℕ) (b : X) (is : slice_get xs m ≡ Some b) (v : World)
    (which : IsAmongKnown (known_in k side (joints m)) v) where
  real_at : (turn : World) → IsLater k v turn → (packet : List ℕ) → IsReal k joints m packet
      → IsUnforged k turn side packet
  real_at turn on packet real =
      let early = lawful_at k w (joints real.at).world lawful
      (first_later client_cell state xs k side w (λ n. known_in k side (joints n)) linked real.at m b
      real.before is) in
      let later = later_twice k (joints real.at).world v turn
      (later_known state k laws side xs w lawful joints linked real.at m b v real.before is which) on in
      subst (λ (bytes : List ℕ). IsUnforged k turn side bytes) (sym real.same)
      (real_later k (joints real.at).world turn real.whose side real.post
      (keeps k laws side (joints real.at).world turn early later) real.stood)

  abbrev Fair : World → List ℕ → Type 0
  Fair turn packet = IsUnforged k turn side packet

  fair_reply : (turn : World) → IsLater k v turn → (wait : Wait) (reply : Replied)
      → BringsReal k joints m reply → IsFairReply Fair turn wait reply
  fair_reply turn on (fetching n) (item number packet) real = real_at turn on packet real
  fair_reply turn on (fetching n) (stored number) real = tt
  fair_reply turn on (fetching n) empty real = tt
  fair_reply turn on (fetching n) acked real = tt
  fair_reply turn on (fetching n) box_full real = tt
  fair_reply turn on (fetching n) unknown real = tt
  fair_reply turn on (fetching n) (absent number) real = tt
  fair_reply turn on (fetching n) (bad kind) real = tt
  fair_reply turn on (fetching n) (denied rule last) real = tt
  fair_reply turn on (acking n number) reply real = tt
  fair_reply turn on (posting which) reply real = tt
  fair_reply turn on (over ending) reply real = tt

  fair_from : (c : Course World) → IsLater k v c.state → (replies : List Replied)
      → AllByRecursion (BringsReal k joints m) replies
      → AreFairFrom (world_party k [] side v) Fair c replies
  fair_from c on [] all = tt
  fair_from c on (reply ∷ replies) all =
      let fair = fair_reply c.state on c.wait reply all.0 in
      let next = read_one (world_party k [] side v) c reply in
      let step : IsLater k c.state next.state =
      acted_later k side c.state next.state (course_acted k [] side v c (reply ∷ []) (fair, tt)) in
      (fair, fair_from next (later_twice k v c.state next.state on step) replies all.1)

  pub real_unforged : (replies : List Replied) → AllByRecursion (BringsReal k joints m) replies
      → AreUnforged k [] side v replies
  real_unforged replies = fair_from (begun (world_party k [] side v) v) (itself k v) replies
