-- What a connection gives and takes, as a pipe.
use Rattle.std.proofs.Common.{◌≡◌, ℕ, zero, suc, ◌+◌, ◌<◌, ◌≤◌, List, [], ◌++◌, length, take, drop, Some, refl, sym, ◌∙◌, ap, subst, arith, append-nil}
use Rattle.std.specs.Prelude.{flat_map}
use Rattle.std.proofs.Math.Seq.{take-add}
use Rattle.std.proofs.lemmas.List.Concat.{flat_map-append}
use Rattle.std.proofs.lemmas.List.{drop-append-le, length-drop, length-take-le, take-append-drop, take-append-le, take_all}
use Rattle.dr_ports.specs.Wires.{Gave, IsAtEnd}
use Rattle.dr_ports.specs.MemoryWires.{nothing_comes, plain}
use Rattle.relay_core.specs.Boxes.{Box}
use Rattle.relay_core.specs.Streams.{Exchange, Served, prepend, reply_bytes, reply_frame, served, served_within}
use Rattle.relay_core.specs.declared.limits.TheConstants.{EXCHANGE_LIMIT}
use Rattle.relay_wire.specs.Frames.{frames_of}
use Rattle.relay_core.proofs.Served.{none_answered}
use Rattle.relay_link.specs.Connections.{LinkConnection, HasLost, boxes_now, fresh_connection, exchanges_of, connection_port, connection_wire}
use Rattle.relay_link.specs.Desks.{DeskNow, fresh_desk}
use Rattle.relay_link.specs.Serving.{IsServing}
use Rattle.relay_link.specs.declared.limits.TheConstants.{REPLY_LIMIT}

take_none : {X : Type 0} (n : ℕ) → take {A = X} n [] ≡ []
take_none zero = refl
take_none (suc n) = refl

-- ---- before the first request

nothing_served : (boxes : List Box) → (served boxes []).exchanges ≡ []
unfolding served
nothing_served boxes = ap (λ (s : Served). s.exchanges) (none_answered EXCHANGE_LIMIT boxes [] (omega arith))

all_served : (boxes : List Box) (more : List ℕ) → served boxes more ≡ served_within EXCHANGE_LIMIT boxes (frames_of more)
unfolding served
all_served boxes more = refl

pub begins : (kept : ℕ) (boxes : List Box) → kept ≤ REPLY_LIMIT → IsServing (fresh_connection kept boxes) (fresh_desk kept boxes) []
begins kept boxes few = record {
  partial = omega arith;
  ahead = λ more. all_served boxes more ∙ ap (λ (xs : List Exchange). prepend xs (served_within EXCHANGE_LIMIT boxes (frames_of more))) (sym (nothing_served boxes));
  count = ap length (sym (nothing_served boxes));
  replies = sym (ap (λ (xs : List Exchange). flat_map reply_frame (take kept xs)) (nothing_served boxes) ∙ ap (flat_map reply_frame) (take_none kept));
  received = omega arith;
  same = refl;
  few = few;
  failed = λ some. absurd (omega (arith, some));
}

-- the same of a link's parts
pub fresh_stands : (kept : ℕ) (start boxes : List Box) (items held : List ℕ) (desk : DeskNow) → kept ≤ REPLY_LIMIT → start ≡ boxes → items ≡ [] → held ≡ []
    → desk ≡ fresh_desk kept boxes → IsServing (record { start = start; kept = desk.kept; sent = items; at = 0; faults = 0 }) desk held
fresh_stands kept start boxes items held desk few one two three four =
    subst (λ (d : DeskNow). IsServing (record { start = start; kept = d.kept; sent = items; at = 0; faults = 0 }) d held) (sym four)
    (subst (λ (s : List Box). IsServing (record { start = s; kept = kept; sent = items; at = 0; faults = 0 }) (fresh_desk kept boxes) held) (sym one)
    (subst (λ (b : List ℕ). IsServing (record { start = boxes; kept = kept; sent = b; at = 0; faults = 0 }) (fresh_desk kept boxes) held) (sym two)
    (subst (λ (b : List ℕ). IsServing (fresh_connection kept boxes) (fresh_desk kept boxes) b) (sym three) (begins kept boxes few))))

pub connected_is : (start boxes : List Box) (kept k : ℕ) (sent : List ℕ) (c : LinkConnection) → c ≡ record { start = start; kept = kept; sent = sent; at = 0; faults = 0 }
    → start ≡ boxes → kept ≡ k → sent ≡ [] → c ≡ fresh_connection k boxes
connected_is start boxes kept k sent c is one two three =
    is ∙ ap (λ (s : List Box). record { start = s; kept = kept; sent = sent; at = 0; faults = 0 }) one
    ∙ ap (λ (n : ℕ). record { start = boxes; kept = n; sent = sent; at = 0; faults = 0 }) two
    ∙ ap (λ (b : List ℕ). record { start = boxes; kept = k; sent = b; at = 0; faults = 0 }) three

-- a piece that was put at the beginning of a buffer
pub given_piece : (new bytes replies : List ℕ) (at count size next : ℕ) → size ≡ count → at + count ≤ length replies → bytes ≡ take size (drop at replies)
    → next ≡ 0 + length bytes → take next new ≡ [] ++ bytes → take count new ≡ take count (drop at replies)
given_piece new bytes replies at count size next size_is fits is next_is front =
    let bytes_are : bytes ≡ take count (drop at replies) = is ∙ ap (λ (n : ℕ). take n (drop at replies)) size_is in
    let long : length bytes ≡ count = ap length bytes_are ∙ length-take-le count (drop at replies) (omega (arith, fits, length-drop at replies)) in
    ap (λ (n : ℕ). take n new) (let e : count ≡ next = omega (arith, next_is, long) in e) ∙ front ∙ bytes_are

-- ---- what stands

module _ (c : LinkConnection) (desk : DeskNow) (held : List ℕ) (is : IsServing c desk held) where
  -- the boxes are the desk's
  pub boxes_are : boxes_now c ≡ desk.boxes
  boxes_are =
      ap (λ (b : List ℕ). (served c.start b).next) (sym (append-nil c.sent)) ∙ ap (λ (s : Served). s.next) (is.ahead [])
      ∙ ap (λ (b : List ℕ). (served_within desk.left desk.boxes (frames_of b)).next) (append-nil held)
      ∙ ap (λ (s : Served). s.next) (none_answered desk.left desk.boxes held is.partial)

  -- all replies begin with those that come
  all_are : reply_bytes (served c.start c.sent) ≡ desk.replies ++ flat_map reply_frame (drop c.kept (exchanges_of c))
  all_are =
      ap (flat_map reply_frame) (sym (take-append-drop c.kept (exchanges_of c))) ∙ flat_map-append reply_frame (take c.kept (exchanges_of c)) (drop c.kept (exchanges_of c))
      ∙ ap (λ (b : List ℕ). b ++ flat_map reply_frame (drop c.kept (exchanges_of c))) (sym is.replies)

  -- ---- a receive

  module _ (count : ℕ) (fits : c.at + count ≤ length desk.replies) (piece : List ℕ) (given : piece ≡ take count (drop c.at desk.replies)) where
    abbrev received : LinkConnection
    received = record c { at = c.at + count }

    piece_is : take count (drop c.at (reply_bytes (served c.start c.sent))) ≡ piece
    piece_is =
        ap (λ (b : List ℕ). take count (drop c.at b)) all_are ∙ ap (take count) (drop-append-le c.at desk.replies _ (omega (arith, fits)))
        ∙ take-append-le count (drop c.at desk.replies) _ (omega (arith, fits, length-drop c.at desk.replies)) ∙ sym given

    pub gave : Gave piece (connection_port c) (connection_port received)
    gave = ap (λ (b : List ℕ). Some (record { now = record { gives = λ sent. reply_bytes (served c.start sent); received = b; sent = c.sent; fate = (connection_wire c).fate }; before = []; coming = nothing_comes; line = plain }))
        (take-add c.at count (reply_bytes (served c.start c.sent)) ∙ ap (λ (b : List ℕ). take c.at (reply_bytes (served c.start c.sent)) ++ b) piece_is)

    pub serves_received : IsServing received desk held
    serves_received = record {
      partial = is.partial;
      ahead = is.ahead;
      count = is.count;
      replies = is.replies;
      received = fits;
      same = is.same;
      few = is.few;
      failed = is.failed;
    }

  -- where no reply was lost, all have come
  pub at_end : desk.answered ≤ desk.kept → length desk.replies ≤ c.at → IsAtEnd (connection_wire c)
  at_end none end =
      let whole : take c.kept (exchanges_of c) ≡ exchanges_of c = take_all c.kept (exchanges_of c) (omega (arith, none, is.count, is.same)) in
      let all : desk.replies ≡ reply_bytes (served c.start c.sent) = is.replies ∙ ap (flat_map reply_frame) whole in
      take_all c.at (reply_bytes (served c.start c.sent)) (omega (arith, end, ap length all))

  pub lost : desk.kept < desk.answered → HasLost c
  lost more = omega (arith, more, is.count, is.same)
