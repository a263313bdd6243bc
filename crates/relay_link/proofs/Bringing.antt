-- What a link has brought, by what it tells.
use Rattle.std.proofs.Common.{◌≡◌, ◌⊎◌, ℕ, ◌<◌, ◌≤◌, List, [], ◌++◌, length, take, drop, Option, Some, None, sym, ◌∙◌, ap, ap₂, subst, arith}
use Rattle.std.specs.Prelude.{flat_map}
use Rattle.std.proofs.lemmas.List.Concat.{flat_map-append}
use Rattle.std.proofs.lemmas.List.{take-append-drop, take-append-le}
use Rattle.dr_ports.specs.Wires.{Told}
use Rattle.relay_core.specs.Boxes.{Box}
use Rattle.relay_core.specs.Streams.{Served, served, reply_bytes, reply_frame}
use Rattle.relay_core.specs.declared.limits.TheConstants.{EXCHANGE_LIMIT}
use Rattle.relay_pipe.specs.Exchanging.{Exchanges}
use Rattle.relay_core.proofs.Served.{none_answered}
use Rattle.relay_link.specs.Bringing.{IsBrought}
use Rattle.relay_link.specs.Connections.{Behind, LinkConnection, IsLawfulConnection, behind_of, replies_coming, fresh_connection, exchanges_of, connection_port}
use Rattle.relay_link.specs.declared.limits.TheConstants.{SENT_LIMIT}

abbrev sent_of : Option Told → List ℕ
sent_of None = []
sent_of (Some t) = t.now.sent

abbrev received_of : Option Told → List ℕ
received_of None = []
received_of (Some t) = t.now.received

-- before the first byte the boxes are those that it began with
pub same_boxes : (boxes : List Box) → (served boxes []).next ≡ boxes
unfolding served
same_boxes boxes = ap (λ (s : Served). s.next) (none_answered EXCHANGE_LIMIT boxes [] (omega arith))

module _ (boxes : List Box) (kept : ℕ) (got put : List ℕ) (now : LinkConnection) (told : Exchanges got put (connection_port (fresh_connection kept boxes)) (connection_port now))
    (stands : behind_of now ≡ behind_of (fresh_connection kept boxes)) (lawful : IsLawfulConnection now) where
  sent : now.sent ≡ put
  sent = ap sent_of told

  received : take now.at (reply_bytes (served now.start now.sent)) ≡ got
  received = ap received_of told

  kept_is : now.kept ≡ kept
  kept_is = ap (λ (b : List ℕ → Behind). (b []).kept) stands

  start_is : now.start ≡ boxes
  start_is = sym (same_boxes now.start) ∙ ap (λ (b : List ℕ → Behind). (b []).boxes) stands ∙ same_boxes boxes

  served_is : served now.start now.sent ≡ served boxes put
  served_is = ap₂ served start_is sent

  coming_is : replies_coming now ≡ flat_map reply_frame (take kept (served boxes put).exchanges)
  coming_is = ap₂ (λ (k : ℕ) (s : Served). flat_map reply_frame (take k s.exchanges)) kept_is served_is

  all_are : reply_bytes (served now.start now.sent) ≡ replies_coming now ++ flat_map reply_frame (drop now.kept (exchanges_of now))
  all_are =
      ap (flat_map reply_frame) (sym (take-append-drop now.kept (exchanges_of now)))
      ∙ flat_map-append reply_frame (take now.kept (exchanges_of now)) (drop now.kept (exchanges_of now))

  got_is : got ≡ take now.at (replies_coming now)
  got_is = sym received ∙ ap (take now.at) all_are ∙ take-append-le now.at (replies_coming now) _ lawful.received

  pub brought : IsBrought boxes kept got put now
  brought = record {
    sent = sent;
    more = drop now.at (replies_coming now);
    came = ap (λ (b : List ℕ). b ++ drop now.at (replies_coming now)) got_is ∙ take-append-drop now.at (replies_coming now) ∙ coming_is;
    boxes_are = ap (λ (s : Served). s.next) served_is;
    ends = λ end. sym received ∙ end ∙ ap reply_bytes served_is;
    failed = λ some. subst (λ (p : List ℕ). (kept < length (served boxes put).exchanges) ⊎ (SENT_LIMIT ≤ length p)) sent
        (subst (λ (s : Served). (kept < length s.exchanges) ⊎ (SENT_LIMIT ≤ length now.sent)) served_is
        (subst (λ (k : ℕ). (k < length (exchanges_of now)) ⊎ (SENT_LIMIT ≤ length now.sent)) kept_is (lawful.failed some)));
  }
