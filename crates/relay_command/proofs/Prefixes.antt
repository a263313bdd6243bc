-- The replies to a stream begin the replies to each longer one.
use Rattle.std.proofs.Common.{◌≡◌, ℕ, zero, suc, Bool, true, false, List, [], ◌∷◌, ◌++◌, drop, refl, ◌∙◌, ap, append_assoc}
use Rattle.std.specs.Prelude.{flat_map, if◌then◌else◌}
use Rattle.std.proofs.lemmas.List.Concat.{flat_map-append}
use Rattle.relay_wire.specs.Frames.{frames_of}
use Rattle.relay_wire.specs.Requests.{read_request}
use Rattle.relay_wire.proofs.Joining.{flat, frames_join}
use Rattle.relay_wire.proofs.Splitting.{each}
use Rattle.relay_core.specs.declared.limits.TheConstants.{EXCHANGE_LIMIT}
use Rattle.relay_core.specs.Boxes.{Box}
use Rattle.relay_core.specs.Streams.{Exchange, Served, exchange_then, boxes_after, exchange_of, is_last, nothing_served, reply_bytes, reply_frame, served, served_within}

-- more exchanges after those
abbrev GoesOn : Served → Served → Type 0
GoesOn short long = (rest : List Exchange) × (long.exchanges ≡ short.exchanges ++ rest)

within_on : (n : ℕ) (boxes : List Box) (frames more : List (List ℕ)) → GoesOn (served_within n boxes frames) (served_within n boxes (frames ++ more))
within_on zero boxes frames more = ([], refl)
within_on (suc n) boxes [] more = ((served_within (suc n) boxes more).exchanges, refl)
within_on (suc n) boxes (frame ∷ frames) more = by (is_last (read_request (drop 2 frame))) (within_on n (boxes_after boxes frame) frames more)
  where
    by : (last : Bool) → GoesOn (served_within n (boxes_after boxes frame) frames) (served_within n (boxes_after boxes frame) (frames ++ more))
        → GoesOn (exchange_then (exchange_of boxes frame) (if last then nothing_served (boxes_after boxes frame) else served_within n (boxes_after boxes frame) frames))
        (exchange_then (exchange_of boxes frame) (if last then nothing_served (boxes_after boxes frame) else served_within n (boxes_after boxes frame) (frames ++ more)))
    by true on = ([], refl)
    by false on = (on.0, ap (λ (es : List Exchange). exchange_of boxes frame ∷ es) on.1)

-- the frames of a stream are the first of each longer one
frames_on : (got more : List ℕ) → (fs : List (List ℕ)) × (frames_of (got ++ more) ≡ frames_of got ++ fs)
frames_on got more =
    let r = each got in (
      frames_of (r.0 ++ more),
      ap (λ (s : List ℕ). frames_of (s ++ more)) r.1.whole ∙ ap frames_of (append_assoc (flat (frames_of got)) r.0 more) ∙ frames_join (frames_of got) (r.0 ++ more) r.1.each,
    )

pub replies_on : (boxes : List Box) (got more : List ℕ) → (rest : List ℕ) × (reply_bytes (served boxes (got ++ more)) ≡ reply_bytes (served boxes got) ++ rest)
unfolding served
replies_on boxes got more =
    let fs = frames_on got more in
    let on = within_on EXCHANGE_LIMIT boxes (frames_of got) fs.0 in (
      flat_map reply_frame on.0,
      ap (λ (frames : List (List ℕ)). reply_bytes (served_within EXCHANGE_LIMIT boxes frames)) fs.1 ∙ ap (λ (es : List Exchange). flat_map reply_frame es) on.1
          ∙ flat_map-append reply_frame (served_within EXCHANGE_LIMIT boxes (frames_of got)).exchanges on.0,
    )
