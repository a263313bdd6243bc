-- Requests in bytes: a beginning of one, and how many they are.
use Rattle.std.proofs.Common.{◌≡◌, ℕ, ◌+◌, ◌*◌, ◌≤◌, List, [], ◌∷◌, ◌++◌, length, sym, ◌∙◌, ap, arith, append-nil, map}
use Rattle.std.specs.List.{AllByRecursion}
use Rattle.std.proofs.lemmas.List.{length-append}
use Rattle.relay_wire.specs.Frames.{IsFrame, IsPartial, frames_of}
use Rattle.relay_wire.specs.Requests.{Asked, IsLawfulAsked}
use Rattle.relay_wire.specs.declared.limits.TheConstants.{FRAME_LIMIT}
use Rattle.relay_core.specs.Boxes.{Box}
use Rattle.relay_core.specs.Streams.{served, served_within}
use Rattle.relay_core.specs.declared.limits.TheConstants.{EXCHANGE_LIMIT}
use Rattle.relay_wire.proofs.Joining.{flat, frames_join, no_frames}
use Rattle.sync_model.specs.Carried.{request_bytes}
use Rattle.relay_wire.specs.Framed.{request_frame}
use Rattle.sync_model.proofs.Replying.{flat_of, request_frames, request_short}
use Rattle.relay_link.specs.declared.limits.TheConstants.{REPLY_LIMIT, SENT_LIMIT}

-- ---- less than a frame

-- a beginning of a frame, and not all of it
pub begins_partial : (put : List ℕ) (x : ℕ) (left : List ℕ) → IsFrame (put ++ x ∷ left) → IsPartial put
begins_partial [] x left whole = omega arith
begins_partial (a ∷ []) x left whole = omega arith
begins_partial (a ∷ b ∷ more) x left whole = omega (arith, whole, length-append more (x ∷ left))

-- isn't answered
pub part_unanswered : (boxes : List Box) (xs : List Asked) (put : List ℕ) → AllByRecursion IsLawfulAsked xs → IsPartial put
    → served boxes (request_bytes xs ++ put) ≡ served boxes (request_bytes xs)
unfolding served
part_unanswered boxes xs put lawful partial =
    let whole = request_frames xs lawful in
    ap (λ (b : List ℕ). served_within EXCHANGE_LIMIT boxes (frames_of (b ++ put))) (flat_of request_frame xs)
    ∙ ap (served_within EXCHANGE_LIMIT boxes) (frames_join (map request_frame xs) put whole)
    ∙ ap (λ (fs : List (List ℕ)). served_within EXCHANGE_LIMIT boxes (map request_frame xs ++ fs)) (no_frames put partial ∙ sym (no_frames [] (omega arith)))
    ∙ ap (served_within EXCHANGE_LIMIT boxes) (sym (frames_join (map request_frame xs) [] whole))
    ∙ ap (λ (b : List ℕ). served_within EXCHANGE_LIMIT boxes (frames_of b)) (append-nil (flat (map request_frame xs)) ∙ sym (flat_of request_frame xs))

-- ---- how many bytes are sent

pub frame_short : (asked : Asked) → IsLawfulAsked asked → length (request_frame asked) ≤ FRAME_LIMIT
frame_short asked lawful = let s = (request_short asked lawful).1 in omega (arith, s)

pub bytes_short : (xs : List Asked) → AllByRecursion IsLawfulAsked xs → length (request_bytes xs) ≤ length xs * FRAME_LIMIT
bytes_short [] lawful = omega arith
bytes_short (x ∷ xs) lawful = omega (arith, frame_short x lawful.0, bytes_short xs lawful.1, length-append (request_frame x) (request_bytes xs))

pub front_lawful : (a b : List Asked) → AllByRecursion IsLawfulAsked (a ++ b) → AllByRecursion IsLawfulAsked a
front_lawful [] b are = tt
front_lawful (x ∷ a) b are = (are.0, front_lawful a b are.1)

pub back_lawful : (a b : List Asked) → AllByRecursion IsLawfulAsked (a ++ b) → AllByRecursion IsLawfulAsked b
back_lawful [] b are = are
back_lawful (x ∷ a) b are = back_lawful a b are.1

pub never_full : (n kept bytes part : ℕ) → n ≤ kept → kept ≤ REPLY_LIMIT → bytes ≤ n * FRAME_LIMIT → part ≤ FRAME_LIMIT → SENT_LIMIT ≤ bytes + part → ⊥
never_full n kept bytes part le few short one full = absurd (omega (arith, le, few, short, one, full))
