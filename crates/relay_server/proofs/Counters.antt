-- Over connections one after the other the counters that a guarded box serves rise.
use Rattle.std.proofs.Common.{◌≡◌, ℕ, zero, suc, ◌≤◌, Bool, true, false, List, [], ◌∷◌, ◌++◌, drop, Option, Some, None, refl, ◌∙◌, ap, subst, arith}
use Rattle.std.specs.Prelude.{if◌then◌else◌}
use Rattle.std.proofs.lemmas.Grind.{flat_map-append}
use Rattle.relay_guard.specs.Histories.{RisesBetween}
use Rattle.relay_guard.specs.declared.guard.Guard.{Guard}
use Rattle.relay_guard.specs.declared.guard.Role.{Role}
use Rattle.relay_core.specs.Boxes.{Box, box_of}
use Rattle.relay_core.specs.Counters.{RiseBy, RiseIn, counter_by, counters}
use Rattle.relay_core.specs.Streams.{BoxExchange, Exchange, Served, boxes_after, exchange_of, exchange_then, is_last, nothing_served, served_within, told, told_of}
use Rattle.relay_core.specs.declared.limits.TheConstants.{EXCHANGE_LIMIT}
use Rattle.relay_core.proofs.Counted.{rises_within}
use Rattle.relay_wire.specs.Requests.{read_request}
use Rattle.relay_server.specs.FrameByFrame.{after_frames}
use Rattle.relay_server.specs.Lives.{Session, boxes_past, boxes_past_all, counters_in, counters_over, frame_in}

-- ---- one list of counters behind another

lower : (low high top : ℕ) (list : List ℕ) → low ≤ high → RisesBetween high top list → RisesBetween low top list
lower low high top [] le rises = omega (arith, le, rises)
lower low high top (n ∷ more) le rises = (omega (arith, le, rises.0), rises.1)

least : (low high : ℕ) (list : List ℕ) → RisesBetween low high list → low ≤ high
least low high [] rises = rises
least low high (n ∷ more) rises = omega (arith, rises.0, least n high more rises.1)

join : (low middle high : ℕ) (xs ys : List ℕ) → RisesBetween low middle xs → RisesBetween middle high ys → RisesBetween low high (xs ++ ys)
join low middle high [] ys one other = lower low middle high ys one other
join low middle high (n ∷ xs) ys one other = (one.0, join n middle high xs ys one.1 other)

-- those that come first
front : (low high : ℕ) (xs ys : List ℕ) → RisesBetween low high (xs ++ ys) → RisesBetween low high xs
front low high [] ys rises = least low high ys rises
front low high (n ∷ xs) ys rises = (rises.0, front n high xs ys rises.1)

-- ---- the same of boxes

join_by : (role : Role) (was middle is : Option Guard) (xs ys : List ℕ) → RiseBy role was middle xs → RiseBy role middle is ys → RiseBy role was is (xs ++ ys)
join_by role None middle is xs ys one other = tt
join_by role (Some was) None is xs ys one other = absurd one
join_by role (Some was) (Some middle) None xs ys one other = other
join_by role (Some was) (Some middle) (Some is) xs ys one other = join _ _ _ xs ys one other

join_in : (role : Role) (was middle is : Option Box) (xs ys : List ℕ) → RiseIn role was middle xs → RiseIn role middle is ys → RiseIn role was is (xs ++ ys)
join_in role None middle is xs ys one other = tt
join_in role (Some was) None is xs ys one other = absurd one
join_in role (Some was) (Some middle) None xs ys one other = other
join_in role (Some was) (Some middle) (Some is) xs ys one other = join_by role was.guard middle.guard is.guard xs ys one other

front_by : (role : Role) (was is : Option Guard) (xs ys : List ℕ) → RiseBy role was is (xs ++ ys) → RiseBy role was is xs
front_by role None is xs ys rises = tt
front_by role (Some was) None xs ys rises = rises
front_by role (Some was) (Some is) xs ys rises = front _ _ xs ys rises

front_in : (role : Role) (was is : Option Box) (xs ys : List ℕ) → RiseIn role was is (xs ++ ys) → RiseIn role was is xs
front_in role None is xs ys rises = tt
front_in role (Some was) None xs ys rises = rises
front_in role (Some was) (Some is) xs ys rises = front_by role was.guard is.guard xs ys rises

nothing_in : (role : Role) (box : Option Box) → RiseIn role box box []
nothing_in role None = tt
nothing_in role (Some box) = by_guard box.guard
  where
    by_guard : (guard : Option Guard) → RiseBy role guard guard []
    by_guard None = tt
    by_guard (Some guard) = omega arith

-- ---- the frames that come first are answered as they would be by themselves

record Extends (whole part : List Exchange) : Type 0 where
  rest : List Exchange
  is : whole ≡ part ++ rest

extends : (n : ℕ) (boxes : List Box) (xs ys : List (List ℕ)) → Extends (served_within n boxes (xs ++ ys)).exchanges (served_within n boxes xs).exchanges
extends zero boxes xs ys = record { rest = []; is = refl }
extends (suc n) boxes [] ys = record { rest = (served_within (suc n) boxes ys).exchanges; is = refl }
extends (suc n) boxes (frame ∷ xs) ys = by_last (extends n (boxes_after boxes frame) xs ys) (is_last (read_request (drop 2 frame)))
  where
    then_served : Bool → List (List ℕ) → Served
    then_served last frames = exchange_then (exchange_of boxes frame)
        (if last then nothing_served (boxes_after boxes frame) else served_within n (boxes_after boxes frame) frames)

    by_last : Extends (served_within n (boxes_after boxes frame) (xs ++ ys)).exchanges (served_within n (boxes_after boxes frame) xs).exchanges
        → (last : Bool) → Extends (then_served last (xs ++ ys)).exchanges (then_served last xs).exchanges
    by_last more true = record { rest = []; is = refl }
    by_last more false = record { rest = more.rest; is = ap (λ (l : List Exchange). exchange_of boxes frame ∷ l) more.is }

told_more : (name : List ℕ) (xs ys : List Exchange) → told name (xs ++ ys) ≡ told name xs ++ told name ys
told_more name xs ys = flat_map-append (λ e. told_of name e.reply e.asked) xs ys

counters_more : (role : Role) (xs ys : List BoxExchange) → counters role (xs ++ ys) ≡ counters role xs ++ counters role ys
counters_more role xs ys = flat_map-append (λ t. counter_by role t.asked t.reply) xs ys

-- ---- one connection

past_one : (role : Role) (name : List ℕ) (boxes : List Box) (session : Session)
    → RiseIn role (box_of name boxes) (box_of name (boxes_past boxes session)) (counters_in role name boxes session)
past_one role name boxes session =
    let all = session.sent ++ frame_in session.unsent in
    let part = (after_frames boxes session.sent).exchanges in
    let longer = extends EXCHANGE_LIMIT boxes session.sent (frame_in session.unsent) in
    let so : counters role (told name (after_frames boxes all).exchanges) ≡ counters role (told name part) ++ counters role (told name longer.rest) =
    ap (λ (l : List Exchange). counters role (told name l)) longer.is
    ∙ ap (counters role) (told_more name part longer.rest) ∙ counters_more role (told name part) (told name longer.rest) in
    front_in role (box_of name boxes) (box_of name (boxes_past boxes session)) (counters role (told name part)) (counters role (told name longer.rest))
    (subst (RiseIn role (box_of name boxes) (box_of name (boxes_past boxes session))) so (rises_within EXCHANGE_LIMIT role name boxes all))

-- and one after the other
pub rise_over : (role : Role) (name : List ℕ) (boxes : List Box) (sessions : List Session)
    → RiseIn role (box_of name boxes) (box_of name (boxes_past_all boxes sessions)) (counters_over role name boxes sessions)
rise_over role name boxes [] = nothing_in role (box_of name boxes)
rise_over role name boxes (session ∷ more) =
    join_in role (box_of name boxes) (box_of name (boxes_past boxes session)) (box_of name (boxes_past_all (boxes_past boxes session) more))
    (counters_in role name boxes session) (counters_over role name (boxes_past boxes session) more)
    (past_one role name boxes session) (rise_over role name (boxes_past boxes session) more)
