-- Runs of a world, and what becomes of a packet of the peer's.
use Rattle.std.proofs.Common.{◌≡◌, ℕ, ◌<◌, ◌≤◌, true, false, List, [], ◌∷◌, ◌++◌, length, count_by, Some, None, Err, refl, sym, ◌∙◌, ap, subst, arith}
use Rattle.std.specs.List.{list_any}
use Rattle.std.specs.Prelude.{◌||◌, nat_le, nat_lt}
use Rattle.std.proofs.lemmas.Bool.{or_left, or_right, cond-true, cond-false, le-ltb, lt-ltb, le-leb, lt-leb}
use Rattle.std.proofs.lemmas.List.{map_push}
use Rattle.std.proofs.lemmas.List.Folds.{list_any-append}
use Rattle.dr_base.specs.declared.limits.TheConstants.{KEPT_LIMIT, INBOX_LIMIT}
use Rattle.dr_base.specs.Position.{is_own, is_at}
use Rattle.dr_base.specs.declared.position.Position.{Position}
use Rattle.dr_base.specs.declared.position.Side.{Side}
use Rattle.dr_base.specs.declared.position.Side.TheVariants.{First, Second}
use Rattle.dr_base.proofs.Positions.{is_at-itself}
use Rattle.kem_laws.specs.Mechanism.{Mechanism}
use Rattle.session_model.specs.declared.answer.Answer.TheVariants.{Opened, Refused}
use Rattle.session_model.specs.declared.answer.Refusal.{Refusal}
use Rattle.session_model.specs.declared.answer.Refusal.TheVariants.{OwnPacket, Spent, SkipLimit, InboxFull}
use Rattle.dr_model.specs.Conversations.Formats.{Formats}
use Rattle.dr_model.specs.Conversations.Conversation.{is_said}
use Rattle.dr_model.specs.Conversations.Views.{View, has_opened, after_opening, missing_of, entry_at, history_of}
use Rattle.dr_model.specs.Machines.Events.{Event, does, of_position, takes}
use Rattle.dr_model.specs.Machines.Steps.{Step, step, settled}
use Rattle.dr_model.specs.Machines.Worlds.{World, opening_world, view_of, with_view, inbox_in, taking_in, taking_at, step_of, run_of}
use Rattle.dr_model.specs.Theorems.Headline.{IsWithinLimits, IsNew, times_opened_by}
use Rattle.dr_model.proofs.Growth.WorldGrowth.{Gains, same, more, IsUnchanged, step_sound}
use Rattle.dr_model.proofs.Worlds.Counted.{count_new}
use Rattle.dr_model.proofs.Worlds.Passes.{none_passes, second_passes, third_passes}

-- ---- runs

-- a position that is among the first is among the second
gained_among : (ps qs : List Position) (p : Position) → Gains ps qs → list_any (is_at p) ps ≡ true
    → list_any (is_at p) qs ≡ true
gained_among ps qs p (same e) h = ap (list_any (is_at p)) e ∙ h
gained_among ps qs p (more q new e) h =
    ap (list_any (is_at p)) e ∙ list_any-append (is_at p) ps (q ∷ [])
    ∙ or_left (list_any (is_at p) ps) (list_any (is_at p) (q ∷ [])) h

-- opened stays opened
pub stays : (k : Mechanism) (w : World) (hs : List Event) (side : Side) (p : Position) → has_opened (view_of w side) p ≡ true
    → has_opened (view_of (run_of k w hs) side) p ≡ true
stays k w [] side p h = h
stays k w (e ∷ hs) side p h =
    stays k (step_of k w e).next hs side p
    (gained_among (view_of w side).arrived (view_of (step_of k w e).next side).arrived p ((step_sound k w e).gains side) h)

-- and so it is among those that were gained
count_gained : (ps qs : List Position) (p : Position) → Gains ps qs → count_by (is_at p) ps ≤ 1 → count_by (is_at p) qs ≤ 1
count_gained ps qs p (same e) h = subst (λ rs. count_by (is_at p) rs ≤ 1) (sym e) h
count_gained ps qs p (more q new e) h =
    subst (λ rs. count_by (is_at p) rs ≤ 1) (sym e) (count_new ps q p (is_at p q) refl new h)

-- opened at most once stays so
stays_once : (k : Mechanism) (w : World) (hs : List Event) (side : Side) (p : Position) → times_opened_by w side p ≤ 1
    → times_opened_by (run_of k w hs) side p ≤ 1
stays_once k w [] side p h = h
stays_once k w (e ∷ hs) side p h =
    stays_once k (step_of k w e).next hs side p
    (count_gained (view_of w side).arrived (view_of (step_of k w e).next side).arrived p ((step_sound k w e).gains side) h)

-- at the beginning nothing was opened
opening_once : (key : List ℕ) (formats : Formats) (side : Side) (p : Position) → times_opened_by (opening_world key formats) side p ≤ 1
opening_once key formats First p = omega arith
opening_once key formats Second p = omega arith

-- so each position is opened at most once
pub once : (k : Mechanism) (key : List ℕ) (formats : Formats) (hs : List Event) (side : Side) (p : Position)
    → times_opened_by (run_of k (opening_world key formats) hs) side p ≤ 1
once k key formats hs side p = stays_once k (opening_world key formats) hs side p (opening_once key formats side p)

-- a refusal leaves the conversation and both views
pub refusal_changes_nothing : (k : Mechanism) (w : World) (h : Event) (refusal : Refusal)
    → (step_of k w h).answer ≡ Refused refusal → IsUnchanged w (step_of k w h).next
refusal_changes_nothing k w h refusal = (step_sound k w h).refused refusal

-- ---- a packet of the peer's

-- a side takes the packet of a position that was said
taken : (k : Mechanism) (w : World) (side : Side) (p : Position) → is_said w.conversation p ≡ true
    → step_of k w (does side (takes (of_position p))) ≡ settled w (taking_in w side p)
taken k w side p said = ap (taking_at w side) (cond-true (is_said w.conversation p) (Some p) None said)

-- within the limits it is opened
pub opened_within : (k : Mechanism) (w : World) (side : Side) (p : Position) → IsNew w side p → IsWithinLimits w side p
    → step_of k w (does side (takes (of_position p))) ≡ step (Opened p) (with_view w side (after_opening w.conversation (view_of w side) p))
opened_within k w side p new within =
    let missing = length (missing_of w.conversation (after_opening w.conversation (view_of w side) p)) in
    let near : nat_lt KEPT_LIMIT missing ≡ false = le-ltb KEPT_LIMIT missing within.near in
    let room : nat_le INBOX_LIMIT (length (inbox_in w side)) ≡ false = lt-leb INBOX_LIMIT (length (inbox_in w side)) within.room in
    taken k w side p new.said
    ∙ ap (settled w) (cond-false (is_own side p.epoch) (Err (OwnPacket p.epoch)) _ new.peers
    ∙ none_passes (has_opened (view_of w side) p) (nat_lt KEPT_LIMIT missing)
    (nat_le INBOX_LIMIT (length (inbox_in w side))) _ _ _ _ new.unopened near room)

-- it is answered so
pub first_arrival : (k : Mechanism) (w : World) (side : Side) (p : Position) → IsNew w side p → IsWithinLimits w side p
    → (step_of k w (does side (takes (of_position p)))).answer ≡ Opened p
first_arrival k w side p new within = ap (λ (made : Step World). made.answer) (opened_within k w side p new within)

-- the history of the view that changed
history_with : (w : World) (side : Side) (v : View)
    → history_of (with_view w side v).conversation (view_of (with_view w side v) side) ≡ history_of w.conversation v
history_with w First v = refl
history_with w Second v = refl

-- the text comes last in the history
pub stands : (k : Mechanism) (w : World) (side : Side) (p : Position) → IsNew w side p → IsWithinLimits w side p
    → let next = (step_of k w (does side (takes (of_position p)))).next in
    history_of next.conversation (view_of next side) ≡ history_of w.conversation
    (view_of w side) ++ entry_at w.conversation p ∷ []
stands k w side p new within =
    ap (λ (made : Step World). history_of made.next.conversation (view_of made.next side))
    (opened_within k w side p new within)
    ∙ history_with w side (after_opening w.conversation (view_of w side) p)
    ∙ map_push (entry_at w.conversation) (view_of w side).arrived p

-- what comes last is among them
pub among_last : (ps : List Position) (p : Position) → list_any (is_at p) (ps ++ p ∷ []) ≡ true
among_last ps p =
    list_any-append (is_at p) ps (p ∷ [])
    ∙ or_right (list_any (is_at p) ps) (is_at p p || false) (or_left (is_at p p) false (is_at-itself p))

-- what the view that changed has opened
pub opened_with : (w : World) (side : Side) (v : View) (p : Position)
    → has_opened (view_of (with_view w side v) side) p ≡ has_opened v p
opened_with w First v p = refl
opened_with w Second v p = refl

-- the position is among those that were opened
pub opened : (k : Mechanism) (w : World) (side : Side) (p : Position) → IsNew w side p → IsWithinLimits w side p
    → has_opened (view_of (step_of k w (does side (takes (of_position p)))).next side) p ≡ true
opened k w side p new within =
    ap (λ (made : Step World). has_opened (view_of made.next side) p) (opened_within k w side p new within)
    ∙ opened_with w side (after_opening w.conversation (view_of w side) p) p
    ∙ among_last (view_of w side).arrived p

-- a repeat is refused
pub repeats : (k : Mechanism) (w : World) (side : Side) (p : Position) → is_said w.conversation p ≡ true
    → is_own side p.epoch ≡ false
    → has_opened (view_of w side) p ≡ true → (step_of k w (does side (takes (of_position p)))).answer ≡ Refused (Spent p)
repeats k w side p said peers before =
    ap (λ (made : Step World). made.answer)
    (taken k w side p said
    ∙ ap (settled w) (second_passes (is_own side p.epoch) (has_opened (view_of w side) p) _ _ _ peers before))

-- too far ahead it is refused
pub too_far : (k : Mechanism) (w : World) (side : Side) (p : Position) → IsNew w side p
    → KEPT_LIMIT < length (missing_of w.conversation (after_opening w.conversation (view_of w side) p))
    → (step_of k w (does side (takes (of_position p)))).answer
    ≡ Refused (SkipLimit (length (missing_of w.conversation (after_opening w.conversation (view_of w side) p))))
too_far k w side p new far =
    let missing = length (missing_of w.conversation (after_opening w.conversation (view_of w side) p)) in
    let over : nat_lt KEPT_LIMIT missing ≡ true = lt-ltb KEPT_LIMIT missing far in
    ap (λ (made : Step World). made.answer)
    (taken k w side p new.said
    ∙ ap (settled w) (third_passes (is_own side p.epoch) (has_opened (view_of w side) p)
    (nat_lt KEPT_LIMIT missing) _ _ _ _ new.peers new.unopened over))

-- and so it is where the inbox is full
pub inbox_full : (k : Mechanism) (w : World) (side : Side) (p : Position) → IsNew w side p
    → length (missing_of w.conversation (after_opening w.conversation (view_of w side) p)) ≤ KEPT_LIMIT
    → INBOX_LIMIT ≤ length (inbox_in w side) → (step_of k w (does side (takes (of_position p)))).answer ≡ Refused InboxFull
inbox_full k w side p new near full =
    let missing = length (missing_of w.conversation (after_opening w.conversation (view_of w side) p)) in
    let under : nat_lt KEPT_LIMIT missing ≡ false = le-ltb KEPT_LIMIT missing near in
    let filled : nat_le INBOX_LIMIT (length (inbox_in w side)) ≡ true = le-leb INBOX_LIMIT (length (inbox_in w side)) full in
    ap (λ (made : Step World). made.answer)
    (taken k w side p new.said
    ∙ ap (settled w) (cond-false (is_own side p.epoch) (Err (OwnPacket p.epoch)) _ new.peers
    ∙ third_passes (has_opened (view_of w side) p) (nat_lt KEPT_LIMIT missing)
    (nat_le INBOX_LIMIT (length (inbox_in w side))) _ _ _ _ new.unopened under filled))
