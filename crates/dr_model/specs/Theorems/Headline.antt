-- What holds in every run of the machine.
use Rattle.std.specs.Prelude.{All, List, Some, [], false, length, option_map, true, ℕ, ◌++◌, ◌<◌, ◌∷◌, ◌≡◌, ◌≢◌, ◌≤◌}
use Rattle.dr_base.specs.declared.limits.TheConstants.{KEPT_LIMIT, INBOX_LIMIT}
use Rattle.dr_base.specs.Position.{is_own}
use Rattle.dr_base.specs.declared.position.Position.{Position}
use Rattle.dr_base.specs.declared.position.Side.{Side}
use Rattle.kem_laws.specs.Mechanism.{Mechanism}
use Rattle.session_model.specs.declared.answer.Answer.TheVariants.{Opened, Refused}
use Rattle.session_model.specs.declared.answer.Refusal.{Refusal}
use Rattle.session_model.specs.declared.answer.Refusal.TheVariants.{BadPadding, InboxFull, SkipLimit, Spent}
use Rattle.dr_model.specs.Conversations.Conversation.{is_said}
use Rattle.dr_model.specs.Conversations.Formats.{Formats}
use Rattle.dr_model.specs.Conversations.Posts.{post_at, posts}
use Rattle.dr_model.specs.Conversations.Views.{after_opening, entry_at, has_opened, history_of, missing_of, times_opened}
use Rattle.dr_model.specs.Machines.Events.{Event, does, of_bytes, of_number, of_position, takes}
use Rattle.dr_model.specs.Machines.Network.{held_nth}
use Rattle.dr_model.specs.Machines.Worlds.{World, inbox_in, nth_of_peer, opening_world, run_of, step_of, view_of}
use Rattle.dr_model.specs.Theorems.Fairness.{IsSeedWhole, IsUnforged}
use Rattle.dr_model.specs.Theorems.LawfulWorlds.{IsLawfulWorld}

-- how many positions a side misses once it has opened this one
abbrev pub would_miss : World → Side → Position → ℕ
would_miss w side p = length (missing_of w.conversation (after_opening w.conversation (view_of w side) p))

-- a packet within the limits: at most KEPT_LIMIT keys are kept once it is opened, and the inbox
-- has room
pub record IsWithinLimits (w : World) (side : Side) (p : Position) : Type 0 where
  pub near : would_miss w side p ≤ KEPT_LIMIT
  pub room : length (inbox_in w side) < INBOX_LIMIT

-- the peer has said a text at this position, and the side hasn't opened its packet
pub record IsNew (w : World) (side : Side) (p : Position) : Type 0 where
  pub said : is_said w.conversation p ≡ true
  pub peers : is_own side p.epoch ≡ false
  pub unopened : has_opened (view_of w side) p ≡ false

-- how often a position stands among those that a side has opened
abbrev pub times_opened_by : World → Side → Position → ℕ
times_opened_by w side p = times_opened (view_of w side) p

-- Over every list of sends, losses, repeats, reorderings and foreign packets: a packet that the peer's session made and
-- that a side hasn't opened yet is, within the limits, opened at its first arrival to the text that was said, and stands
-- in the inbox's history exactly once from then on. Outside the limits it is refused by name. Repeats and refusals
-- change nothing, and packets stay as they are whatever is said later. A packet may arrive by its position, its number,
-- or as mere bytes: that is all one.
pub record Headline (k : Mechanism) : Type 0 where
  -- in any world, a side's answer to a packet of the peer's that it hasn't opened
  pub first_arrival : (w : World) (side : Side) (p : Position) → IsNew w side p → IsWithinLimits w side p
      → (step_of k w (does side (takes (of_position p)))).answer ≡ Opened p
  pub too_far : (w : World) (side : Side) (p : Position) → IsNew w side p → KEPT_LIMIT < would_miss w side p
      → (step_of k w (does side (takes (of_position p)))).answer
      ≡ Refused (SkipLimit (would_miss w side p))
  pub inbox_full : (w : World) (side : Side) (p : Position) → IsNew w side p → would_miss w side p ≤ KEPT_LIMIT
      → INBOX_LIMIT ≤ length (inbox_in w side)
      → (step_of k w (does side (takes (of_position p)))).answer ≡ Refused InboxFull
  -- what was opened stands in the history, with the text that was said
  pub stands : (w : World) (side : Side) (p : Position) → IsNew w side p → IsWithinLimits w side p
      → let next = (step_of k w (does side (takes (of_position p)))).next in
      history_of next.conversation (view_of next side)
      ≡ history_of w.conversation (view_of w side) ++ entry_at w.conversation p ∷ []
  pub opened : (w : World) (side : Side) (p : Position) → IsNew w side p → IsWithinLimits w side p
      → has_opened (view_of (step_of k w (does side (takes (of_position p)))).next side) p ≡ true
  -- in every run: it stays, and it is opened once
  pub stays : (w : World) (hs : List Event) (side : Side) (p : Position) → has_opened (view_of w side) p ≡ true
      → has_opened (view_of (run_of k w hs) side) p ≡ true
  pub once : (key : List ℕ) (formats : Formats) (hs : List Event) (side : Side) (p : Position)
      → times_opened_by (run_of k (opening_world key formats) hs) side p ≤ 1
  -- a packet that a session made is never refused for its padding, whichever format its side has
  pub padded_rightly : (w : World) (side : Side) (p : Position)
      → (step_of k w (does side (takes (of_position p)))).answer ≢ Refused BadPadding
  -- repeats and refusals
  pub repeats : (w : World) (side : Side) (p : Position) → is_said w.conversation p ≡ true → is_own side p.epoch ≡ false
      → has_opened (view_of w side) p ≡ true
      → (step_of k w (does side (takes (of_position p)))).answer ≡ Refused (Spent p)
  pub refusal_changes_nothing : (w : World) (h : Event) (refusal : Refusal) → (step_of k w h).answer ≡ Refused refusal
      → let next = (step_of k w h).next in
      (next.conversation ≡ w.conversation) × (next.first ≡ w.first) × (next.second ≡ w.second)
  -- a packet that arrives as bytes: taking them is taking its position, and no tag of theirs is forged
  pub by_bytes : (w : World) (side : Side) (p : Position) → IsLawfulWorld k w → is_said w.conversation p ≡ true
      → step_of k w (does side (takes (of_bytes (post_at k w.conversation p).packet)))
      ≡ step_of k w (does side (takes (of_position p)))
  pub real : (w : World) (side : Side) (p : Position) → IsLawfulWorld k w → is_said w.conversation p ≡ true
      → IsUnforged k w side (post_at k w.conversation p).packet
  -- a packet that arrives by its number: it is the packet of the peer's position of that number, and taking it is taking
  -- that position
  pub counted : (w : World) (side : Side) (nth : ℕ)
      → held_nth (posts k w.conversation) side nth
      ≡ option_map (λ p. (post_at k w.conversation p).packet) (nth_of_peer w.conversation side nth)
  pub by_number : (w : World) (side : Side) (nth : ℕ) (p : Position) → nth_of_peer w.conversation side nth ≡ Some p
      → step_of k w (does side (takes (of_number nth)))
      ≡ step_of k w (does side (takes (of_position p)))
  -- growth: a packet and its text stay, whatever happens
  pub packets_stay : (w : World) (h : Event) (p : Position) → IsLawfulWorld k w → is_said w.conversation p ≡ true
      → let next = (step_of k w h).next.conversation in
      (is_said next p ≡ true) × (post_at k next p ≡ post_at k w.conversation p)
  pub packets_last : (w : World) (hs : List Event) (p : Position) → IsLawfulWorld k w → All IsSeedWhole hs
      → is_said w.conversation p ≡ true → let last = (run_of k w hs).conversation in
      (is_said last p ≡ true) × (post_at k last p ≡ post_at k w.conversation p)
  pub texts_stay : (w : World) (h : Event) (p : Position) → is_said w.conversation p ≡ true
      → entry_at (step_of k w h).next.conversation p ≡ entry_at w.conversation p
