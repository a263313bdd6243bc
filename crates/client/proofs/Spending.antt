-- What was used up is erased, and stays so.
use Rattle.std.proofs.Common.{Bool, Err, List, None, Ok, Option, Result, Some, [], ap, false, if◌then◌else◌, inl, inr, map, subst, sym, true, ℕ, ⊎_elim, ◌++◌, ◌∙◌, ◌∷◌, ◌≡◌, ◌≤◌}
use Rattle.std.specs.Prelude.{All, Any, filter, nat_le, nat_lt, length, option_map, slice_get, slice_index_or}
use Rattle.std.proofs.lemmas.List.Elements.{All-drop, All-filter, All-head, All-map, All-tail, filter_passes}
use Rattle.boxes.specs.Posts.{Post}
use Rattle.dr_base.specs.Position.{is_own}
use Rattle.dr_base.specs.declared.limits.TheConstants.{INBOX_LIMIT, KEPT_LIMIT}
use Rattle.dr_base.specs.declared.position.Position.{Position}
use Rattle.dr_base.specs.declared.position.Side.{Side}
use Rattle.dr_disk.specs.State.{Always, DiskState}
use Rattle.kem_laws.specs.Mechanism.{Mechanism}
use Rattle.session_model.specs.Contents.{Content}
use Rattle.session_model.specs.Clients.{Client, accept_send, say_check}
use Rattle.session_model.specs.Saying.{SendDraft, draft_send}
use Rattle.session_model.specs.Sealing.{posted}
use Rattle.session_model.specs.declared.answer.Answer.TheVariants.{Opened, Said}
use Rattle.session_model.specs.declared.answer.Refusal.{Refusal}
use Rattle.session_model.specs.declared.answer.Refusal.TheVariants.{InboxFull, OwnPacket, SkipLimit, Spent}
use Rattle.session_record.specs.Record.{record_read}
use Rattle.dr_model.specs.Conversations.Conversation.{Conversation, is_said, positions}
use Rattle.dr_model.specs.Conversations.Posts.{post_at}
use Rattle.dr_model.specs.Conversations.Views.{View, after_opening, has_opened, missing_of, outbox_of}
use Rattle.dr_model.specs.Machines.Acts.{act_on, said_by, saying, saying_by}
use Rattle.dr_model.specs.Machines.Draws.{given_or}
use Rattle.dr_model.specs.Machines.Steps.{Step, settled, step}
use Rattle.dr_model.specs.Machines.WorldSides.{kept_in}
use Rattle.dr_model.specs.Machines.Worlds.{World, inbox_in, made_at, taking_in, taking_made, view_of, with_view}
use Rattle.dr_model.specs.Secrets.Held.{Holds}
use Rattle.dr_model.specs.Secrets.Made.{Made}
use Rattle.dr_model.specs.Secrets.Secret.{the_message_key}
use Rattle.dr_model.specs.Theorems.Erasure.{IsErased}
use Rattle.dr_model.specs.Theorems.LawfulWorlds.{IsLawfulWorld}
use Rattle.dr_model.proofs.Growth.Growing.{positions-said}
use Rattle.dr_model.proofs.Worlds.LastingPackets.{packets_last}
use Rattle.dr_model.proofs.Worlds.Runs.{among_last, opened_with, stays}
use Rattle.dr_model.proofs.Worlds.WorldViews.{view_lawful}
use Rattle.client.specs.Cells.{Cell}
use Rattle.client.specs.InWorlds.{CellStandsFor}
use Rattle.client.specs.Moments.{AreLinkedInCell, IsLater, Known}
use Rattle.client.specs.Spent.{IsErasedInCell, IsUsed}
use Rattle.client.proofs.Later.{later_twice, lawful_at}
use Rattle.client.proofs.Standing.{among, first_later, later, stands}

-- ---- a packet that was taken

opened_now : (w : World) (side : Side) (p : Position)
    → has_opened (view_of (with_view w side (after_opening w.conversation (view_of w side) p)) side) p ≡ true
opened_now w side p =
    opened_with w side (after_opening w.conversation (view_of w side) p) p ∙ among_last (view_of w side).arrived p

opens_by : (w : World) (side : Side) (a b c d : Bool) (r s t u : Refusal) (p q : Position)
    → (settled w (if a then Err r else (if b then Err s else (if c then Err t else (if d then Err u else Ok
    (step (Opened p) (with_view w side (after_opening w.conversation (view_of w side) p)))))))).answer ≡ Opened q
    → (p ≡ q) × (has_opened (view_of (settled w (if a then Err r else (if b then Err s else (if c then Err t else (if d then Err u else Ok
    (step (Opened p) (with_view w side (after_opening w.conversation (view_of w side) p)))))))).next side) q ≡ true)
opens_by w side true b c d r s t u p q h = absurd (cc h)
opens_by w side false true c d r s t u p q h = absurd (cc h)
opens_by w side false false true d r s t u p q h = absurd (cc h)
opens_by w side false false false true r s t u p q h = absurd (cc h)
opens_by w side false false false false r s t u p q h =
    let same : p ≡ q = cc h in
    (same, subst (λ x. has_opened (view_of (with_view w side (after_opening w.conversation (view_of w side) p)) side) x ≡ true) same (opened_now w side p))

opens_at : (w : World) (side : Side) (p q : Position) → (settled w (taking_in w side p)).answer ≡ Opened q
    → (p ≡ q) × (has_opened (view_of (settled w (taking_in w side p)).next side) q ≡ true)
opens_at w side p q =
    let missing = length (missing_of w.conversation (after_opening w.conversation (view_of w side) p)) in
    opens_by w side (is_own side p.epoch) (has_opened (view_of w side) p)
    (nat_lt KEPT_LIMIT missing) (nat_le INBOX_LIMIT (length (inbox_in w side)))
    (OwnPacket p.epoch) (Spent p) (SkipLimit missing) InboxFull p q

opens_made : (k : Mechanism) (w : World) (side : Side) (bytes : List ℕ) (made : Option Position) (q : Position)
    → (settled w (taking_made k w side bytes made)).answer ≡ Opened q
    → (made ≡ Some q) × (has_opened (view_of (settled w (taking_made k w side bytes made)).next side) q ≡ true)
opens_made k w side bytes None q h = absurd (cc h)
opens_made k w side bytes (Some p) q h = let opens = opens_at w side p q h in (ap Some opens.0, opens.1)

-- a packet whose taking is answered so was opened
pub taken_used : (k : Mechanism) (w : World) (side : Side) (bytes : List ℕ) (p : Position)
    → (settled w (taking_made k w side bytes (made_at k w bytes))).answer ≡ Opened p
    → has_opened (view_of (settled w (taking_made k w side bytes (made_at k w bytes))).next side) p ≡ true
taken_used k w side bytes p h = (opens_made k w side bytes (made_at k w bytes) p h).1

-- and is the packet of that position
pub taken_made : (k : Mechanism) (w : World) (side : Side) (bytes : List ℕ) (p : Position)
    → (settled w (taking_made k w side bytes (made_at k w bytes))).answer ≡ Opened p → made_at k w bytes ≡ Some p
taken_made k w side bytes p h = (opens_made k w side bytes (made_at k w bytes) p h).0

-- ---- a text that was said

-- an item whose position the side has said
abbrev IsOwnPost : Conversation → Side → Post → Type 0
IsOwnPost c side item = (is_said c item.position ≡ true) × (is_own side item.position.epoch ≡ true)

post_own : (k : Mechanism) (c : Conversation) (side : Side) (p : Position) → is_said c p ≡ true → is_own side p.epoch ≡ true
    → IsOwnPost c side (post_at k c p)
unfolding posted
post_own k c side p said own = (said, own)

posts_own : (k : Mechanism) (c : Conversation) (v : View) → All (IsOwnPost c v.side) (outbox_of k c v)
posts_own k c v =
    let own : Position → Bool = λ p. is_own v.side p.epoch in
    All-drop (IsOwnPost c v.side) v.dropped (map (post_at k c) (filter own (positions c)))
    (All-map (IsOwnPost c v.side) (post_at k c) (filter own (positions c))
    (λ i d inside. post_own k c v.side (slice_index_or (filter own (positions c)) i d)
    (All-filter own (λ p. is_said c p ≡ true) (positions c) (positions-said c) i d inside)
    (filter_passes own (positions c) i d inside)))

all_last : {X : Type 0} (P : X → Type 0) (xs : List X) (x : X) → All P (xs ++ x ∷ []) → P x
all_last P [] x all = All-head P x [] all
all_last P (y ∷ ys) x all = all_last P ys x (All-tail P y (ys ++ x ∷ []) all)

-- the packet of a text that was said comes last in the outbox
record HasPosted (client next : Client) (p : Position) : Type 0 where
  post : Post
  place : post.position ≡ p
  last : next.outbox ≡ client.outbox ++ post ∷ []

-- what the client keeps once the draft is accepted
abbrev accept_next : Client → SendDraft → Client
accept_next client draft = record client { state = draft.next; outbox = client.outbox ++ draft.post ∷ [] }

posts_by : (client next : Client) (p : Position) (o : Option SendDraft)
    → said_by (accept_send client o) ≡ Ok (step (Said p) next) → HasPosted client next p
posts_by client next p None h = absurd (cc h)
posts_by client next p (Some draft) h =
    let said = accept_next client draft in
    let same : step (Said draft.post.position) said ≡ step (Said p) next = cc h in
    record {
      post = draft.post;
      place = let e : Said draft.post.position ≡ Said p = ap (λ (s : Step Client). s.answer) same in cc;
      last = sym (ap (λ (s : Step Client). s.next.outbox) same);
    }

posts_checked : (k : Mechanism) (client next : Client) (content : Content) (draw : Option (List ℕ)) (p : Position)
    (r : Result Bool Refusal) → saying_by k client content draw r ≡ Ok (step (Said p) next) → HasPosted client next p
posts_checked k client next content draw p (Err refusal) h = absurd (cc h)
posts_checked k client next content draw p (Ok turns) h =
    posts_by client next p (draft_send k client.state content (given_or [] draw)) h

-- so a text whose saying is answered so was said
pub said_used : (k : Mechanism) (w : World) (side : Side) (client next : Client) (content : Content) (draw : Option (List ℕ))
    (p : Position) → act_on k client (saying content draw) ≡ Ok (step (Said p) next) → IsLawfulWorld k w
    → next ≡ kept_in k w side → (is_said w.conversation p ≡ true) × (is_own side p.epoch ≡ true)
said_used k w side client next content draw p made lawful is =
    let c = w.conversation in
    let v = view_of w side in
    let has = posts_checked k client next content draw p (say_check client content) made in
    let outbox : client.outbox ++ has.post ∷ [] ≡ outbox_of k c v = sym has.last ∙ ap (λ (x : Client). x.outbox) is in
    let own : IsOwnPost c v.side has.post =
    all_last (IsOwnPost c v.side) client.outbox has.post (subst (All (IsOwnPost c v.side)) (sym outbox) (posts_own k c v)) in (
      ap (is_said c) (sym has.place) ∙ own.0,
      ap (λ s. is_own s p.epoch) (sym (view_lawful k w side lawful).side_is)
          ∙ ap (λ (q : Position). is_own v.side q.epoch) (sym has.place) ∙ own.1,
    )

-- ---- erased, and for good

-- bytes that stand for a world in which a position was used
pub erased_at : (cell : Cell) → (k : Mechanism) → IsErased k
    → (w : World) (side : Side) (p : Position) (c : List ℕ) (kept : Client)
    → IsLawfulWorld k w → CellStandsFor cell k w side c → IsUsed w side p
    → option_map (record_read k) (cell.record_in c) ≡ Some (Ok kept)
    → Made (Holds kept.state) (the_message_key p.epoch p.index) → ⊥
erased_at cell k erased w side p c kept lawful stood used reads made =
    let same : kept_in k w side ≡ kept = cc (sym stood ∙ reads) in
    let view = view_lawful k w side lawful in
    let there = subst (λ (x : Client). Made (Holds x.state) (the_message_key p.epoch p.index)) (sym same) made in
    ⊎_elim (λ opened. erased.opened w.conversation side (view_of w side) p view opened there)
    (λ said. erased.said w.conversation side (view_of w side) p lawful.conversation view said.0 said.1 there) used

pub used_erased : (cell : Cell) → (k : Mechanism) → IsErased k
    → (w : World) (side : Side) (p : Position) (disk : DiskState)
    → IsLawfulWorld k w → Always (CellStandsFor cell k w side) disk → IsUsed w side p
    → IsErasedInCell cell k p disk
used_erased cell k erased w side p disk lawful stood used c kept left =
    erased_at cell k erased w side p c kept lawful (stood c left) used

-- what was used stays used
pub used_later : (k : Mechanism) (w last : World) (side : Side) (p : Position) → IsLawfulWorld k w → IsLater k w last
    → IsUsed w side p → IsUsed last side p
used_later k w last side p lawful later used =
    subst (λ v. IsUsed v side p) later.leads
    (⊎_elim (λ opened. inl (stays k w later.events side p opened))
    (λ said. inr ((packets_last k w later.events p lawful later.whole said.0).0, said.1)) used)

-- bytes that stand for a later world
pub erased_in : (cell : Cell) → (k : Mechanism) → IsErased k
    → (w last : World) (side : Side) (p : Position) (c : List ℕ) (kept : Client)
    → IsLawfulWorld k w → IsLater k w last → CellStandsFor cell k last side c → IsUsed w side p
    → option_map (record_read k) (cell.record_in c) ≡ Some (Ok kept)
    → Made (Holds kept.state) (the_message_key p.epoch p.index) → ⊥
erased_in cell k erased w last side p c kept lawful later stood used =
    erased_at cell k erased last side p c kept (lawful_at k w last lawful later) stood (used_later k w last side p lawful later used)

-- ---- at every later moment

pub erased_later : (cell : Cell) {X : Type 0} (state : X → DiskState) (xs : List X) (k : Mechanism)
    (side : Side) (first : World)
    (known : ℕ → Known) → IsErased k → IsLawfulWorld k first → AreLinkedInCell cell state xs k side first known
    → (n m : ℕ) (b : X) → n ≤ m → slice_get xs m ≡ Some b → (p : Position) → IsUsed (known n).last side p
    → IsErasedInCell cell k p (state b)
erased_later cell state xs k side first known erased lawful linked n m b le is p used c kept left =
    let w = (known n).last in
    let here =
    lawful_at k first w lawful
    (first_later cell state xs k side first known linked n m b le is) in
    let last = later cell state xs k side first known linked n m b le is in
    let still = stands cell state xs k side first known linked m b is in
    ⊎_elim (λ stood. erased_in cell k erased w (known m).last side p c kept here last stood used)
    (λ (at : Any (λ (v : World). CellStandsFor cell k v side c) (known m).doubtful).
    erased_in cell k erased w at.1 side p c kept here
    (later_twice k w (known m).last at.1 last
    (among (IsLater k (known m).last) (known m).doubtful at.1 still.doubtful_later (at.0, at.2, at.3)))
    at.4 used)
    (still.images c left)
