-- What a session answers to the packet of a text that was said, by the view that it stands in.
use Rattle.std.proofs.Common.{◌≡◌, ℕ, ◌+◌, ◌<◌, ◌≤◌, Bool, true, false, nat_eq, nat_lt, length, Result, Ok, Err, refl, sym, ap, ◌∙◌, inl, inr, subst, arith, if◌then◌else◌}
use Rattle.std.specs.Prelude.{All}
use Rattle.std.proofs.lemmas.Bool.{not-false, cases_Bool, cases_eq, cases_lt, cond-true, cond-false, eq-eqb, ne_eqb, le-ltb}
use Rattle.dr_base.specs.declared.limits.TheConstants.{KEPT_LIMIT}
use Rattle.dr_base.specs.Position.{is_own, position_at}
use Rattle.dr_base.specs.declared.position.Position.{Position}
use Rattle.dr_base.specs.declared.position.Side.{Side}
use Rattle.dr_base.proofs.Parity.{own_next}
use Rattle.fs_aead.specs.Chain.{message_key}
use Rattle.kem_laws.specs.Mechanism.{Mechanism, IsLawfulMechanism}
use Rattle.packet.specs.Packet.{Fields}
use Rattle.session_model.specs.States.{State}
use Rattle.session_model.specs.Taking.{ReceiveDraft, draft_receive, opened_by}
use Rattle.session_model.specs.Ways.{Way, epoch_way, known_way, way_of, within_limit}
use Rattle.session_model.specs.declared.answer.Refusal.{Refusal}
use Rattle.session_model.specs.declared.answer.Refusal.TheVariants.{OwnPacket, Spent, SkipLimit}
use Rattle.dr_model.specs.Conversations.Conversation.{Conversation, is_said, kind_at, text_at}
use Rattle.dr_model.specs.Conversations.Indices.{is_among}
use Rattle.dr_model.specs.Conversations.Lawful.{HasArrived, IsLawfulConversation, IsLawfulView}
use Rattle.dr_model.specs.Conversations.Posts.{post_fields, turn_of_epoch}
use Rattle.dr_model.specs.Conversations.ViewStates.{state_of}
use Rattle.dr_model.specs.Conversations.Views.{View, after_opening, has_opened, missing_of, reach_in}
use Rattle.dr_model.specs.Theorems.Sessions.{received_in}
use Rattle.dr_model.proofs.Growth.SameViews.{missing_of-waiting}
use Rattle.dr_model.proofs.Missing.EpochIndices.{indices_in-beyond, is_among-indices}
use Rattle.dr_model.proofs.Taking.AlongChain.{way_chain}
use Rattle.dr_model.proofs.Taking.KnownEpoch.{after_opening-known, length-kept, obeying, opened_here, state_of-obeying, way_kept, way_spent}
use Rattle.dr_model.proofs.Taking.LatestEpoch.{IsLatest, is_latest, latest_of, near_reach}
use Rattle.dr_model.proofs.Taking.NextEpoch.{after_opening-next, answers, opened_next}
use Rattle.dr_model.proofs.Taking.NextWay.{way_next}
use Rattle.dr_model.proofs.Taking.PacketFields.{IsPlace, is_place, opened_by-key, way_of-own, way_of-peers}

-- the packet opens, and the session stands in the next view
abbrev opens_at : Mechanism → Conversation → View → Position → Result ReceiveDraft Refusal
opens_at k c next p = Ok (record { position = p; kind = kind_at c p; text = text_at c p; next = state_of k c next })

-- unless too many would be missing
abbrev far_at : Mechanism → Conversation → View → Position → Result ReceiveDraft Refusal
far_at k c next p =
    if nat_lt KEPT_LIMIT (length (missing_of c next)) then Err (SkipLimit (length (missing_of c next))) else opens_at k c next p

-- a way within the limit
answer_within : (f : Fields) (b : Bool) (n : ℕ) (way : Way) (opened : Result ReceiveDraft Refusal)
    → opened_by f (Ok way) ≡ opened
    → opened_by f (if b then Err (SkipLimit n) else Ok way) ≡ (if b then Err (SkipLimit n) else opened)
answer_within f true n way opened h = refl
answer_within f false n way opened h = h

-- the key of a way that leads to a view opens the packet, and its receipt is obeyed
opened_on : (k : Mechanism) (c : Conversation) (next : View) (p : Position) → IsPlace c p
    → opened_by (post_fields k c p) (Ok (record { key = message_key (turn_of_epoch k c p.epoch).stream p.index; next = state_of k c next }))
    ≡ opens_at k c (obeying c p next) p
opened_on k c next p place =
    opened_by-key k c p (record { key = message_key (turn_of_epoch k c p.epoch).stream p.index; next = state_of k c next })
    place refl
    ∙ ap (λ (s : State). Ok (record { position = p; kind = kind_at c p; text = text_at c p; next = s })) (state_of-obeying k c p next)

answer_limit : (k : Mechanism) (c : Conversation) (next : View) (p : Position) → IsPlace c p
    → opened_by (post_fields k c p) (within_limit (length (missing_of c next)) (record { key = message_key (turn_of_epoch k c p.epoch).stream p.index; next = state_of k c next }))
    ≡ far_at k c (obeying c p next) p
answer_limit k c next p place =
    let way : Way = record { key = message_key (turn_of_epoch k c p.epoch).stream p.index; next = state_of k c next } in
    let after = obeying c p next in
    answer_within (post_fields k c p) (nat_lt KEPT_LIMIT (length (missing_of c next))) (length (missing_of c next)) way
    (opens_at k c after p)
    (opened_on k c next p place)
    ∙ ap (λ n. if nat_lt KEPT_LIMIT n then Err (SkipLimit n) else opens_at k c after p)
    (ap length (sym (missing_of-waiting c next after.awaiting)))

-- ---- a known epoch

-- by a kept key, which leaves no more missing
answer_late : (k : Mechanism) (c : Conversation) (v : View) (p : Position) → IsPlace c p → length (missing_of c v) ≤ KEPT_LIMIT
    → p.index ≤ reach_in c v p.epoch
    → opened_by (post_fields k c p) (Ok (record { key = message_key (turn_of_epoch k c p.epoch).stream p.index; next = state_of k c (opened_here v p) }))
    ≡ far_at k c (obeying c p (opened_here v p)) p
answer_late k c v p place near late =
    let here = opened_here v p in
    let next = obeying c p here in
    opened_on k c here p place
    ∙ sym (cond-false (nat_lt KEPT_LIMIT (length (missing_of c next))) (Err (SkipLimit (length (missing_of c next))))
    (opens_at k c next p)
    (le-ltb KEPT_LIMIT (length (missing_of c next))
    (omega (arith, ap length (missing_of-waiting c here next.awaiting), length-kept k c v p late))))

-- the index comes after the reach, or its key is kept
answer_new : (k : Mechanism) (c : Conversation) (v : View) (p : Position) (latest : ℕ) → IsPlace c p
    → IsLatest v.side v.epoch latest → length (missing_of c v) ≤ KEPT_LIMIT
    → is_own v.side p.epoch ≡ false → p.epoch ≤ v.epoch → has_opened v p ≡ false
    → opened_by (post_fields k c p) (known_way (state_of k c v) p (state_of k c v).receiving) ≡ far_at k c (obeying c p (opened_here v p)) p
answer_new k c v p latest place at near own known new =
    let f = post_fields k c p in
    elim (cases_lt (reach_in c v p.epoch) p.index) as (λ _. opened_by f (known_way (state_of k c v) p (state_of k c v).receiving) ≡ far_at k c (obeying c p (opened_here v p)) p) [
      | inl early ↦
          let low : v.epoch ≤ p.epoch + 1 = near_reach c v p.epoch p.index place.most early in
          ap (opened_by f)
          (way_chain k c v p (subst (λ n. IsLatest v.side v.epoch n)
          (is_latest v.side v.epoch latest p.epoch at own known low) at) early)
          ∙ answer_limit k c (opened_here v p) p place
      | inr late ↦
          ap (opened_by f) (way_kept k c v p latest at own known place.one late new)
          ∙ answer_late k c v p place near late
    ]

-- opened before, or not
answer_known : (k : Mechanism) (c : Conversation) (v : View) (p : Position) → IsPlace c p → length (missing_of c v) ≤ KEPT_LIMIT
    → is_own v.side p.epoch ≡ false → p.epoch ≤ v.epoch
    → opened_by (post_fields k c p) (known_way (state_of k c v) p (state_of k c v).receiving)
    ≡ (if has_opened v p then Err (Spent p) else far_at k c (after_opening c v p) p)
answer_known k c v p place near own known =
    let f = post_fields k c p in
    let ways = known_way (state_of k c v) p (state_of k c v).receiving in
    let found = latest_of v.side v.epoch p.epoch own known in
    elim (cases_Bool (has_opened v p)) as (λ _. opened_by f ways ≡ (if has_opened v p then Err (Spent p) else far_at k c (after_opening c v p) p)) [
      | inl old ↦
          ap (opened_by f) (way_spent k c v p found.0 found.1 own known place.most old)
          ∙ sym (cond-true (has_opened v p) (Err (Spent p)) (far_at k c (after_opening c v p) p) old)
      | inr new ↦
          answer_new k c v p found.0 place found.1 near own known new
          ∙ ap (λ next. far_at k c next p) (sym (after_opening-known c v p known))
          ∙ sym (cond-false (has_opened v p) (Err (Spent p)) (far_at k c (after_opening c v p) p) new)
    ]

-- ---- the next epoch

-- nothing of it was opened
unopened_next : (c : Conversation) (v : View) (i : ℕ) → All (HasArrived c v) v.arrived
    → has_opened v (position_at (v.epoch + 1) i) ≡ false
unopened_next c v i arrivals =
    sym (is_among-indices v.arrived (position_at (v.epoch + 1) i))
    ∙ ap (λ indices. is_among indices i) (indices_in-beyond c v v.arrived (v.epoch + 1) arrivals (omega arith))

-- what the side answers by the way
abbrev AnswersOn : Mechanism → Conversation → View → Position → Result Way Refusal → Type 0
AnswersOn k c v p ways =
    opened_by (post_fields k c p) ways ≡ (if has_opened v p then Err (Spent p) else far_at k c (after_opening c v p) p)

answer_next : (k : Mechanism) (c : Conversation) (v : View) (i : ℕ) → IsLawfulMechanism k → IsLawfulConversation k c
    → All (HasArrived c v) v.arrived → 1 ≤ i
    → v.epoch < length c.seeds → is_own v.side (v.epoch + 1) ≡ false → IsPlace c (position_at (v.epoch + 1) i)
    → AnswersOn k c v (position_at (v.epoch + 1) i) (epoch_way k (state_of k c v) (post_fields k c (position_at (v.epoch + 1) i)) (state_of k c v).phase)
answer_next k c v i law lawful arrivals one begun peers place =
    let p = position_at (v.epoch + 1) i in
    let own : is_own v.side v.epoch ≡ true = not-false (is_own v.side v.epoch) (sym (own_next v.side v.epoch) ∙ peers) in
    ap (opened_by (post_fields k c p)) (way_next k c v i (answers k c v.epoch law lawful begun) arrivals one own peers)
    ∙ answer_limit k c (opened_next v i) p place
    ∙ ap (λ next. far_at k c next p) (sym (after_opening-next c v i))
    ∙ sym (cond-false (has_opened v p) (Err (Spent p)) (far_at k c (after_opening c v p) p) (unopened_next c v i arrivals))

-- ---- any packet

-- a packet of the peer's
answer_peers : (k : Mechanism) (c : Conversation) (side : Side) (v : View) (p : Position) → IsLawfulMechanism k
    → IsLawfulConversation k c → IsLawfulView k c side v → IsPlace c p
    → is_own v.side p.epoch ≡ false → AnswersOn k c v p (way_of k (state_of k c v) (post_fields k c p))
answer_peers k c side v p law lawful view place peers =
    let s = state_of k c v in
    let f = post_fields k c p in
    let near : p.epoch ≤ v.epoch + 1 = omega (arith, place.began, view.near_end) in
    let by_epoch = way_of-peers k s f refl peers near in
    elim (cases_eq p.epoch (v.epoch + 1)) as (λ _. AnswersOn k c v p (way_of k s f)) [
      | inl next ↦
          let same : position_at (v.epoch + 1) p.index ≡ p = ap (λ epoch. position_at epoch p.index) (sym next) in
          ap (opened_by f) (by_epoch
          ∙ cond-true (nat_eq p.epoch (v.epoch + 1)) (epoch_way k s f s.phase) (known_way s p s.receiving)
          (eq-eqb p.epoch (v.epoch + 1) next))
          ∙ subst (λ q. AnswersOn k c v q (epoch_way k s (post_fields k c q) s.phase)) same
          (answer_next k c v p.index law lawful view.arrivals place.one (omega (arith, place.began))
          (ap (is_own v.side) (sym next) ∙ peers) (subst (IsPlace c) (sym same) place))
      | inr other ↦
          ap (opened_by f) (by_epoch
          ∙ cond-false (nat_eq p.epoch (v.epoch + 1)) (epoch_way k s f s.phase) (known_way s p s.receiving)
          (ne_eqb p.epoch (v.epoch + 1) other))
          ∙ answer_known k c v p place view.near peers (grind arith)
    ]

-- an own packet, or one of the peer's
pub received : (k : Mechanism) (c : Conversation) (side : Side) (v : View) (p : Position) → IsLawfulMechanism k
    → IsLawfulConversation k c → IsLawfulView k c side v → is_said c p ≡ true
    → draft_receive k (state_of k c v) (post_fields k c p) ≡ received_in k c v p
unfolding draft_receive
received k c side v p law lawful view said =
    let s = state_of k c v in
    let f = post_fields k c p in
    let place = is_place k c p lawful said in
    let others = if has_opened v p then Err (Spent p) else far_at k c (after_opening c v p) p in
    elim (cases_Bool (is_own v.side p.epoch)) as (λ _. opened_by f (way_of k s f) ≡ received_in k c v p) [
      | inl own ↦
          ap (opened_by f) (way_of-own k s f refl own)
          ∙ sym (cond-true (is_own v.side p.epoch) (Err (OwnPacket p.epoch)) others own)
      | inr peers ↦
          answer_peers k c side v p law lawful view place peers
          ∙ sym (cond-false (is_own v.side p.epoch) (Err (OwnPacket p.epoch)) others peers)
    ]
