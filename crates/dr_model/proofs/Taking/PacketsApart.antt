-- Packets of two positions differ, so the bytes of a packet are found to be those of its position.
use Rattle.std.proofs.Common.{◌≡◌, ℕ, ◌<◌, ◌^◌, Bool, true, nat_eq, List, [], ◌∷◌, ◌++◌, length, take, drop, Some, None, refl, sym, ◌∙◌, ap, ap₂, subst, arith, if◌then◌else◌}
use Rattle.std.specs.Cmp.Lexicographic.{pointwise, same_text}
use Rattle.std.specs.Int.{from_be_bytes, to_be_bytes, w16, w32, w8}
use Rattle.std.specs.Prelude.{All, IfSome, find, option_map}
use Rattle.std.proofs.Math.Seq.{drop-append_seam, take-append_seam}
use Rattle.std.proofs.lemmas.Bool.{cond-true}
use Rattle.std.proofs.lemmas.List.{append_cancel_left, take_at}
use Rattle.std.proofs.lemmas.List.Elements.{All-head, All-map, All-tail, All-weaker}
use Rattle.std.proofs.lemmas.Nat.{from_be_bytes-to_be_bytes_4}
use Rattle.boxes.specs.Posts.{Post}
use Rattle.dr_base.specs.Position.{is_at}
use Rattle.dr_base.specs.declared.position.Position.{Position}
use Rattle.dr_base.specs.declared.position.Side.{Side}
use Rattle.dr_base.proofs.Positions.{is_at-itself, is_at-same}
use Rattle.kem_laws.specs.Mechanism.{Mechanism}
use Rattle.packet.specs.Packet.{Fields, packet_of}
use Rattle.packet.proofs.Known.{same_version}
use Rattle.packet.proofs.Printed.{packet_of-grouped}
use Rattle.packet.specs.Versions.{is_version}
use Rattle.session_model.proofs.Sealed.{known_version}
use Rattle.session_model.specs.Sealing.{posted}
use Rattle.dr_model.specs.Conversations.Conversation.{Conversation, is_said, positions}
use Rattle.dr_model.specs.Conversations.Lawful.{IsLawfulConversation}
use Rattle.dr_model.specs.Conversations.Posts.{post_fields, epoch_format, post_at, posts}
use Rattle.dr_model.specs.Machines.Events.{does, of_bytes, of_number, of_position, takes}
use Rattle.dr_model.specs.Machines.Steps.{settled}
use Rattle.dr_model.specs.Machines.Worlds.{World, made_at, nth_of_peer, said_at, step_of, taking_at, taking_made}
use Rattle.dr_model.specs.Theorems.Fairness.{IsUnforged}
use Rattle.dr_model.specs.Theorems.LawfulWorlds.{IsLawfulWorld}
use Rattle.dr_model.proofs.Growth.Growing.{positions-said}
use Rattle.dr_model.proofs.Taking.AllPositions.{same_test}
use Rattle.dr_model.proofs.Taking.MadePositions.{position-post_at}
use Rattle.dr_model.proofs.Taking.NetworkPosts.{find-said}
use Rattle.dr_model.proofs.Taking.PacketFields.{is_place, same_bytes}
use Rattle.dr_model.proofs.Worlds.CallKinds.{nth_said}

-- ---- two packets

-- two numbers of four bytes in front of the same list are the same
number_front : (a b : ℕ) (xs ys : List ℕ) → a < 2 ^ 32 → b < 2 ^ 32 → to_be_bytes w32 a ++ xs ≡ to_be_bytes w32 b ++ ys
    → a ≡ b
number_front a b xs ys small_a small_b same =
    let bytes : to_be_bytes w32 a ≡ to_be_bytes w32 b =
    sym (take-append_seam (to_be_bytes w32 a) xs) ∙ ap (take 4) same ∙ take-append_seam (to_be_bytes w32 b) ys in
    sym (from_be_bytes-to_be_bytes_4 a small_a) ∙ ap (from_be_bytes w32) bytes ∙ from_be_bytes-to_be_bytes_4 b small_b

number_rest : (a b : ℕ) (xs ys : List ℕ) → to_be_bytes w32 a ++ xs ≡ to_be_bytes w32 b ++ ys → xs ≡ ys
number_rest a b xs ys same =
    sym (drop-append_seam (to_be_bytes w32 a) xs) ∙ ap (drop 4) same ∙ drop-append_seam (to_be_bytes w32 b) ys

-- what stands after the session id
after_session : Fields → List ℕ
after_session f =
    to_be_bytes w32 f.epoch ++ (to_be_bytes w32 f.previous ++ (to_be_bytes w32 f.index
    ++ (to_be_bytes w16 (length f.agreement) ++
    (f.agreement ++ (to_be_bytes w16 (length f.ciphertext) ++ (f.ciphertext ++ (f.tag ++ [])))))))

-- the first bytes of two packets that are the same
first_byte : (m n : ℕ) (more others : List ℕ) → to_be_bytes w8 m ++ more ≡ to_be_bytes w8 n ++ others → to_be_bytes w8 m ≡ to_be_bytes w8 n
first_byte m n more others same =
    sym (take_at (to_be_bytes w8 m) more 1 refl) ∙ ap (take 1) same ∙ take_at (to_be_bytes w8 n) others 1 refl

-- two packets of one session that are the same have one position
same_position : (f g : Fields) → is_version f.version ≡ true → is_version g.version ≡ true → f.session ≡ g.session → f.epoch < 2 ^ 32
    → g.epoch < 2 ^ 32 → f.index < 2 ^ 32 → g.index < 2 ^ 32
    → packet_of f ≡ packet_of g → (f.epoch ≡ g.epoch) × (f.index ≡ g.index)
unfolding after_session
same_position f g known_f known_g session e1 e2 i1 i2 same =
    let grouped = sym (packet_of-grouped f) ∙ same ∙ packet_of-grouped g in
    let version : f.version ≡ g.version = same_version f.version g.version known_f known_g
    (first_byte f.version g.version (f.session ++ after_session f) (g.session ++ after_session g) grouped) in
    let first : to_be_bytes w8 g.version ++ (f.session ++ after_session f) ≡ to_be_bytes w8 g.version ++ (g.session ++ after_session g) =
    ap (λ v. to_be_bytes w8 v ++ (f.session ++ after_session f)) (sym version) ∙ sym (packet_of-grouped f) ∙ same ∙ packet_of-grouped g in
    let second : g.session ++ after_session f ≡ g.session ++ after_session g =
    ap (λ s. s ++ after_session f) (sym session)
    ∙ append_cancel_left (to_be_bytes w8 g.version) (f.session ++ after_session f) (g.session ++ after_session g) first in
    let epochs = append_cancel_left g.session (after_session f) (after_session g) second in
    let rest = number_rest f.epoch g.epoch _ _ epochs in (
      number_front f.epoch g.epoch _ _ e1 e2 epochs,
      number_front f.index g.index _ _ i1 i2 (number_rest f.previous g.previous _ _ rest),
    )

-- and so two packets of a conversation
pub apart : (k : Mechanism) (c : Conversation) (p q : Position) → IsLawfulConversation k c → is_said c p ≡ true
    → is_said c q ≡ true
    → (post_at k c q).packet ≡ (post_at k c p).packet → q ≡ p
unfolding posted
apart k c p q lawful said_p said_q same =
    let place_p = is_place k c p lawful said_p in
    let place_q = is_place k c q lawful said_q in
    let at = same_position (post_fields k c q) (post_fields k c p) (known_version (epoch_format c q.epoch)) (known_version (epoch_format c p.epoch)) refl
    (omega (arith, place_q.began, lawful.few_turns)) (omega (arith, place_p.began, lawful.few_turns))
    (omega (arith, place_q.few)) (omega (arith, place_p.few)) same in
    let make : ℕ → ℕ → Position = λ e i. record { epoch = e; index = i } in
    ap₂ make at.0 at.1

-- ---- the position that is found

-- the first element that passes a test is the first that passes another, where the tests agree
found_alike : {X : Type 0} (f g : X → Bool) (xs : List X) → All (λ x. f x ≡ g x) xs → find f xs ≡ find g xs
found_alike f g [] same = refl
found_alike f g (x ∷ xs) same =
    ap₂ (λ b rest. if b then Some x else rest) (All-head (λ y. f y ≡ g y) x xs same)
    (found_alike f g xs (All-tail (λ y. f y ≡ g y) x xs same))

-- the packet of a position has these bytes where the position is this one
same_tests : (k : Mechanism) (c : Conversation) (p q : Position) → IsLawfulConversation k c → is_said c p ≡ true
    → is_said c q ≡ true
    → pointwise nat_eq (post_at k c q).packet (post_at k c p).packet ≡ is_at p (post_at k c q).position
same_tests k c p q lawful said_p said_q =
    same_test (pointwise nat_eq (post_at k c q).packet (post_at k c p).packet) (is_at p q)
    (λ same. ap (is_at p)
    (apart k c p q lawful said_p said_q (same_text (post_at k c q).packet (post_at k c p).packet (sym same))) ∙ is_at-itself p)
    (λ at. ap (λ r. pointwise nat_eq (post_at k c r).packet (post_at k c p).packet) (is_at-same p q at)
    ∙ same_bytes (post_at k c p).packet)
    ∙ ap (is_at p) (sym (position-post_at k c q))

-- the bytes of a packet are found to be those of its position
pub made_at-post : (k : Mechanism) (w : World) (p : Position) → IsLawfulWorld k w → is_said w.conversation p ≡ true
    → made_at k w (post_at k w.conversation p).packet ≡ Some p
made_at-post k w p lawful said =
    let c = w.conversation in
    let bytes = (post_at k c p).packet in
    ap (option_map (λ (post : Post). post.position))
    (found_alike (λ post. pointwise nat_eq post.packet bytes) (λ post. is_at p post.position) (posts k c)
    (All-map (λ (post : Post). pointwise nat_eq post.packet bytes ≡ is_at p post.position) (post_at k c) (positions c)
    (All-weaker (λ q. is_said c q ≡ true)
    (λ q. pointwise nat_eq (post_at k c q).packet bytes ≡ is_at p (post_at k c q).position)
    (λ q said_q. same_tests k c p q lawful.conversation said said_q) (positions c) (positions-said c)))
    ∙ find-said k c p
    ∙ ap (option_map (post_at k c)) (cond-true (is_said c p) (Some p) None said))
    ∙ ap Some (position-post_at k c p)

-- ---- taking them

-- a position that was said is taken
taken_at : (w : World) (side : Side) (p : Position) → is_said w.conversation p ≡ true
    → taking_at w side (said_at w.conversation p) ≡ taking_at w side (Some p)
taken_at w side p said = ap (taking_at w side) (cond-true (is_said w.conversation p) (Some p) None said)

-- taking a packet's bytes is taking its position
pub by_bytes : (k : Mechanism) (w : World) (side : Side) (p : Position) → IsLawfulWorld k w → is_said w.conversation p ≡ true
    → step_of k w (does side (takes (of_bytes (post_at k w.conversation p).packet))) ≡ step_of k w (does side (takes (of_position p)))
by_bytes k w side p lawful said =
    ap (λ made. settled w (taking_made k w side (post_at k w.conversation p).packet made)) (made_at-post k w p lawful said)
    ∙ sym (taken_at w side p said)

-- nobody forged its tag
pub real : (k : Mechanism) (w : World) (side : Side) (p : Position) → IsLawfulWorld k w → is_said w.conversation p ≡ true
    → IsUnforged k w side (post_at k w.conversation p).packet
real k w side p lawful said none f way read found =
    absurd (let e : Some p ≡ None = sym (made_at-post k w p lawful said) ∙ none in cc)

-- taking the peer's packet of a number is taking the position of that number
pub by_number : (k : Mechanism) (w : World) (side : Side) (nth : ℕ) (p : Position)
    → nth_of_peer w.conversation side nth ≡ Some p
    → step_of k w (does side (takes (of_number nth))) ≡ step_of k w (does side (takes (of_position p)))
by_number k w side nth p is =
    ap (taking_at w side) is
    ∙ sym (taken_at w side p
    (subst (λ o. IfSome o (λ q. is_said w.conversation q ≡ true)) is (nth_said w.conversation side nth)))
