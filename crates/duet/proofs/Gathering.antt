-- What the network gets of a step of one side.
use Rattle.std.proofs.Common.{Bool, Err, List, None, Ok, Option, Result, Some, [], ap, append-nil, arith, false, if◌then◌else◌, length, refl, suc, sym, true, zero, ℕ, ◌++◌, ◌+◌, ◌-◌, ◌∙◌, ◌∷◌, ◌≡◌, ◌<◌, ◌≤◌}
use Rattle.std.specs.Prelude.{drop, nat_lt, slice_get, ⊤}
use Rattle.std.proofs.lemmas.Bool.Decides.{nat_tests}
use Rattle.std.proofs.lemmas.List.{drop_all, length-append, length-map}
use Rattle.boxes.specs.Posts.{Post}
use Rattle.dr_base.specs.declared.position.Side.{Side}
use Rattle.dr_base.specs.declared.position.Side.TheVariants.{First, Second}
use Rattle.dr_disk.specs.declared.call.Mode.{Mode}
use Rattle.dr_model.specs.Machines.Acts.{Act, act_on, dropped_client, dropping, said_by, saying, saying_by, taken_by, taking}
use Rattle.dr_model.specs.Machines.Draws.{given_or}
use Rattle.dr_model.specs.Machines.Sides.{Sides, client_of, settled_on, with_client}
use Rattle.dr_model.specs.Machines.Steps.{Step, has_effect, leaving, settled, step}
use Rattle.kem_laws.specs.Mechanism.{Mechanism}
use Rattle.session_model.specs.Contents.{Content}
use Rattle.session_model.specs.Clients.{Client, accept_send, say_check, take_on}
use Rattle.session_model.specs.Saying.{SendDraft, draft_send}
use Rattle.session_model.specs.Leaving.{drop_check}
use Rattle.session_model.specs.declared.answer.Answer.TheVariants.{Refused, Stopped}
use Rattle.session_model.specs.declared.answer.Refusal.{Refusal}
use Rattle.session_model.specs.declared.answer.Which.{Which}
use Rattle.session_model.proofs.Leaving.{fewer_packets}
use Rattle.client.proofs.Syncs.Parties.{keeps_outbox}
use Rattle.duet.specs.Gathering.{gathered, gathering, newest_from}
use Rattle.parties.specs.Stops.{cut_by, cut_of, stopped_client}
use Rattle.duet.specs.Stops.{stopped_sides}

-- the last item
pub last_dropped : {X : Type 0} (xs : List X) (held : ℕ) (x : X) → length xs ≡ held + 1
    → slice_get xs (length xs - 1) ≡ Some x → drop held xs ≡ x ∷ []
last_dropped [] held x long is = absurd (omega arith)
last_dropped (y ∷ []) zero x long is = cc
last_dropped (y ∷ z ∷ zs) zero x long is = absurd (omega arith)
last_dropped (y ∷ []) (suc held) x long is = absurd (omega arith)
last_dropped (y ∷ z ∷ zs) (suc held) x long is =
    let e : length (y ∷ z ∷ zs) - 1 ≡ suc (length (z ∷ zs) - 1) = omega arith in
    last_dropped (z ∷ zs) held x (omega arith) (ap (slice_get (y ∷ z ∷ zs)) (sym e) ∙ is)

-- nothing of an outbox that gained no packet
pub none_newest : (held : ℕ) (outbox : List Post) → length outbox ≤ held → drop (newest_from held (length outbox)) outbox ≡ []
none_newest held outbox few =
    ap (λ (b : Bool). drop (if b then length outbox - 1 else length outbox) outbox) fewer ∙ drop_all (length outbox) outbox (omega arith)
  where
    fewer : nat_lt held (length outbox) ≡ false
    fewer = grind (arith, nat_tests)

-- the newest, where it gained one
pub newest_dropped : (xs : List Post) (held : ℕ) (x : Post) → held < length xs → slice_get xs (length xs - 1) ≡ Some x
    → drop (newest_from held (length xs)) xs ≡ x ∷ []
newest_dropped xs held x more is =
    ap (λ (b : Bool). drop (if b then length xs - 1 else length xs) xs) test ∙ last_dropped xs (length xs - 1) x (omega arith) is
  where
    test : nat_lt held (length xs) ≡ true
    test = grind (arith, nat_tests)

pub same_client : (s : Sides) (side : Side) → with_client s side (client_of s side) ≡ s
same_client s First = refl
same_client s Second = refl

pub same_posts : (s : Sides) (side : Side) (client : Client) → (with_client s side client).posts ≡ s.posts
same_posts s First client = refl
same_posts s Second client = refl

module _ (s : Sides) (side : Side) where
  abbrev gains : Client → Sides
  gains next = gathered (length (client_of s side).outbox) side (with_client s side next)

-- an outbox that gained no packet
pub gathers_less : (s : Sides) (side : Side) (next : Client) → length next.outbox ≤ length (client_of s side).outbox
    → gains s side next ≡ with_client s side next
gathers_less s First next few =
    ap (λ (posts : List Post). let t : Sides = record s { first = next; posts = posts } in t)
    (ap (λ items. s.posts ++ items) (drop_all (length s.first.outbox) next.outbox few) ∙ append-nil s.posts)
gathers_less s Second next few =
    ap (λ (posts : List Post). let t : Sides = record s { second = next; posts = posts } in t)
    (ap (λ items. s.posts ++ items) (drop_all (length s.second.outbox) next.outbox few) ∙ append-nil s.posts)

pub gathers_none : (s : Sides) (side : Side) → gains s side (client_of s side) ≡ s
gathers_none s side = gathers_less s side (client_of s side) (omega arith) ∙ same_client s side

-- a step of one side makes no draw
pub same_draws : (s : Sides) (side : Side) (made : Step Client) → (gathering s side made).next.draws ≡ s.draws
same_draws s First made = refl
same_draws s Second made = refl

-- ---- how many packets an outbox has after an act

taken_few : (k : Mechanism) (c : Client) (bytes : List ℕ)
    → length (settled c (taken_by (take_on k c bytes))).next.outbox ≤ length c.outbox
taken_few k c bytes =
    let next = (settled c (taken_by (take_on k c bytes))).next in
    omega (
      arith,
      ap length (keeps_outbox k c bytes),
      length-map next.outbox (λ (i : Post). i.packet),
      length-map c.outbox (λ (i : Post). i.packet),
    )

-- where items leave a box
leaving_few : (c : Client) (which : Which) (check : Result Unit Refusal)
    → length (settled c (leaving which check (dropped_client c which))).next.outbox ≤ length c.outbox
leaving_few c which (Ok stand) = fewer_packets which c.outbox
leaving_few c which (Err refusal) = omega arith

-- an act that says no text
abbrev pub SaysNone : Act → Type 0
SaysNone (saying content draw) = ⊥
SaysNone _ = ⊤

pub quiet_few : (k : Mechanism) (c : Client) (act : Act) → SaysNone act
    → length (settled c (act_on k c act)).next.outbox ≤ length c.outbox
quiet_few k c (saying content draw) none = absurd none
quiet_few k c (taking bytes) none = taken_few k c bytes
quiet_few k c (dropping which) none = leaving_few c which (drop_check which c.inbox c.outbox)

pub said_few : (c : Client) (d : Option SendDraft) → length (settled c (said_by (accept_send c d))).next.outbox ≤ length c.outbox + 1
said_few c None = omega arith
said_few c (Some draft) = omega (arith, length-append c.outbox (draft.post ∷ []))

saying_few : (k : Mechanism) (c : Client) (content : Content) (draw : Option (List ℕ)) (r : Result Bool Refusal)
    → length (settled c (saying_by k c content draw r)).next.outbox ≤ length c.outbox + 1
saying_few k c content draw (Ok turns) = said_few c (draft_send k c.state content (given_or [] draw))
saying_few k c content draw (Err refusal) = omega arith

pub acted_few : (k : Mechanism) (c : Client) (act : Act) → length (settled c (act_on k c act)).next.outbox ≤ length c.outbox + 1
acted_few k c (saying content draw) = saying_few k c content draw (say_check c content)
acted_few k c act = omega (arith, quiet_few k c act tt)

-- also where it is cut off
cut_few : (cut : Option Bool) (c : Client) (made : Step Client) → length made.next.outbox ≤ length c.outbox + 1
    → length (cut_by cut c made).next.outbox ≤ length c.outbox + 1
cut_few None c made few = few
cut_few (Some replaced) c made few = by_tests (has_effect made.answer) replaced
  where
    by_tests : (e t : Bool)
        → length (if e then step Stopped (if t then made.next else c) else made).next.outbox ≤ length c.outbox + 1
    by_tests false t = few
    by_tests true true = few
    by_tests true false = omega arith

pub stopped_few : (n : ℕ) (mode : Mode) (c : Client) (made : Step Client) → length made.next.outbox ≤ length c.outbox + 1
    → length (stopped_client n mode c made).next.outbox ≤ length c.outbox + 1
unfolding stopped_client
stopped_few n mode c made few = cut_few (cut_of n mode c made.next) c made few

-- ---- an act, as a step of both sides

settled_gathers : (s : Sides) (side : Side) (r : Result (Step Client) Refusal)
    → length (settled (client_of s side) r).next.outbox ≤ length (client_of s side).outbox
    → gathering s side (settled (client_of s side) r) ≡ settled_on s side r
settled_gathers s side (Ok made) few =
    ap (λ (x : Sides). record { answer = made.answer; shown = made.shown; next = x }) (gathers_less s side made.next few)
settled_gathers s side (Err refusal) few = ap (λ (x : Sides). step (Refused refusal) x) (gathers_none s side)

-- an act that says no text is a step of both sides
pub quiet_gathers : (k : Mechanism) (s : Sides) (side : Side) (act : Act) → SaysNone act
    → gathering s side (settled (client_of s side) (act_on k (client_of s side) act))
    ≡ settled_on s side (act_on k (client_of s side) act)
quiet_gathers k s side act none =
    settled_gathers s side (act_on k (client_of s side) act) (quiet_few k (client_of s side) act none)

-- ---- a step in which the side's disk stops

pub own_next : (s : Sides) (side : Side) (made : Step Client) → client_of (gathering s side made).next side ≡ made.next
own_next s First made = refl
own_next s Second made = refl

gathers_cut : (s : Sides) (side : Side) (cut : Option Bool) (made : Step Client)
    → cut_by cut s (gathering s side made) ≡ gathering s side (cut_by cut (client_of s side) made)
gathers_cut s side None made = refl
gathers_cut s side (Some replaced) made = by_tests (has_effect made.answer) replaced
  where
    by_tests : (e t : Bool)
        → (if e then step Stopped (if t then (gathering s side made).next else s) else gathering s side made)
        ≡ gathering s side (if e then step Stopped (if t then made.next else client_of s side) else made)
    by_tests false t = refl
    by_tests true true = refl
    by_tests true false = ap (λ (x : Sides). step Stopped x) (sym (gathers_none s side))

pub gathers_stopped : (s : Sides) (side : Side) (n : ℕ) (mode : Mode) (made : Step Client)
    → stopped_sides side n mode s (gathering s side made)
    ≡ gathering s side (stopped_client n mode (client_of s side) made)
unfolding stopped_sides stopped_client
gathers_stopped s side n mode made =
    ap (λ (c : Client). cut_by (cut_of n mode (client_of s side) c) s (gathering s side made)) (own_next s side made)
    ∙ gathers_cut s side (cut_of n mode (client_of s side) made.next) made
