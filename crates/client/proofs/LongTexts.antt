-- Long texts that stand in an inbox, in a world and on a disk.
use Rattle.std.proofs.Common.{Bool, Err, List, None, Ok, Option, Result, Some, [], ap, false, inl, inr, length, map, refl, subst, suc, sym, true, zero, ℕ, ◌<◌, ◌^◌, ◌∙◌, ◌∷◌, ◌≡◌, ◌≤◌, ◌⊎◌}
use Rattle.std.specs.Prelude.{All, filter, if◌then◌else◌, not, option_map, slice_get, ◌==◌, ◌||◌}
use Rattle.std.specs.List.{AllByRecursion, list_any}
use Rattle.std.proofs.lemmas.Bool.Decides.{Decides-eqb}
use Rattle.std.proofs.lemmas.List.Elements.{All-filter, All-head, All-tail, All-weaker}
use Rattle.boxes.specs.Entries.{Entry, is_of}
use Rattle.boxes.specs.Parts.{part_of, part_text}
use Rattle.boxes.proofs.Reading.{both_true, id_read, is_part-text}
use Rattle.dr_base.specs.Position.{is_own}
use Rattle.dr_base.specs.declared.position.Position.{Position}
use Rattle.dr_base.specs.declared.position.Side.{Side}
use Rattle.dr_disk.proofs.Steps.{widen}
use Rattle.dr_disk.specs.Spans.{Span}
use Rattle.dr_disk.specs.State.{Always, DiskState}
use Rattle.dr_model.specs.Conversations.Conversation.{Conversation}
use Rattle.dr_model.specs.Conversations.Lawful.{HasArrived, IsLawfulView}
use Rattle.dr_model.specs.Conversations.Standing.{is_in, standing}
use Rattle.dr_model.specs.Conversations.Views.{View, entry_at}
use Rattle.dr_model.specs.Machines.Acts.{act_on, dropped_client, dropping}
use Rattle.dr_model.specs.Machines.Steps.{Step, leaving, settled}
use Rattle.dr_model.specs.Machines.WorldActs.{act_in, kept_by}
use Rattle.dr_model.specs.Machines.WorldSides.{kept_in}
use Rattle.dr_model.specs.Machines.Worlds.{World, inbox_in, view_of}
use Rattle.dr_model.specs.Theorems.LawfulWorlds.{IsLawfulWorld}
use Rattle.dr_model.proofs.Acting.ActsFollowing.{act_follows}
use Rattle.dr_model.proofs.Worlds.WorldViews.{view_lawful}
use Rattle.kem_laws.specs.Mechanism.{IsLawfulMechanism, Mechanism}
use Rattle.long_text.specs.Cuts.{bytes_at, count_of, part_at}
use Rattle.long_text.specs.Longs.{has_number, long_of}
use Rattle.long_text.specs.Pieces.{piece, pieces}
use Rattle.long_text.specs.Told.{IsPartOf, IsTold}
use Rattle.long_text.specs.declared.limits.TheConstants.{LONG_LIMIT}
use Rattle.long_text.proofs.Arrived.{lawful_at}
use Rattle.long_text.proofs.Told.{told_is_long}
use Rattle.session_model.specs.Clients.{Client}
use Rattle.session_model.specs.Leaving.{drop_check}
use Rattle.session_model.specs.declared.answer.Answer.{Answer}
use Rattle.session_model.specs.declared.answer.Answer.TheVariants.{Dropped, Refused}
use Rattle.session_model.specs.declared.answer.Refusal.{Refusal}
use Rattle.session_model.specs.declared.answer.Which.TheVariants.{OfId}
use Rattle.client.specs.Clients.{ClientNow}
use Rattle.client.specs.InWorlds.{ActsIn, IsBetween, IsIn, StandsFor, StandsForEither}
use Rattle.client.specs.LongTexts.{HasAllOrNone, HasAllParts, HasInInbox, IsNumberOf, IsUsedForOne, part_entry, without_long}
use Rattle.client.specs.Outcomes.{Outcome, acknowledged, faulted, is_closed, refused, undrawn}

-- ---- the pieces of the positions that stand

-- a part's entry is a piece of the text
part_piece : (id : ℕ) (text : List ℕ) (number : ℕ) (p : Position) (entry : Entry) → IsNumberOf text number
    → entry ≡ part_entry id text number p → IsPartOf text (piece entry)
part_piece id text number p entry bounds is =
    subst (λ (e : Entry). IsPartOf text (piece e)) (sym is)
    (record { one = bounds.0; most = bounds.1; count_is = refl; bytes_are = refl })

module _ (w : World) (side : Side) (id : ℕ) (text : List ℕ) (one : IsUsedForOne w side id text) where
  -- what stands was said by the other side
  pub record IsTheirs (p : Position) : Type 0 where
    pub part : is_of id (entry_at w.conversation p) ≡ true
        → (number : ℕ) × IsNumberOf text number
        × (entry_at w.conversation p ≡ part_entry id text number p)

  only_parts : (ps : List Position) → All IsTheirs ps
      → AllByRecursion (IsPartOf text) (pieces id (map (entry_at w.conversation) ps))
  unfolding pieces
  only_parts [] all = tt
  only_parts (p ∷ ps) all =
      by_test (is_of id (entry_at w.conversation p)) refl (only_parts ps (All-tail IsTheirs p ps all))
    where
      rest : List Entry
      rest = filter (is_of id) (map (entry_at w.conversation) ps)

      by_test : (t : Bool) → is_of id (entry_at w.conversation p) ≡ t
          → AllByRecursion (IsPartOf text) (map piece rest)
          → AllByRecursion (IsPartOf text) (map piece (if t then entry_at w.conversation p ∷ rest else rest))
      by_test true is more =
          let found = (All-head IsTheirs p ps all).part is in
          (part_piece id text found.0 p (entry_at w.conversation p) found.1 found.2, more)
      by_test false is more = more

-- ---- each number stands

or_true : (a b : Bool) → b ≡ true → (a || b) ≡ true
or_true true b is = refl
or_true false b is = is

-- an entry that is of the id is among the pieces
any_at : (id number : ℕ) (entries : List Entry) (at : ℕ) (entry : Entry) → slice_get entries at ≡ Some entry
    → is_of id entry ≡ true → has_number number (piece entry) ≡ true
    → list_any (has_number number) (pieces id entries) ≡ true
unfolding pieces
any_at id number [] at entry here of has = absurd (let none : None ≡ Some entry = here in cc)
any_at id number (e ∷ es) zero entry here of has =
    let same : e ≡ entry = cc here in
    by_test (is_of id e) (ap (is_of id) same ∙ of) (ap (λ (x : Entry). has_number number (piece x)) same ∙ has)
  where
    by_test : (t : Bool) → t ≡ true → has_number number (piece e) ≡ true
        → list_any (has_number number) (map piece (if t then e ∷ filter (is_of id) es else filter (is_of id) es)) ≡ true
    by_test true _ it = ap (λ (b : Bool). b || list_any (has_number number) (map piece (filter (is_of id) es))) it
    by_test false other _ = absurd (let f : false ≡ true = other in cc)
any_at id number (e ∷ es) (suc at) entry here of has =
    by_test (is_of id e) (any_at id number es at entry here of has)
  where
    by_test : (t : Bool) → list_any (has_number number) (map piece (filter (is_of id) es)) ≡ true
        → list_any (has_number number) (map piece (if t then e ∷ filter (is_of id) es else filter (is_of id) es)) ≡ true
    by_test true more =
        or_true (has_number number (piece e)) (list_any (has_number number) (map piece (filter (is_of id) es))) more
    by_test false more = more

-- a part of a text under an id is of it
part_of_id : (id : ℕ) (text : List ℕ) (number : ℕ) (p : Position) → id < 2 ^ 32 → length text ≤ LONG_LIMIT
    → IsNumberOf text number → is_of id (part_entry id text number p) ≡ true
part_of_id id text number p fits few bounds =
    let part = part_at id text number in
    both_true _ _ (is_part-text part (lawful_at id text number few bounds.0 bounds.1))
    ((Decides-eqb (part_of (part_text part)).id id).1 (id_read part fits))

-- ---- the long text

-- the peer's positions that stand
theirs : (k : Mechanism) (w : World) (side : Side) (id : ℕ) (text : List ℕ) (one : IsUsedForOne w side id text)
    → IsLawfulView k w.conversation side (view_of w side)
    → All (IsTheirs w side id text one) (standing (view_of w side).arrived (view_of w side).done)
theirs k w side id text one lawful =
    let v = view_of w side in
    All-filter (λ p. not (is_in v.done p)) (IsTheirs w side id text one) v.arrived
    (weaker v.arrived lawful.arrivals)
  where
    c : Conversation
    c = w.conversation

    arrived_is : (p : Position) → HasArrived c (view_of w side) p → IsTheirs w side id text one p
    arrived_is p has = record {
      part = one p has.said (ap (λ (s : Side). is_own s p.epoch) (sym lawful.side_is) ∙ has.peers);
    }

    weaker : (ps : List Position) → All (HasArrived c (view_of w side)) ps → All (IsTheirs w side id text one) ps
    weaker ps all = All-weaker (HasArrived c (view_of w side)) (IsTheirs w side id text one) arrived_is ps all

pub told : (k : Mechanism) (w : World) (side : Side) (id : ℕ) (text : List ℕ) → IsLawfulWorld k w
    → HasAllParts w side id text → IsTold text id (inbox_in w side)
told k w side id text lawful has = record {
  few = has.few;
  only = only_parts w side id text has.one (standing (view_of w side).arrived (view_of w side).done)
      (theirs k w side id text has.one (view_lawful k w side lawful));
  each = λ number low high.
      let there = has.each number (low, high) in
      any_at id number (inbox_in w side) there.0 (part_entry id text number there.1) there.2
      (part_of_id id text number there.1 has.fits has.few (low, high))
      ((Decides-eqb number number).1 refl);
}

pub long_in : (k : Mechanism) (w : World) (side : Side) (client : ClientNow) (id : ℕ) (text : List ℕ)
    → IsIn k w side client → HasAllParts w side id text → long_of id client.kept.inbox ≡ Ok text
long_in k w side client id text is has =
    ap (λ (kept : Client). long_of id kept.inbox) is.keeps
    ∙ told_is_long text id (inbox_in w side) (told k w side id text is.lawful has)

-- ---- it leaves

-- what is in the inbox then, by the check
left_by : (id : ℕ) (client : Client) (r : Result Unit Refusal) (made : Step Client)
    → settled client (leaving (OfId id) r (dropped_client client (OfId id))) ≡ made
    → (made.next.inbox ≡ client.inbox) ⊎ (made.next.inbox ≡ without_long id client.inbox)
left_by id client (Ok stand) made is = inr (sym (ap (λ (m : Step Client). m.next.inbox) is))
left_by id client (Err refusal) made is = inl (sym (ap (λ (m : Step Client). m.next.inbox) is))

-- once it was answered, the parts have left
gone_by : (id : ℕ) (client : Client) (r : Result Unit Refusal) (made : Step Client)
    → settled client (leaving (OfId id) r (dropped_client client (OfId id))) ≡ made
    → made.answer ≡ Dropped (OfId id) → made.next.inbox ≡ without_long id client.inbox
gone_by id client (Ok stand) made is answered = sym (ap (λ (m : Step Client). m.next.inbox) is)
gone_by id client (Err refusal) made is answered =
    absurd (let no : Refused refusal ≡ Dropped (OfId id) = ap (λ (m : Step Client). m.answer) is ∙ answered in cc)

module _ (k : Mechanism) (law : IsLawfulMechanism k) (w : World) (side : Side) (id : ℕ) (old new : ClientNow)
    (is : IsIn k w side old) where
  abbrev after : World
  after = (act_in k w side (dropping (OfId id))).next

  follows : settled (kept_in k w side) (act_on k (kept_in k w side) (dropping (OfId id)))
      ≡ kept_by k side (act_in k w side (dropping (OfId id)))
  follows = act_follows k w side (dropping (OfId id)) law is.lawful tt

  -- the bytes of the world before, and of the one after
  before_has : (c : List ℕ) → StandsFor k w side c → HasInInbox k old.kept.inbox c
  before_has c stands =
      record { kept = kept_in k w side; read = stands; inbox_is = ap (λ (n : Client). n.inbox) (sym is.keeps) }

  old_inbox : (kept_in k w side).inbox ≡ old.kept.inbox
  old_inbox = ap (λ (n : Client). n.inbox) (sym is.keeps)

  after_has : (c : List ℕ) → StandsFor k after side c → HasAllOrNone k id old.kept.inbox c
  after_has c stands =
      by_left (left_by id (kept_in k w side) (drop_check (OfId id) (kept_in k w side).inbox (kept_in k w side).outbox)
      (kept_by k side (act_in k w side (dropping (OfId id)))) follows)
    where
      by_left : ((kept_in k after side).inbox ≡ (kept_in k w side).inbox)
          ⊎ ((kept_in k after side).inbox ≡ without_long id (kept_in k w side).inbox)
          → HasAllOrNone k id old.kept.inbox c
      by_left (inl same) = inl (record { kept = kept_in k after side; read = stands; inbox_is = same ∙ old_inbox })
      by_left (inr left) = inr (record {
        kept = kept_in k after side;
        read = stands;
        inbox_is = left ∙ ap (without_long id) old_inbox;
      })

  either : (start : DiskState) (c : List ℕ) → StandsForEither k side w after start c → HasAllOrNone k id old.kept.inbox c
  either start c stands = by_side stands.either
    where
      by_side : StandsFor k w side c ⊎ StandsFor k after side c → HasAllOrNone k id old.kept.inbox c
      by_side (inl it) = inl (before_has c it)
      by_side (inr it) = after_has c it

  pub all_or_none : (start now : DiskState) → IsBetween k side w after start now
      → Span start now (HasAllOrNone k id old.kept.inbox)
  all_or_none start now span =
      widen start now (StandsForEither k side w after start) (HasAllOrNone k id old.kept.inbox) (either start) span

  pub none_left : (start now : DiskState)
      → ActsIn k w side (dropping (OfId id)) old new start now (acknowledged (Dropped (OfId id)))
      → Always (HasInInbox k (without_long id old.kept.inbox)) now
  none_left start now acts c image = record {
    kept = kept_in k after side;
    read = acts.3 c image;
    inbox_is = gone_by id (kept_in k w side)
        (drop_check (OfId id) (kept_in k w side).inbox (kept_in k w side).outbox)
        (kept_by k side (act_in k w side (dropping (OfId id)))) follows acts.0 ∙ ap (without_long id) old_inbox;
  }
