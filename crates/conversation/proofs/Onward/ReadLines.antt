-- A line that reads `opened E.I` names a position that was opened.
use Rattle.std.proofs.Common.{List, None, Some, [], ap, append_assoc, arith, drop, length, map, refl, subst, suc, sym, true, zero, ℕ, ◌++◌, ◌<◌, ◌==◌, ◌^◌, ◌∙◌, ◌∷◌, ◌≡◌}
use Rattle.std.specs.List.{slice_split}
use Rattle.std.specs.Prelude.{All, Contains, codes, decimal, get_or, slice_get}
use Rattle.std.proofs.lemmas.Fmt.{decimal_injective}
use Rattle.std.proofs.lemmas.List.{append_cancel_left, drop_at}
use Rattle.std.proofs.lemmas.List.Elements.{All-drop}
use Rattle.std.proofs.lemmas.List.Splits.{slice_split_at, slice_split_none}
use Rattle.answer_lines.specs.Answers.{position_text}
use Rattle.dr_base.specs.declared.position.Position.{Position}
use Rattle.dr_base.specs.declared.position.Side.{Side}
use Rattle.dr_model.specs.Conversations.Conversation.{Conversation, is_said}
use Rattle.dr_model.specs.Conversations.Lawful.{HasArrived, IsLawfulConversation}
use Rattle.dr_model.specs.Conversations.Views.{has_opened}
use Rattle.dr_model.specs.Machines.Worlds.{World, view_of}
use Rattle.dr_model.specs.Theorems.LawfulWorlds.{IsLawfulWorld}
use Rattle.dr_model.proofs.Taking.PacketFields.{is_place}
use Rattle.dr_model.proofs.Worlds.WorldViews.{view_lawful}
use Rattle.kem_laws.specs.Mechanism.{Mechanism}
use Rattle.sync_model.specs.declared.more.More.TheVariants.{End, More as MoreStands}
use Rattle.client.proofs.Standing.{among}
use Rattle.conversation.specs.Shown.{SyncLine, TellsOpened, ended, opened, opened_in, refused, stored, sync_words}
use Rattle.conversation.proofs.Onward.Plain.{is_cut, plain_number}

-- ---- a position in words

parts_of : (p : Position)
    → slice_split (is_cut 46) (position_text p) ≡ decimal p.epoch ∷ decimal p.index ∷ []
unfolding position_text
parts_of p =
    ap (slice_split (is_cut 46)) (append_assoc (decimal p.epoch) (46 ∷ []) (decimal p.index))
    ∙ slice_split_at (is_cut 46) (decimal p.epoch) 46 (decimal p.index)
    (plain_number 46 (omega arith) p.epoch) refl
    ∙ ap (λ (parts : List (List ℕ)). decimal p.epoch ∷ parts)
    (slice_split_none (is_cut 46) (decimal p.index) (plain_number 46 (omega arith) p.index))

both_same : (a b c d : List ℕ) → a ∷ b ∷ [] ≡ c ∷ d ∷ [] → (a ≡ c) × (b ≡ d)
both_same a b c d same = (cc, cc)

-- numbers that are no greater than those of what was said
record IsSmall (p : Position) : Type 0 where
  epoch : p.epoch < 2 ^ 64
  index : p.index < 2 ^ 64

said_small : (k : Mechanism) (c : Conversation) (p : Position) → IsLawfulConversation k c
    → is_said c p ≡ true → IsSmall p
said_small k c p lawful said =
    let place = is_place k c p lawful said in
    record {
      epoch = omega (arith, place.began, lawful.few_turns);
      index = omega (arith, place.few);
    }

same_position : (p q : Position) → IsSmall p → IsSmall q → position_text q ≡ position_text p → q ≡ p
same_position p q small_p small_q same =
    let parts = both_same (decimal q.epoch) (decimal q.index) (decimal p.epoch) (decimal p.index)
    (sym (parts_of q) ∙ ap (slice_split (is_cut 46)) same ∙ parts_of p) in
    let epoch = decimal_injective q.epoch p.epoch small_q.epoch small_p.epoch parts.0 in
    let index = decimal_injective q.index p.index small_q.index small_p.index parts.1 in
    let make : ℕ → ℕ → Position = λ e i. record { epoch = e; index = i } in
    ap (λ (e : ℕ). make e q.index) epoch ∙ ap (make p.epoch) index

-- ---- a line that reads so

-- a position that lines say was opened, and that is written so
record IsNamed (lines : List SyncLine) (p : Position) : Type 0 where
  named : Position
  there : Contains (opened_in lines) named
  same : position_text named ≡ position_text p

one_more : (line : SyncLine) (lines : List SyncLine) (p : Position) → IsNamed lines p
    → IsNamed (line ∷ lines) p
one_more (opened q) lines p is = record {
  named = is.named;
  there = (suc is.there.0, omega (arith, is.there.1), is.there.2);
  same = is.same;
}
one_more (refused refusal) lines p is =
    record { named = is.named; there = is.there; same = is.same }
one_more (stored number) lines p is =
    record { named = is.named; there = is.there; same = is.same }
one_more (ended which) lines p is =
    record { named = is.named; there = is.there; same = is.same }

one_byte : (x y : ℕ) → Some x ≡ Some y → x ≡ y
one_byte x y is = cc

-- words that begin otherwise
differ : (words : List ℕ) (x : ℕ) (p : Position) → slice_get words 0 ≡ Some x
    → words ≡ codes "opened " ++ position_text p → x ≡ 111
differ words x p first same =
    one_byte x 111 (sym first ∙ ap (λ (bytes : List ℕ). slice_get bytes 0) same)

this_line : (line : SyncLine) (lines : List SyncLine) (p : Position)
    → sync_words line ≡ codes "opened " ++ position_text p → IsNamed (line ∷ lines) p
this_line (opened q) lines p is = record {
  named = q;
  there = (0, omega arith, refl);
  same = append_cancel_left (codes "opened ") (position_text q) (position_text p) is;
}
this_line (refused refusal) lines p is =
    absurd (omega (arith, differ (sync_words (refused refusal)) 114 p refl is))
this_line (stored number) lines p is =
    absurd (omega (arith, differ (sync_words (stored number)) 115 p refl is))
this_line (ended MoreStands) lines p is =
    absurd (omega (arith, differ (sync_words (ended MoreStands)) 109 p refl is))
this_line (ended End) lines p is =
    absurd (omega (arith, differ (sync_words (ended End)) 101 p refl is))

named_at : (lines : List SyncLine) (p : Position) (i : ℕ)
    → i < length (map sync_words lines ++ [] ∷ [])
    → get_or (map sync_words lines ++ [] ∷ []) i (codes "opened " ++ position_text p)
    ≡ codes "opened " ++ position_text p
    → IsNamed lines p
named_at [] p zero inside is =
    let none : slice_get [] 0 ≡ Some 111 =
    ap (λ (bytes : List ℕ). slice_get bytes 0) is in
    absurd (let e : None ≡ Some 111 = none in cc)
named_at [] p (suc i) inside is = absurd (omega (arith, inside))
named_at (line ∷ lines) p zero inside is = this_line line lines p is
named_at (line ∷ lines) p (suc i) inside is =
    one_more line lines p (named_at lines p i (omega (arith, inside)) is)

-- ---- so what it names was opened

module _ (k : Mechanism) (side : Side) (w v : World) (text : List ℕ) (lawful : IsLawfulWorld k v)
    (tells : TellsOpened side w v text) where
  all_arrived : All (HasArrived v.conversation (view_of v side)) (opened_in tells.printed)
  all_arrived =
      let before = (view_of w side).arrived in
      let back : drop (length before) (view_of v side).arrived ≡ opened_in tells.printed =
      ap (drop (length before)) tells.arrived
      ∙ drop_at before (opened_in tells.printed) (length before) refl in
      subst (All (HasArrived v.conversation (view_of v side))) back
      (All-drop (HasArrived v.conversation (view_of v side)) (length before)
      (view_of v side).arrived (view_lawful k v side lawful).arrivals)

  pub line_opened : (c : Conversation) (p : Position) → IsLawfulConversation k c
      → is_said c p ≡ true
      → Contains (slice_split (λ b. b == 10) text) (codes "opened " ++ position_text p)
      → has_opened (view_of v side) p ≡ true
  line_opened c p sound said reads =
      let at = subst (λ (lines : List (List ℕ)). Contains lines (codes "opened " ++ position_text p))
      tells.lines_are reads in
      let is = named_at tells.printed p at.0 at.1 at.2 in
      let arrived = among (HasArrived v.conversation (view_of v side)) (opened_in tells.printed)
      is.named all_arrived is.there in
      let same = same_position p is.named (said_small k c p sound said)
      (said_small k v.conversation is.named lawful.conversation arrived.said) is.same in
      subst (λ (q : Position). has_opened (view_of v side) q ≡ true) same
      (among (λ q. has_opened (view_of v side) q ≡ true) (opened_in tells.printed) is.named
      tells.there is.there)
