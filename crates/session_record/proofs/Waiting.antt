-- The texts that wait: their grammar, and that those pass the tests that may wait.
use Rattle.std.proofs.Common.{◌≡◌, ℕ, ◌^◌, ◌<◌, ◌≤◌, Bool, true, false, List, [], length, take, get_or, Option, Some, None, refl, sym, arith, if◌then◌else◌}
use Rattle.std.specs.Prelude.{nat_le, nat_lt, ◌&&◌, ◌||◌}
use Rattle.std.specs.Int.{w8, w32}
use Rattle.std.proofs.lemmas.Bool.{and_from, and_parts, leb-true, le-leb}
use Rattle.std.proofs.lemmas.Bool.Decides.{nat_tests}
use Rattle.bodies.specs.Receipts.{listed_place, position_bytes}
use Rattle.bodies.proofs.Listed.{last_in-push}
use Rattle.bodies.proofs.Passing.{of_place}
use Rattle.dr_base.proofs.Widths.{exact8, exact32}
use Rattle.dr_base.specs.Position.{IsBefore, is_own, position_at}
use Rattle.dr_base.specs.declared.limits.TheConstants.{AWAITING_LIMIT, INDEX_LIMIT, LAST_EPOCH}
use Rattle.dr_base.specs.declared.position.Position.{Position}
use Rattle.dr_base.specs.declared.position.Side.{Side}
use Rattle.grammar.specs.Grammar.{IsGrammar}
use Rattle.grammar.specs.Printer.{AreItems, IsMaybe, print_counted}
use Rattle.grammar.proofs.Choices.{maybe_grammar}
use Rattle.grammar.proofs.Combined.{both_grammar, checked_grammar, mapped_grammar}
use Rattle.grammar.proofs.Fields.{number_grammar}
use Rattle.grammar.proofs.Lists.{counted_grammar, items-from}
use Rattle.session_model.specs.Awaiting.{AreWaiting, IsSent, IsWaiting}
use Rattle.session_model.specs.States.{Phase, in_own, in_peers}
use Rattle.session_record.specs.Awaiting.{awaiting_field, awaiting_of, awaiting_text, is_waiting_epoch, is_waiting_index, last_waiting, most_waiting, of_awaiting, sent_of, waiting_behind, waiting_item, waiting_list}
use Rattle.session_record.specs.Fields.{up_to}
use Rattle.session_record.specs.Versions.{has_receipts}
use Rattle.session_record.specs.declared.versions.Version.{Version}
use Rattle.session_record.proofs.Items.{above_last, each_of, last_before, ups}
use Rattle.session_record.proofs.Passing.{PassesAwaiting, PassesWaiting}

-- ---- the grammar

waiting_grammar : (side : Side) (epoch sent : ℕ) (before : List Position)
    → IsGrammar position_bytes (PassesWaiting side epoch sent before) (waiting_item side epoch sent before)
unfolding waiting_behind
waiting_grammar side epoch sent before =
    mapped_grammar _ _ _
    (both_grammar _ _ _ _ _ _
    (checked_grammar _ _ _ (number_grammar w32 (2 ^ 32) exact32) (is_waiting_epoch side epoch (last_waiting before))) (λ t _.
    checked_grammar _ _ _ (number_grammar w32 (2 ^ 32) exact32) (is_waiting_index epoch sent (last_waiting before) t)))
    (PassesWaiting side epoch sent before) listed_place of_place
    (λ e l. (record { epoch_is = l.0.1; epoch_fits = l.0.0; index_is = l.1.1; index_fits = l.1.0 }, refl))
    (λ p l. (((l.epoch_fits, l.epoch_is), (l.index_fits, l.index_is)), refl))

abbrev IsWaitingList : Side → ℕ → ℕ → List Position → Type 0
IsWaitingList side epoch sent list =
    ((length list < 2 ^ 8) × (up_to AWAITING_LIMIT (length list) ≡ true)) × AreItems (PassesWaiting side epoch sent) (length list) list

list_grammar : (side : Side) (epoch sent : ℕ)
    → IsGrammar (print_counted w8 position_bytes) (IsWaitingList side epoch sent) (waiting_list side epoch sent)
list_grammar side epoch sent =
    counted_grammar position_bytes (PassesWaiting side epoch sent) (waiting_item side epoch sent) (waiting_grammar side epoch sent)
    w8 (2 ^ 8) exact8 (up_to AWAITING_LIMIT)

pub awaiting_grammar : (version : Version) (side : Side) (epoch sent : ℕ)
    → IsGrammar (awaiting_text version) (PassesAwaiting (has_receipts version) side epoch sent) (awaiting_field version side epoch sent)
unfolding awaiting_field
awaiting_grammar version side epoch sent =
    mapped_grammar _ _ _ (maybe_grammar _ _ _ (list_grammar side epoch sent) (has_receipts version))
    (PassesAwaiting (has_receipts version) side epoch sent) awaiting_of (of_awaiting version)
    (λ o lawful. there (has_receipts version) o lawful) (λ list lawful. back (has_receipts version) list lawful)
  where
    there : (has : Bool) (o : Option (List Position)) → IsMaybe has (IsWaitingList side epoch sent) o
        → PassesAwaiting has side epoch sent (awaiting_of o) × ((if has then Some (awaiting_of o) else None) ≡ o)
    there true None lawful = absurd (let e : true ≡ false = lawful in cc)
    there false None lawful =
        let none = items-from (PassesWaiting side epoch sent) [] (position_at 0 0) (λ i d inside. absurd (omega arith)) in
        (record { allowed = λ _. refl; few = refl; each = none }, refl)
    there true (Some list) lawful =
        (record { allowed = λ without. absurd (let e : true ≡ false = without in cc); few = lawful.1.0.1; each = lawful.1.1 }, refl)
    there false (Some list) lawful = absurd (let e : false ≡ true = lawful.0 in cc)

    back : (has : Bool) (list : List Position) → PassesAwaiting has side epoch sent list
        → IsMaybe has (IsWaitingList side epoch sent) (if has then Some list else None)
        × (awaiting_of (if has then Some list else None) ≡ list)
    back true list l = ((refl, ((omega (arith, leb-true (length list) AWAITING_LIMIT l.few), l.few), l.each)), refl)
    back false list l = (refl, sym (l.allowed refl))

-- ---- from the tests

most_fits : (epoch sent t : ℕ) → sent ≤ INDEX_LIMIT → most_waiting epoch sent t ≤ INDEX_LIMIT
most_fits epoch sent t few = grind (arith, nat_tests)

sent_is : (epoch : ℕ) (phase : Phase) (p : Position) → p.index ≤ most_waiting epoch (sent_of phase) p.epoch → IsSent epoch phase p
sent_is epoch (in_own own) p inside = λ same. grind (arith, nat_tests)
sent_is epoch (in_peers public) p inside = tt

record HasParts (side : Side) (epoch sent : ℕ) (last p : Position) : Type 0 where
  own : is_own side p.epoch ≡ true
  reached : p.epoch ≤ epoch
  one : 1 ≤ p.index
  most : p.index ≤ most_waiting epoch sent p.epoch
  after : IsBefore last p

parts_of : (side : Side) (epoch sent : ℕ) (before : List Position) (p : Position) → PassesWaiting side epoch sent before p
    → HasParts side epoch sent (last_waiting before) p
parts_of side epoch sent before p l =
    let last = last_waiting before in
    let most = most_waiting epoch sent p.epoch in
    let a = and_parts (is_own side p.epoch) (nat_le p.epoch epoch && nat_le last.epoch p.epoch) l.epoch_is in
    let b = and_parts (nat_le p.epoch epoch) (nat_le last.epoch p.epoch) a.1 in
    let above = nat_lt last.epoch p.epoch || nat_lt last.index p.index in
    let c = and_parts (nat_le 1 p.index) (nat_le p.index most && above) l.index_is in
    let d = and_parts (nat_le p.index most) above c.1 in
    record {
      own = a.0;
      reached = leb-true p.epoch epoch b.0;
      one = leb-true 1 p.index c.0;
      most = leb-true p.index most d.0;
      after = after_last last p (leb-true last.epoch p.epoch b.1) d.1;
    }
  where
    after_last : (last p : Position) → last.epoch ≤ p.epoch → (nat_lt last.epoch p.epoch || nat_lt last.index p.index) ≡ true → IsBefore last p
    after_last last p below above = (below, λ same. grind (arith, nat_tests))

pub are-waiting : (there : Bool) (side : Side) (epoch : ℕ) (phase : Phase) (awaiting : List Position)
    → sent_of phase ≤ INDEX_LIMIT → PassesAwaiting there side epoch (sent_of phase) awaiting → AreWaiting side epoch phase awaiting
are-waiting there side epoch phase awaiting few l =
    let sent = sent_of phase in
    record {
      each = each_of (PassesWaiting side epoch sent) (IsWaiting side epoch phase) (λ before p passes.
          let parts = parts_of side epoch sent before p passes in
          record {
            own = parts.own;
            reached = parts.reached;
            one = parts.one;
            most = omega (arith, parts.most, most_fits epoch sent p.epoch few);
            sent = sent_is epoch phase p parts.most;
          }) (length awaiting) awaiting l.each;
      ascending = (ups (λ (p : Position). p) last_waiting refl (last_in-push (position_at 0 0)) (PassesWaiting side epoch sent)
          (λ before p passes. (parts_of side epoch sent before p passes).after) (length awaiting) awaiting l.each).up;
      few = leb-true (length awaiting) AWAITING_LIMIT l.few;
    }

-- ---- to the tests

within_sent : (epoch sent t n : ℕ) → n ≤ INDEX_LIMIT → (t ≡ epoch → n ≤ sent) → nat_le n (most_waiting epoch sent t) ≡ true
within_sent epoch sent t n few inside = grind (arith, nat_tests)

within_most : (side : Side) (epoch : ℕ) (phase : Phase) (p : Position) → IsWaiting side epoch phase p
    → nat_le p.index (most_waiting epoch (sent_of phase) p.epoch) ≡ true
within_most side epoch (in_own own) p l = within_sent epoch own.sent p.epoch p.index l.most l.sent
within_most side epoch (in_peers public) p l = within_sent epoch INDEX_LIMIT p.epoch p.index l.most (λ _. l.most)

pub awaiting-passes : (there : Bool) (side : Side) (epoch : ℕ) (phase : Phase) (awaiting : List Position)
    → epoch ≤ LAST_EPOCH → (there ≡ false → awaiting ≡ []) → AreWaiting side epoch phase awaiting
    → PassesAwaiting there side epoch (sent_of phase) awaiting
awaiting-passes there side epoch phase awaiting fits allowed l = record {
  allowed = allowed;
  few = le-leb (length awaiting) AWAITING_LIMIT l.few;
  each = items-from (PassesWaiting side epoch (sent_of phase)) awaiting (position_at 0 0) (λ i d inside.
      let p = get_or awaiting i d in
      let one = l.each i d inside in
      let last = last_waiting (take i awaiting) in
      let before =
      last_before (λ (q : Position). q) last_waiting refl (last_in-push (position_at 0 0)) awaiting i d inside one.one l.ascending in
      let most = within_most side epoch phase p one in
      record {
        epoch_is = and_from _ _ one.own (and_from _ _ (le-leb p.epoch epoch one.reached) (le-leb last.epoch p.epoch before.0));
        epoch_fits = omega (arith, one.reached);
        index_is = and_from _ _ (le-leb 1 p.index one.one) (and_from _ _ most (above_last last p before));
        index_fits = omega (arith, one.most);
      });
}
