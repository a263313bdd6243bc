-- What was read at rest is what the pager rests on.
use Rattle.std.proofs.Common.{◌≡◌, ℕ, Bool, true, false, List, take, Option, Some, None, refl, sym, ◌∙◌, ap, subst, arith, if◌then◌else◌}
use Rattle.std.specs.Prelude.{◌==◌}
use Rattle.std.proofs.lemmas.Bool.Decides.{nat_tests}
use Rattle.pages.specs.Resting.{IsShotAtRest as AreAtRest}
use Rattle.pages.specs.Snapshots.{Snapshot, kept_shot, no_shot, shot}
use Rattle.pages.specs.Tables.{table_turn}
use Rattle.pages.proofs.Shots.{shot_still}
use Rattle.record_pages.specs.Tables.{record_names}
use Rattle.slot_store.specs.declared.pager.Pager.{Pager}
use Rattle.slot_store.specs.Areas.{layout_of}
use Rattle.slot_store.specs.AtRest.{IsAtRest}
use Rattle.slot_store.specs.Layout.{IsMarked, Mark, laid}
use Rattle.slot_store.specs.Records.{record_shown}
use Rattle.slot_store.specs.Settling.{HasShot}
use Rattle.slot_store.specs.Pager.{IsLaidFor, content, mark}
use Rattle.slot_store.proofs.Wipings.EmptySettled.{empty_rests, laid_empty}
use Rattle.slot_store.proofs.Laid.{laid_names, laid_shown}
use Rattle.slot_store.proofs.Wipings.Settled.{held, rests_of}
use Rattle.slot_store.proofs.Standing.{pager_marked}

none_turn : (pager : Pager) → content pager ≡ None → pager.turn ≡ 0
unfolding content
none_turn pager has = by (pager.turn == 0) refl has
  where
    by : (t : Bool) → (pager.turn == 0) ≡ t → (if t then None else Some (take pager.kept.len pager.kept.bytes.items)) ≡ None → pager.turn ≡ 0
    by true is h = grind (arith, nat_tests)
    by false is h = absurd (let e : Some (take pager.kept.len pager.kept.bytes.items) ≡ None = h in cc)

module _ (pager : Pager) (s : List ℕ) (is_shown : HasShot pager s) (m : Mark) (text : Option (List ℕ))
    (rests : IsAtRest pager.area m text s) where
  -- it has the pager's mark, where it has a record
  pub record IsSame : Type 0 where
    pub rests_too : IsLaidFor pager s
    pub same_mark : (kept : List ℕ) → text ≡ Some kept → mark pager ≡ m

  shots : kept_shot (laid (mark pager) (content pager)) ≡ kept_shot (laid m text)
  shots = sym is_shown ∙ shot_still record_names (layout_of pager.area) s (laid m text) rests.laid_out.still

  laid_as : (o : Option (List ℕ)) → text ≡ o → AreAtRest record_names (layout_of pager.area) (laid m o) s
  laid_as o is = subst (λ p. AreAtRest record_names (layout_of pager.area) (laid m p) s) is rests.laid_out

  shots_as : (o p : Option (List ℕ)) → content pager ≡ o → text ≡ p → kept_shot (laid (mark pager) o) ≡ kept_shot (laid m p)
  shots_as o p has is = sym (ap (λ x. kept_shot (laid (mark pager) x)) has) ∙ shots ∙ ap (λ x. kept_shot (laid m x)) is

  module _ (kept other : List ℕ) (has : content pager ≡ Some kept) (is : text ≡ Some other) where
    mine : IsMarked pager.area (mark pager) kept
    mine = pager_marked pager kept has

    theirs : IsMarked pager.area m other
    theirs = rests.marked other is

    both : shot (laid (mark pager) (Some kept)) ≡ shot (laid m (Some other))
    both = sym (held pager.area (mark pager) kept mine) ∙ shots_as (Some kept) (Some other) has is ∙ held pager.area m other theirs

    snaps : laid (mark pager) (Some kept) ≡ laid m (Some other)
    snaps = inner _ _ both
      where
        inner : (x y : Snapshot) → shot x ≡ shot y → x ≡ y
        inner x y h = cc

    texts : kept ≡ other
    texts =
        let e : Some kept ≡ Some other = sym (laid_shown pager.area (mark pager) kept pager.lawful mine) ∙ ap (record_shown pager.area) both
        ∙ laid_shown pager.area m other pager.lawful theirs in
        inner kept other e
      where
        inner : (x y : List ℕ) → Some x ≡ Some y → x ≡ y
        inner x y h = cc

    numbers : (mark pager).numbers ≡ m.numbers
    numbers = sym (laid_names pager.area (mark pager) kept pager.lawful mine)
        ∙ ap (λ (x : Snapshot). record_names x.table.body) snaps
        ∙ laid_names pager.area m other pager.lawful theirs

    second : (mark pager).second ≡ m.second
    second = ap (λ (x : Snapshot). x.second) snaps

    turn : (mark pager).turn ≡ m.turn
    turn = ap (λ (x : Snapshot). table_turn x.table) snaps

    marks : mark pager ≡ m
    marks = λ i. record { second = second i; turn = turn i; numbers = numbers i }

    some_same : IsSame
    some_same = record {
      rests_too = rests_of pager (Some other) (has ∙ ap Some texts) s
          (subst (λ x. AreAtRest record_names (layout_of pager.area) (laid x (Some other)) s) (sym marks) (laid_as (Some other) is));
      same_mark = λ kept' is'. marks;
    }

  by_content : (o p : Option (List ℕ)) → content pager ≡ o → text ≡ p → IsSame
  by_content None None has is = record {
    rests_too = empty_rests pager (none_turn pager has) s (laid_empty pager m s (laid_as None is));
    same_mark = λ kept some. absurd (let e : None ≡ Some kept = sym is ∙ some in cc);
  }
  by_content (Some kept) None has is = absurd
      (let e : shot (laid (mark pager) (Some kept)) ≡ no_shot =
      sym (held pager.area (mark pager) kept (pager_marked pager kept has)) ∙ shots_as (Some kept) None has is in cc)
  by_content None (Some other) has is = absurd
      (let e : no_shot ≡ shot (laid m (Some other)) =
      shots_as None (Some other) has is ∙ held pager.area m other (rests.marked other is) in cc)
  by_content (Some kept) (Some other) has is = some_same kept other has is

  pub is_same : IsSame
  is_same = by_content (content pager) text refl refl
