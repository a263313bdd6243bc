-- By which bytes an area is at rest for a pager.
use Rattle.std.proofs.Common.{◌≡◌, ◌≢◌, ⊎_elim, ℕ, ◌*◌, ◌<◌, Bool, true, false, List, [], ◌∷◌, length, take, Some, refl, sym, ◌∙◌, ap, subst, arith, if◌then◌else◌}
use Rattle.std.specs.Prelude.{not, ◌==◌, ◌&&◌, ◌↔◌, IsTrue}
use Rattle.std.proofs.lemmas.Bool.{cases_eq}
use Rattle.std.proofs.lemmas.Bool.Decides.{nat_tests}
use Rattle.dr_base.specs.declared.limits.TheConstants.{PAGE}
use Rattle.dr_disk.specs.State.{DiskState, OnSeen}
use Rattle.pages.specs.Clearing.{AreBlank}
use Rattle.pages.specs.Tables.{Table, table_at, wiped}
use Rattle.record_pages.specs.Plans.{is_among}
use Rattle.slot_store.specs.declared.pager.Pager.{Pager}
use Rattle.slot_store.specs.Areas.{layout_of}
use Rattle.pages.specs.Judged.{table_with}
use Rattle.slot_store.specs.Settling.{HasShot}
use Rattle.slot_store.specs.Pager.{IsLaidFor, mark}
use Rattle.slot_store.proofs.Wipings.EmptySettled.{empty_rests, rests_empty}
use Rattle.slot_store.proofs.Wipings.Marks.{AreMarked}
use Rattle.slot_store.proofs.Wipings.Settled.{has_text, rests_as, rests_blank, settled_rests}

-- ---- which tables are asked

-- of both tables each but the one with a record
module _ (turn : ℕ) (second a b : Bool) (P : Bool → Type 0) (one : IsTrue a ↔ P false) (two : IsTrue b ↔ P true) where
  both_true : (x y : Bool) → (x && y) ≡ true → (x ≡ true) × (y ≡ true)
  both_true true true is = (refl, refl)
  both_true true false is = absurd (let e : false ≡ true = is in cc)
  both_true false y is = absurd (let e : false ≡ true = is in cc)

  and_true : (x y : Bool) → x ≡ true → y ≡ true → (x && y) ≡ true
  and_true true y first next = next
  and_true false y first next = first

  onwards : (none second k : Bool) → (none ≡ false → turn ≢ 0) → IsTrue (if none then a && b else if second then a else b)
      → (k ≡ second → turn ≡ 0) → P k
  onwards true second false some is beside = one.0 (both_true a b is).0
  onwards true second true some is beside = two.0 (both_true a b is).1
  onwards false true true some is beside = absurd (some refl (beside refl))
  onwards false true false some is beside = one.0 is
  onwards false false false some is beside = absurd (some refl (beside refl))
  onwards false false true some is beside = two.0 is

  back : (none second : Bool) → (none ≡ true → turn ≡ 0) → ((k : Bool) → (k ≡ second → turn ≡ 0) → P k)
      → IsTrue (if none then a && b else if second then a else b)
  back true second zero all = and_true a b (one.1 (all false (λ is. zero refl))) (two.1 (all true (λ is. zero refl)))
  back false true zero all = one.1 (all false (λ is. absurd (let e : false ≡ true = is in cc)))
  back false false zero all = two.1 (all true (λ is. absurd (let e : true ≡ false = is in cc)))

  asked : IsTrue (if turn == 0 then a && b else if second then a else b) ↔ ((k : Bool) → (k ≡ second → turn ≡ 0) → P k)
  asked = (
    λ is k beside. onwards (turn == 0) second k (λ no zero. grind (arith, nat_tests)) is beside,
    λ all. back (turn == 0) second (λ yes. grind (arith, nat_tests)) all,
  )

-- of a table as it was read
table_told : (b : Bool) (gate : ℕ) (given body : List ℕ) (t : Table) → given ≡ body → t ≡ table_with gate body
    → (IsTrue b ↔ (table_with gate given ≡ wiped PAGE)) → (IsTrue b ↔ (t ≡ wiped PAGE))
table_told b gate given body t same is told =
    let e : t ≡ table_with gate given = is ∙ ap (table_with gate) (sym same) in
    (λ yes. e ∙ told.0 yes, λ zero. told.1 (sym e ∙ zero))

-- ---- an area at rest

-- each table is zeros, but for the one that has the pager's record
abbrev pub AreOthersWiped : Pager → List ℕ → Type 0
AreOthersWiped pager s = (k : Bool) → (k ≡ pager.second → pager.turn ≡ 0) → table_at (layout_of pager.area) k s ≡ wiped PAGE

-- as code asks
pub asked_of : (pager : Pager) (g1 g2 : ℕ) (d1 d2 b1 b2 : List ℕ) (a b r : Bool) (s : List ℕ) → d1 ≡ b1 → d2 ≡ b2
    → table_at (layout_of pager.area) false s ≡ table_with g1 b1 → table_at (layout_of pager.area) true s ≡ table_with g2 b2
    → (IsTrue a ↔ (table_with g1 d1 ≡ wiped PAGE)) → (IsTrue b ↔ (table_with g2 d2 ≡ wiped PAGE))
    → r ≡ (if pager.turn == 0 then a && b else if pager.second then a else b) → (IsTrue r ↔ AreOthersWiped pager s)
asked_of pager g1 g2 d1 d2 b1 b2 a b r s one two first second a_is b_is is =
    let both = asked pager.turn pager.second a b (λ k. table_at (layout_of pager.area) k s ≡ wiped PAGE)
    (table_told a g1 d1 b1 (table_at (layout_of pager.area) false s) one first a_is)
    (table_told b g2 d2 b2 (table_at (layout_of pager.area) true s) two second b_is) in
    (λ yes. both.0 (sym is ∙ yes), λ all. is ∙ both.1 all)

no_numbers : (pager : Pager) → pager.turn ≡ 0 → pager.kept.numbers.items ≡ []
no_numbers pager turn = by pager.kept.numbers.items
    (let least = pager.kept.least in let len = pager.none turn in let e : PAGE * length pager.kept.numbers.items < PAGE = omega arith in e)
  where
    by : (numbers : List ℕ) → PAGE * length numbers < PAGE → numbers ≡ []
    by [] less = refl
    by (n ∷ numbers) less = absurd (omega arith)

other_one : (k b : Bool) → k ≢ b → k ≡ not b
other_one true true isnt = absurd (isnt refl)
other_one true false isnt = refl
other_one false true isnt = refl
other_one false false isnt = absurd (isnt refl)

never_same : (b : Bool) → not b ≢ b
never_same true is = absurd (let e : false ≡ true = is in cc)
never_same false is = absurd (let e : true ≡ false = is in cc)

pub laid_others : (pager : Pager) (s : List ℕ) → IsLaidFor pager s → AreOthersWiped pager s
unfolding mark
laid_others pager s rests k beside = ⊎_elim
    (λ zero. (rests_empty pager zero s rests).tables k)
    (λ turn. subst (λ j. table_at (layout_of pager.area) j s ≡ wiped PAGE) (sym (other_one k pager.second (λ is. turn (beside is))))
    (other turn))
    (cases_eq pager.turn 0)
  where
    other : pager.turn ≢ 0 → table_at (layout_of pager.area) (not pager.second) s ≡ wiped PAGE
    other turn = (rests_as pager (Some (take pager.kept.len pager.kept.bytes.items)) (has_text pager turn) s rests).other

module _ (pager : Pager) (named : List Bool) (marks : AreMarked named pager.kept.numbers.items) (s : List ℕ) where
  pub laid_blank : IsLaidFor pager s → AreBlank (layout_of pager.area) named s
  laid_blank rests n is none = ⊎_elim
      (λ zero. (rests_empty pager zero s rests).pages n is)
      (λ turn. rests_blank pager (take pager.kept.len pager.kept.bytes.items) (has_text pager turn) named marks s rests n is none)
      (cases_eq pager.turn 0)

  pub laid_by : (start : DiskState) → OnSeen (HasShot pager) start → start.seen ≡ Some s → AreOthersWiped pager s
      → AreBlank (layout_of pager.area) named s → IsLaidFor pager s
  laid_by start shown told others blank = ⊎_elim
      (λ zero. empty_rests pager zero s (record {
        tables = λ k. others k (λ is. zero);
        pages = λ n is. blank n is (marks n ∙ ap (λ (ns : List ℕ). is_among ns n) (no_numbers pager zero));
      }))
      (λ turn. settled_rests pager (take pager.kept.len pager.kept.bytes.items) (has_text pager turn) named marks start s shown
      (record {
        read = s;
        told = told;
        wiped_is = others (not pager.second) (λ is. absurd (never_same pager.second is));
        other = refl;
        blank = blank;
        kept = λ n is marked. refl;
      }))
      (cases_eq pager.turn 0)
