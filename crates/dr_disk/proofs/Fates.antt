-- What is told of how calls go, from call to call.
use Rattle.std.proofs.Common.{◌≡◌, ◌⊎◌, inl, inr, ⊎_elim, ℕ, zero, suc, ◌+◌, Some, None, Option, Result, Ok, Err, refl, sym, ◌∙◌, ap, arith}
use Rattle.std.specs.Prelude.{is_ok, true, false}
use Rattle.dr_disk.specs.State.{DiskState, Fate, after_failure, all_but, all_pass, some_pass, to_failure, untold_fate}
use Rattle.dr_disk.specs.Spans.{FailsLater, HasFailedAsTold, HaveGone, HavePassed, HavePassedAtLeast}
use Rattle.dr_disk.specs.Calls.{Goes, ReadGoes, after_call, passes_next, read_passes}

-- ---- of a fate alone

-- the call that fails finds none left
last_one : (f : Fate) (n : ℕ) → to_failure f ≡ Some n → (passes_next f ≡ Some true → ⊥)
    → (n ≡ 0) × (after_call f ≡ after_failure f)
last_one untold_fate n told refused = absurd (let e : None ≡ Some n = told in cc)
last_one all_pass n told refused = absurd (let e : None ≡ Some n = told in cc)
last_one (some_pass zero) n told refused = (let e : Some 0 ≡ Some n = told in cc, refl)
last_one (some_pass (suc k)) n told refused = absurd (refused refl)
last_one (all_but zero) n told refused = (let e : Some 0 ≡ Some n = told in cc, refl)
last_one (all_but (suc k)) n told refused = absurd (refused refl)

last_read : (f : Fate) (n : ℕ) → to_failure f ≡ Some n → (read_passes f ≡ Some true → ⊥)
    → (n ≡ 0) × (f ≡ after_failure f)
last_read untold_fate n told refused = absurd (let e : None ≡ Some n = told in cc)
last_read all_pass n told refused = absurd (let e : None ≡ Some n = told in cc)
last_read (some_pass zero) n told refused = (let e : Some 0 ≡ Some n = told in cc, refl)
last_read (some_pass (suc k)) n told refused = absurd (refused refl)
last_read (all_but k) n told refused = absurd (refused refl)

-- a call that passes leaves one less
same_number : (k n : ℕ) → Some (suc k) ≡ Some n → n ≡ k + 1
same_number k n told = let e : suc k ≡ n = cc in omega arith

one_less : (f : Fate) (n : ℕ) → to_failure f ≡ Some n → (passes_next f ≡ Some false → ⊥)
    → (left : ℕ) × (n ≡ left + 1) × (to_failure (after_call f) ≡ Some left)
    × (after_failure (after_call f) ≡ after_failure f)
one_less untold_fate n told refused = absurd (let e : None ≡ Some n = told in cc)
one_less all_pass n told refused = absurd (let e : None ≡ Some n = told in cc)
one_less (some_pass zero) n told refused = absurd (refused refl)
one_less (some_pass (suc k)) n told refused = (k, same_number k n told, refl, refl)
one_less (all_but zero) n told refused = absurd (refused refl)
one_less (all_but (suc k)) n told refused = (k, same_number k n told, refl, refl)

-- what is told after a call that failed
then_told : (f : Fate) → passes_next f ≡ Some false
    → ((to_failure (after_call f) ≡ Some 0) × (after_failure (after_call f) ≡ after_failure f))
    ⊎ ((after_failure f ≡ all_pass) × (after_call f ≡ all_pass))
then_told untold_fate refused = absurd (let e : None ≡ Some false = refused in cc)
then_told all_pass refused = absurd (let e : Some true ≡ Some false = refused in cc)
then_told (some_pass zero) refused = inl (refl, refl)
then_told (some_pass (suc k)) refused = absurd (let e : Some true ≡ Some false = refused in cc)
then_told (all_but zero) refused = inr (refl, refl)
then_told (all_but (suc k)) refused = absurd (let e : Some true ≡ Some false = refused in cc)

-- ---- of a disk

same_count : (x y : Option ℕ) → y ≡ x → (l m : ℕ) → x ≡ Some l → y ≡ Some m → l ≡ m
same_count x y same l m was is = let e : Some l ≡ Some m = sym was ∙ sym same ∙ is in cc

module _ (a b : DiskState) where
  -- a call that is not counted
  pub same_gone : b.fate ≡ a.fate → b.passed ≡ a.passed → HaveGone a b
  same_gone same counts n told = inl (record {
    left = n;
    fate = ap to_failure same ∙ told;
    behind = ap after_failure same;
    counted = λ l m was is. omega (arith, same_count a.passed b.passed counts l m was is);
  })

  -- a write or a sync that passes
  pub one_gone : passes_next a.fate ≡ Some true → b.fate ≡ after_call a.fate → HavePassed 1 a b
      → HaveGone a b
  one_gone passes goes passed n told =
      let less = one_less a.fate n told
      (λ fails. let e : Some true ≡ Some false = sym passes ∙ fails in cc) in
      inl (record {
        left = less.0;
        fate = ap to_failure goes ∙ less.2;
        behind = ap after_failure goes ∙ less.3;
        counted = λ l m was is.
            let one = passed m is in
            omega (arith, same_count a.passed a.passed refl l one.0 was one.1, one.2, less.1);
      })

  -- one that fails
  pub fault_gone : passes_next a.fate ≡ Some false → b.fate ≡ after_call a.fate
      → b.passed ≡ a.passed → HaveGone a b
  fault_gone fails goes counts n told =
      let last = last_one a.fate n told
      (λ yes. let e : Some true ≡ Some false = sym yes ∙ fails in cc) in
      let same = same_count a.passed b.passed counts in
      ⊎_elim
      (λ stays. inl (record {
        left = 0;
        fate = ap to_failure goes ∙ stays.0;
        behind = ap after_failure goes ∙ stays.1;
        counted = λ l m was is. omega (arith, last.0, same l m was is);
      }))
      (λ over. inr (record {
        behind = over.0;
        fate = goes ∙ over.1;
        counted = λ l m was is. omega (arith, last.0, same l m was is);
      }))
      (then_told a.fate fails)

-- where all calls pass, none fails, and all pass from then on
pub all_go : {T E : Type 0} (a b : DiskState) (r : Result T E) → Goes a b r
    → a.fate ≡ all_pass → (is_ok r ≡ true) × (b.fate ≡ all_pass)
all_go a b r goes all = (goes.told true (ap passes_next all), goes.fate ∙ ap after_call all)

pub all_read : {T E : Type 0} (a b : DiskState) (r : Result T E) → ReadGoes a b r
    → a.fate ≡ all_pass → (is_ok r ≡ true) × (b.fate ≡ all_pass)
all_read a b r goes all = (goes.told true (ap read_passes all), goes.fate ∙ all)

-- a call that fails where one is told to is that one
as_told : (a b : DiskState) (n : ℕ) → n ≡ 0 → b.fate ≡ after_failure a.fate → b.passed ≡ a.passed
    → (m : ℕ) × (b.passed ≡ Some m)
    → (b.fate ≡ after_failure a.fate) × (l : ℕ) × (a.passed ≡ Some l) × (b.passed ≡ Some (l + n))
as_told a b n none goes counts told =
    let same : told.0 ≡ told.0 + n = omega (arith, none) in
    (goes, told.0, sym counts ∙ told.1, told.1 ∙ ap Some same)

pub fails_as_told : {T E : Type 0} (a b : DiskState) (e : E) → Goes {T = T} a b (Err e)
    → HasFailedAsTold a b
fails_as_told a b e goes n told =
    let last = last_one a.fate n told (λ yes. let f : false ≡ true = goes.told true yes in cc) in
    as_told a b n last.0 (goes.fate ∙ last.1) goes.failed (goes.counted n told)

pub read_fails_as_told : {T E : Type 0} (a b : DiskState) (e : E) → ReadGoes {T = T} a b (Err e)
    → HasFailedAsTold a b
read_fails_as_told a b e goes n told =
    let last = last_read a.fate n told (λ yes. let f : false ≡ true = goes.told true yes in cc) in
    as_told a b n last.0 (goes.fate ∙ last.1) goes.passed (goes.counted n told)

-- a call that passes isn't
pub fails_later : {T E : Type 0} (a b : DiskState) (x : T) → Goes {E = E} a b (Ok x)
    → FailsLater a b
fails_later a b x goes n told =
    let less = one_less a.fate n told
    (λ fails. let f : true ≡ false = goes.told false fails in cc) in
    (less.0, ap to_failure goes.fate ∙ less.2)

pub read_later : {T E : Type 0} (a b : DiskState) (r : Result T E) → ReadGoes a b r → FailsLater a b
read_later a b r goes n told = (n, ap to_failure goes.fate ∙ told)

-- no call was made
pub none_gone : (d : DiskState) → HaveGone d d
none_gone d = same_gone d d refl refl

-- ---- in sequence

module _ (a b c : DiskState) where
  pub gone_on : HaveGone a b → HaveGone b c → HavePassedAtLeast b c
      → (b.fate ≡ all_pass → c.fate ≡ all_pass) → HaveGone a c
  gone_on first next passes all n told = ⊎_elim
      (λ one. ⊎_elim
      (λ two. inl (record {
        left = two.left;
        fate = two.fate;
        behind = two.behind ∙ one.behind;
        counted = λ l m was is.
            let mid = passes m is in
            let e : mid.0 + one.left ≡ l + n = one.counted l mid.0 was mid.1 in
            let f : m + two.left ≡ mid.0 + one.left = two.counted mid.0 m mid.1 is in
            omega arith;
      }))
      (λ two. inr (record {
        behind = sym one.behind ∙ two.behind;
        fate = two.fate;
        counted = λ l m was is.
            let mid = passes m is in
            omega (arith, one.counted l mid.0 was mid.1, two.counted mid.0 m mid.1 is);
      }))
      (next one.left one.fate))
      (λ one. inr (record {
        behind = one.behind;
        fate = all one.fate;
        counted = λ l m was is.
            let mid = passes m is in
            omega (arith, one.counted l mid.0 was mid.1, mid.2);
      }))
      (first n told)

  -- those that follow others, and of which one fails
  pub failed_as_told : HaveGone a b → HavePassedAtLeast a b → HasFailedAsTold b c
      → (b.fate ≡ all_pass → ⊥) → HasFailedAsTold a c
  failed_as_told first passes next some n told = ⊎_elim
      (λ one.
      let end = next one.left one.fate in
      let was = passes end.1 end.2 in
      let same : end.1 + one.left ≡ was.0 + n = one.counted was.0 end.1 was.1 end.2 in
      (end.0 ∙ one.behind, was.0, was.1, end.3 ∙ ap Some same))
      (λ over. absurd (some over.fate))
      (first n told)

  pub later_twice : FailsLater a b → FailsLater b c → FailsLater a c
  later_twice first next n told = let mid = first n told in next mid.0 mid.1
