-- A plan, place after place.
use Rattle.std.proofs.Common.{◌≡◌, ℕ, suc, ◌+◌, ◌<◌, ◌≤◌, true, false, List, [], ◌∷◌, ◌++◌, length, take, drop, refl, sym, ap, ◌∙◌, subst, arith, append_assoc, append-nil, length-append, length-drop, length-take-le}
use Rattle.std.specs.Prelude.{slice_index}
use Rattle.std.proofs.Math.Seq.{take-add}
use Rattle.std.proofs.lemmas.List.{drop-drop, drop_at, get_or-drop, take_at}
use Rattle.record_pages.specs.Pages.{cut, pages_of}
use Rattle.record_pages.specs.Plans.{changed_places, dropped, numbered, stays_at}
use Rattle.record_pages.proofs.Cuts.{cut_rest, pages_end}
use Rattle.record_pages.proofs.Steps.{kept_dropped, kept_numbers, kept_places, new_dropped, new_numbers, new_places, stands}

-- what the pages before a place come to, and that those from there on are still to come
pub record IsSoFar (held count : ℕ) (bytes text nums free : List ℕ) (at : ℕ) (numbers places gone : List ℕ) : Type 0 where
  pub front : numbered (cut held bytes) nums (pages_of count text) free
      ≡ take at numbers ++ numbered (drop at (cut held bytes)) (drop at nums) (drop at (pages_of count text)) (drop (length places) free)
  pub rest : drop at numbers ≡ drop at nums
  pub long : at ≤ length numbers
  pub changes : changed_places 0 (cut held bytes) (pages_of count text)
      ≡ places ++ changed_places at (drop at (cut held bytes)) (drop at (pages_of count text))
  pub drops : dropped (cut held bytes) nums (pages_of count text) ≡ gone ++ dropped (drop at (cut held bytes)) (drop at nums) (drop at (pages_of count text))
  pub few : length places ≤ at
  pub less : length gone + length (drop at nums) ≤ length nums

head_rest : (l : List ℕ) → length (take 1 l) + length (drop 1 l) ≡ length l
head_rest [] = refl
head_rest (y ∷ l) = omega arith

module _ (held count : ℕ) (bytes text nums free : List ℕ) (at : ℕ) (numbers places gone : List ℕ) (each : length nums ≡ held) (lt : at < count)
    (so : IsSoFar held count bytes text nums free at numbers places gone) where
  abbrev old : List (List ℕ)
  old = cut held bytes

  abbrev new : List (List ℕ)
  new = pages_of count text

  abbrev rest_from : ℕ → List ℕ → List ℕ
  rest_from k f = numbered (drop k old) (drop k nums) (drop k new) f

  step : suc at ≡ at + 1
  step = omega arith

  past : (l : List ℕ) → drop (at + 1) l ≡ drop 1 (drop at l)
  past l = sym (drop-drop 1 at l)

  pub stays_so : stays_at held bytes text at ≡ true → IsSoFar held count bytes text nums free (at + 1) numbers places gone
  stays_so is = record {
    front = so.front
        ∙ ap (λ (l : List ℕ). take at numbers ++ l) (kept_numbers held count bytes text nums at each lt is (drop (length places) free))
        ∙ sym (append_assoc (take at numbers) (take 1 (drop at nums)) (rest_from (suc at) (drop (length places) free)))
        ∙ ap (λ (l : List ℕ). (take at numbers ++ take 1 l) ++ rest_from (suc at) (drop (length places) free)) (sym so.rest)
        ∙ ap (λ (l : List ℕ). l ++ rest_from (suc at) (drop (length places) free)) (sym (take-add at 1 numbers))
        ∙ ap (λ k. take (at + 1) numbers ++ rest_from k (drop (length places) free)) step;
    rest = past numbers ∙ ap (λ (l : List ℕ). drop 1 l) so.rest ∙ sym (past nums);
    long = omega (arith, ap (λ (l : List ℕ). length l) so.rest, length-drop at numbers, length-drop at nums, each, stands held count bytes text nums at each lt is, so.long);
    changes = so.changes
        ∙ ap (λ (l : List ℕ). places ++ l) (kept_places held count bytes text nums at each lt is)
        ∙ ap (λ k. places ++ changed_places k (drop k old) (drop k new)) step;
    drops = so.drops
        ∙ ap (λ (l : List ℕ). gone ++ l) (kept_dropped held count bytes text nums at each lt is)
        ∙ ap (λ k. gone ++ dropped (drop k old) (drop k nums) (drop k new)) step;
    few = omega (arith, so.few);
    less = omega (arith, so.less, length-drop at nums, length-drop (at + 1) nums);
  }

  module _ (isnt : stays_at held bytes text at ≡ false) (numbers' places' gone' : List ℕ)
      (renumbered : numbers' ≡ take at numbers ++ slice_index free (length places) ∷ drop (at + 1) numbers)
      (placed : places' ≡ places ++ at ∷ []) (left : gone' ≡ gone ++ take 1 (drop at numbers)) where
    abbrev x : ℕ
    x = slice_index free (length places)

    front_long : length (take at numbers ++ x ∷ []) ≡ at + 1
    front_long = omega (arith, length-append (take at numbers) (x ∷ []), length-take-le at numbers so.long)

    apart : numbers' ≡ (take at numbers ++ x ∷ []) ++ drop (at + 1) numbers
    apart = renumbered ∙ sym (append_assoc (take at numbers) (x ∷ []) (drop (at + 1) numbers))

    taken : take at numbers ++ x ∷ [] ≡ take (at + 1) numbers'
    taken = sym (ap (λ (l : List ℕ). take (at + 1) l) apart ∙ take_at (take at numbers ++ x ∷ []) (drop (at + 1) numbers) (at + 1) front_long)

    one_more : length places' ≡ length places + 1
    one_more = omega (arith, ap (λ (l : List ℕ). length l) placed, length-append places (at ∷ []))

    fresh : slice_index (drop (length places) free) 0 ≡ x
    fresh = get_or-drop (length places) free 0 0 ∙ ap (λ k. slice_index free k) (let e : length places + 0 ≡ length places = omega arith in e)

    one_long : length (take 1 (drop at numbers)) + length (drop (at + 1) nums) ≤ length (drop at nums)
    one_long = omega (arith, ap (λ (l : List ℕ). length (take 1 l)) so.rest, head_rest (drop at nums), ap (λ (l : List ℕ). length l) (past nums))

    next : drop 1 (drop (length places) free) ≡ drop (length places') free
    next = drop-drop 1 (length places) free ∙ ap (λ k. drop k free) (sym one_more)

    pub new_so : IsSoFar held count bytes text nums free (at + 1) numbers' places' gone'
    new_so = record {
      front = so.front
          ∙ ap (λ (l : List ℕ). take at numbers ++ l) (new_numbers held count bytes text nums at each lt isnt (drop (length places) free))
          ∙ ap (λ n. take at numbers ++ n ∷ rest_from (suc at) (drop 1 (drop (length places) free))) fresh
          ∙ sym (append_assoc (take at numbers) (x ∷ []) (rest_from (suc at) (drop 1 (drop (length places) free))))
          ∙ ap (λ (l : List ℕ). l ++ rest_from (suc at) (drop 1 (drop (length places) free))) taken
          ∙ ap (λ (f : List ℕ). take (at + 1) numbers' ++ rest_from (suc at) f) next
          ∙ ap (λ k. take (at + 1) numbers' ++ rest_from k (drop (length places') free)) step;
      rest = ap (λ (l : List ℕ). drop (at + 1) l) apart
          ∙ drop_at (take at numbers ++ x ∷ []) (drop (at + 1) numbers) (at + 1) front_long
          ∙ past numbers ∙ ap (λ (l : List ℕ). drop 1 l) so.rest ∙ sym (past nums);
      long = omega (arith, ap (λ (l : List ℕ). length l) apart, length-append (take at numbers ++ x ∷ []) (drop (at + 1) numbers), front_long);
      changes = so.changes
          ∙ ap (λ (l : List ℕ). places ++ l) (new_places held count bytes text nums at each lt isnt)
          ∙ sym (append_assoc places (at ∷ []) (changed_places (suc at) (drop (suc at) old) (drop (suc at) new)))
          ∙ ap (λ (l : List ℕ). l ++ changed_places (suc at) (drop (suc at) old) (drop (suc at) new)) (sym placed)
          ∙ ap (λ k. places' ++ changed_places k (drop k old) (drop k new)) step;
      drops = so.drops
          ∙ ap (λ (l : List ℕ). gone ++ l) (new_dropped held count bytes text nums at each lt isnt)
          ∙ sym (append_assoc gone (take 1 (drop at nums)) (dropped (drop (suc at) old) (drop (suc at) nums) (drop (suc at) new)))
          ∙ ap (λ (l : List ℕ). (gone ++ take 1 l) ++ dropped (drop (suc at) old) (drop (suc at) nums) (drop (suc at) new)) (sym so.rest)
          ∙ ap (λ (l : List ℕ). l ++ dropped (drop (suc at) old) (drop (suc at) nums) (drop (suc at) new)) (sym left)
          ∙ ap (λ k. gone' ++ dropped (drop k old) (drop k nums) (drop k new)) step;
      few = omega (arith, so.few, one_more);
      less = omega (arith, so.less, ap (λ (l : List ℕ). length l) left, length-append gone (take 1 (drop at numbers)), one_long);
    }

-- ---- once all pages of the text were seen

pub ended : (held count : ℕ) (bytes text nums free : List ℕ) (at : ℕ) (numbers places gone : List ℕ) → at ≡ count
    → IsSoFar held count bytes text nums free at numbers places gone → IsSoFar held count bytes text nums free count numbers places gone
ended held count bytes text nums free at numbers places gone all so = subst (λ k. IsSoFar held count bytes text nums free k numbers places gone) all so

dropped_rest : (pages : List (List ℕ)) (numbers : List ℕ) → length numbers ≡ length pages → dropped pages numbers [] ≡ numbers
dropped_rest [] [] each = refl
dropped_rest [] (n ∷ numbers) each = absurd (omega arith)
dropped_rest (page ∷ pages) [] each = absurd (omega arith)
dropped_rest (page ∷ pages) (n ∷ numbers) each = ap (λ (l : List ℕ). n ∷ l) (dropped_rest pages numbers (omega arith))

module _ (held count : ℕ) (bytes text nums free numbers places gone : List ℕ) (each : length nums ≡ held)
    (so : IsSoFar held count bytes text nums free count numbers places gone) where
  pub all_numbered : take count numbers ≡ numbered (cut held bytes) nums (pages_of count text) free
  all_numbered = sym (so.front
      ∙ ap (λ (l : List (List ℕ)). take count numbers ++ numbered (drop count (cut held bytes)) (drop count nums) l (drop (length places) free)) (pages_end count text)
      ∙ append-nil (take count numbers))

  pub all_changed : places ≡ changed_places 0 (cut held bytes) (pages_of count text)
  all_changed = sym (so.changes
      ∙ ap (λ (l : List (List ℕ)). places ++ changed_places count (drop count (cut held bytes)) l) (pages_end count text)
      ∙ append-nil places)

  pub all_dropped : gone ++ drop count numbers ≡ dropped (cut held bytes) nums (pages_of count text)
  all_dropped = sym (so.drops
      ∙ ap (λ (l : List (List ℕ)). gone ++ dropped (drop count (cut held bytes)) (drop count nums) l) (pages_end count text)
      ∙ ap (λ (l : List ℕ). gone ++ l) (dropped_rest (drop count (cut held bytes)) (drop count nums) (omega (arith, cut_rest held count bytes, length-drop count nums, each)))
      ∙ ap (λ (l : List ℕ). gone ++ l) (sym so.rest))
