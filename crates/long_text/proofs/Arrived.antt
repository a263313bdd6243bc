-- The parts of a text that arrive are pieces of it.
use Rattle.std.proofs.Common.{◌≡◌, ℕ, ◌<◌, ◌≤◌, ◌*◌, ◌-◌, ◌^◌, Bool, true, false, List, [], ◌∷◌, length, drop, refl, sym, ◌∙◌, ap, subst, arith}
use Rattle.std.specs.Prelude.{◌==◌, ◌||◌, filter, map, if◌then◌else◌}
use Rattle.std.specs.List.{AllByRecursion, list_any}
use Rattle.std.proofs.lemmas.Bool.Decides.{Decides-eqb}
use Rattle.std.proofs.lemmas.List.{length-take}
use Rattle.long_text.specs.Cuts.{bytes_at, count_of, part_at}
use Rattle.long_text.specs.Longs.{has_number}
use Rattle.boxes.specs.Parts.{IsPart, part_of, part_text}
use Rattle.boxes.specs.Entries.{is_of}
use Rattle.long_text.specs.Pieces.{Piece, piece, pieces}
use Rattle.long_text.specs.Told.{Arrival, HasArrived, IsPartOf, IsTold, entries_of, entry_of}
use Rattle.boxes.specs.declared.limits.TheConstants.{PART_LIMIT}
use Rattle.long_text.specs.declared.limits.TheConstants.{LONG_LIMIT}
use Rattle.boxes.proofs.Reading.{both_true, id_read, is_part-text}
use Rattle.long_text.proofs.Told.{few_parts}

pub lawful_at : (id : ℕ) (text : List ℕ) (number : ℕ) → length text ≤ LONG_LIMIT → 1 ≤ number
    → number ≤ count_of text → IsPart (part_at id text number)
lawful_at id text number few one most = record {
  one = one;
  most = most;
  few = few_parts text few;
  short = omega (arith, length-take PART_LIMIT (drop (PART_LIMIT * (number - 1)) text));
}

module _ (id : ℕ) (text : List ℕ) (fits : id < 2 ^ 32) (few : length text ≤ LONG_LIMIT) where
  abbrev piece_at : Arrival → Piece
  piece_at a = record { position = a.position; number = a.number; count = count_of text; bytes = bytes_at text a.number }

  is_of-at : (a : Arrival) → 1 ≤ a.number → a.number ≤ count_of text → is_of id (entry_of id text a) ≡ true
  is_of-at a one most =
      let part = part_at id text a.number in
      both_true _ _ (is_part-text part (lawful_at id text a.number few one most))
      ((Decides-eqb (part_of (part_text part)).id id).1 (id_read part fits))

  pieces_at : (arrivals : List Arrival) → AllByRecursion (λ a. 1 ≤ a.number) arrivals
      → AllByRecursion (λ a. a.number ≤ count_of text) arrivals
      → pieces id (entries_of id text arrivals) ≡ map piece_at arrivals
  unfolding pieces
  pieces_at [] one most = refl
  pieces_at (a ∷ more) one most =
      by_test (is_of id (entry_of id text a)) (is_of-at a one.0 most.0)
      ∙ ap (λ (list : List Piece). piece_at a ∷ list) (pieces_at more one.1 most.1)
    where
      by_test : (t : Bool) → t ≡ true
          → map piece (if t then entry_of id text a ∷ filter (is_of id) (entries_of id text more) else filter (is_of id) (entries_of id text more))
          ≡ piece_at a ∷ map piece (filter (is_of id) (entries_of id text more))
      by_test true _ = refl
      by_test false e = absurd (let f : false ≡ true = e in cc)

  all_parts : (arrivals : List Arrival) → AllByRecursion (λ a. 1 ≤ a.number) arrivals
      → AllByRecursion (λ a. a.number ≤ count_of text) arrivals
      → AllByRecursion (IsPartOf text) (map piece_at arrivals)
  all_parts [] one most = one
  all_parts (a ∷ more) one most =
      (record { one = one.0; most = most.0; count_is = refl; bytes_are = refl }, all_parts more one.1 most.1)

  any_number : (number : ℕ) (arrivals : List Arrival)
      → list_any (has_number number) (map piece_at arrivals) ≡ list_any (λ a. a.number == number) arrivals
  any_number number [] = refl
  any_number number (a ∷ more) = ap (λ (t : Bool). ◌||◌ (a.number == number) t) (any_number number more)

pub arrived_is_told : (text : List ℕ) (id : ℕ) (arrivals : List Arrival) → id < 2 ^ 32
    → HasArrived text arrivals → IsTold text id (entries_of id text arrivals)
arrived_is_told text id arrivals fits is =
    let are = pieces_at id text fits is.few arrivals is.one is.most in
    record {
      few = is.few;
      only = subst (AllByRecursion (IsPartOf text)) (sym are) (all_parts id text fits is.few arrivals is.one is.most);
      each = λ number low high.
          ap (list_any (has_number number)) are ∙ any_number id text fits is.few number arrivals ∙ is.each number low high;
    }
