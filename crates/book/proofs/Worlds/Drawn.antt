-- Each seed that a session of a fan is asked with has 32 bytes.
use Rattle.std.proofs.Common.{List, None, Option, Some, [], ap, arith, false, get_or, length, refl, subst, sym, true, ℕ, ⊎_elim, ◌++◌, ◌<◌, ◌∙◌, ◌∷◌, ◌≡◌}
use Rattle.std.proofs.Math.Seq.{get_or-append_seam}
use Rattle.std.proofs.lemmas.Bool.{cases_eq}
use Rattle.std.proofs.lemmas.List.{get_or_append_left}
use Rattle.std.specs.Prelude.{is_some}
use Rattle.book_model.specs.Rows.{Rows}
use Rattle.dr_base.specs.declared.key.Key32.{Key32}
use Rattle.dr_ports.specs.States.{DrawsState}
use Rattle.kem_laws.specs.Mechanism.{Mechanism}
use Rattle.ratchet.specs.Seen.{seed_bytes}
use Rattle.session_model.specs.Clients.{Client}
use Rattle.book.specs.Fans.{AreAsked, key_bytes, none_asked, one_more}
use Rattle.book.specs.Stepping.{WasDrawn, was_none, was_seed}
use Rattle.book.proofs.Fanning.Asked.{asked_long}

-- a seed is 32 bytes
abbrev pub IsWhole : Option Key32 → Type 0
IsWhole seed = is_some seed ≡ true → length (seed_bytes seed) ≡ 32

module _ {W : Type 0} (draws : W → DrawsState) where
  drawn_long : (source left : W) (bytes : Option (List ℕ)) → WasDrawn draws source left bytes
      → (key : List ℕ) → bytes ≡ Some key → length key ≡ 32
  drawn_long source left bytes (was_none same) key is = absurd (let e : None ≡ Some key = is in cc)
  drawn_long source left bytes (was_seed seed long coming faults) key is =
      let same : seed ≡ key = let e : Some seed ≡ Some key = is in cc in
      ap (λ (l : List ℕ). length l) (sym same) ∙ long

  drawn_whole : (source left : W) (seed : Option Key32) → WasDrawn draws source left (key_bytes seed) → IsWhole seed
  drawn_whole source left None drew needs = absurd (let e : false ≡ true = needs in cc)
  drawn_whole source left (Some key) drew needs = drawn_long source left (Some key.bytes) drew key.bytes refl

  module _ (k : Mechanism) (text : List ℕ) (rows : Rows Client) (list : List ℕ) (source : W) where
    -- each seed of those who were asked
    pub asked_whole : (n : ℕ) (left : W) (seeds : List (Option Key32))
        → AreAsked draws k text rows list source n left seeds → (i : ℕ) → i < n → IsWhole (get_or seeds i None)
    asked_whole n left seeds none_asked i lt = absurd (let e : ⊥ = omega (arith, lt) in e)
    asked_whole n left seeds (one_more m mid l before seed asked asks) i lt =
        ⊎_elim same
        (λ apart. other (asked_whole m mid before asked i (let e : i ≡ m → ⊥ = apart in omega (arith, lt)))
        (let e : i ≡ m → ⊥ = apart in omega (arith, lt, long))) (cases_eq i m)
      where
        long : length before ≡ m
        long = asked_long draws k text rows list source m mid before asked

        same : i ≡ m → IsWhole (get_or (before ++ seed ∷ []) i None)
        same is = subst IsWhole
            (sym (ap (λ q. get_or (before ++ seed ∷ []) q None) (is ∙ sym long) ∙ get_or-append_seam before seed [] None))
            (drawn_whole mid l seed asks.1)

        other : IsWhole (get_or before i None) → i < length before → IsWhole (get_or (before ++ seed ∷ []) i None)
        other whole less = subst IsWhole (sym (get_or_append_left before (seed ∷ []) None i less)) whole
