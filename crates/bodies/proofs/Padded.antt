-- Padding is undone.
use Rattle.std.proofs.Common.{◌≡◌, ℕ, ◌<◌, ◌≤◌, ◌^◌, true, List, [], ◌∷◌, ◌++◌, length, zero, suc, refl, sym, ◌∙◌, ap, ap₂, arith, Some, Result, Ok, Err, length-append}
use Rattle.std.specs.Prelude.{◌==◌, nat_le, replicate}
use Rattle.std.proofs.lemmas.Bool.{eqb-true, and_parts, leb-true, le-leb}
use Rattle.std.proofs.lemmas.List.{length-replicate}
use Rattle.std.specs.Int.{w16, to_be_bytes}
use Rattle.dr_base.specs.Bytes.{AreBytes}
use Rattle.dr_base.proofs.Widths.{exact16}
use Rattle.grammar.specs.Grammar.{IsGrammar}
use Rattle.grammar.specs.Reader.{whole}
use Rattle.grammar.proofs.Fields.{piece_grammar}
use Rattle.grammar.proofs.Combined.{both_grammar, checked_grammar, mapped_grammar}
use Rattle.grammar.proofs.Lists.{sized_grammar}
use Rattle.grammar.proofs.Whole.{whole_grammar}
use Rattle.bodies.specs.Padding.{padded_len, filling, padded, are_zeros, padded_field, found, unpadded}

-- ---- zeros and nothing else

zeros-replicate : (bytes : List ℕ) → are_zeros bytes ≡ true → bytes ≡ replicate (length bytes) 0
zeros-replicate [] are = refl
zeros-replicate (b ∷ more) are =
    let parts = and_parts (b == 0) (are_zeros more) are in
    ap₂ (λ (y : ℕ) (ys : List ℕ). y ∷ ys) (eqb-true b 0 parts.0) (zeros-replicate more parts.1)

are_zeros-replicate : (n : ℕ) → are_zeros (replicate n 0) ≡ true
are_zeros-replicate zero = refl
are_zeros-replicate (suc n) = are_zeros-replicate n

-- ---- how many

pub length-padded : (text : List ℕ) → length (padded text) ≡ padded_len (length text)
unfolding padded filling
length-padded text =
    omega (
      arith,
      length-append (to_be_bytes w16 (length text) ++ text) (replicate (filling (length text)) 0),
      length-append (to_be_bytes w16 (length text)) text,
      exact16.size (length text),
      length-replicate {A = ℕ} (filling (length text)) 0,
    )

-- ---- there and back

-- a text whose length fits its field, and is at most this
abbrev IsPadded : ℕ → List ℕ → Type 0
IsPadded most text = (length text < 2 ^ 16) × (nat_le (length text) most ≡ true)

padded_grammar : (most : ℕ) → IsGrammar padded (IsPadded most) (padded_field most)
unfolding padded_field padded
padded_grammar most =
    mapped_grammar _ _ _
    (both_grammar _ _ _ _ _ _ (sized_grammar w16 (2 ^ 16) exact16 (λ n. nat_le n most) (λ _. true))
    (λ text _. checked_grammar _ _ _ (piece_grammar (filling (length text))) are_zeros))
    (IsPadded most) (λ e. e.0) (λ text. (text, replicate (filling (length text)) 0))
    (λ e l. (l.0.0, ap (λ z. (e.0, z)) (ap (λ (n : ℕ). replicate n 0) (sym l.1.0) ∙ sym (zeros-replicate e.1 l.1.1))))
    (λ text l.
    let count = filling (length text) in
    (((l, refl), (length-replicate count 0, are_zeros-replicate count)), refl))

pub unpadded-padded : (most : ℕ) (text : List ℕ) → most < 2 ^ 16 → length text ≤ most
    → unpadded most (padded text) ≡ Some text
unfolding unpadded
unpadded-padded most text small few =
    ap found ((whole_grammar _ _ _ (padded_grammar most)).reads text (omega arith, le-leb (length text) most few))

from_found : {A : Type 0} (r : Result A ℕ) (a : A) → found r ≡ Some a → r ≡ Ok a
from_found (Ok b) a h = cc
from_found (Err at) a h = cc

pub unpadded-only : (most : ℕ) (bytes text : List ℕ) → AreBytes bytes → unpadded most bytes ≡ Some text
    → (bytes ≡ padded text) × (length text ≤ most)
unfolding unpadded
unpadded-only most bytes text are h =
    let read = from_found (whole (padded_field most) bytes) text h in
    let was = (whole_grammar _ _ _ (padded_grammar most)).only bytes text are read in
    (was.0, leb-true (length text) most was.1.1)
