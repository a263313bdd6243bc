-- The grammars of single fields.
use Rattle.std.proofs.Common.{◌≡◌, ℕ, ◌+◌, ◌<◌, ◌≤◌, true, List, ◌++◌, length, take, drop, Ok, refl, sym, ◌∙◌, ap, subst, arith}
use Rattle.std.specs.Prelude.{nat_le}
use Rattle.std.specs.Int.{Width, byte_len, to_be_bytes, from_be_bytes}
use Rattle.std.proofs.lemmas.Bool.{leb-true, le-leb}
use Rattle.std.proofs.lemmas.List.{take_at, drop_at, take-append-drop, length-append, length-take}
use Rattle.dr_base.proofs.Widths.{IsExact}
use Rattle.dr_base.proofs.Bytes.{AreBytes-take, AreBytes-drop}
use Rattle.grammar.specs.Reader.{Read, piece, number}
use Rattle.grammar.specs.Grammar.{reading, WasPrinted, IsGrammar}
use Rattle.dr_base.specs.Bytes.{AreBytes}
use Rattle.grammar.proofs.Steps.{from_test}

-- ---- this many bytes

reads_piece : (size : ℕ) (a : List ℕ) (at : ℕ) (rest : List ℕ) → length a ≡ size → piece size at (a ++ rest) ≡ reading a at a rest
unfolding piece
reads_piece size a at rest long =
    let inside : nat_le size (length (a ++ rest)) ≡ true = le-leb _ _ (omega (arith, length-append a rest, long)) in
    rw (inside, take_at a rest size long, drop_at a rest size long, long) refl

only_piece : (size : ℕ) (at : ℕ) (bytes : List ℕ) (x : Read (List ℕ)) → AreBytes bytes → piece size at bytes ≡ Ok x
    → WasPrinted (λ a. a) (λ a. length a ≡ size) at bytes x
unfolding piece
only_piece size at bytes x are h =
    let t = from_test (nat_le size (length bytes)) (record { value = take size bytes; at = at + size; rest = drop size bytes }) x at h in
    let inside : size ≤ length bytes = leb-true _ _ t.0 in
    let long : length (take size bytes) ≡ size = omega (arith, length-take size bytes) in
    subst (WasPrinted (λ a. a) (λ a. length a ≡ size) at bytes) t.1
    (record { text = sym (take-append-drop size bytes); lawful = long; behind = omega (arith, long); rest_bytes = AreBytes-drop size bytes are })

pub piece_grammar : (size : ℕ) → IsGrammar (λ a. a) (λ a. length a ≡ size) (piece size)
piece_grammar size = record { reads = reads_piece size; only = only_piece size }

-- ---- numbers

module _ (w : Width) (limit : ℕ) (exact : IsExact w limit) where
  reads_number : (n : ℕ) (at : ℕ) (rest : List ℕ) → n < limit → number w at (to_be_bytes w n ++ rest) ≡ reading n at (to_be_bytes w n) rest
  unfolding number
  reads_number n at rest fits =
      let long = exact.size n in
      let inside : nat_le (byte_len w) (length (to_be_bytes w n ++ rest)) ≡ true = le-leb _ _ (omega (arith, length-append (to_be_bytes w n) rest, long)) in
      rw (inside, take_at (to_be_bytes w n) rest (byte_len w) long, drop_at (to_be_bytes w n) rest (byte_len w) long, exact.read n fits, long) refl

  only_number : (at : ℕ) (bytes : List ℕ) (x : Read ℕ) → AreBytes bytes → number w at bytes ≡ Ok x → WasPrinted (to_be_bytes w) (λ n. n < limit) at bytes x
  unfolding number
  only_number at bytes x are h =
      let front = take (byte_len w) bytes in
      let n = from_be_bytes w front in
      let t = from_test (nat_le (byte_len w) (length bytes)) (record { value = n; at = at + byte_len w; rest = drop (byte_len w) bytes }) x at h in
      let inside : byte_len w ≤ length bytes = leb-true _ _ t.0 in
      let long : length front ≡ byte_len w = omega (arith, length-take (byte_len w) bytes) in
      let are_front = AreBytes-take (byte_len w) bytes are in
      let printed = exact.printed front long are_front in
      subst (WasPrinted (to_be_bytes w) (λ m. m < limit) at bytes) t.1
      (record {
        text = sym (take-append-drop (byte_len w) bytes) ∙ ap (λ (f : List ℕ). f ++ drop (byte_len w) bytes) (sym printed);
        lawful = exact.below front are_front;
        behind = omega (arith, exact.size n);
        rest_bytes = AreBytes-drop (byte_len w) bytes are;
      })

  pub number_grammar : IsGrammar (to_be_bytes w) (λ n. n < limit) (number w)
  number_grammar = record { reads = reads_number; only = only_number }
