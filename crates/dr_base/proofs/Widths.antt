-- Numbers of a width, and their bytes.
use Rattle.std.proofs.Common.{◌≡◌, ℕ, ◌%◌, ◌^◌, ◌<◌, List, [], ◌∷◌, length, get_or, refl, ap, arith, mod-eq_of_lt}
use Rattle.std.specs.Int.{Width, w8, w16, w32, w64, byte_len, to_be_bytes, from_be_bytes}
use Rattle.std.proofs.lemmas.Nat.{be_bytes_2, be_bytes_4, be_bytes_8, from_be_bytes-to_be_bytes_2, from_be_bytes-to_be_bytes_4, from_be_bytes-to_be_bytes_8}
use Rattle.dr_base.specs.Bytes.{AreBytes}
use Rattle.dr_base.proofs.Bytes.{byte_at}

-- a width at which a number and its bytes determine each other
pub record IsExact (w : Width) (limit : ℕ) : Type 0 where
  pub size : (n : ℕ) → length (to_be_bytes w n) ≡ byte_len w
  pub printed : (bytes : List ℕ) → length bytes ≡ byte_len w → AreBytes bytes → to_be_bytes w (from_be_bytes w bytes) ≡ bytes
  pub read : (n : ℕ) → n < limit → from_be_bytes w (to_be_bytes w n) ≡ n
  pub below : (bytes : List ℕ) → AreBytes bytes → from_be_bytes w bytes < limit

one_byte : (bytes : List ℕ) → length bytes ≡ 1 → AreBytes bytes → (get_or bytes 0 0 % 256) ∷ [] ≡ bytes
one_byte [] long are = absurd (omega arith)
one_byte (b ∷ []) long are = let fits : b < 256 = are 0 0 (omega arith) in ap (λ (n : ℕ). n ∷ []) (mod-eq_of_lt fits)
one_byte (b ∷ c ∷ more) long are = absurd (omega arith)

pub exact8 : IsExact w8 (2 ^ 8)
exact8 = record {
  size = λ n. refl;
  printed = one_byte;
  read = λ n fits. mod-eq_of_lt fits;
  below = λ bytes are. omega (arith, byte_at bytes 0 are);
}

pub exact16 : IsExact w16 (2 ^ 16)
exact16 = record {
  size = λ n. refl;
  printed = λ bytes long are. be_bytes_2 bytes _ long (λ i. byte_at bytes i are) refl;
  read = λ n fits. from_be_bytes-to_be_bytes_2 n fits;
  below = λ bytes are. omega (arith, byte_at bytes 0 are, byte_at bytes 1 are);
}

pub exact32 : IsExact w32 (2 ^ 32)
exact32 = record {
  size = λ n. refl;
  printed = λ bytes long are. be_bytes_4 bytes _ long (λ i. byte_at bytes i are) refl;
  read = λ n fits. from_be_bytes-to_be_bytes_4 n fits;
  below = λ bytes are. omega (arith, byte_at bytes 0 are, byte_at bytes 1 are, byte_at bytes 2 are, byte_at bytes 3 are);
}

pub exact64 : IsExact w64 (2 ^ 64)
exact64 = record {
  size = λ n. refl;
  printed = λ bytes long are. be_bytes_8 bytes _ long (λ i. byte_at bytes i are) refl;
  read = λ n fits. from_be_bytes-to_be_bytes_8 n fits;
  below = λ bytes are.
      let byte = λ (i : ℕ). byte_at bytes i are in
      omega (arith, byte 0, byte 1, byte 2, byte 3, byte 4, byte 5, byte 6, byte 7);
}
