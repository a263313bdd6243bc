-- The names of boxes are lawful.
use Rattle.std.proofs.Common.{List, [], ap, arith, get_or, length, refl, true, zero, suc, ℕ, ◌++◌, ◌/◌, ◌%◌, ◌<◌, ◌∙◌, ◌∷◌, ◌≡◌, length-append}
use Rattle.std.specs.Prelude.{codes, nat_le, slice_index, ◌&&◌}
use Rattle.std.specs.List.{list_all}
use Rattle.std.proofs.lemmas.List.Folds.{list_all-append}
use Rattle.std.proofs.lemmas.Bool.{and_from}
use Rattle.hex.specs.Hex.{encode_lower, encode_with, lower_digits}
use Rattle.hex.proofs.HexLemmas.{length-encode_with}
use Rattle.dr_base.specs.declared.position.Side.{Side}
use Rattle.dr_base.specs.declared.position.Side.TheVariants.{First, Second}
use Rattle.relay_wire.specs.declared.limits.TheConstants.{NAME_LIMIT}
use Rattle.relay_wire.specs.Names.{is_name, is_name_byte}
use Rattle.client.specs.Syncing.Lines.{box_name}

digit_named : (v : ℕ) → v < 16 → is_name_byte (slice_index lower_digits v) ≡ true
digit_named zero lt = refl
digit_named (suc zero) lt = refl
digit_named (suc (suc zero)) lt = refl
digit_named (suc (suc (suc zero))) lt = refl
digit_named (suc (suc (suc (suc zero)))) lt = refl
digit_named (suc (suc (suc (suc (suc zero))))) lt = refl
digit_named (suc (suc (suc (suc (suc (suc zero)))))) lt = refl
digit_named (suc (suc (suc (suc (suc (suc (suc zero))))))) lt = refl
digit_named (suc (suc (suc (suc (suc (suc (suc (suc zero)))))))) lt = refl
digit_named (suc (suc (suc (suc (suc (suc (suc (suc (suc zero))))))))) lt = refl
digit_named (suc (suc (suc (suc (suc (suc (suc (suc (suc (suc zero)))))))))) lt = refl
digit_named (suc (suc (suc (suc (suc (suc (suc (suc (suc (suc (suc zero))))))))))) lt = refl
digit_named (suc (suc (suc (suc (suc (suc (suc (suc (suc (suc (suc (suc zero)))))))))))) lt = refl
digit_named (suc (suc (suc (suc (suc (suc (suc (suc (suc (suc (suc (suc (suc zero))))))))))))) lt = refl
digit_named (suc (suc (suc (suc (suc (suc (suc (suc (suc (suc (suc (suc (suc (suc zero)))))))))))))) lt = refl
digit_named (suc (suc (suc (suc (suc (suc (suc (suc (suc (suc (suc (suc (suc (suc (suc zero))))))))))))))) lt = refl
digit_named (suc (suc (suc (suc (suc (suc (suc (suc (suc (suc (suc (suc (suc (suc (suc (suc v)))))))))))))))) lt = absurd (omega (arith, lt))

-- these are bytes
abbrev pub AreSmall : List ℕ → Type 0
AreSmall [] = Unit {0}
AreSmall (b ∷ more) = (b < 256) × AreSmall more

pub are_small : (bytes : List ℕ) → ((i : ℕ) → get_or bytes i 0 < 256) → AreSmall bytes
are_small [] small = tt
are_small (b ∷ more) small = (small 0, are_small more (λ i. small (suc i)))

digits_named : (bytes : List ℕ) → AreSmall bytes → list_all is_name_byte (encode_with lower_digits bytes) ≡ true
unfolding encode_with
digits_named [] are = refl
digits_named (b ∷ more) are =
    and_from (is_name_byte (slice_index lower_digits (b / 16))) _ (digit_named (b / 16) (omega (arith, are.0)))
    (and_from (is_name_byte (slice_index lower_digits (b % 16))) _ (digit_named (b % 16) (omega arith)) (digits_named more are.1))

module _ (session : List ℕ) (long : length session ≡ 16) (are : AreSmall session) where
  named : (end : List ℕ) → length end ≡ 2 → list_all is_name_byte end ≡ true → is_name (encode_lower session ++ end) ≡ true
  unfolding is_name
  named end two all =
      let size : length (encode_lower session ++ end) ≡ 34 = omega (arith, length-append (encode_lower session) end, length-encode_with lower_digits session, long, two) in
      and_from (nat_le 1 (length (encode_lower session ++ end)) && nat_le (length (encode_lower session ++ end)) NAME_LIMIT) (list_all is_name_byte (encode_lower session ++ end))
      (ap (λ (n : ℕ). nat_le 1 n && nat_le n NAME_LIMIT) size)
      (list_all-append is_name_byte (encode_lower session) end ∙ and_from (list_all is_name_byte (encode_lower session)) (list_all is_name_byte end) (digits_named session are) all)

  pub name_lawful : (side : Side) → is_name (box_name session side) ≡ true
  unfolding box_name
  name_lawful First = named (codes "-1") refl refl
  name_lawful Second = named (codes "-2") refl refl
