-- The bytes in memory keep the laws of disks.
use Rattle.std.specs.Prelude.{◌≡◌, ℕ, zero, suc, Bool, false, true, List, [], ◌∷◌, length, slice_index, get_or}
use Rattle.std.proofs.Common.{refl, ap, arith, sym, ◌∙◌, subst}
use Rattle.dr_disk.specs.declared.call.Mode.{Mode}
use Rattle.dr_disk.specs.declared.call.Mode.TheVariants.{Old, New, Fill}
use Rattle.dr_disk.specs.State.{Fate, IsLawful}
use Rattle.dr_disk.specs.Memory.{Counts, IsImage, filled, left_by, memory_state}

filled_image : (byte : ℕ) (durable : List ℕ) (marks : List Bool) → length marks ≡ length durable → IsImage durable marks (filled byte durable marks)
filled_image byte [] marks each = record { size = refl; same = λ i unmarked. refl }
filled_image byte (d ∷ durable) [] each = absurd (omega arith)
filled_image byte (d ∷ durable) (true ∷ marks) each =
    let rest = filled_image byte durable marks (omega arith) in
    record { size = ap suc rest.size; same = λ i unmarked. by_place i unmarked rest }
  where
    by_place : (i : ℕ) → get_or (true ∷ marks) i false ≡ false → IsImage durable marks (filled byte durable marks) → slice_index (byte ∷ filled byte durable marks) i ≡ slice_index (d ∷ durable) i
    by_place zero unmarked rest = absurd (let e : true ≡ false = unmarked in cc)
    by_place (suc i) unmarked rest = rest.same i unmarked
filled_image byte (d ∷ durable) (false ∷ marks) each =
    let rest = filled_image byte durable marks (omega arith) in
    record { size = ap suc rest.size; same = λ i unmarked. by_place i unmarked rest }
  where
    by_place : (i : ℕ) → get_or (false ∷ marks) i false ≡ false → IsImage durable marks (filled byte durable marks) → slice_index (d ∷ filled byte durable marks) i ≡ slice_index (d ∷ durable) i
    by_place zero unmarked rest = refl
    by_place (suc i) unmarked rest = rest.same i unmarked

pub left_image : (durable asked : List ℕ) (marks : List Bool) → length marks ≡ length durable → IsImage durable marks asked → (mode : Mode) → IsImage durable marks (left_by durable asked marks mode)
left_image durable asked marks each asks Old = record { size = refl; same = λ i unmarked. refl }
left_image durable asked marks each asks New = asks
left_image durable asked marks each asks (Fill byte) = filled_image byte durable marks each

pub memory_lawful : (bytes durable asked : List ℕ) (marks : List Bool) (fate : Fate) (passed : ℕ)
    (counts : Counts)
    → IsImage durable marks bytes → IsImage durable marks asked → length marks ≡ length durable
    → IsLawful (memory_state bytes durable asked marks fate passed counts)
memory_lawful bytes durable asked marks fate passed counts agrees asks each = record {
  sized = λ c is. is.size ∙ sym agrees.size;
  seen_now = λ s told. let same : bytes ≡ s = cc in subst (IsImage durable marks) same agrees;
  only_now = λ c none. absurd none;
  leaves_now = λ mode c told. let same : left_by durable asked marks mode ≡ c = cc in subst (IsImage durable marks) same (left_image durable asked marks each asks mode);
}
