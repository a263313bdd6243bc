-- Seeds that are given in turn.
use Rattle.std.proofs.Common.{◌≡◌, ℕ, zero, suc, ◌+◌, ◌%◌, ◌<◌, List, [], length, get_or, sym, ◌∙◌, ap, arith, add-zero}
use Rattle.std.proofs.Math.Nat.{mod-add-mod, mod-eq_of_lt}
use Rattle.std.proofs.Math.Path.{fun_ext}
use Rattle.std.proofs.lemmas.List.{get_or_default}
use Rattle.dr_base.specs.declared.key.Key32.{Key32}
use Rattle.dr_ports.specs.Memory.{Turning, coming_of}
use Rattle.dr_ports.specs.Seeds.{seed_before}

-- the seed at a place, counted round
abbrev seed_at : List Key32 → ℕ → List ℕ
seed_at seeds i = (get_or seeds i (record { bytes = [] })).bytes

turned : (seeds : List Key32) (at : ℕ) (seed : Key32) → at < length seeds → seed ≡ get_or seeds at seed
    → (k : ℕ) → coming_of (record { seeds = seeds; at = at }) k ≡ seed_before seed.bytes (coming_of (record { seeds = seeds; at = (at + 1) % length seeds })) k
turned seeds at seed below is zero =
    ap (λ i. seed_at seeds (i % length seeds)) (add-zero at) ∙ ap (seed_at seeds) (mod-eq_of_lt below)
    ∙ ap (λ (s : Key32). s.bytes) (get_or_default seeds at (record { bytes = [] }) seed below ∙ sym is)
turned seeds at seed below is (suc k) =
    let next : at + suc k ≡ (at + 1) + k = omega arith in
    ap (λ i. seed_at seeds (i % length seeds)) next ∙ ap (seed_at seeds) (sym (mod-add-mod (at + 1) (length seeds) k))

-- the seed at the place is given, and the place goes on, from the last to the first
pub gives_next : (turning : Turning) (seeds : List Key32) (at count : ℕ) (read given : Key32) → record { seeds = seeds; at = at } ≡ turning → at < count → count ≡ length seeds
    → read ≡ get_or seeds at read → given ≡ read → coming_of turning ≡ seed_before given.bytes (coming_of (record { seeds = seeds; at = (at + 1) % count }))
gives_next turning seeds at count read given seen below all is copied =
    ap coming_of (sym seen) ∙ fun_ext (turned seeds at read (omega (arith, below, all)) is)
    ∙ ap (λ (s : Key32). seed_before s.bytes (coming_of (record { seeds = seeds; at = (at + 1) % length seeds }))) (sym copied)
    ∙ ap (λ n. seed_before given.bytes (coming_of (record { seeds = seeds; at = (at + 1) % n }))) (sym all)
