-- Zeros put between two places of some bytes.
use Rattle.std.proofs.Common.{◌≡◌, ℕ, ◌+◌, ◌-◌, ◌≤◌, List, ◌++◌, length, take, drop, sym, ◌∙◌, ap, arith}
use Rattle.std.proofs.lemmas.List.{drop-take, drop_at, length-take-le, take-append-le, take-take}
use Rattle.std.proofs.Math.Seq.{take-append_seam}

module _ (from end : ℕ) (bytes filled : List ℕ) (order : from ≤ end) (inside : end ≤ length bytes)
    (long : length filled ≡ end - from) where
  abbrev rest : List ℕ
  rest = filled ++ drop (end - from) (drop from bytes)

  before_long : length (take from bytes) ≡ from
  before_long = length-take-le from bytes (omega (arith, order, inside))

  pub before_kept : take from (take from bytes ++ rest) ≡ take from bytes
  before_kept = take-append-le from (take from bytes) rest (omega (arith, before_long))
      ∙ take-take from from bytes (omega arith)

  pub between_put : drop from (take end (take from bytes ++ rest)) ≡ filled
  between_put =
      ap (λ k. drop from (take k (take from bytes ++ rest))) (let e : end ≡ from + (end - from) = omega (arith, order) in e)
      ∙ drop-take from (end - from) (take from bytes ++ rest)
      ∙ ap (λ (l : List ℕ). take (end - from) l) (drop_at (take from bytes) rest from before_long)
      ∙ ap (λ k. take k rest) (sym long)
      ∙ take-append_seam filled (drop (end - from) (drop from bytes))
