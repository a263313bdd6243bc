use Rattle.std.proofs.Common.{◌≡◌, ◌≤◌, ℕ, inl, inr, lit≤, get_or, length, subst, sym}
use Rattle.std.proofs.lemmas.Bool.{cases_lt}
use Rattle.std.proofs.lemmas.List.{get_or-replicate, length-replicate}
use Rattle.std.proofs.Math.ListN.{get_or-eq_default, replicate}
use Rattle.ntru_ring.proofs.starts.Starts.new.Goals as goal

all_same : (z k : ℕ) → get_or (replicate 761 z) k z ≡ z
all_same z k = elim (cases_lt k 761) [
  | inl l ↦ get_or-replicate 761 k z z l
  | inr l ↦ get_or-eq_default (replicate 761 z) z {n = k} (subst (λ n. n ≤ k) (sym (length-replicate 761 z)) l)
]

long : (z : ℕ) → length (replicate 761 z) ≡ 761
long z = length-replicate 761 z

pub invariant_of-result : goal.invariant_of-result
invariant_of-result c = record { length = long 0; few = lit≤ tt; within = λ k. subst (λ n. n ≤ 760) (sym (all_same 0 k)) (lit≤ tt) }
