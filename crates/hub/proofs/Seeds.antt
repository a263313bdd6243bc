-- The seeds of a hub's sessions, one after the other.
use Rattle.std.proofs.Common.{[], List, ap, arith, length, refl, suc, zero, ℕ, ◌+◌, ◌++◌, ◌∙◌, ◌∷◌, ◌≡◌}
use Rattle.std.proofs.lemmas.List.{length-append}
use Rattle.dr_base.specs.declared.key.Key32.{Key32}
use Rattle.dr_model.specs.Machines.Draws.{drawn}
use Rattle.hub.specs.Peers.{peer_key, peer_seeds}

pub seeds_long : (n : ℕ) → length (peer_seeds n) ≡ n
seeds_long zero = refl
seeds_long (suc n) =
    let last : List Key32 = record { bytes = drawn (peer_key 1).bytes n } ∷ [] in
    length-append {A = Key32} (peer_seeds n) last
    ∙ (let e : length (peer_seeds n) + 1 ≡ suc n = omega (arith, seeds_long n) in e)

-- one more
pub one_more_seed : (n : ℕ) (seeds : List Key32) (key seed : Key32) → seeds ≡ peer_seeds n → key ≡ peer_key 1
    → seed.bytes ≡ drawn key.bytes n → seeds ++ seed ∷ [] ≡ peer_seeds (n + 1)
one_more_seed n seeds key seed are is drew =
    ap (λ (s : List Key32). s ++ seed ∷ []) are
    ∙ ap (λ (b : List ℕ). peer_seeds n ++ record { bytes = b } ∷ []) (drew ∙ ap (λ (k : Key32). drawn k.bytes n) is)
    ∙ ap peer_seeds (let e : suc n ≡ n + 1 = omega arith in e)
