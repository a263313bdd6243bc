-- The keys of each epoch, from the shared key and the seeds of the turns.
use Rattle.std.specs.Prelude.{List, None, Option, Some, [], slice_index_or, suc, zero, ℕ, ◌++◌}
use Rattle.kem_laws.specs.Mechanism.{Mechanism}
use Rattle.prf_prng.specs.Root.{next_root, root_key}
use Rattle.session_model.specs.Schedule.{agreement_seed, root_of, stream_of}

-- the keys of an epoch: root and stream, the pair whose secret its side holds, and the agreement message
pub record Turn : Type 0 where
  pub root : List ℕ
  pub stream : List ℕ
  pub public : List ℕ
  pub secret : List ℕ
  pub agreement : List ℕ

-- the pair of a seed that has one
abbrev pub pair_or_none : Option (List ℕ × List ℕ) → List ℕ × List ℕ
pair_or_none (Some pair) = pair
pair_or_none None = ([], [])

abbrev pub pair_at : Mechanism → List ℕ → List ℕ × List ℕ
pair_at k seed = pair_or_none (k.meaning.pair_of seed)

-- the keys of epoch 0
abbrev pub first_turn : Mechanism → List ℕ → Turn
first_turn k key = record {
  root = root_of key;
  stream = stream_of key;
  public = (pair_at k (agreement_seed key)).0;
  secret = (pair_at k (agreement_seed key)).1;
  agreement = [];
}

-- the keys of the next epoch: the seed encapsulates to the last public key, and gives the next pair
abbrev pub next_turn : Mechanism → Turn → List ℕ → Turn
next_turn k turn seed = record {
  root = next_root turn.root (k.meaning.encap_of turn.public seed).1;
  stream = root_key turn.root (k.meaning.encap_of turn.public seed).1;
  public = (pair_at k seed).0;
  secret = (pair_at k seed).1;
  agreement = (k.meaning.encap_of turn.public seed).0 ++ (pair_at k seed).0;
}

-- the keys of an epoch
unfoldable pub turn_at : Mechanism → List ℕ → List (List ℕ) → ℕ → Turn
turn_at k key seeds zero = first_turn k key
turn_at k key seeds (suc epoch) = next_turn k (turn_at k key seeds epoch) (slice_index_or seeds epoch [])
