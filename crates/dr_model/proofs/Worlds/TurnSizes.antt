-- How long the keys of an epoch are, and whose pair they hold.
use Rattle.std.proofs.Common.{◌≡◌, ℕ, zero, suc, ◌+◌, ◌≤◌, true, List, [], length, take, drop, slice_index_or, Option, Some, None, refl, ◌∙◌, arith, length-append, length-drop}
use Rattle.std.specs.Prelude.{is_some}
use Rattle.std.proofs.lemmas.Bool.Decides.{nat_tests}
use Rattle.std.proofs.lemmas.List.{length-take-le}
use Rattle.cka.specs.Agreement.{agreement_size}
use Rattle.hmac_hkdf.proofs.Lengths.{length-expand_of}
use Rattle.kem_laws.specs.Mechanism.{IsLawful, IsPairOf, Mechanism, IsLawfulMechanism}
use Rattle.packet.specs.Packet.{agreement_len}
use Rattle.prf_prng.proofs.Lengths.{length-next_root, length-root_key}
use Rattle.session_model.specs.Schedule.{begun, session_of, agreement_seed}
use Rattle.session_model.specs.Turns.{Turn, pair_at, pair_or_none, turn_at}
use Rattle.dr_model.specs.Conversations.Conversation.{Conversation}
use Rattle.dr_model.specs.Conversations.Lawful.{IsLawfulConversation}
use Rattle.dr_model.specs.Conversations.Posts.{pair_seed, turn_of_epoch}

-- the keys of an epoch, with the pair of a seed
pub record IsTurn (k : Mechanism) (seed : List ℕ) (epoch : ℕ) (turn : Turn) : Type 0 where
  pub root_long : length turn.root ≡ 32
  pub stream_long : length turn.stream ≡ 32
  pub pair : IsPairOf k.meaning seed turn.public turn.secret
  pub public_long : length turn.public ≡ k.public
  pub secret_long : length turn.secret ≡ k.secret
  pub secret_lawful : IsLawful k.meaning turn.secret
  pub agreement_long : length turn.agreement ≡ agreement_len (agreement_size k) epoch

-- the shared key gives 112 bytes
length-begun : (key : List ℕ) → length (begun key) ≡ 112
unfolding begun
length-begun key = length-expand_of _ _ 112

-- a part of them
length-part : (n m : ℕ) (xs : List ℕ) → m + n ≤ length xs → length (take n (drop m xs)) ≡ n
length-part n m xs h = length-take-le n (drop m xs) (omega (arith, length-drop m xs))

-- a session id has 16 bytes
pub length-session_of : (key : List ℕ) → length (session_of key) ≡ 16
length-session_of key = length-part 16 96 (begun key) (omega (arith, length-begun key))

-- agreement messages have one size from epoch 1 on
agreement_len-later : (size epoch : ℕ) → 1 ≤ epoch → agreement_len size epoch ≡ size
agreement_len-later size epoch h = grind (arith, nat_tests)

-- a seed that has a pair gives it
pub some_pair : (o : Option (List ℕ × List ℕ)) → is_some o ≡ true → o ≡ Some (pair_or_none o)
some_pair (Some pair) h = refl
some_pair None h = cc

pub IsPairOf-pair_at : (k : Mechanism) (seed : List ℕ) → length seed ≡ 32 → is_some (k.meaning.pair_of seed) ≡ true
    → IsPairOf k.meaning seed (pair_at k seed).0 (pair_at k seed).1
IsPairOf-pair_at k seed long pairs = record { long = long; gives = some_pair (k.meaning.pair_of seed) pairs }

-- the keys with the pair of a seed
turn_with : (k : Mechanism) (seed : List ℕ) (epoch : ℕ) (turn : Turn) → IsLawfulMechanism k → length turn.root ≡ 32
    → length turn.stream ≡ 32
    → IsPairOf k.meaning seed turn.public turn.secret → length turn.agreement ≡ agreement_len (agreement_size k) epoch
    → IsTurn k seed epoch turn
turn_with k seed epoch turn law root stream pair agreement = record {
  root_long = root;
  stream_long = stream;
  pair = pair;
  public_long = law.public_long seed turn.public turn.secret pair;
  secret_long = law.secret_long seed turn.public turn.secret pair;
  secret_lawful = law.lawful seed turn.public turn.secret pair;
  agreement_long = agreement;
}

-- each epoch up to the last turn
pub turn_sizes : (k : Mechanism) (c : Conversation) (epoch : ℕ) → IsLawfulMechanism k → IsLawfulConversation k c
    → epoch ≤ length c.seeds
    → IsTurn k (pair_seed c epoch) epoch (turn_of_epoch k c epoch)
unfolding turn_at
turn_sizes k c zero law lawful h =
    turn_with k (agreement_seed c.key) 0 (turn_of_epoch k c 0) law
    (length-take-le 32 (begun c.key) (omega (arith, length-begun c.key)))
    (length-part 32 32 (begun c.key) (omega (arith, length-begun c.key)))
    (IsPairOf-pair_at k (agreement_seed c.key)
    (length-part 32 64 (begun c.key) (omega (arith, length-begun c.key))) lawful.begins)
    refl
turn_sizes k c (suc epoch) law lawful h =
    let seed = slice_index_or c.seeds epoch [] in
    let turn = turn_of_epoch k c epoch in
    let sealed = k.meaning.encap_of turn.public seed in
    let before = turn_sizes k c epoch law lawful (omega arith) in
    let is_seed = lawful.turns epoch [] (omega arith) in
    let pair = IsPairOf-pair_at k seed is_seed.long is_seed.pairs in
    turn_with k seed (suc epoch) (turn_of_epoch k c (suc epoch)) law
    (length-next_root turn.root sealed.1)
    (length-root_key turn.root sealed.1)
    pair
    (length-append sealed.0 (pair_at k seed).0
    ∙ omega (
      arith,
      law.ciphertext_long turn.public seed sealed.0 sealed.1 before.public_long is_seed.long refl,
      law.public_long seed (pair_at k seed).0 (pair_at k seed).1 pair,
      agreement_len-later (agreement_size k) (suc epoch) (omega arith),
    ))
