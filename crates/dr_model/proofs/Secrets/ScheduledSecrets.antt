-- The rules by which secrets give others are steps of the key schedule.
use Rattle.std.proofs.Common.{◌≡◌, ℕ, zero, suc, ◌+◌, refl, sym, ◌∙◌, ap, add-one}
use Rattle.fs_aead.proofs.Streams.{chain_of-suc, chain_of-zero, message_key-suc}
use Rattle.kem_laws.specs.Mechanism.{IsLawfulMechanism, Mechanism}
use Rattle.prf_prng.specs.Root.{next_root, root_key}
use Rattle.session_model.specs.Turns.{Turn, next_turn, pair_at, turn_at}
use Rattle.dr_model.specs.Conversations.Conversation.{Conversation}
use Rattle.dr_model.specs.Conversations.Lawful.{IsLawfulConversation}
use Rattle.dr_model.specs.Conversations.Posts.{pair_seed, turn_of_epoch}
use Rattle.dr_model.specs.Secrets.Scheduled.{IsScheduled}
use Rattle.dr_model.proofs.Taking.NextEpoch.{answers}

-- the keys of the next epoch, with the seed of its pair
turn_by : (k : Mechanism) (c : Conversation) (epoch : ℕ)
    → turn_of_epoch k c (epoch + 1) ≡ next_turn k (turn_of_epoch k c epoch) (pair_seed c (epoch + 1))
unfolding turn_at
turn_by k c epoch =
    ap (turn_at k c.key c.seeds) (add-one epoch)
    ∙ ap (next_turn k (turn_of_epoch k c epoch)) (sym (ap (pair_seed c) (add-one epoch)))

-- the secret of a pair is that of its seed
secret_of : (k : Mechanism) (c : Conversation) (epoch : ℕ) → (turn_of_epoch k c epoch).secret ≡ (pair_at k (pair_seed c epoch)).1
unfolding turn_at
secret_of k c zero = refl
secret_of k c (suc epoch) = refl

pub scheduled : (k : Mechanism) (c : Conversation) → IsLawfulMechanism k → IsLawfulConversation k c → IsScheduled k c
scheduled k c law lawful = record {
  by_chain = λ epoch number. message_key-suc (turn_of_epoch k c epoch).stream number;
  along = λ epoch number. chain_of-suc (turn_of_epoch k c epoch).stream number;
  by_secret = λ epoch begun.
      let turn = turn_of_epoch k c epoch in
      let is = answers k c epoch law lawful begun in (
        sym is.root ∙ ap (next_root turn.root) (sym is.key),
        chain_of-zero (turn_of_epoch k c (epoch + 1)).stream ∙ sym is.stream ∙ ap (root_key turn.root) (sym is.key),
      );
  by_seed = λ epoch. (
    ap (λ (t : Turn). t.root) (turn_by k c epoch),
    chain_of-zero (turn_of_epoch k c (epoch + 1)).stream ∙ ap (λ (t : Turn). t.stream) (turn_by k c epoch),
  );
  secret_by_seed = secret_of k c;
}
