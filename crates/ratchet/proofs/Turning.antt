-- The way into the next epoch: what the calls of the code come to.
use Rattle.std.proofs.Common.{◌≡◌, ℕ, ◌-◌, ◌<◌, ◌++◌, List, Some, ◌∙◌, ap, ap₂, arith}
use Rattle.std.specs.Prelude.{take, drop}
use Rattle.dr_base.specs.declared.key.Kept.{Kept}
use Rattle.fs_aead.specs.Chain.{chain_of, message_key, chain_message_key}
use Rattle.fs_aead.specs.Table.{shelved}
use Rattle.fs_aead.specs.Stream.{Stream}
use Rattle.prf_prng.specs.Root.{next_root, root_key}
use Rattle.packet.specs.Packet.{Fields}
use Rattle.session_model.specs.Ways.{Way, turned}
use Rattle.session_model.specs.States.{Own, in_peers, State}
use Rattle.kem_laws.specs.Mechanism.{Mechanism}
use Rattle.ratchet.proofs.Ways.{Went, went_chain, went_key, went_keys, went_reach}

-- the keys of a stream from its beginning
pub went_first : (epoch index : ℕ) (chain : List ℕ) (kept : List Kept) (resumed advanced stream : Stream) (table : List Kept)
    → Went epoch index chain 0 kept resumed advanced stream table → table ≡ kept ++ shelved epoch chain 0 (index - 1)
went_first epoch index chain kept resumed advanced stream table w =
    let same : index - 0 - 1 ≡ index - 1 = omega arith in
    went_keys epoch index chain 0 kept resumed advanced stream table w ∙ ap (λ n. kept ++ shelved epoch chain 0 n) same

-- ways of equal parts
way_is : (s : State) (own : Own) {key key₁ root root₁ public public₁ chain chain₁ : List ℕ} {epoch epoch₁ reach reach₁ : ℕ} {table table₁ : List Kept}
    → key ≡ key₁ → root ≡ root₁ → public ≡ public₁ → chain ≡ chain₁ → epoch ≡ epoch₁ → reach ≡ reach₁ → table ≡ table₁
    → (let make : List ℕ → List ℕ → List ℕ → List ℕ → ℕ → ℕ → List Kept → Way = λ key root public chain epoch reach table. record {
      key = key;
      next = record s {
        root = root;
        epoch = epoch;
        phase = in_peers public;
        previous = own.sent;
        receiving = Some (record { chain = chain; reach = reach });
        kept = table;
      };
    } in make key root public chain epoch reach table ≡ make key₁ root₁ public₁ chain₁ epoch₁ reach₁ table₁)
way_is s own a b c d e f g = cc

-- what the calls of a turn come to
pub turns : (k : Mechanism) (s : State) (own : Own) (f : Fields) (table : List Kept) (secret agreement shared held raised first public key chain : List ℕ)
    (epoch index reach : ℕ) (resumed advanced stream : Stream) → secret ≡ own.secret → agreement ≡ f.agreement
    → shared ≡ k.meaning.decap_of secret (take k.ciphertext agreement) → public ≡ drop k.ciphertext agreement → held ≡ s.root → raised ≡ next_root held shared
    → first ≡ root_key held shared → epoch ≡ f.epoch → index ≡ f.index → 0 < index → Went epoch index first 0 s.kept resumed advanced stream table
    → key ≡ chain_message_key advanced.chain → chain ≡ stream.chain → reach ≡ stream.count
    → record {
      key = key;
      next = record s {
        root = raised;
        epoch = epoch;
        phase = in_peers public;
        previous = own.sent;
        receiving = Some (record { chain = chain; reach = reach });
        kept = table;
      };
    } ≡ turned k s own f s.kept
turns k s own f table secret agreement shared held raised first public key chain epoch index reach resumed advanced stream sec agr sh pub_is root up out ep ix above w m c n =
    let given : List ℕ = k.meaning.decap_of own.secret (take k.ciphertext f.agreement) in
    let shared_is : shared ≡ given = sh ∙ ap₂ (λ a b. k.meaning.decap_of a (take k.ciphertext b)) sec agr in
    let first_is : first ≡ root_key s.root given = out ∙ ap₂ root_key root shared_is in
    let all : index - 0 ≡ f.index = omega arith in
    let before : index - 1 ≡ f.index - 1 = omega arith in
    way_is s own (m ∙ went_key epoch index first 0 s.kept resumed advanced stream table above w ∙ ap₂ message_key first_is all)
    (up ∙ ap₂ next_root root shared_is) (pub_is ∙ ap (λ a. drop k.ciphertext a) agr)
    (c ∙ went_chain epoch index first 0 s.kept resumed advanced stream table above w ∙ ap₂ chain_of first_is all)
    ep (n ∙ went_reach epoch index first 0 s.kept resumed advanced stream table above w ∙ ix)
    (went_first epoch index first s.kept resumed advanced stream table w
    ∙ ap (λ e. s.kept ++ shelved e first 0 (index - 1)) ep ∙ ap₂ (λ a n. s.kept ++ shelved f.epoch a 0 n) first_is before)
