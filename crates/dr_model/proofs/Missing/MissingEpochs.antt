-- The table of missing positions' keys, epoch by epoch.
use Rattle.std.proofs.Common.{◌≡◌, ℕ, zero, suc, ◌+◌, ◌<◌, ◌≤◌, Bool, true, false, not, List, [], ◌∷◌, ◌++◌, map, Option, Some, None, refl, sym, ap, ap₂, ◌∙◌, inl, inr, add-one, append-nil, arith, if◌then◌else◌}
use Rattle.std.specs.Option.{option_or}
use Rattle.std.specs.Prelude.{option_map, find}
use Rattle.std.proofs.lemmas.Bool.{cases_eq}
use Rattle.std.proofs.lemmas.Bool.Decides.{nat_tests}
use Rattle.std.proofs.lemmas.List.{map-append}
use Rattle.std.proofs.lemmas.List.Elements.{filter-append}
use Rattle.dr_base.specs.Position.{is_own, position_at}
use Rattle.dr_base.specs.declared.key.Kept.{Kept}
use Rattle.dr_base.specs.declared.position.Position.{Position}
use Rattle.fs_aead.specs.Table.{is_kept_at, kept_key, without}
use Rattle.kem_laws.specs.Mechanism.{Mechanism}
use Rattle.dr_model.specs.Conversations.Conversation.{Conversation}
use Rattle.dr_model.specs.Conversations.Indices.{missing_to}
use Rattle.dr_model.specs.Conversations.Posts.{key_of, turn_of_epoch}
use Rattle.dr_model.specs.Conversations.Views.{View, indices_in, reach_in, missing_in, missing_below}
use Rattle.dr_model.proofs.Missing.MissingKeys.{key_in, keys_in, kept_key-append}

-- the keys of the missing positions of one epoch
abbrev pub epoch_keys : Mechanism → Conversation → View → ℕ → List Kept
epoch_keys k c v epoch = keys_in epoch (turn_of_epoch k c epoch).stream (indices_in v.arrived epoch) (reach_in c v epoch)

-- those of all peer's epochs below one
abbrev pub keys_below : Mechanism → Conversation → View → ℕ → List Kept
keys_below k c v epoch = map (key_of k c) (missing_below c v epoch)

-- unless the epoch is the side's own
abbrev pub unless_own : Bool → List Kept → List Kept
unless_own own keys = if own then [] else keys

-- a key of each index
mapped_at : (k : Mechanism) (c : Conversation) (epoch : ℕ) (indices : List ℕ)
    → map (key_of k c) (map (position_at epoch) indices) ≡ map (key_in epoch (turn_of_epoch k c epoch).stream) indices
mapped_at k c epoch [] = refl
mapped_at k c epoch (i ∷ rest) =
    ap (λ keys. key_in epoch (turn_of_epoch k c epoch).stream i ∷ keys) (mapped_at k c epoch rest)

mapped_unless : (k : Mechanism) (c : Conversation) (epoch : ℕ) (indices : List ℕ) (own : Bool)
    → map (key_of k c) (if own then [] else map (position_at epoch) indices)
    ≡ unless_own own (map (key_in epoch (turn_of_epoch k c epoch).stream) indices)
mapped_unless k c epoch indices true = refl
mapped_unless k c epoch indices false = mapped_at k c epoch indices

-- one epoch more
pub keys_below-suc : (k : Mechanism) (c : Conversation) (v : View) (epoch : ℕ)
    → keys_below k c v (suc epoch) ≡ keys_below k c v epoch ++ unless_own (is_own v.side epoch) (epoch_keys k c v epoch)
unfolding missing_below
keys_below-suc k c v epoch =
    map-append (key_of k c) (missing_below c v epoch) (if is_own v.side epoch then [] else missing_in c v epoch)
    ∙ ap (λ keys. keys_below k c v epoch ++ keys)
    (mapped_unless k c epoch (missing_to (indices_in v.arrived epoch) (reach_in c v epoch)) (is_own v.side epoch))

-- none below the first
pub keys_below-zero : (k : Mechanism) (c : Conversation) (v : View) → keys_below k c v 0 ≡ []
unfolding missing_below
keys_below-zero k c v = refl

-- a peer's epoch, and an own one
peers_keys : (own : Bool) (front keys : List Kept) → own ≡ false → front ++ unless_own own keys ≡ front ++ keys
peers_keys true front keys h = cc
peers_keys false front keys h = refl

own_keys : (own : Bool) (front keys : List Kept) → own ≡ true → front ++ unless_own own keys ≡ front
own_keys true front keys h = append-nil front
own_keys false front keys h = cc

pub keys_below-peers : (k : Mechanism) (c : Conversation) (v : View) (epoch : ℕ) → is_own v.side epoch ≡ false
    → keys_below k c v (epoch + 1) ≡ keys_below k c v epoch ++ epoch_keys k c v epoch
keys_below-peers k c v epoch own =
    ap (keys_below k c v) (add-one epoch) ∙ keys_below-suc k c v epoch
    ∙ peers_keys (is_own v.side epoch) (keys_below k c v epoch) (epoch_keys k c v epoch) own

pub keys_below-own : (k : Mechanism) (c : Conversation) (v : View) (epoch : ℕ) → is_own v.side epoch ≡ true
    → keys_below k c v (epoch + 1) ≡ keys_below k c v epoch
keys_below-own k c v epoch own =
    ap (keys_below k c v) (add-one epoch) ∙ keys_below-suc k c v epoch
    ∙ own_keys (is_own v.side epoch) (keys_below k c v epoch) (epoch_keys k c v epoch) own

-- ---- two views

same_unless : (own : Bool) (xs ys : List Kept) → (own ≡ false → xs ≡ ys) → unless_own own xs ≡ unless_own own ys
same_unless true xs ys h = refl
same_unless false xs ys h = h refl

-- the side's views have the same keys where they have in each peer's epoch
pub keys_below-same : (k : Mechanism) (c : Conversation) (v next : View) (n : ℕ) → next.side ≡ v.side
    → ((epoch : ℕ) → epoch < n → is_own v.side epoch ≡ false → epoch_keys k c next epoch ≡ epoch_keys k c v epoch)
    → keys_below k c next n ≡ keys_below k c v n
keys_below-same k c v next zero side same = keys_below-zero k c next ∙ sym (keys_below-zero k c v)
keys_below-same k c v next (suc n) side same =
    keys_below-suc k c next n
    ∙ ap₂ (λ a b. a ++ b)
    (keys_below-same k c v next n side (λ epoch low. same epoch (omega arith)))
    (ap (λ own. unless_own own (epoch_keys k c next n)) (ap (λ s. is_own s n) side)
    ∙ same_unless (is_own v.side n) (epoch_keys k c next n) (epoch_keys k c v n) (same n (omega arith)))
    ∙ sym (keys_below-suc k c v n)

-- ---- a key that is asked for

other_epoch : (p : Position) (epoch : ℕ) (stream : List ℕ) (i : ℕ) → (epoch ≡ p.epoch → ⊥)
    → is_kept_at p (key_in epoch stream i) ≡ false
other_epoch p epoch stream i ne = grind (arith, nat_tests)

-- the keys of another epoch aren't it
find_other : (p : Position) (epoch : ℕ) (stream indices : List ℕ) → (epoch ≡ p.epoch → ⊥)
    → kept_key (map (key_in epoch stream) indices) p ≡ None
unfolding kept_key
find_other p epoch stream [] ne = refl
find_other p epoch stream (i ∷ rest) ne =
    ap (λ (b : Bool). option_map (λ (kept : Kept). kept.key.bytes)
    (if b then Some (key_in epoch stream i) else find (is_kept_at p)
    (map (key_in epoch stream) rest))) (other_epoch p epoch stream i ne)
    ∙ find_other p epoch stream rest ne

-- and stay where it is taken
keep_other : (p : Position) (epoch : ℕ) (stream indices : List ℕ) → (epoch ≡ p.epoch → ⊥)
    → without (map (key_in epoch stream) indices) p ≡ map (key_in epoch stream) indices
unfolding without
keep_other p epoch stream [] ne = refl
keep_other p epoch stream (i ∷ rest) ne =
    ap (λ (b : Bool). if not b then key_in epoch stream i ∷ without (map (key_in epoch stream) rest) p else without
    (map (key_in epoch stream) rest) p) (other_epoch p epoch stream i ne)
    ∙ ap (λ keys. key_in epoch stream i ∷ keys) (keep_other p epoch stream rest ne)

find_unless : (own : Bool) (p : Position) (keys : List Kept) → kept_key keys p ≡ None
    → kept_key (unless_own own keys) p ≡ None
unfolding kept_key
find_unless true p keys h = refl
find_unless false p keys h = h

-- the keys below its epoch aren't it
find_below : (k : Mechanism) (c : Conversation) (v : View) (p : Position) (n : ℕ) → n ≤ p.epoch
    → kept_key (keys_below k c v n) p ≡ None
unfolding kept_key
find_below k c v p zero low = ap (λ keys. kept_key keys p) (keys_below-zero k c v)
find_below k c v p (suc n) low =
    ap (λ keys. kept_key keys p) (keys_below-suc k c v n)
    ∙ kept_key-append (keys_below k c v n) (unless_own (is_own v.side n) (epoch_keys k c v n)) p
    ∙ ap₂ option_or
    (find_below k c v p n (omega arith))
    (find_unless (is_own v.side n) p (epoch_keys k c v n)
    (find_other p n (turn_of_epoch k c n).stream (missing_to (indices_in v.arrived n) (reach_in c v n))
    (λ same. omega arith)))

or_none : (a : Option (List ℕ)) → option_or a None ≡ a
or_none (Some x) = refl
or_none None = refl

peers_find : (own : Bool) (p : Position) (keys : List Kept) → own ≡ false
    → kept_key (unless_own own keys) p ≡ kept_key keys p
peers_find true p keys h = cc
peers_find false p keys h = refl

-- it is looked for in its epoch
pub kept_key-below : (k : Mechanism) (c : Conversation) (v : View) (p : Position) (n : ℕ) → p.epoch < n
    → is_own v.side p.epoch ≡ false
    → kept_key (keys_below k c v n) p ≡ kept_key (epoch_keys k c v p.epoch) p
kept_key-below k c v p zero low own = absurd (omega arith)
kept_key-below k c v p (suc n) low own =
    ap (λ keys. kept_key keys p) (keys_below-suc k c v n)
    ∙ kept_key-append (keys_below k c v n) (unless_own (is_own v.side n) (epoch_keys k c v n)) p
    ∙ elim (cases_eq n p.epoch) as (λ _. option_or (kept_key (keys_below k c v n) p) (kept_key (unless_own (is_own v.side n) (epoch_keys k c v n)) p) ≡ kept_key (epoch_keys k c v p.epoch) p) [
      | inl last ↦
          ap₂ option_or
          (find_below k c v p n (omega arith))
          (ap (λ epoch. kept_key (unless_own (is_own v.side epoch) (epoch_keys k c v epoch)) p) last
          ∙ peers_find (is_own v.side p.epoch) p (epoch_keys k c v p.epoch) own)
      | inr other ↦
          ap₂ option_or
          (kept_key-below k c v p n (grind arith) own)
          (find_unless (is_own v.side n) p (epoch_keys k c v n)
          (find_other p n (turn_of_epoch k c n).stream (missing_to (indices_in v.arrived n) (reach_in c v n)) other))
          ∙ or_none _
    ]

-- ---- a key that is taken

pub without-other : (k : Mechanism) (c : Conversation) (v : View) (p : Position) (epoch : ℕ) → (epoch ≡ p.epoch → ⊥)
    → without (epoch_keys k c v epoch) p ≡ epoch_keys k c v epoch
without-other k c v p epoch ne =
    keep_other p epoch (turn_of_epoch k c epoch).stream (missing_to (indices_in v.arrived epoch) (reach_in c v epoch)) ne

without_unless : (own : Bool) (p : Position) (xs ys : List Kept) → (own ≡ false → without xs p ≡ ys)
    → without (unless_own own xs) p ≡ unless_own own ys
unfolding without
without_unless true p xs ys h = refl
without_unless false p xs ys h = h refl

-- it is taken from each epoch
pub without-below : (k : Mechanism) (c : Conversation) (v next : View) (p : Position) (n : ℕ) → next.side ≡ v.side
    → ((epoch : ℕ) → epoch < n → is_own v.side epoch ≡ false → without (epoch_keys k c v epoch) p ≡ epoch_keys k c next epoch)
    → without (keys_below k c v n) p ≡ keys_below k c next n
unfolding without
without-below k c v next p zero side taken =
    ap (λ keys. without keys p) (keys_below-zero k c v) ∙ sym (keys_below-zero k c next)
without-below k c v next p (suc n) side taken =
    ap (λ keys. without keys p) (keys_below-suc k c v n)
    ∙ filter-append (λ kept. not (is_kept_at p kept)) (keys_below k c v n) (unless_own (is_own v.side n) (epoch_keys k c v n))
    ∙ ap₂ (λ a b. a ++ b)
    (without-below k c v next p n side (λ epoch low. taken epoch (omega arith)))
    (without_unless (is_own v.side n) p (epoch_keys k c v n) (epoch_keys k c next n) (taken n (omega arith))
    ∙ ap (λ own. unless_own own (epoch_keys k c next n)) (ap (λ s. is_own s n) (sym side)))
    ∙ sym (keys_below-suc k c next n)
