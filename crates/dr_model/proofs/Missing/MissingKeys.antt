-- The keys of the indices of an epoch that haven't arrived.
use Rattle.std.proofs.Common.{◌≡◌, ◌≢◌, ℕ, zero, suc, ◌≤◌, Bool, true, false, not, List, [], ◌∷◌, ◌++◌, map, Option, Some, None, refl, sym, ap, ap₂, ◌∙◌, inl, inr, if◌then◌else◌, arith}
use Rattle.std.specs.Option.{option_or}
use Rattle.std.specs.Prelude.{option_map}
use Rattle.std.proofs.lemmas.Bool.{cases_eq}
use Rattle.std.proofs.lemmas.Bool.Decides.{nat_tests}
use Rattle.std.proofs.lemmas.List.{map-append}
use Rattle.std.proofs.lemmas.List.Elements.{filter-append}
use Rattle.std.proofs.lemmas.List.Folds.{find-append}
use Rattle.dr_base.specs.Position.{position_at}
use Rattle.dr_base.specs.declared.key.Kept.{Kept}
use Rattle.dr_base.specs.declared.position.Position.{Position}
use Rattle.fs_aead.specs.Chain.{message_key}
use Rattle.fs_aead.specs.Table.{is_kept_at, kept_key, without}
use Rattle.dr_model.specs.Conversations.Indices.{is_among, missing_to}
use Rattle.dr_model.proofs.Missing.Arrived.{is_among-last, is_among-other}
use Rattle.dr_model.proofs.Missing.MissingIndices.{missing_to-suc, unless_among, unless, unless_not}

-- its key, in the stream of its epoch
abbrev pub key_in : ℕ → List ℕ → ℕ → Kept
key_in epoch stream index = record { position = position_at epoch index; key = record { bytes = message_key stream index } }

-- the keys of the missing indices up to a last one
abbrev pub keys_in : ℕ → List ℕ → List ℕ → ℕ → List Kept
keys_in epoch stream arrived n = map (key_in epoch stream) (missing_to arrived n)

-- the keys, with one index more
pub keys_in-suc : (epoch : ℕ) (stream arrived : List ℕ) (n : ℕ)
    → keys_in epoch stream arrived (suc n) ≡ keys_in epoch stream arrived n ++ map (key_in epoch stream)
    (unless_among arrived (suc n))
keys_in-suc epoch stream arrived n =
    ap (map (key_in epoch stream)) (missing_to-suc arrived n)
    ∙ map-append (key_in epoch stream) (missing_to arrived n) (unless_among arrived (suc n))

-- ---- a key that is asked for

-- a key of another index
is_kept_at-other : (epoch : ℕ) (stream : List ℕ) (i k : ℕ) → k ≢ i → is_kept_at (position_at epoch i) (key_in epoch stream k) ≡ false
is_kept_at-other epoch stream i k other = grind (arith, nat_tests)

-- the key of that index
is_kept_at-same : (epoch : ℕ) (stream : List ℕ) (i : ℕ) → is_kept_at (position_at epoch i) (key_in epoch stream i) ≡ true
is_kept_at-same epoch stream i = grind (arith, nat_tests)

-- other keys are not found
find_other : (epoch : ℕ) (stream : List ℕ) (i k : ℕ) (b : Bool) → (b ≡ false → k ≢ i)
    → kept_key (map (key_in epoch stream) (if b then [] else k ∷ [])) (position_at epoch i) ≡ None
unfolding kept_key
find_other epoch stream i k true h = refl
find_other epoch stream i k false h =
    ap (λ b. option_map (λ (kept : Kept). kept.key.bytes) (if b then Some (key_in epoch stream k) else None))
    (is_kept_at-other epoch stream i k (h refl))

-- the key itself is
find_same : (epoch : ℕ) (stream : List ℕ) (i : ℕ)
    → kept_key (map (key_in epoch stream) (i ∷ [])) (position_at epoch i) ≡ Some (message_key stream i)
unfolding kept_key
find_same epoch stream i =
    ap (λ b. option_map (λ (kept : Kept). kept.key.bytes) (if b then Some (key_in epoch stream i) else None))
    (is_kept_at-same epoch stream i)

-- the first of two, under a function
or_mapped : (f : Kept → List ℕ) (a b : Option Kept)
    → option_map f (option_or a b) ≡ option_or (option_map f a) (option_map f b)
or_mapped f (Some x) b = refl
or_mapped f None b = refl

-- a key stands in the front of a table or after it
pub kept_key-append : (front behind : List Kept) (p : Position)
    → kept_key (front ++ behind) p ≡ option_or (kept_key front p) (kept_key behind p)
unfolding kept_key
kept_key-append front behind p =
    ap (option_map (λ (kept : Kept). kept.key.bytes)) (find-append (is_kept_at p) front behind)
    ∙ or_mapped (λ (kept : Kept). kept.key.bytes) _ _

-- an index that isn't missing has no key
pub kept_key-spent : (epoch : ℕ) (stream arrived : List ℕ) (i n : ℕ)
    → ((k : ℕ) → 1 ≤ k → k ≤ n → is_among arrived k ≡ false → k ≢ i)
    → kept_key (keys_in epoch stream arrived n) (position_at epoch i) ≡ None
unfolding missing_to kept_key
kept_key-spent epoch stream arrived i zero h = refl
kept_key-spent epoch stream arrived i (suc n) h =
    ap (λ keys. kept_key keys (position_at epoch i)) (keys_in-suc epoch stream arrived n)
    ∙ kept_key-append (keys_in epoch stream arrived n) (map (key_in epoch stream) (unless_among arrived (suc n)))
    (position_at epoch i)
    ∙ ap₂ option_or
    (kept_key-spent epoch stream arrived i n (λ k one most. h k one (omega arith)))
    (find_other epoch stream i (suc n) (is_among arrived (suc n)) (h (suc n) (omega arith) (omega arith)))

-- the first of two, where it is there
some_first : (a b : Option (List ℕ)) (key : List ℕ) → a ≡ Some key → option_or a b ≡ Some key
some_first (Some x) b key h = h
some_first None b key h = cc

-- a missing index has its key
pub kept_key-missing : (epoch : ℕ) (stream arrived : List ℕ) (i n : ℕ) → 1 ≤ i → i ≤ n → is_among arrived i ≡ false
    → kept_key (keys_in epoch stream arrived n) (position_at epoch i) ≡ Some (message_key stream i)
kept_key-missing epoch stream arrived i zero one most new = absurd (omega arith)
kept_key-missing epoch stream arrived i (suc n) one most new =
    ap (λ keys. kept_key keys (position_at epoch i)) (keys_in-suc epoch stream arrived n)
    ∙ kept_key-append (keys_in epoch stream arrived n) (map (key_in epoch stream) (unless_among arrived (suc n)))
    (position_at epoch i)
    ∙ elim (cases_eq i (suc n)) as (λ _. option_or (kept_key (keys_in epoch stream arrived n) (position_at epoch i)) (kept_key (map (key_in epoch stream) (unless_among arrived (suc n))) (position_at epoch i)) ≡ Some (message_key stream i)) [
      | inl last ↦
          ap₂ option_or
          (kept_key-spent epoch stream arrived i n (λ k from to _ same. omega arith))
          (ap (λ ks. kept_key (map (key_in epoch stream) ks) (position_at epoch i))
          (ap (unless_among arrived) (sym last) ∙ unless (is_among arrived i) i new) ∙ find_same epoch stream i)
      | inr before ↦
          some_first _ _ _
          (kept_key-missing epoch stream arrived i n one (grind arith) new)
    ]

-- ---- a key that is taken

-- it alone goes
gone : (epoch : ℕ) (stream : List ℕ) (i : ℕ) (b : Bool)
    → without (map (key_in epoch stream) (if b then [] else i ∷ [])) (position_at epoch i) ≡ []
unfolding without
gone epoch stream i true = refl
gone epoch stream i false = ap (λ b. if not b then key_in epoch stream i ∷ [] else []) (is_kept_at-same epoch stream i)

-- the others stay
stays : (epoch : ℕ) (stream : List ℕ) (i k : ℕ) (b : Bool) → k ≢ i
    → without (map (key_in epoch stream) (if b then [] else k ∷ [])) (position_at epoch i)
    ≡ map (key_in epoch stream) (if b then [] else k ∷ [])
unfolding without
stays epoch stream i k true other = refl
stays epoch stream i k false other =
    ap (λ b. if not b then key_in epoch stream k ∷ [] else []) (is_kept_at-other epoch stream i k other)

-- the key that one index more may have
without_step : (epoch : ℕ) (stream arrived : List ℕ) (i k : ℕ)
    → without (map (key_in epoch stream) (unless_among arrived k)) (position_at epoch i)
    ≡ map (key_in epoch stream) (unless_among (arrived ++ i ∷ []) k)
without_step epoch stream arrived i k =
    elim (cases_eq k i) as (λ _. without (map (key_in epoch stream) (unless_among arrived k)) (position_at epoch i) ≡ map (key_in epoch stream) (unless_among (arrived ++ i ∷ []) k)) [
      | inl same ↦
          ap (λ j. without (map (key_in epoch stream) (unless_among arrived j)) (position_at epoch i)) same
          ∙ gone epoch stream i (is_among arrived i)
          ∙ ap (map (key_in epoch stream))
          (sym (ap (unless_among (arrived ++ i ∷ [])) same
          ∙ unless_not (is_among (arrived ++ i ∷ []) i) i (is_among-last arrived i)))
      | inr other ↦
          stays epoch stream i k (is_among arrived k) other
          ∙ ap (λ b. map (key_in epoch stream) (if b then [] else k ∷ [])) (sym (is_among-other arrived i k other))
    ]

-- without the key of an index the others stay
pub without-arrived : (epoch : ℕ) (stream arrived : List ℕ) (i n : ℕ)
    → without (keys_in epoch stream arrived n) (position_at epoch i) ≡ keys_in epoch stream (arrived ++ i ∷ []) n
unfolding missing_to without
without-arrived epoch stream arrived i zero = refl
without-arrived epoch stream arrived i (suc n) =
    ap (λ keys. without keys (position_at epoch i)) (keys_in-suc epoch stream arrived n)
    ∙ filter-append (λ kept. not (is_kept_at (position_at epoch i) kept)) (keys_in epoch stream arrived n)
    (map (key_in epoch stream) (unless_among arrived (suc n)))
    ∙ ap₂ (λ a b. a ++ b) (without-arrived epoch stream arrived i n) (without_step epoch stream arrived i (suc n))
    ∙ sym (keys_in-suc epoch stream (arrived ++ i ∷ []) n)
