-- Steps of a stream, and the keys that it passes.
use Rattle.std.proofs.Common.{◌≡◌, ℕ, zero, suc, ◌+◌, ◌-◌, ◌<◌, ◌≤◌, List, [], ◌∷◌, ◌++◌, length, refl, sym, ap, ap₂, ◌∙◌, add-one, append_assoc, append-nil, get_or, arith}
use Rattle.std.proofs.lemmas.List.{length_push}
use Rattle.std.proofs.lemmas.List.Elements.{All-push, All-append, All-weaker, All-nil}
use Rattle.std.proofs.lemmas.List.Quantifiers.{all_pairs_push}
use Rattle.dr_base.specs.declared.key.Kept.{Kept}
use Rattle.dr_base.specs.declared.position.Position.{Position}
use Rattle.fs_aead.specs.Chain.{chain_message_key, chain_of, message_key, next_chain}
use Rattle.dr_base.specs.Position.{IsBefore}
use Rattle.fs_aead.specs.Table.{AllBefore, IsAscending, shelved}

-- no step
pub chain_of-zero : (stream : List ℕ) → chain_of stream 0 ≡ stream
unfolding chain_of
chain_of-zero stream = refl

-- one more step
pub chain_of-suc : (stream : List ℕ) (n : ℕ) → chain_of stream (n + 1) ≡ next_chain (chain_of stream n)
unfolding chain_of
chain_of-suc stream n = rw add-one refl

-- the key that one more step gives
pub message_key-suc : (stream : List ℕ) (n : ℕ) → message_key stream (n + 1) ≡ chain_message_key (chain_of stream n)
unfolding message_key
message_key-suc stream n =
    let same : n + 1 - 1 ≡ n = omega arith in
    ap (λ k. chain_message_key (chain_of stream k)) same

-- the steps after m steps
pub chain_of-add : (stream : List ℕ) (m n : ℕ) → chain_of (chain_of stream m) n ≡ chain_of stream (m + n)
unfolding chain_of
chain_of-add stream m zero =
    let same : m ≡ m + 0 = omega arith in
    ap (chain_of stream) same
chain_of-add stream m (suc n) =
    let same : suc (m + n) ≡ m + suc n = omega arith in
    ap next_chain (chain_of-add stream m n) ∙ ap (chain_of stream) same

-- the keys after m steps
pub message_key-add : (stream : List ℕ) (m n : ℕ) → message_key (chain_of stream m) (n + 1) ≡ message_key stream (m + n + 1)
message_key-add stream m n =
    message_key-suc (chain_of stream m) n ∙ ap chain_message_key (chain_of-add stream m n) ∙ sym (message_key-suc stream (m + n))

-- as many keys as steps
pub length-shelved : (epoch : ℕ) (chain : List ℕ) (reach n : ℕ) → length (shelved epoch chain reach n) ≡ n
unfolding shelved
length-shelved epoch chain reach zero = refl
length-shelved epoch chain reach (suc n) =
    length_push (shelved epoch chain reach n) _ ∙ ap (λ k. k + 1) (length-shelved epoch chain reach n) ∙ add-one n

-- the key of one more step
pub shelved-suc : (epoch : ℕ) (chain : List ℕ) (reach n : ℕ) (kept : Kept) → kept.position.epoch ≡ epoch → kept.position.index ≡ reach + n + 1
    → kept.key.bytes ≡ chain_message_key (chain_of chain n) → shelved epoch chain reach n ++ kept ∷ [] ≡ shelved epoch chain reach (n + 1)
unfolding shelved
shelved-suc epoch chain reach n kept e i k =
    let place : kept.position.index ≡ reach + suc n = omega arith in
    let step : n + 1 ≡ suc n = add-one n in
    let key : kept.key.bytes ≡ message_key chain (suc n) = k ∙ sym (message_key-suc chain n) ∙ ap (message_key chain) step in
    let make : ℕ → ℕ → List ℕ → Kept = λ a b bytes. record { position = record { epoch = a; index = b }; key = record { bytes = bytes } } in
    let same : kept ≡ make epoch (reach + suc n) (message_key chain (suc n)) =
    ap₂ (λ a b. make a b kept.key.bytes) e place ∙ ap (make epoch (reach + suc n)) key in
    ap (λ x. shelved epoch chain reach n ++ x ∷ []) same ∙ ap (shelved epoch chain reach) (sym step)

-- a position that comes before one comes before all later ones of that epoch
IsBefore-later : (q : Position) (epoch low high : ℕ) → low ≤ high → IsBefore q (record { epoch = epoch; index = low }) → IsBefore q (record { epoch = epoch; index = high })
IsBefore-later q epoch low high le h = (h.0, λ same. let below = h.1 same in omega arith)

-- the keys that were passed come before the next one
pub shelved-before : (epoch : ℕ) (chain : List ℕ) (reach n : ℕ)
    → AllBefore (shelved epoch chain reach n) (record { epoch = epoch; index = reach + n + 1 })
unfolding shelved
shelved-before epoch chain reach zero = All-nil _
shelved-before epoch chain reach (suc n) =
    let below : Kept → ℕ → Type 0 = λ kept i. IsBefore kept.position (record { epoch = epoch; index = i }) in
    let last : Kept = record {
      position = record { epoch = epoch; index = reach + suc n };
      key = record { bytes = message_key chain (suc n) };
    } in
    let last_below : below last (reach + suc n + 1) = (omega arith, λ same. omega arith) in
    All-push (λ kept. below kept (reach + suc n + 1)) (shelved epoch chain reach n) last
    (All-weaker (λ kept. below kept (reach + n + 1)) (λ kept. below kept (reach + suc n + 1))
    (λ kept h. IsBefore-later kept.position epoch (reach + n + 1) (reach + suc n + 1) (omega arith) h)
    (shelved epoch chain reach n) (shelved-before epoch chain reach n))
    last_below

-- a table from below a stream's next key, with the keys that were passed
pub table-before : (epoch : ℕ) (chain : List ℕ) (reach n : ℕ) (old : List Kept)
    → AllBefore old (record { epoch = epoch; index = reach + 1 })
    → AllBefore (old ++ shelved epoch chain reach n) (record { epoch = epoch; index = reach + n + 1 })
table-before epoch chain reach n old below =
    let before : ℕ → Kept → Type 0 = λ i kept. IsBefore kept.position (record { epoch = epoch; index = i }) in
    All-append (before (reach + n + 1)) old (shelved epoch chain reach n)
    (All-weaker (before (reach + 1)) (before (reach + n + 1))
    (λ kept h. IsBefore-later kept.position epoch (reach + 1) (reach + n + 1) (omega arith) h) old below)
    (shelved-before epoch chain reach n)

-- a table in order, with the keys that were passed
pub shelved-ascending : (epoch : ℕ) (chain : List ℕ) (reach n : ℕ) (old : List Kept) → IsAscending old
    → AllBefore old (record { epoch = epoch; index = reach + 1 })
    → IsAscending (old ++ shelved epoch chain reach n)
unfolding shelved
shelved-ascending epoch chain reach zero old up below = rw append-nil up
shelved-ascending epoch chain reach (suc n) old up below =
    let last : Kept = record {
      position = record { epoch = epoch; index = reach + suc n };
      key = record { bytes = message_key chain (suc n) };
    } in
    let front = old ++ shelved epoch chain reach n in
    let below_last : (k : ℕ) (d : Kept) → k < length front → IsBefore (get_or front k d).position last.position =
    λ k d lt. IsBefore-later (get_or front k d).position epoch (reach + n + 1) (reach + suc n) (omega arith)
    (table-before epoch chain reach n old below k d lt) in
    let table = all_pairs_push (λ (a b : Kept). IsBefore a.position b.position) front last
    (shelved-ascending epoch chain reach n old up below) below_last in
    rw (← append_assoc) table
