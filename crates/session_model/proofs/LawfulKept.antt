-- Kept keys stay lawful: with one less, and with those that a stream passes.
use Rattle.std.proofs.Common.{◌≡◌, ℕ, zero, suc, ◌+◌, ◌≤◌, false, List, ◌++◌, arith}
use Rattle.std.specs.Prelude.{All, not}
use Rattle.std.proofs.lemmas.List.Elements.{All-append, All-filter, All-nil, All-push}
use Rattle.dr_base.specs.declared.limits.TheConstants.{INDEX_LIMIT}
use Rattle.dr_base.specs.Position.{is_own}
use Rattle.dr_base.specs.declared.key.Kept.{Kept}
use Rattle.dr_base.specs.declared.position.Position.{Position}
use Rattle.dr_base.specs.declared.position.Side.{Side}
use Rattle.fs_aead.specs.Chain.{message_key}
use Rattle.fs_aead.specs.Table.{is_kept_at, shelved, without}
use Rattle.session_model.specs.LawfulStates.{IsLawfulKept}

-- a key less
pub lawful_kept-without : (side : Side) (kept : List Kept) (p : Position) → All (IsLawfulKept side) kept
    → All (IsLawfulKept side) (without kept p)
unfolding without
lawful_kept-without side kept p each = All-filter (λ k. not (is_kept_at p k)) (IsLawfulKept side) kept each

-- the keys that a stream of a peer's epoch passes
pub lawful_kept-shelved : (side : Side) (epoch : ℕ) (chain : List ℕ) (reach n : ℕ) → is_own side epoch ≡ false
    → reach + n ≤ INDEX_LIMIT
    → All (IsLawfulKept side) (shelved epoch chain reach n)
unfolding shelved
lawful_kept-shelved side epoch chain reach zero peers most = All-nil (IsLawfulKept side)
lawful_kept-shelved side epoch chain reach (suc n) peers most =
    All-push (IsLawfulKept side) (shelved epoch chain reach n)
    (record { position = record { epoch = epoch; index = reach + suc n }; key = record { bytes = message_key chain (suc n) } })
    (lawful_kept-shelved side epoch chain reach n peers (omega arith))
    (record { peers = peers; one = omega arith; most = most })

-- a table with them after its keys
pub lawful_kept-table : (side : Side) (kept : List Kept) (epoch : ℕ) (chain : List ℕ) (reach n : ℕ)
    → All (IsLawfulKept side) kept
    → is_own side epoch ≡ false → reach + n ≤ INDEX_LIMIT → All (IsLawfulKept side) (kept ++ shelved epoch chain reach n)
lawful_kept-table side kept epoch chain reach n each peers most =
    All-append (IsLawfulKept side) kept (shelved epoch chain reach n) each
    (lawful_kept-shelved side epoch chain reach n peers most)
