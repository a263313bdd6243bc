-- Bytes that a port tells of, in pieces.
use Rattle.std.proofs.Common.{◌≡◌, ℕ, ◌+◌, ◌≤◌, List, [], ◌++◌, take, drop, Option, None, Some, refl, sym, ◌∙◌, ap, append_assoc, append-nil, arith, length-take}
use Rattle.std.proofs.Math.Seq.{take-add}
use Rattle.dr_ports.specs.Ports.{appended, prepended}
use Rattle.dr_ports.specs.Reading.{GaveAtMost}

-- no bytes change nothing
pub appended-none : (told : Option (List ℕ)) → told ≡ appended told []
appended-none None = refl
appended-none (Some xs) = ap Some (sym (append-nil xs))

-- two pieces taken in turn are one
pub appended-appended : (told : Option (List ℕ)) (a b : List ℕ) → appended (appended told a) b ≡ appended told (a ++ b)
appended-appended None a b = refl
appended-appended (Some xs) a b = ap Some (append_assoc xs a b)

-- two pieces read in turn are one
pub prepended-prepended : (told : Option (List ℕ)) (a b : List ℕ) → prepended a (prepended b told) ≡ prepended (a ++ b) told
prepended-prepended None a b = refl
prepended-prepended (Some xs) a b = ap Some (sym (append_assoc a b xs))

-- a sink that took the first bytes and then some more
pub took_more : (old mid new : Option (List ℕ)) (bytes : List ℕ) (done more : ℕ) → mid ≡ appended old (take done bytes) → new ≡ appended mid (take more (drop done bytes)) → new ≡ appended old (take (done + more) bytes)
took_more old mid new bytes done more e f =
    f ∙ ap (λ t. appended t (take more (drop done bytes))) e
    ∙ appended-appended old (take done bytes) (take more (drop done bytes))
    ∙ ap (appended old) (sym (take-add done more bytes))

-- a source that gave the first bytes of a piece and then some more
pub gave_more : (old mid new : Option (List ℕ)) (before now : List ℕ) (done more : ℕ) → old ≡ prepended (take done before) mid → take done now ≡ take done before → mid ≡ prepended (take more (drop done now)) new → old ≡ prepended (take (done + more) now) new
gave_more old mid new before now done more e same f =
    e ∙ ap (λ b. prepended b mid) (sym same) ∙ ap (prepended (take done now)) f
    ∙ prepended-prepended new (take done now) (take more (drop done now))
    ∙ ap (λ b. prepended b new) (sym (take-add done more now))

-- a source that gave the first bytes of a piece, and no more where a read failed
pub gave_first : (old mid new : Option (List ℕ)) (piece : List ℕ) (done most : ℕ) → done ≤ most → old ≡ prepended (take done piece) mid → new ≡ mid → GaveAtMost most old new
gave_first old mid new piece done most within e same = record {
  given = take done piece;
  few = omega (arith, length-take done piece);
  gave = e ∙ ap (prepended (take done piece)) (sym same);
}
