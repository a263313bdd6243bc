-- Two pieces that are written one after the other.
use Rattle.std.proofs.Common.{Err, List, Ok, Result, subst, ℕ, ◌++◌, ◌≡◌}
use Rattle.dr_ports.specs.States.{SinkState}
use Rattle.dr_ports.specs.Writing.{Writes}
use Rattle.dr_ports.proofs.WritingLemmas.{writes_behind, writes_first}

pub cut_in_first : {T E : Type 0} (old new : SinkState) (a b first : List ℕ) (e : E) → first ≡ a
    → Writes {T = T} old new first (Err e) → Writes {T = T} old new (a ++ b) (Err e)
cut_in_first {T} {E} old new a b first e same w =
    writes_first old new a b e (subst (λ bytes. Writes {T = T} old new bytes (Err e)) same w)

pub both_pieces : {T E F : Type 0} (old mid new : SinkState) (a b first second : List ℕ) (x : T)
    (result : Result T E) → first ≡ a → second ≡ b → Writes {E = F} old mid first (Ok x)
    → Writes mid new second result → Writes old new (a ++ b) result
both_pieces {T} {E} {F} old mid new a b first second x result same_first same_second w next =
    let one = subst (λ bytes. Writes {E = F} old mid bytes (Ok x)) same_first w in
    writes_behind old mid new a b result one.whole one.cause.passed
    (subst (λ bytes. Writes mid new bytes result) same_second next)
