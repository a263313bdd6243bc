-- Writes in turn.
use Rattle.std.proofs.Common.{◌≡◌, ℕ, List, ◌++◌, take, drop, Option, Result, Ok, Err, sym, ◌∙◌, ap, append_assoc, arith}
use Rattle.std.proofs.lemmas.List.{take-append-drop}
use Rattle.dr_ports.specs.Ports.{appended}
use Rattle.dr_ports.specs.States.{SinkState}
use Rattle.dr_ports.specs.Writing.{TookBeginning, Writes}
use Rattle.dr_ports.proofs.Told.{appended-appended}

-- a sink that stopped at a place of the bytes
pub took_first : (old new : Option (List ℕ)) (bytes : List ℕ) (done : ℕ) → new ≡ appended old (take done bytes) → TookBeginning old new bytes
took_first old new bytes done e = record { beginning = take done bytes; remainder = drop done bytes; split = sym (take-append-drop done bytes); took = e }

-- what was taken of the first piece is a beginning of both
pub took_of_first : (old new : Option (List ℕ)) (a b : List ℕ) → TookBeginning old new a → TookBeginning old new (a ++ b)
took_of_first old new a b t = record {
  beginning = t.beginning;
  remainder = t.remainder ++ b;
  split = ap (λ x. x ++ b) t.split ∙ append_assoc t.beginning t.remainder b;
  took = t.took;
}

-- all of the first piece and a beginning of the second
pub took_of_second : (old mid new : Option (List ℕ)) (a b : List ℕ) → mid ≡ appended old a → TookBeginning mid new b → TookBeginning old new (a ++ b)
took_of_second old mid new a b e t = record {
  beginning = a ++ t.beginning;
  remainder = t.remainder;
  split = ap (λ x. a ++ x) t.split ∙ sym (append_assoc a t.beginning t.remainder);
  took = t.took ∙ ap (λ m. appended m t.beginning) e ∙ appended-appended old a t.beginning;
}

-- a write after one that passed
pub writes_behind : {T E : Type 0} (old mid new : SinkState) (a b : List ℕ) (result : Result T E)
    → mid.taken ≡ appended old.taken a → mid.faults ≡ old.faults → Writes mid new b result → Writes old new (a ++ b) result
writes_behind old mid new a b (Ok x) e same w = record {
  whole = w.whole ∙ ap (λ m. appended m b) e ∙ appended-appended old.taken a b;
  part = w.part;
  cause = record { later = omega (arith, w.cause.later); failed = w.cause.failed; passed = w.cause.passed ∙ same };
}
writes_behind old mid new a b (Err x) e same w = record {
  whole = w.whole;
  part = took_of_second old.taken mid.taken new.taken a b e w.part;
  cause = record { later = omega (arith, w.cause.later); failed = omega (arith, w.cause.failed); passed = tt };
}

-- a write that failed, and what was to be written after it
pub writes_first : {T E : Type 0} (old new : SinkState) (a b : List ℕ) (e : E) → Writes {T = T} old new a (Err e)
    → Writes {T = T} old new (a ++ b) (Err e)
writes_first old new a b e w = record {
  whole = w.whole;
  part = took_of_first old.taken new.taken a b w.part;
  cause = w.cause;
}
