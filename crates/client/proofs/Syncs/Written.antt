-- A line after a prefix.
use Rattle.std.proofs.Common.{Err, List, Ok, Option, Result, ap, subst, sym, ℕ, ◌++◌, ◌≤◌, ◌∙◌, ◌≡◌, append_assoc}
use Rattle.dr_ports.proofs.Told.{appended-appended}
use Rattle.dr_base.specs.Causes.{Rose}
use Rattle.dr_ports.specs.Ports.{appended}
use Rattle.dr_ports.specs.States.{SinkState}
use Rattle.dr_ports.specs.Writing.{Writes}

pub writes_behind : {E : Type 0} (old mid new : SinkState) (prefix line : List ℕ) (result : Result Unit E) → mid.taken ≡ appended old.taken prefix → mid.faults ≡ old.faults
    → Writes mid new line result → Writes old new (prefix ++ line) result
writes_behind old mid new prefix line (Ok u) put quiet writes = record {
  whole = writes.whole ∙ ap (λ (t : Option (List ℕ)). appended t line) put ∙ appended-appended old.taken prefix line;
  part = tt;
  cause = record { later = subst (λ (n : ℕ). n ≤ new.faults) quiet writes.cause.later; failed = tt; passed = writes.cause.passed ∙ quiet };
}
writes_behind old mid new prefix line (Err e) put quiet writes = record {
  whole = tt;
  part = record {
    beginning = prefix ++ writes.part.beginning;
    remainder = writes.part.remainder;
    split = ap (λ (b : List ℕ). prefix ++ b) writes.part.split ∙ sym (append_assoc prefix writes.part.beginning writes.part.remainder);
    took = writes.part.took ∙ ap (λ (t : Option (List ℕ)). appended t writes.part.beginning) put ∙ appended-appended old.taken prefix writes.part.beginning;
  };
  cause = record { later = subst (λ (n : ℕ). n ≤ new.faults) quiet writes.cause.later; failed = subst (λ (n : ℕ). Rose n new.faults) quiet writes.cause.failed; passed = tt };
}

pub writes_as : {E : Type 0} (old new : SinkState) (bytes line : List ℕ) (result : Result Unit E) → bytes ≡ line
    → Writes old new bytes result → Writes old new line result
writes_as old new bytes line result is writes = subst (λ (b : List ℕ). Writes old new b result) is writes
