-- How spans go on from call to call.
use Rattle.std.proofs.Common.{inl, inr, ⊎_elim, ℕ, List, refl, ◌∙◌, arith}
use Rattle.dr_disk.specs.State.{DiskState}
use Rattle.dr_disk.specs.Spans.{GoesBy, IsQuiet, Span}
use Rattle.dr_disk.specs.Calls.{Unwritten}
use Rattle.dr_disk.proofs.Fates.{gone_on, none_gone}

-- a predicate on bytes
abbrev pub Bytes : Type 1
Bytes = List ℕ → Type 0

-- no call was made
pub stays : (d : DiskState) (P : Bytes) → Span d d P
stays d P = record {
  size = refl;
  counts = λ call. omega arith;
  later = omega arith;
  passes = λ m told. (m, told, omega arith);
  keeps = refl;
  fates = none_gone d;
  all = λ is. is;
  told = λ s is. (s, is);
  each = λ t c le left. inl left;
  last = λ c left. inl left;
}

-- in sequence
pub spans : (a b c : DiskState) (P : Bytes) → Span a b P → Span b c P → Span a c P
spans a b c P first next = record {
  size = next.size ∙ first.size;
  counts = λ call. omega (arith, first.counts call, next.counts call);
  later = omega (arith, first.later, next.later);
  passes = λ m told. let mid = next.passes m told in let was = first.passes mid.0 mid.1 in (was.0, was.1, omega (arith, mid.2, was.2));
  keeps = next.keeps ∙ first.keeps;
  fates = gone_on a b c first.fates next.fates next.passes next.all;
  all = λ is. next.all (first.all is);
  told = λ s is. let mid = first.told s is in next.told mid.0 mid.1;
  each = λ t f le left. ⊎_elim (λ was. first.each t f le was) (λ now. inr now) (next.each t f (omega (arith, first.later)) left);
  last = λ f left. ⊎_elim (λ was. first.last f was) (λ now. inr now) (next.last f left);
}

-- P into Q
pub widen : (a b : DiskState) (P Q : Bytes) → ((c : List ℕ) → P c → Q c) → Span a b P → Span a b Q
widen a b P Q to span = record {
  size = span.size;
  counts = span.counts;
  later = span.later;
  passes = span.passes;
  keeps = span.keeps;
  fates = span.fates;
  all = span.all;
  told = span.told;
  each = λ t f le left. ⊎_elim (λ was. inl was) (λ is. inr (to f is)) (span.each t f le left);
  last = λ f left. ⊎_elim (λ was. inl was) (λ is. inr (to f is)) (span.last f left);
}

-- two calls that write nothing
pub unwritten_twice : (a b c : DiskState) → GoesBy a b → Unwritten a b → GoesBy b c → Unwritten b c
    → Span a c a.image
unwritten_twice a b c first same next still = spans a b c a.image
    (widen a b b.image a.image same.images first)
    (widen b c c.image a.image (λ d left. same.images d (still.images d left)) next)

pub quiet_twice : (a b c : DiskState) → IsQuiet a b → IsQuiet b c → IsQuiet a c
quiet_twice a b c first next call = next call ∙ first call
