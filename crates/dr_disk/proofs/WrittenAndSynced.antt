-- A write and its sync.
use Rattle.std.proofs.Common.{◌≡◌, ℕ, ◌+◌, List, Option, Some, None, true, false, refl, sym, ◌∙◌, ap, arith}
use Rattle.std.specs.Prelude.{◌==◌, if◌then◌else◌}
use Rattle.std.proofs.lemmas.Bool.Decides.{nat_tests}
use Rattle.dr_disk.specs.Bytes.{overwritten, overwritten_told}
use Rattle.dr_disk.specs.State.{Always, DiskState, IsSettled}
use Rattle.dr_disk.specs.Spans.{Frame, GoesBy, HavePassed, ReadsOutside, Span}
use Rattle.dr_disk.specs.Calls.{IsCut, IsWrittenOver, LeavesSame, LeavesWritten, Unwritten, WrittenIn}
use Rattle.dr_disk.proofs.Steps.{spans, widen}

module _ (a b : DiskState) (at n : ℕ) (goes : GoesBy a b) (within : WrittenIn at n a b) where
  pub wrote : Span a b (Frame a at n)
  wrote = widen a b b.image (Frame a at n) within.images goes

  pub wrote_and_synced : (c : DiskState) → GoesBy b c → Unwritten b c → Span a c (Frame a at n)
  wrote_and_synced c next same = spans a b c (Frame a at n) wrote
      (widen b c c.image (Frame a at n) (λ f left. within.images f (same.images f left)) next)

-- what a read gives then is the same outside
pub synced_reads : (a b c : DiskState) (at n : ℕ) → WrittenIn at n a b → Unwritten b c
    → ReadsOutside at n a c
synced_reads a b c at n within same = λ s told. within.seen s (sym same.seen ∙ told)

-- bytes that are told were told before
told_over : (seen : Option (List ℕ)) (at : ℕ) (bytes d : List ℕ)
    → overwritten_told seen at bytes ≡ Some d
    → (s : List ℕ) × (seen ≡ Some s) × (d ≡ overwritten s at bytes)
told_over None at bytes d is = absurd (let e : None ≡ Some d = is in cc)
told_over (Some s) at bytes d is = (s, refl, let e : Some (overwritten s at bytes) ≡ Some d = is in cc)

-- once both passed a crash leaves what was written
pub synced_over : (a b c : DiskState) (at : ℕ) (bytes : List ℕ)
    → b.seen ≡ overwritten_told a.seen at bytes → Unwritten b c → IsSettled c
    → Always (IsWrittenOver a at bytes) c
synced_over a b c at bytes over same settled = λ d left.
    told_over a.seen at bytes d (sym over ∙ sym same.seen ∙ settled d left)

-- ---- one of them failed

same_count : (a : DiskState) (l k : ℕ) → a.passed ≡ Some l → a.passed ≡ Some k → l ≡ k
same_count a l k one two = let e : Some l ≡ Some k = sym one ∙ two in cc

pub cut_at_write : (a b : DiskState) (at : ℕ) (bytes : List ℕ) → LeavesWritten at bytes a b
    → b.passed ≡ a.passed → (a.keeps ≡ true → b.seen ≡ a.seen) → IsCut at bytes a b
cut_at_write a b at bytes leaves still keeps = record {
  leaves = leaves;
  passed = λ m is. (m, sym still ∙ is, omega arith, omega arith);
  reads = λ kept l m was is.
      let e : m ≡ l = same_count a m l (sym still ∙ is) was in
      let same : (m == l) ≡ true = grind (arith, nat_tests) in
      keeps kept
      ∙ ap (λ t. if t then a.seen else overwritten_told a.seen at bytes) (sym same);
}

pub cut_at_sync : (a b c : DiskState) (at : ℕ) (bytes : List ℕ) → LeavesWritten at bytes a b
    → HavePassed 1 a b → b.seen ≡ overwritten_told a.seen at bytes
    → LeavesSame b c → Unwritten b c → c.passed ≡ b.passed → IsCut at bytes a c
cut_at_sync a b c at bytes leaves one over same unwritten still = record {
  leaves = λ mode d left. leaves mode d (same mode d left);
  passed = λ m is.
      let p = one m (sym still ∙ is) in (p.0, p.1, omega (arith, p.2), omega (arith, p.2));
  reads = λ kept l m was is.
      let p = one m (sym still ∙ is) in
      let e : l ≡ p.0 = same_count a l p.0 was p.1 in
      let more : m ≡ p.0 + 1 = p.2 in
      let other : (m == l) ≡ false = grind (arith, nat_tests) in
      unwritten.seen ∙ over
      ∙ ap (λ t. if t then a.seen else overwritten_told a.seen at bytes) (sym other);
}
