-- At most so many writes and syncs, one part after the other.
use Rattle.std.proofs.Common.{◌≡◌, ◌≢◌, ℕ, ◌+◌, ◌-◌, ◌≤◌, ◌==◌, if◌then◌else◌, Bool, Result, Ok, Err, sym, ◌∙◌, arith}
use Rattle.std.proofs.lemmas.Bool.Decides.{nat_tests}
use Rattle.dr_disk.specs.declared.call.Call.{Call}
use Rattle.dr_disk.specs.declared.call.Call.TheVariants.{Read, Write, Sync}
use Rattle.dr_disk.specs.State.{DiskState}
use Rattle.dr_disk.specs.Spans.{HavePassed, HavePassedAtLeast}
use Rattle.dr_disk.specs.Called.{Called, itself}
use Rattle.pages.specs.Runs.{ReadsAlone}
use Rattle.pages.specs.Counted.{MakesAtMost, clearings, one_of, shuttings, tidyings}
use Rattle.pages.specs.declared.layout.Layout.{Layout}
use Rattle.pages.specs.declared.layout.TheConstants.{OPEN}

-- a call is one at most
one_most : (call : Call) → one_of call ≤ 1
one_most Read = omega arith
one_most Write = omega arith
one_most Sync = omega arith

-- none was made
pub few_none : {T : Type 0} (n : ℕ) (x : T) (a b : DiskState) → b.passed ≡ a.passed
    → MakesAtMost n one_of a b (Ok x)
few_none n x a b same = record { told = λ m is. (m, sym same ∙ is, omega arith) }

few_unread : {T : Type 0} (n : ℕ) (call : Call) (a b : DiskState) → b.passed ≡ a.passed
    → call ≡ Read → MakesAtMost {T = T} n one_of a b (Err call)
few_unread n Read a b same read = record { told = λ m is. (m, sym same ∙ is, omega arith) }
few_unread n Write a b same read = absurd (let e : Write ≡ Read = read in cc)
few_unread n Sync a b same read = absurd (let e : Sync ≡ Read = read in cc)

-- reads alone
pub few_looked : {T : Type 0} {k : ℕ} (n : ℕ) (a b : DiskState) (r : Result T Call) → ReadsAlone k a b r
    → MakesAtMost n one_of a b r
few_looked n a b (Ok x) looks = few_none n x a b looks.untouched.passed
few_looked n a b (Err call) looks = few_unread n call a b looks.untouched.passed looks.read

-- one call
pub few_passed : {T : Type 0} (x : T) (a b : DiskState) → HavePassed 1 a b
    → MakesAtMost 1 one_of a b (Ok x)
few_passed x a b passed = record {
  told = λ m is. let was = passed m is in (was.0, was.1, omega (arith, was.2));
}

pub few_missed : {T : Type 0} (call : Call) (a b : DiskState) → b.passed ≡ a.passed
    → MakesAtMost {T = T} 1 one_of a b (Err call)
few_missed call a b same = record {
  told = λ m is. (m, sym same ∙ is, omega (arith, one_most call));
}

-- as many as are told
pub few_called : {T : Type 0} (n : ℕ) (a b : DiskState) (r : Result T Call) → HavePassedAtLeast a b
    → Called n itself a b r → MakesAtMost n one_of a b r
few_called n a b (Ok x) grows called = record {
  told = λ m is. let was = called.passed m is in (was.0, was.1, omega (arith, was.2));
}
few_called n a b (Err call) grows called = record {
  told = λ m is.
      let was = grows m is in
      (was.0, was.1, omega (arith, called.few was.0 m was.1 is, one_most call));
}

-- a bound that is no less
pub few_more : {T : Type 0} (n more : ℕ) (a b : DiskState) (r : Result T Call) → n ≤ more
    → MakesAtMost n one_of a b r → MakesAtMost more one_of a b r
few_more n more a b r le few = record {
  told = λ m is. let was = few.told m is in (was.0, was.1, omega (arith, was.2, le));
}

-- one after the other
pub few_then : {T U : Type 0} (n more total : ℕ) (x : U) (a b c : DiskState) (r : Result T Call)
    → n + more ≤ total → MakesAtMost n one_of a b (Ok x) → MakesAtMost more one_of b c r
    → MakesAtMost total one_of a c r
few_then n more total x a b c r le first next = record {
  told = λ m is.
      let mid = next.told m is in
      let was = first.told mid.0 mid.1 in
      (was.0, was.1, omega (arith, mid.2, was.2, le));
}

-- with another answer
pub few_as : {T U : Type 0} (n : ℕ) (x : T) (y : U) (a b : DiskState) → MakesAtMost n one_of a b (Ok y)
    → MakesAtMost n one_of a b (Ok x)
few_as n x y a b few = record { told = few.told }

pub few_failed : {T U : Type 0} (n more : ℕ) (call : Call) (a b : DiskState) → n ≤ more
    → MakesAtMost {T = U} n one_of a b (Err call) → MakesAtMost {T = T} more one_of a b (Err call)
few_failed n more call a b le few = record {
  told = λ m is. let was = few.told m is in (was.0, was.1, omega (arith, was.2, le));
}

-- ---- gates

pub shut_two : (gate : ℕ) → gate ≡ OPEN → 2 ≤ shuttings gate
shut_two gate is = grind (arith, nat_tests)

pub cleared_two : (gate : ℕ) → gate ≢ 0 → 2 ≤ clearings gate
cleared_two gate isnt = grind (arith, nat_tests)

-- a gate that was closed isn't cleared again
pub one_gate : (gate stands : ℕ) → stands ≡ (if gate == OPEN then 0 else gate)
    → shuttings gate + clearings stands ≤ 2
one_gate gate stands is = grind (arith, nat_tests)

-- ---- the steps of tidying, one after the other

shut_two_most : (gate : ℕ) → shuttings gate ≤ 2
shut_two_most gate = grind (arith, nat_tests)

pub tidied_shut : (l : Layout) (gate : ℕ) → shuttings gate ≤ tidyings l
tidied_shut l gate = omega (arith, shut_two_most gate)

module _ (l : Layout) (gate stands : ℕ) (start m1 : DiskState)
    (first : MakesAtMost {T = ℕ} (shuttings gate) one_of start m1 (Ok stands)) where
  pub few_rest : (m2 : DiskState) (r : Result Unit Call) → MakesAtMost 1 one_of m1 m2 r
      → MakesAtMost (shuttings gate + 1) one_of start m2 r
  few_rest m2 r next = few_then (shuttings gate) 1 (shuttings gate + 1) stands start m1 m2 r
      (omega arith) first next

  module _ (m2 : DiskState) (rest : MakesAtMost {T = Unit} 1 one_of m1 m2 (Ok tt)) where
    pub few_wiped : (m3 : DiskState) (r : Result Bool Call)
        → MakesAtMost (l.count - l.least) one_of m2 m3 r
        → MakesAtMost (shuttings gate + 1 + (l.count - l.least)) one_of start m3 r
    few_wiped m3 r next = few_then (shuttings gate + 1) (l.count - l.least) _ tt start m2 m3 r
        (omega arith) (few_rest m2 (Ok tt) rest) next

    module _ (m3 : DiskState) (wrote : Bool)
        (wiped : MakesAtMost (l.count - l.least) one_of m2 m3 (Ok wrote)) where
      pub few_settled : (m4 : DiskState) (r : Result Unit Call) → MakesAtMost 1 one_of m3 m4 r
          → MakesAtMost (shuttings gate + 1 + (l.count - l.least) + 1) one_of start m4 r
      few_settled m4 r next = few_then (shuttings gate + 1 + (l.count - l.least)) 1 _ wrote start m3
          m4 r (omega arith) (few_wiped m3 (Ok wrote) wiped) next

      pub few_cleared : stands ≡ (if gate == OPEN then 0 else gate) → (m4 end : DiskState)
          (r : Result Unit Call) → MakesAtMost {T = Unit} 1 one_of m3 m4 (Ok tt)
          → MakesAtMost (clearings stands) one_of m4 end r → MakesAtMost (tidyings l) one_of start end r
      few_cleared is m4 end r settled next =
          few_then (shuttings gate + 1 + (l.count - l.least) + 1) (clearings stands) (tidyings l) tt
          start m4 end r (omega (arith, one_gate gate stands is)) (few_settled m4 (Ok tt) settled) next

-- each sum on the way is no more than all
pub to_rest : (l : Layout) (gate : ℕ) → shuttings gate + 1 ≤ tidyings l
to_rest l gate = omega (arith, shut_two_most gate)

pub to_wiped : (l : Layout) (gate : ℕ) → shuttings gate + 1 + (l.count - l.least) ≤ tidyings l
to_wiped l gate = omega (arith, shut_two_most gate)

pub to_settled : (l : Layout) (gate : ℕ)
    → shuttings gate + 1 + (l.count - l.least) + 1 ≤ tidyings l
to_settled l gate = omega (arith, shut_two_most gate)
