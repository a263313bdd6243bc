-- The calls of a disk that tells its size and its faults alone.
use Rattle.std.proofs.Common.{◌≡◌, ◌≤◌, ℕ, Some, None, Ok, Err, refl, subst, arith}
use Rattle.dr_disk.specs.Spans.{GoesBy}
use Rattle.dr_disk.specs.Calls.{Goes, ReadGoes}
use Rattle.file_disk.specs.Untold.{Counted, untold}
use Rattle.dr_disk.proofs.Passing.{counts_grow}

abbrev pub counted : ℕ → ℕ → ℕ → ℕ → Counted
counted size reads writes syncs =
    record { size = size; counts = record { reads = reads; writes = writes; syncs = syncs; tried = 0 } }

goes_on : (size reads writes syncs r w s : ℕ) → reads ≤ r → writes ≤ w → syncs ≤ s
    → GoesBy (untold (counted size reads writes syncs)) (untold (counted size r w s))
goes_on size reads writes syncs r w s more_r more_w more_s = record {
  size = refl;
  counts = counts_grow (counted size reads writes syncs).counts (counted size r w s).counts more_r
      more_w more_s;
  later = omega arith;
  passes = λ m told. absurd (let e : None ≡ Some m = told in cc);
  keeps = refl;
  fates = λ n told. absurd (let e : None ≡ Some n = told in cc);
  all = λ is. is;
  told = λ s told. absurd (let e : None ≡ Some s = told in cc);
  each = λ t c le left. absurd left;
  last = λ c left. absurd left;
}

-- it goes by, whatever is counted on the way
pub untold_goes : (x : Counted) (size reads writes syncs r w s : ℕ)
    → counted size reads writes syncs ≡ x → reads ≤ r → writes ≤ w → syncs ≤ s
    → GoesBy (untold x) (untold (counted size r w s))
untold_goes x size reads writes syncs r w s view more_r more_w more_s =
    subst (λ v. GoesBy (untold v) (untold (counted size r w s))) view
    (goes_on size reads writes syncs r w s more_r more_w more_s)

-- nothing is told of how it goes
module _ {T E : Type 0} (x y : Counted) where
  pub untold_reads_well : (v : T) → ReadGoes {T = T} {E = E} (untold x) (untold y) (Ok v)
  untold_reads_well v = record {
    passed = refl;
    keeps = refl;
    fate = refl;
    counted = λ n told. absurd (let e : None ≡ Some n = told in cc);
    leaves = λ mode c told. told;
    told = λ passes told. absurd (let e : None ≡ Some passes = told in cc);
  }

  pub untold_reads_badly : (e : E) → ReadGoes {T = T} {E = E} (untold x) (untold y) (Err e)
  untold_reads_badly e = record {
    passed = refl;
    keeps = refl;
    fate = refl;
    counted = λ n told. absurd (let e : None ≡ Some n = told in cc);
    leaves = λ mode c told. told;
    told = λ passes told. absurd (let e : None ≡ Some passes = told in cc);
  }

  pub untold_passes : (v : T) → Goes {T = T} {E = E} (untold x) (untold y) (Ok v)
  untold_passes v = record {
    passed = λ m told. absurd (let e : None ≡ Some m = told in cc);
    failed = tt;
    keeps = refl;
    fate = refl;
    counted = λ n told. absurd (let e : None ≡ Some n = told in cc);
    told = λ passes told. absurd (let e : None ≡ Some passes = told in cc);
  }

  pub untold_fails : (e : E) → Goes {T = T} {E = E} (untold x) (untold y) (Err e)
  untold_fails e = record {
    passed = tt;
    failed = refl;
    keeps = refl;
    fate = refl;
    counted = λ n told. absurd (let e : None ≡ Some n = told in cc);
    told = λ passes told. absurd (let e : None ≡ Some passes = told in cc);
  }
