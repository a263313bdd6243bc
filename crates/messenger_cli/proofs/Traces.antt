-- The trace of a script that the source told.
use Rattle.std.proofs.Common.{◌≡◌, ◌≤◌, ◌⊎◌, inl, inr, ℕ, List, [], ◌++◌, length, Option, Some, None, Ok, refl, sym, ◌∙◌, ap, arith, subst}
use Rattle.std.specs.Prelude.{IfSome, IsSome, IsNone}
use Rattle.kem_laws.specs.Mechanism.{IsLawfulMechanism}
use Rattle.kem_laws.specs.OpenLaw.{open_law}
use Rattle.sntrup761.specs.MechanismLaw.{sntrup761_law}
use Rattle.scripts.specs.Script.{Scripted, script_of}
use Rattle.duet.proofs.Following.{follows}
use Rattle.scripts.proofs.ScriptSeeds.{whole_seeds}
use Rattle.messenger_cli.specs.declared.playing.TheConstants.{SCRIPT_LIMIT}
use Rattle.scripts.specs.declared.script.KemName.{KemName}
use Rattle.scripts.specs.declared.script.KemName.TheVariants.{Open, Sntrup761}
use Rattle.messenger_cli.specs.Mechanisms.{first_pair, mechanism_of, played_named}
use Rattle.dr_ports.specs.Ports.{appended}
use Rattle.dr_ports.specs.Writing.{TookBeginning}
use Rattle.dr_ports.proofs.Told.{appended-none}
use Rattle.messenger_cli.specs.Runs.{BeginsTrace, IsTraceOf, HasNoPair}

-- each mechanism that a script may name keeps the law
law_of : (kem : KemName) → IsLawfulMechanism (mechanism_of kem)
law_of Open = open_law
law_of Sntrup761 = sntrup761_law

-- what was read is all that the source told
pub is_trace : (left : Option (List ℕ)) (read : List ℕ) (script : Scripted) → IfSome left (λ text. read ≡ text) → length read ≤ SCRIPT_LIMIT → script_of read ≡ Ok script
    → IsSome (first_pair script) → IfSome left (λ text. IsTraceOf text (played_named script))
is_trace (Some text) read script same fits reads pairs = record {
  script = script;
  fits = omega (arith, fits, ap length same);
  read = ap script_of (sym same) ∙ reads;
  pairs = pairs;
  lines_are = refl;
  trace_is = follows (mechanism_of script.kem) script (law_of script.kem) pairs (whole_seeds read script reads);
}
is_trace None read script same fits reads pairs = tt

-- and so where its key gives no pair
pub has_no_pair : (left : Option (List ℕ)) (read : List ℕ) (script : Scripted) → IfSome left (λ text. read ≡ text) → length read ≤ SCRIPT_LIMIT → script_of read ≡ Ok script
    → IsNone (first_pair script) → IfSome left HasNoPair
has_no_pair (Some text) read script same fits reads none = record {
  script = script;
  fits = omega (arith, fits, ap length same);
  read = ap script_of (sym same) ∙ reads;
  none = none;
}
has_no_pair None read script same fits reads none = tt

-- lines that a sink took before memory wanted
pub record IsCutShort (left old new : Option (List ℕ)) : Type 0 where
  pub lines : List ℕ
  pub reason : (lines ≡ []) ⊎ IfSome left (λ text. BeginsTrace text lines)
  pub wrote : new ≡ appended old lines

begins_trace : (left : Option (List ℕ)) (lines rest all : List ℕ) → all ≡ lines ++ rest → IfSome left (λ text. IsTraceOf text all)
    → IfSome left (λ text. BeginsTrace text lines)
begins_trace None lines rest all split is = tt
begins_trace (Some text) lines rest all split is = record { rest = rest; trace = subst (IsTraceOf text) split is }

pub cut_short : (left old new : Option (List ℕ)) (all : List ℕ) (Pairs : Type 0) → (Pairs → IfSome left (λ text. IsTraceOf text all))
    → (new ≡ old) ⊎ (TookBeginning old new all × Pairs) → IsCutShort left old new
cut_short left old new all Pairs is (inl none) = record { lines = []; reason = inl refl; wrote = none ∙ appended-none old }
cut_short left old new all Pairs is (inr some) = record {
  lines = some.0.beginning;
  reason = inr (begins_trace left some.0.beginning some.0.remainder all some.0.split (is some.1));
  wrote = some.0.took;
}
