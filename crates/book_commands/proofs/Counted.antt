-- The commands that list, begin and forget count what failed.
use Rattle.std.proofs.Common.{List, arith, refl, ℕ, ◌≡◌, ◌≤◌}
use Rattle.bodies.specs.declared.format.Format.{Format}
use Rattle.dr_base.specs.declared.position.Side.{Side}
use Rattle.dr_disk.specs.Spans.{IsQuiet}
use Rattle.dr_disk.specs.State.{DiskState}
use Rattle.dr_ports.specs.States.{SinkState, SourceState}
use Rattle.endings.specs.Ending.{code_of}
use Rattle.endings.specs.declared.ending.Ending.{Ending}
use Rattle.kem_laws.specs.Mechanism.{Mechanism}
use Rattle.client.specs.Beginning.{begin_of}
use Rattle.client.specs.declared.begin.Begin.{Begin}
use Rattle.book.specs.declared.refusals.BookBeginError.{BookBeginError}
use Rattle.book.specs.declared.refusals.BookBeginError.TheVariants.{BadName, BookFull, Closed, Memory, NameTaken, NoPair, StoreFault}
use Rattle.command_lines.proofs.Counting.{counted, input_code}
use Rattle.command_lines.specs.Runs.{Runs, RunsAndCounts}
use Rattle.book_commands.specs.Beginning.{BegunUnder, RunsBeginUnder, had_key, had_no_key, was_begun, was_cut as begin_cut, wasnt_begun, wasnt_opened as begin_unopened}
use Rattle.book_commands.specs.Forgetting.{Forgot, RunsForget, was_cut, was_forgotten, wasnt_found}
use Rattle.book_commands.specs.Listing.{Listed, RunsList, was_listed, wasnt_opened}
use Rattle.book_commands.specs.Opening.{ending_of_begin_book}
use Rattle.book_commands.proofs.Codes.{missing_code, open_code}

module _ {X : Type 0} (state : X → DiskState) (k : Mechanism) (start now : X) where
  listed_came : (ending : Ending) (lines : List ℕ) → Listed state k start now ending lines → code_of ending ≡ 0
      → IsQuiet (state start) (state now)
  listed_came _ _ (wasnt_opened error why) e = absurd (open_code error e)
  listed_came _ _ (was_listed sessions read rests quiet) e = quiet

  pub list_counts : (old new : SinkState) (code : ℕ) → Runs (RunsList state k start now) old new code → old.faults ≤ new.faults
      → RunsAndCounts (RunsList state k start now) (IsQuiet (state start) (state now)) old new code
  list_counts old new code runs later =
      counted (RunsList state k start now) (IsQuiet (state start) (state now)) old new code
      (λ ending lines came zero. listed_came ending lines came.listed zero) runs later

  module _ (name : List ℕ) where
    forgot_came : (ending : Ending) (lines : List ℕ) → Forgot state k name start now ending lines → code_of ending ≡ 0
        → IsQuiet (state start) (state now)
    forgot_came _ _ (wasnt_found missing why leaves) e = absurd (missing_code missing e)
    forgot_came _ _ (was_cut sessions call read there rose) e = absurd (omega (arith, e))
    forgot_came _ _ (was_forgotten sessions read there rests quiet) e = quiet

    pub forget_counts : (old new : SinkState) (code : ℕ) → Runs (RunsForget state k name start now) old new code
        → old.faults ≤ new.faults
        → RunsAndCounts (RunsForget state k name start now) (IsQuiet (state start) (state now)) old new code
    forget_counts old new code runs later =
        counted (RunsForget state k name start now) (IsQuiet (state start) (state now)) old new code
        (λ ending lines came zero. forgot_came ending lines came.forgot zero) runs later

    unbegun_code : (error : BookBeginError) → code_of (ending_of_begin_book error) ≡ 0 → ⊥
    unbegun_code (Closed call) e = omega (arith, e)
    unbegun_code BadName e = omega (arith, e)
    unbegun_code NameTaken e = omega (arith, e)
    unbegun_code (BookFull rows) e = omega (arith, e)
    unbegun_code Memory e = omega (arith, e)
    unbegun_code NoPair e = omega (arith, e)
    unbegun_code (StoreFault call) e = omega (arith, e)

    begun_came : (begin : Begin) (ending : Ending) (lines : List ℕ) → BegunUnder state k name begin start now ending lines
        → code_of ending ≡ 0 → IsQuiet (state start) (state now)
    begun_came begin _ _ (begin_unopened error why leaves) e = absurd (open_code error e)
    begun_came begin _ _ (wasnt_begun sessions error read cause leaves rests quiet) e = absurd (unbegun_code error e)
    begun_came begin _ _ (begin_cut sessions call read place pair rose) e = absurd (omega (arith, e))
    begun_came begin _ _ (was_begun sessions read place pair rests quiet) e = quiet

    begin_came : (side : Side) (format : Format) (from to : SourceState) (ending : Ending) (lines : List ℕ)
        → RunsBeginUnder state k name side format from to start now ending lines → code_of ending ≡ 0
        → IsQuiet (state start) (state now) × (to.faults ≡ from.faults)
    begin_came side format from to _ _ (had_no_key e none same) zero = absurd (input_code _ _ _ _ _ e refl none zero)
    begin_came side format from to _ _ (had_key key e l input begins) zero =
        (begun_came (begin_of side format key) e l begins.begun zero, input.quiet)

    pub begin_counts : (side : Side) (format : Format) (from to : SourceState) (old new : SinkState) (code : ℕ)
        → Runs (RunsBeginUnder state k name side format from to start now) old new code → old.faults ≤ new.faults
        → RunsAndCounts (RunsBeginUnder state k name side format from to start now)
        (IsQuiet (state start) (state now) × (to.faults ≡ from.faults)) old new code
    begin_counts side format from to old new code runs later =
        counted (RunsBeginUnder state k name side format from to start now)
        (IsQuiet (state start) (state now) × (to.faults ≡ from.faults))
        old new code (begin_came side format from to) runs later
