-- A fan that ends with status 0 was said, and no call failed in it.
use Rattle.std.proofs.Common.{List, Option, ap, arith, refl, ℕ, ◌∙◌, ◌≡◌, ◌≤◌}
use Rattle.dr_base.specs.declared.key.Key32.{Key32}
use Rattle.dr_disk.specs.Spans.{IsQuiet}
use Rattle.dr_disk.specs.State.{DiskState}
use Rattle.dr_ports.specs.States.{DrawsState, SinkState}
use Rattle.endings.specs.Ending.{code_of}
use Rattle.endings.specs.declared.ending.Ending.{Ending}
use Rattle.kem_laws.specs.Mechanism.{Mechanism}
use Rattle.session_model.specs.Clients.{Client}
use Rattle.book_model.specs.Rows.{Rows}
use Rattle.client.specs.declared.refusals.SayRefusal.{SayRefusal}
use Rattle.client.specs.declared.refusals.SayRefusal.TheVariants.{Closed, DrawFault, NoPair, Refused, StoreFault}
use Rattle.book.specs.Fans.{AreAsked, none_asked, one_more}
use Rattle.book.specs.Stepping.{WasDrawn, was_none, was_seed}
use Rattle.book.specs.declared.fans.list.FanAddError.{FanAddError}
use Rattle.book.specs.declared.fans.list.FanAddError.TheVariants.{FanFull, NoName, Twice}
use Rattle.command_lines.proofs.Counting.{counted}
use Rattle.command_lines.specs.Runs.{Runs, RunsAndCounts}
use Rattle.book_commands.specs.FanEndings.{ending_of_add, ending_of_peer, listed_name}
use Rattle.book_commands.specs.Fanning.{FansOn, RunsFan, had_no_name, was_cut, was_fanned, was_opened, was_refused, wasnt_added, wasnt_opened}
use Rattle.book_commands.proofs.Codes.{open_code}

pub add_code : (error : FanAddError) → code_of (ending_of_add error) ≡ 0 → ⊥
add_code NoName e = omega (arith, e)
add_code Twice e = omega (arith, e)
add_code FanFull e = omega (arith, e)

pub peer_code : (name : List ℕ) (refusal : SayRefusal) → code_of (ending_of_peer name refusal) ≡ 0 → ⊥
peer_code name (Refused refusal) e = omega (arith, e)
peer_code name DrawFault e = omega (arith, e)
peer_code name (NoPair seed) e = omega (arith, e)
peer_code name (Closed call) e = omega (arith, e)
peer_code name (StoreFault call) e = omega (arith, e)

module _ {W : Type 0} (draws : W → DrawsState) where
  drawn_quiet : (source left : W) (seed : Option (List ℕ)) → WasDrawn draws source left seed
      → (draws left).faults ≡ (draws source).faults
  drawn_quiet source left _ (was_none same) = ap (λ w. (draws w).faults) same
  drawn_quiet source left _ (was_seed seed long drew quiet) = quiet

  asked_quiet : (k : Mechanism) (text : List ℕ) (rows : Rows Client) (list : List ℕ) (source : W) (n : ℕ)
      (left : W) (seeds : List (Option Key32)) → AreAsked draws k text rows list source n left seeds
      → (draws left).faults ≡ (draws source).faults
  asked_quiet k text rows list source n left seeds none_asked = refl
  asked_quiet k text rows list source n left seeds (one_more m mid l before seed asked asks) =
      drawn_quiet mid l _ asks.1 ∙ asked_quiet k text rows list source m mid before asked

module _ {X W : Type 0} (state : X → DiskState) (draws : W → DrawsState) (k : Mechanism) (text : List ℕ)
    (names : List (List ℕ)) (start now : X) (source left : W) where
  abbrev Quiet : Type 0
  Quiet = IsQuiet (state start) (state now) × ((draws left).faults ≡ (draws source).faults)

  fanned_on : (sessions : Rows Client) (mid : X) (ending : Ending) (lines : List ℕ)
      → FansOn state draws k text names sessions start mid now source left ending lines
      → code_of ending ≡ 0 → Quiet
  fanned_on sessions mid _ _ (wasnt_added list error adds same drew) e = absurd (add_code error e)
  fanned_on sessions mid _ _ (had_no_name none same drew) e = absurd (omega (arith, e))
  fanned_on sessions mid _ _ (was_refused list seeds at refusal adds asks same) e =
      absurd (peer_code (listed_name sessions list at) refusal e)
  fanned_on sessions mid _ _ (was_cut list seeds call adds asks says rose) e = absurd (omega (arith, e))
  fanned_on sessions mid _ _ (was_fanned list seeds adds asks says rests quiet) e =
      (quiet, asked_quiet draws k text sessions list source _ left seeds asks)

  fan_came : (ending : Ending) (lines : List ℕ)
      → RunsFan state draws k text names start now source left ending lines → code_of ending ≡ 0 → Quiet
  fan_came _ _ (wasnt_opened error why leaves drew) e = absurd (open_code error e)
  fan_came _ _ (was_opened sessions mid ending lines opened on) e = fanned_on sessions mid ending lines on e

  pub fan_counts : (old new : SinkState) (code : ℕ)
      → Runs (RunsFan state draws k text names start now source left) old new code → old.faults ≤ new.faults
      → RunsAndCounts (RunsFan state draws k text names start now source left) Quiet old new code
  fan_counts old new code runs later =
      counted (RunsFan state draws k text names start now source left) Quiet old new code fan_came runs later
