-- Parts that are said one after the other are a row of runs.
use Rattle.std.proofs.Common.{List, [], ap, append_assoc, append-nil, arith, refl, subst, sym, ℕ, ⊎_elim, ◌++◌, ◌∙◌, ◌∷◌, ◌≡◌, ◌⊎◌}
use Rattle.boxes.specs.Parts.{Part}
use Rattle.dr_disk.specs.State.{DiskState}
use Rattle.dr_ports.proofs.Told.{appended-appended, appended-none}
use Rattle.dr_ports.proofs.WritingLemmas.{took_of_second}
use Rattle.dr_ports.specs.Ports.{Rose, appended}
use Rattle.dr_ports.specs.States.{DrawsState, SinkState}
use Rattle.endings.proofs.Closing.{ends_behind, ends_cut}
use Rattle.endings.specs.Ends.{Ends}
use Rattle.endings.specs.declared.ending.Ending.{Ending}
use Rattle.endings.specs.declared.ending.Ending.TheVariants.{Done}
use Rattle.kem_laws.specs.Mechanism.{Mechanism}
use Rattle.command_lines.specs.LongLines.{said_part_line}
use Rattle.command_lines.specs.Runs.{Runs}
use Rattle.session_commands.specs.LongSaying.{SaysParts, all_said, none_said, one_said, was_unwritten}
use Rattle.session_commands.specs.PartsSaid.{WasShown, WasUnwritten, WasntSaid}

-- Of all parts these are left: whatever comes of them comes of all, behind the lines that were
-- written, and no write failed so far.
pub record SaidSoFar {X W : Type 0} (state : X → DiskState) (draws : W → DrawsState) (k : Mechanism) (all rest : List Part)
    (start at : X) (source left : W) (old now : SinkState) : Type 0 where
  pub written : List ℕ
  pub wrote : now.taken ≡ appended old.taken written
  pub quiet : now.faults ≡ old.faults
  pub goes : (after : ℕ) (end : X) (last : W) (ending : Ending) (lines : List ℕ)
      → SaysParts state draws k old.faults after rest at end left last ending lines
      → SaysParts state draws k old.faults after all start end source last ending (written ++ lines)

module _ {X W : Type 0} (state : X → DiskState) (draws : W → DrawsState) (k : Mechanism) where
  -- none was said yet
  pub none_yet : (all : List Part) (start : X) (source : W) (old : SinkState)
      → SaidSoFar state draws k all all start start source source old old
  none_yet all start source old = record {
    written = [];
    wrote = appended-none old.taken;
    quiet = refl;
    goes = λ after end last ending lines says. says;
  }

  module _ (all : List Part) (start : X) (source : W) (old : SinkState) where
    abbrev pub Comes : ℕ → X → W → Ending → List ℕ → Type 0
    Comes after now left ending lines = SaysParts state draws k old.faults after all start now source left ending lines

    abbrev pub Came : X → W → SinkState → ℕ → Type 0
    Came now left new code = Runs (Comes new.faults now left) old new code

    -- one more was
    pub one_more : (part : Part) (rest : List Part) (at mid : X) (left between : W) (now new : SinkState)
        → SaidSoFar state draws k all (part ∷ rest) start at source left old now
        → WasShown state draws k part at mid left between now new
        → SaidSoFar state draws k all rest start mid source between old new
    one_more part rest at mid left between now new far shown =
        let line = said_part_line shown.position part.number part.count in
        record {
          written = far.written ++ line;
          wrote = shown.wrote ∙ ap (λ t. appended t line) far.wrote ∙ appended-appended old.taken far.written line;
          quiet = shown.quiet ∙ far.quiet;
          goes = λ after end last ending lines says.
              subst (Comes after end last ending) (sym (append_assoc far.written line lines))
              (far.goes after end last ending (line ++ lines)
              (one_said part rest at mid end left between last shown.position ending lines shown.says says));
        }

    -- all were
    pub all_were : (at : X) (left : W) (now new : SinkState) (code : ℕ)
        → SaidSoFar state draws k all [] start at source left old now → Ends Done [] now new code
        → Came at left new code
    all_were at left now new code far ends = record {
      ending = Done;
      lines = far.written;
      came =
          subst (Comes new.faults at left Done) (append-nil far.written)
          (far.goes new.faults at left Done [] (all_said at at left left refl refl));
      ends = ends_behind Done far.written old now new code far.wrote far.quiet ends;
    }

    module _ (part : Part) (rest : List Part) (at mid : X) (left between : W) (now new : SinkState)
        (far : SaidSoFar state draws k all (part ∷ rest) start at source left old now) where
      -- the next one wasn't
      wasnt : (code : ℕ) → WasntSaid state draws k part at mid left between now new code → Came mid between new code
      wasnt code said = record {
        ending = said.ending;
        lines = far.written;
        came =
            subst (Comes new.faults mid between said.ending) (append-nil far.written)
            (far.goes new.faults mid between said.ending []
            (none_said part rest at mid left between said.ending said.says));
        ends = ends_behind said.ending far.written old now new code far.wrote far.quiet said.ends;
      }

      -- it was, and its line wasn't written
      unwritten : (code : ℕ) → WasUnwritten state draws k part at mid left between now new code → Came mid between new code
      unwritten code said =
          let line = said_part_line said.position part.number part.count in
          let rose : Rose old.faults new.faults = omega (arith, said.rose, far.quiet) in
          record {
            ending = Done;
            lines = far.written ++ line;
            came =
                far.goes new.faults mid between Done line
                (was_unwritten part rest at mid left between said.position said.says rose);
            ends =
                subst (Ends Done (far.written ++ line) old new) (sym said.code_is)
                (ends_cut (far.written ++ line) old new
                (took_of_second old.taken now.taken new.taken far.written line far.wrote said.wrote) rose);
          }

      -- the command ends with it
      pub ended_with : (code : ℕ)
          → WasntSaid state draws k part at mid left between now new code
          ⊎ WasUnwritten state draws k part at mid left between now new code
          → Came mid between new code
      ended_with code is = ⊎_elim (wasnt code) (unwritten code) is
