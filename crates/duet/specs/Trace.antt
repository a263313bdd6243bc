-- The trace of a script.
use Rattle.std.specs.Prelude.{List, ℕ, [], ◌∷◌, ◌++◌, ⊤}
use Rattle.dr_base.specs.declared.position.Side.TheVariants.{First}
use Rattle.dr_model.specs.Machines.Worlds.{opening_world}
use Rattle.dr_model.specs.Theorems.Fairness.{IsUnforgedCall, IsUnforgedEvent}
use Rattle.dr_model.specs.Machines.WorldSides.{kept_in, sides_of}
use Rattle.kem_laws.specs.Mechanism.{Mechanism}
use Rattle.duet.specs.Shuts.{both_open}
use Rattle.duet.specs.Outcomes.{Beside, Played, SidesBeside, WorldBeside, deed_in, deed_on}
use Rattle.duet.specs.Relay.{opening_boxes}
use Rattle.scripts.specs.Deeds.{Deed, acts, fails, joins, reopens, stops, syncs}
use Rattle.scripts.specs.Script.{Scripted}

-- the lines of deeds, each done from what stands
unfoldable pub lines_by : {S L : Type 0} → (Beside S L → Deed → Played S L) → Beside S L → List Deed → List ℕ
lines_by act s [] = []
lines_by act s (deed ∷ deeds) = (act s deed).lines ++ lines_by act (act s deed).next deeds

-- what stands after deeds
unfoldable pub after_by : {S L : Type 0} → (Beside S L → Deed → Played S L) → Beside S L → List Deed → Beside S L
after_by act s [] = s
after_by act s (deed ∷ deeds) = after_by act (act s deed).next deeds

-- the world at the beginning of a script, and the boxes of the relay
abbrev pub beginning_in : Mechanism → Scripted → WorldBeside
beginning_in k script =
    let w = opening_world script.key script.formats in
    record {
      ends = w;
      boxes = opening_boxes script.guarded script.key (kept_in k w First);
      shuts = both_open;
    }

-- both sides at the beginning of a script, and these boxes
abbrev pub beginning : Mechanism → Scripted → SidesBeside
beginning k script = record {
  ends = sides_of k (beginning_in k script).ends;
  boxes = (beginning_in k script).boxes;
  shuts = both_open;
}

-- the lines that both sides answer to a script
unfoldable pub played : Mechanism → Scripted → List ℕ
played k script = lines_by (deed_on k) (beginning k script) script.deeds

-- the lines that the machine answers to a script
unfoldable pub trace_of : Mechanism → Scripted → List ℕ
trace_of k script = lines_by (deed_in k) (beginning_in k script) script.deeds

-- ---- unforged scripts

-- no packet that the deed makes up has a forged tag; a sync, an opening or a look makes up none
abbrev pub IsUnforgedDeed : Mechanism → WorldBeside → Deed → Type 0
IsUnforgedDeed k s (acts event) = IsUnforgedEvent k s.ends event
IsUnforgedDeed k s (stops n mode side call) = IsUnforgedCall k s.ends side call
IsUnforgedDeed k s (fails n side call) = IsUnforgedCall k s.ends side call
IsUnforgedDeed k s (reopens side) = ⊤
IsUnforgedDeed k s (syncs side lost) = ⊤
IsUnforgedDeed k s (joins side id) = ⊤

-- and so in a run
abbrev pub IsUnforgedPlay : Mechanism → WorldBeside → List Deed → Type 0
IsUnforgedPlay k s [] = ⊤
IsUnforgedPlay k s (deed ∷ deeds) = IsUnforgedDeed k s deed × IsUnforgedPlay k (deed_in k s deed).next deeds

-- and so in a whole script
abbrev pub IsUnforgedScript : Mechanism → Scripted → Type 0
IsUnforgedScript k script = IsUnforgedPlay k (beginning_in k script) script.deeds
