-- A run in numbers.
use Rattle.std.specs.Prelude.{ℕ, ◌+◌, ◌<◌, List, [], ◌∷◌, length}
use Rattle.dr_base.specs.declared.position.Side.{Side}
use Rattle.dr_base.specs.declared.position.Side.TheVariants.{First, Second}
use Rattle.session_model.specs.declared.answer.Answer.{Answer}
use Rattle.session_model.specs.declared.answer.Answer.TheVariants.{Said, Opened, Nothing, Refused}
use Rattle.session_model.specs.Clients.{Client}
use Rattle.dr_model.specs.Conversations.Views.{missing_of}
use Rattle.dr_model.specs.Machines.Sides.{Sides}
use Rattle.dr_model.specs.Machines.Worlds.{World, view_of}
use Rattle.kem_laws.specs.Mechanism.{Mechanism}
use Rattle.duet.specs.Outcomes.{Beside, Played, deed_in, deed_on}
use Rattle.scripts.specs.Deeds.{Deed}
use Rattle.scripts.specs.Sides.{deed_side}
use Rattle.scripts.specs.Script.{Scripted}
use Rattle.duet.specs.Trace.{after_by, beginning, beginning_in}
use Rattle.duet.specs.declared.tally.SideTally.{SideTally}
use Rattle.duet.specs.declared.tally.Tally.{Tally}

abbrev pub no_tally : SideTally
no_tally = record { said = 0; opened = 0; refused = 0; epoch = 0; missing = 0 }

-- nothing was counted yet of a script of this many rounds
abbrev pub opening_tally : ℕ → Tally
opening_tally rounds = record { rounds = rounds; first = no_tally; second = no_tally }

-- one answer more: what the network doesn't hold counts as refused
abbrev pub with_answer : Answer → SideTally → SideTally
with_answer (Said p) t = record t { said = t.said + 1 }
with_answer (Opened p) t = record t { opened = t.opened + 1 }
with_answer Nothing t = record t { refused = t.refused + 1 }
with_answer (Refused refusal) t = record t { refused = t.refused + 1 }
with_answer _ t = t

-- one answer of a side more
abbrev pub counted_of : Side → Answer → Tally → Tally
counted_of First answer t = record t { first = with_answer answer t.first }
counted_of Second answer t = record t { second = with_answer answer t.second }

-- answers of a side more
abbrev pub counted_all : Side → List Answer → Tally → Tally
counted_all side [] t = t
counted_all side (answer ∷ answers) t = counted_all side answers (counted_of side answer t)

-- the answers to deeds, each done from what stands; a sync is told by its own lines, and counts none
unfoldable pub counted_by : {S L : Type 0} → (Beside S L → Deed → Played S L) → Beside S L → Tally → List Deed → Tally
counted_by act s t [] = t
counted_by act s t (deed ∷ deeds) =
    counted_by act (act s deed).next (counted_all (deed_side deed) (act s deed).answers t) deeds

-- how far a side has come
abbrev pub reached : Client → SideTally → SideTally
reached client t = record t { epoch = client.state.epoch; missing = length client.state.kept }

abbrev pub both_reached : Sides → Tally → Tally
both_reached s t = record t { first = reached s.first t.first; second = reached s.second t.second }

-- a script that was played, in numbers
unfoldable pub tally_of : Mechanism → Scripted → Tally
tally_of k script =
    both_reached (after_by (deed_on k) (beginning k script) script.deeds).ends
    (counted_by (deed_on k) (beginning k script) (opening_tally script.rounds) script.deeds)

-- how far a side of a world has come
abbrev pub reached_in : World → Side → SideTally → SideTally
reached_in w side t =
    record t { epoch = (view_of w side).epoch; missing = length (missing_of w.conversation (view_of w side)) }

abbrev pub both_reached_in : World → Tally → Tally
both_reached_in w t = record t { first = reached_in w First t.first; second = reached_in w Second t.second }

-- a script in the machine's numbers
unfoldable pub tally_in : Mechanism → Scripted → Tally
tally_in k script =
    both_reached_in (after_by (deed_in k) (beginning_in k script) script.deeds).ends
    (counted_by (deed_in k) (beginning_in k script) (opening_tally script.rounds) script.deeds)

-- no count has come to a number
pub record IsSideBelow (n : ℕ) (t : SideTally) : Type 0 where
  pub said : t.said < n
  pub opened : t.opened < n
  pub refused : t.refused < n

pub record IsBelow (n : ℕ) (t : Tally) : Type 0 where
  pub first : IsSideBelow n t.first
  pub second : IsSideBelow n t.second
