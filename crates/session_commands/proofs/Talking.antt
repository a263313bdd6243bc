-- First and Second talk, with a crash in a take of First's: First's moments are a run.
use Rattle.std.proofs.Common.{List, Some, [], ap, arith, inl, inr, refl, subst, suc, sym, ℕ, ◌+◌, ◌∙◌, ◌∷◌, ◌≡◌}
use Rattle.std.specs.Prelude.{slice_get, slice_index_or}
use Rattle.boxes.specs.Posts.{Post}
use Rattle.dr_base.specs.declared.position.Side.TheVariants.{First, Second}
use Rattle.dr_disk.specs.State.{Always, DiskState, IsLawful}
use Rattle.dr_model.specs.Machines.WorldActs.{act_in}
use Rattle.dr_model.specs.Machines.WorldSides.{kept_in}
use Rattle.dr_model.specs.Machines.Worlds.{World}
use Rattle.dr_model.specs.Theorems.Fairness.{IsUnforged}
use Rattle.dr_model.specs.Theorems.LawfulWorlds.{IsLawfulWorld}
use Rattle.dr_ports.specs.States.{DrawsState}
use Rattle.endings.specs.declared.ending.Ending.TheVariants.{Done}
use Rattle.kem_laws.specs.Mechanism.{Mechanism}
use Rattle.client.specs.Cells.{client_cell}
use Rattle.client.specs.Grounds.{Grounds}
use Rattle.client.specs.InWorlds.{StandsFor}
use Rattle.session_model.specs.Contents.{text_content}
use Rattle.client.specs.Moments.{HaveMoved, IsAmongKnown, Known, settled_in}
use Rattle.client.specs.Opening.{ReadsAsSide}
use Rattle.client.proofs.Standing.{stands}
use Rattle.command_lines.specs.Acting.{ClientAsk}
use Rattle.command_lines.specs.Asking.{asked_say, asked_take}
use Rattle.session_commands.specs.Histories.{acted_known, cut_known}
use Rattle.session_commands.specs.Acting.{RunsIn}
use Rattle.session_commands.specs.Talks.{HaveTalked, IsTalk}
use Rattle.session_commands.specs.WholeRuns.{AreRun, Passed, acted, says, takes, was_cut_acting}
use Rattle.session_commands.proofs.KnownWorlds.{cut_keeps}
use Rattle.session_commands.proofs.Linking.{reads_one}
use Rattle.session_commands.proofs.Talks.{Chain, IsDone, chained, done_in, honest, kept_there, peer_moved, reads_ahead}
use Rattle.session_commands.proofs.WholeRuns.{all_linked}

module _ {D E V : Type 0} (state : D → DiskState) (sound : (d : D) → IsLawful (state d))
    (peers : E → DiskState) (sound_peers : (e : E) → IsLawful (peers e))
    (draws : V → DrawsState) (k : Mechanism) (grounds : Grounds k) (w : World)
    (start said cut crashed took : D) (hears heard answers : E) (question answer : Post)
    (talk : IsTalk state peers draws k start said cut crashed took hears heard answers
    question answer)
    (lawful : IsLawfulWorld k w) (first : ReadsAsSide k w First (state start))
    (second : ReadsAsSide k w Second (peers hears))
    (rests : Always (StandsFor k w First) (state start)) where
  abbrev Runs : D → D → Known → Known → Type 0
  Runs = Passed state draws k First

  -- ---- First says a text

  abbrev asking : ClientAsk
  asking = asked_say draws talk.asks.text talk.asks.source talk.asks.left

  asks_runs : RunsIn k w First asking (state start) (state said) Done talk.asks.lines
  asks_runs = talk.asks.says.in_worlds w First lawful first tt

  asked : IsDone k w First (state start) (state said) (acted_known asks_runs)
  asked =
      done_in k grounds w First asking (state start) (state said) (sound said) Done
      talk.asks.lines lawful asks_runs refl

  abbrev w1 : World
  w1 = (act_in k w First asked.act).next

  -- ---- Second takes its packet

  second_then : ReadsAsSide k w1 Second (peers hears)
  second_then =
      reads_ahead k grounds Second w w1 (peers hears)
      (grounds.follow.others w First asked.act lawful asked.fair) second

  hears_runs : RunsIn k w1 Second (asked_take k question.packet) (peers hears) (peers heard) Done
      talk.lines
  hears_runs =
      talk.hearing.in_worlds w1 Second asked.lawful second_then
      (honest k grounds w1 First Second (state said) question asked.lawful talk.asks.posted
      (kept_there k grounds w1 First (state said) (sound said) question asked.stands
      talk.asks.posted))

  hearing : IsDone k w1 Second (peers hears) (peers heard) (acted_known hears_runs)
  hearing =
      done_in k grounds w1 Second (asked_take k question.packet) (peers hears) (peers heard)
      (sound_peers heard) Done talk.lines asked.lawful hears_runs refl

  abbrev w2 : World
  w2 = (act_in k w1 Second hearing.act).next

  -- ---- and says a text

  abbrev replying : ClientAsk
  replying = asked_say draws talk.answering.text talk.answering.source talk.answering.left

  answers_runs : RunsIn k w2 Second replying (peers heard) (peers answers) Done
      talk.answering.lines
  answers_runs =
      talk.answering.says.in_worlds w2 Second hearing.lawful (hearing.reads second_then) tt

  answered : IsDone k w2 Second (peers heard) (peers answers) (acted_known answers_runs)
  answered =
      done_in k grounds w2 Second replying (peers heard) (peers answers) (sound_peers answers)
      Done talk.answering.lines hearing.lawful answers_runs refl

  abbrev w3 : World
  w3 = (act_in k w2 Second answered.act).next

  posts3 : talk.answering.posted.kept ≡ kept_in k w3 Second
  posts3 =
      kept_there k grounds w3 Second (peers answers) (sound_peers answers) answer answered.stands
      talk.answering.posted

  unforged3 : IsUnforged k w3 First answer.packet
  unforged3 =
      honest k grounds w3 Second First (peers answers) answer answered.lawful talk.answering.posted
      posts3

  -- ---- First takes that, and a crash cuts it off

  takes_runs : RunsIn k w3 First (asked_take k answer.packet) (state said) (state cut) talk.ending
      talk.shown
  takes_runs =
      talk.takes.in_worlds w3 First answered.lawful
      (reads_ahead k grounds First w1 w3 (state said)
      (grounds.follow.others w2 Second answered.act hearing.lawful answered.fair
      ∙ grounds.follow.others w1 Second hearing.act asked.lawful hearing.fair)
      (asked.reads first))
      unforged3

  abbrev known4 : Known
  known4 = cut_known takes_runs (settled_in w3)

  said_ran : Runs start said (settled_in w) (settled_in w1)
  said_ran =
      subst (Runs start said (settled_in w)) (asked.settles (settled_in w))
      (inl (acted (settled_in w) w (inl refl)
      (says (text_content talk.asks.text) talk.asks.source talk.asks.left) Done talk.asks.lines asks_runs))

  -- Second went on
  went : (v next : World) → HaveMoved k First (settled_in v) (settled_in next)
      → Runs said said (settled_in v) (settled_in next)
  went v next moves = inr (record { moves = moves; alone = λ c left. left })

  heard_ran : Runs said said (settled_in w1) (settled_in w2)
  heard_ran = went w1 w2 (peer_moved k grounds w1 hearing.act asked.lawful hearing.fair)

  answered_ran : Runs said said (settled_in w2) (settled_in w3)
  answered_ran = went w2 w3 (peer_moved k grounds w2 answered.act hearing.lawful answered.fair)

  cut_ran : Runs said crashed (settled_in w3) known4
  cut_ran =
      inl (was_cut_acting (settled_in w3) w3 (inl refl) (takes answer.packet) cut talk.ending
      talk.shown takes_runs talk.crashes)

  -- moments that run from the first on
  are_run : (xs : List D) (ks : List Known) → Chain Runs (start ∷ xs) (settled_in w ∷ ks)
      → AreRun state draws (start ∷ xs) k First w
      (λ n. slice_index_or (settled_in w ∷ ks) n (settled_in w))
  are_run xs ks chain =
      let at : ℕ → Known = λ n. slice_index_or (settled_in w ∷ ks) n (settled_in w) in
      record {
        begins = refl;
        stands = λ a is. let same : start ≡ a = let e : Some start ≡ Some a = is in cc in
            subst (λ d. Always (StandsFor k w First) (state d)) same rests;
        ran = λ n a b here next.
            let one : n + 1 ≡ suc n = omega arith in
            subst (λ m. Runs a b (at n) (at m)) (sym one)
            (chained Runs (start ∷ xs) (settled_in w ∷ ks) (settled_in w) chain n a b here
            (ap (slice_get (start ∷ xs)) (sym one) ∙ next));
      }

  -- what is read after the crash
  found : (v : World) × IsAmongKnown known4 v × IsLawfulWorld k v × ReadsAsSide k v First (state crashed)
  found =
      let before = said ∷ said ∷ said ∷ crashed ∷ [] in
      let worlds = settled_in w1 ∷ settled_in w2 ∷ settled_in w3 ∷ known4 ∷ [] in
      let run = are_run before worlds (said_ran, (heard_ran, (answered_ran, (cut_ran, tt)))) in
      let at : ℕ → Known = λ n. slice_index_or (settled_in w ∷ worlds) n (settled_in w) in
      let xs = start ∷ before in
      let linked = all_linked state sound draws k First xs w at run grounds lawful in
      let still = stands client_cell state xs k First w at linked 4 crashed refl in
      reads_one k First w known4 (state crashed) (sound crashed) talk.bytes lawful still talk.told

  -- ---- and takes it again

  again_runs : RunsIn k found.0 First (asked_take k answer.packet) (state crashed) (state took)
      talk.last talk.last_shown
  again_runs =
      talk.takes_again.in_worlds found.0 First found.2 found.3
      (honest k grounds found.0 Second First (peers answers) answer found.2 talk.answering.posted
      (posts3 ∙ sym
      (cut_keeps k grounds w3 (asked_take k answer.packet) (state said) (state cut) talk.ending
      talk.shown answered.lawful takes_runs found.0 found.1)))

  again_ran : Runs crashed took known4 (acted_known again_runs known4)
  again_ran =
      inl (acted known4 found.0 found.1 (takes answer.packet) talk.last talk.last_shown again_runs)

  pub have_talked : HaveTalked state draws k w start said crashed took answer
  have_talked =
      let last = acted_known again_runs known4 in
      let worlds = settled_in w1 ∷ settled_in w2 ∷ settled_in w3 ∷ known4 ∷ last ∷ [] in
      record {
        known = λ n. slice_index_or (settled_in w ∷ worlds) n (settled_in w);
        run = are_run (said ∷ said ∷ said ∷ crashed ∷ took ∷ []) worlds
            (said_ran, (heard_ran, (answered_ran, (cut_ran, (again_ran, tt)))));
        met = w3;
        there = refl;
        unforged = unforged3;
      }
