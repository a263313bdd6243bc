-- A sync of a side, and the same in the world that both sides stand for.
use Rattle.std.proofs.Common.{◌≡◌, ℕ, List, [], ◌++◌, Option, Result, Ok, Err, refl, sym, ◌∙◌, ap, ap₂}
use Rattle.dr_model.proofs.Acting.Keeping.{own_client}
use Rattle.dr_base.specs.Position.{peer_of}
use Rattle.dr_base.specs.declared.position.Side.{Side}
use Rattle.dr_base.specs.declared.position.Side.TheVariants.{First, Second}
use Rattle.dr_model.specs.Machines.Acts.{Act, act_on, taking}
use Rattle.dr_model.specs.Machines.WorldActs.{act_in, event_of}
use Rattle.dr_model.specs.Machines.Sides.{Sides, client_of, settled_on, step_on, with_client}
use Rattle.dr_model.specs.Machines.Steps.{Step, settled, step}
use Rattle.dr_model.specs.Machines.WorldSides.{kept_in, sides_of}
use Rattle.dr_model.specs.Machines.Worlds.{World}
use Rattle.dr_model.specs.Theorems.Fairness.{IsUnforged}
use Rattle.dr_model.specs.Theorems.LawfulWorlds.{IsLawfulWorld}
use Rattle.dr_model.proofs.Worlds.Following.{step_follows}
use Rattle.dr_model.proofs.Worlds.LawfulWorlds.{lawful_next}
use Rattle.dr_model.proofs.Worlds.WorldViews.{client_of-kept}
use Rattle.kem_laws.specs.Mechanism.{IsLawfulMechanism, Mechanism}
use Rattle.relay_core.specs.Boxes.{Box}
use Rattle.relay_link.specs.Connections.{kept_before}
use Rattle.session_model.specs.Clients.{Client}
use Rattle.session_model.specs.declared.answer.Refusal.{Refusal}
use Rattle.sync_model.specs.Moves.{Ending, Wait, acking, box_is_full, denied_by, ended, fetching, inbox_full, no_such_box, over, posting, wrong}
use Rattle.sync_model.specs.Parties.{Party}
use Rattle.sync_model.specs.Scenes.{IsSameScene, MeetsFairly, scene}
use Rattle.sync_model.specs.Simulation.{AreAlike}
use Rattle.sync_model.specs.Transfers.{Meeting, begins}
use Rattle.sync_model.proofs.Scenes.{scenes_alike}
use Rattle.client.specs.Syncing.Keys.{keys_in}
use Rattle.client.specs.Syncing.Lines.{answer_line, own_box, peers_box}
use Rattle.client.specs.Syncing.Parties.{client_party, is_inbox_full, oldest_sent, waiting, world_party}
use Rattle.duet.specs.Outcomes.{SidesPlayed, synced_on}
use Rattle.parties.specs.SyncLines.{ending_line, closing_line, sync_lines}
use Rattle.duet.specs.Gathering.{on_side}
use Rattle.scripts.specs.Sides.{side_text}
use Rattle.duet.specs.Shuts.{Shuts}
use Rattle.duet.proofs.Gathering.{same_client}

-- ---- one side among both

given_twice : (s : Sides) (side : Side) (one other : Client) → with_client (with_client s side one) side other ≡ with_client s side other
given_twice s First one other = refl
given_twice s Second one other = refl

other_client : (s : Sides) (side : Side) (kept : Client) → client_of (with_client s side kept) (peer_of side) ≡ client_of s (peer_of side)
other_client s First kept = refl
other_client s Second kept = refl

-- what a side takes or sends is its own step
abbrev IsOwn : Mechanism → Side → Act → Type 0
IsOwn k side act = (s : Sides) → step_on k s (event_of side act) ≡ on_side s side (settled (client_of s side) (act_on k (client_of s side) act))

settled_side : (s : Sides) (side : Side) (r : Result (Step Client) Refusal)
    → settled_on s side r ≡ on_side s side (settled (client_of s side) r)
settled_side s side (Ok made) = refl
settled_side s side (Err refusal) = ap (λ (x : Sides). step _ x) (sym (same_client s side))

takes_own : (k : Mechanism) (side : Side) (bytes : List ℕ) → IsOwn k side (taking bytes)
takes_own k side bytes s = settled_side s side (act_on k (client_of s side) (taking bytes))

sends_own : (k : Mechanism) (side : Side) → IsOwn k side oldest_sent
sends_own k side s = settled_side s side (act_on k (client_of s side) oldest_sent)

-- ---- on the way

-- A side keeps this in a world that a sync leads to. All but what the side keeps is as it was at the start.
record IsOnWay (k : Mechanism) (side : Side) (start : World) (kept : Client) (w : World) : Type 0 where
  lawful : IsLawfulWorld k w
  stands : sides_of k w ≡ with_client (sides_of k start) side kept

module _ (k : Mechanism) (law : IsLawfulMechanism k) (side : Side) (start : World) where
  module _ (kept : Client) (w : World) (is : IsOnWay k side start kept w) where
    keeps : client_of (sides_of k w) side ≡ kept
    keeps = ap (λ (s : Sides). client_of s side) is.stands ∙ own_client (sides_of k start) side kept

    kept_is : kept_in k w side ≡ kept
    kept_is = sym (client_of-kept k w side) ∙ keeps

    -- the side's own step is that of the world
    made : (act : Act) → IsOwn k side act
        → step_on k (sides_of k w) (event_of side act) ≡ on_side (sides_of k start) side (settled kept (act_on k kept act))
    made act own =
        own (sides_of k w)
        ∙ ap₂ (λ (s : Sides) (c : Client). on_side s side (settled c (act_on k c act))) is.stands keeps
        ∙ ap (λ (s : Sides). let made : Step Sides = record { answer = (settled kept (act_on k kept act)).answer; shown = (settled kept (act_on k kept act)).shown; next = s } in made)
        (given_twice (sides_of k start) side kept (settled kept (act_on k kept act)).next)

  -- a step of the world, and what a side made
  record IsMade (one : Step Client) (other : Step World) : Type 0 where
    answer : one.answer ≡ other.answer
    next : IsOnWay k side start one.next other.next

  took : (kept : Client) (w : World) (bytes : List ℕ) → IsOnWay k side start kept w → IsUnforged k w side bytes
      → IsMade (settled kept (act_on k kept (taking bytes))) (act_in k w side (taking bytes))
  took kept w bytes is fair =
      let same = sym (step_follows k w (event_of side (taking bytes)) law is.lawful (record { unforged = fair; whole = tt })) ∙ made kept w is (taking bytes) (takes_own k side bytes) in
      record {
        answer = sym (ap (λ (m : Step Sides). m.answer) same);
        next = record { lawful = lawful_next k w (event_of side (taking bytes)) is.lawful tt; stands = ap (λ (m : Step Sides). m.next) same };
      }

  sent : (kept : Client) (w : World) → IsOnWay k side start kept w
      → IsMade (settled kept (act_on k kept oldest_sent)) (act_in k w side oldest_sent)
  sent kept w is =
      let same = sym (step_follows k w (event_of side oldest_sent) law is.lawful (record { unforged = tt; whole = tt }))
      ∙ made kept w is oldest_sent (sends_own k side) in
      record {
        answer = sym (ap (λ (m : Step Sides). m.answer) same);
        next = record { lawful = lawful_next k w (event_of side oldest_sent) is.lawful tt; stands = ap (λ (m : Step Sides). m.next) same };
      }

  -- ---- a sync

  abbrev Fair : World → List ℕ → Type 0
  Fair turn packet = IsUnforged k turn side packet

  abbrev first : Client
  first = client_of (sides_of k start) side

  abbrev mine : Party Client
  mine = client_party k (side_text side) first

  abbrev theirs : Party World
  theirs = world_party k (side_text side) side start

  are : AreAlike mine theirs (IsOnWay k side start) Fair
  are = record {
    own = ap own_box (client_of-kept k start side);
    keys = ap keys_in (client_of-kept k start side);
    peers = ap peers_box (client_of-kept k start side);
    stored_line = λ number. refl;
    end_line = λ which. refl;
    outbox = λ kept w is. ap waiting (sym (kept_is kept w is));
    sent = λ kept w is. (sent kept w is).next;
    takes = λ kept w packet is fair. let took = took kept w packet is fair in record {
      line = ap (answer_line (side_text side)) took.answer;
      full = ap is_inbox_full took.answer;
      next = took.next;
    };
  }

  module _ (lawful : IsLawfulWorld k start) (lost : Option ℕ) (boxes : List Box) (fair : MeetsFairly theirs Fair (kept_before lost) (begins theirs start boxes)) (shuts : Shuts Client) where
    same_scene : IsSameScene (IsOnWay k side start) (scene mine (kept_before lost) first boxes) (scene theirs (kept_before lost) start boxes)
    same_scene =
        scenes_alike mine theirs (IsOnWay k side start) Fair are first start
        (record { lawful = lawful; stands = sym (same_client (sides_of k start) side) }) (kept_before lost) boxes fair

    same_ending : (ending : Ending) → ending_line mine side ending ≡ ending_line theirs side ending
    same_ending (ended which) = refl
    same_ending inbox_full = refl
    same_ending box_is_full = refl
    same_ending no_such_box = refl
    same_ending (denied_by rule) = refl
    same_ending wrong = refl

    same_last : (wait : Wait) → closing_line mine side wait ≡ closing_line theirs side wait
    same_last (over ending) = same_ending ending
    same_last (fetching n) = refl
    same_last (acking n number) = refl
    same_last (posting which) = refl

    -- the other side keeps what it kept
    pub sync_leaves : kept_in k (scene theirs (kept_before lost) start boxes).course.state (peer_of side) ≡ kept_in k start (peer_of side)
    sync_leaves =
        let kept = (scene mine (kept_before lost) first boxes).course.state in
        sym (client_of-kept k (scene theirs (kept_before lost) start boxes).course.state (peer_of side))
        ∙ ap (λ (s : Sides). client_of s (peer_of side)) same_scene.course.state.stands
        ∙ other_client (sides_of k start) side kept
        ∙ client_of-kept k start (peer_of side)

    abbrev played_by : List ℕ → Sides → List Box → SidesPlayed
    played_by lines ends after = record { answers = []; lines = lines; next = record { ends = ends; boxes = after; shuts = shuts } }

    abbrev came : Meeting World
    came = scene theirs (kept_before lost) start boxes

    pub sync_follows : synced_on k (record { ends = sides_of k start; boxes = boxes; shuts = shuts }) side lost ≡ played_by (sync_lines theirs side came) (sides_of k came.course.state) came.boxes
    sync_follows =
        let same = same_scene in
        let lines : sync_lines mine side (scene mine (kept_before lost) first boxes) ≡ sync_lines theirs side came =
        ap₂ (λ (a b : List ℕ). a ++ b) same.course.lines (ap (closing_line mine side) same.course.wait ∙ same_last came.course.wait) in
        ap (λ (l : List ℕ). played_by l (with_client (sides_of k start) side (scene mine (kept_before lost) first boxes).course.state) (scene mine (kept_before lost) first boxes).boxes) lines
        ∙ ap₂ (played_by (sync_lines theirs side came)) (sym same.course.state.stands) same.boxes
