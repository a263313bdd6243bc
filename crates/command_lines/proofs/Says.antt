-- A command whose session said a text, or a part of a long one.
use Rattle.std.proofs.Common.{Bool, List, None, Option, Result, Some, ap, sym, ℕ, ◌∙◌, ◌≡◌}
use Rattle.std.specs.Prelude.{is_none, ◌&&◌}
use Rattle.dr_base.specs.declared.position.Position.{Position}
use Rattle.dr_base.specs.declared.position.Side.{Side}
use Rattle.dr_disk.specs.Spans.{Span}
use Rattle.dr_disk.specs.State.{DiskState, IsLawful}
use Rattle.dr_model.specs.Machines.Acts.{needs_seed, saying}
use Rattle.dr_model.specs.Machines.Worlds.{World}
use Rattle.dr_model.specs.Theorems.LawfulWorlds.{IsLawfulWorld}
use Rattle.dr_ports.specs.States.{DrawsState}
use Rattle.kem_laws.specs.Mechanism.{Mechanism}
use Rattle.session_model.specs.Clients.{say_check}
use Rattle.session_model.specs.Contents.{Content}
use Rattle.client.specs.InWorlds.{IsKeeperIn}
use Rattle.client.specs.Keepings.{Keeping}
use Rattle.client.specs.Opening.{CellReadsAsSide, IsEntryOrAsReadInCell}
use Rattle.client.specs.Outcomes.{Outcome, said_as}
use Rattle.client.specs.Saying.{KeeperDraws, KeeperSaysIn, KeeperSaysWithDraw, acted, draw_failed, keeper_asks_seed, stayed, was_drawn, was_unasked, with_draw, without_draw}
use Rattle.client.specs.declared.refusals.SayRefusal.{SayRefusal}
use Rattle.command_lines.specs.Acting.{ActedAt, ClientAsk, was_undrawn}
use Rattle.command_lines.specs.Asking.{SaysContent, asked_content, with_seed, without_seed}
use Rattle.command_lines.specs.Closing.{ending_by, lines_of_ending, worked_as}
use Rattle.command_lines.specs.InWorlds.{RunsActAt, RunsInPlace}
use Rattle.command_lines.specs.Places.{IsOpenedAt, Place}
use Rattle.command_lines.proofs.Acts.{OpensInPlace, Settles, acted_as, runs_in, settles, undrawn_in}
use Rattle.command_lines.proofs.Standing.{Fits, stood}

module _ {S X W : Type 0} (place : Place) (keeping : Keeping S) (state : X → DiskState) (draws : W → DrawsState) (k : Mechanism)
    (content : Content) (source left : W) (start mid now : X) (lawful : IsLawful (state now)) (s after : S) (fits : Fits place keeping s)
    (opened : IsOpenedAt place keeping k s (state start) (state mid))
    (opening : Span (state start) (state mid) (IsEntryOrAsReadInCell place.cell k (state start))) where
  abbrev asked : ClientAsk
  asked = asked_content draws content source left

  -- what is open asks for a seed where the content needs one
  needs : (b : Bool) → keeper_asks_seed keeping s content ≡ b → needs_seed (say_check (keeping.kept s) content) ≡ b
  needs b asks = sym (ap (λ c. is_none c && needs_seed (say_check (keeping.kept s) content)) opened.is_open) ∙ asks

  -- the content with the seed that was drawn is what is asked
  asked_by : (draw : Option (List ℕ)) → KeeperDraws keeping draws s content source left draw
      → SaysContent draws content source left (keeping.kept s) (saying content draw)
  asked_by draw (was_unasked none leaves) = without_seed (needs _ none) leaves
  asked_by draw (was_drawn seed asks long drew quiet) = with_seed seed (needs _ asks) long drew quiet

  said : (result : Result Position SayRefusal) → KeeperSaysWithDraw keeping state draws k content s after mid now source left result
      → ActedAt place state k asked start now (ending_by (worked_as (said_as result))) (lines_of_ending (worked_as (said_as result)))
  said result (without_draw r none leaves acts) =
      acted_as place keeping state k start mid now lawful s after fits opened opening asked (saying content None)
      (without_seed (needs _ none) leaves) (said_as r) acts
  said result (with_draw r seed asks long drew quiet acts back) =
      acted_as place keeping state k start mid now lawful s after fits opened opening asked (saying content (Some seed.bytes))
      (with_seed seed.bytes (needs _ asks) long drew quiet) (said_as r) acts
  said result (draw_failed asks rose same stays leaves) =
      was_undrawn (keeping.kept s) opened.read (record { needed = needs _ asks; rose = rose; none = same })
      (stood place keeping state k start mid now lawful s fits opened opening leaves)

  said_settles : (result : Result Position SayRefusal) → KeeperSaysWithDraw keeping state draws k content s after mid now source left result
      → Settles place keeping state k start mid now lawful s after fits opened opening (said_as result)
  said_settles result (without_draw r none leaves acts) =
      settles place keeping state k start mid now lawful s after fits opened opening (saying content None) (said_as r) acts
  said_settles result (with_draw r seed asks long drew quiet acts back) =
      settles place keeping state k start mid now lawful s after fits opened opening (saying content (Some seed.bytes)) (said_as r) acts
  said_settles result (draw_failed asks rose same stays leaves) = leaves

  says_runs_in : (w : World) (side : Side) → OpensInPlace place keeping k w side s (state start) (state mid) → (outcome : Outcome)
      → Settles place keeping state k start mid now lawful s after fits opened opening outcome
      → KeeperSaysIn keeping draws k w side content s after (state mid) (state now) source left outcome
      → RunsInPlace place k w side asked (state start) (state now) (ending_by (worked_as outcome)) (lines_of_ending (worked_as outcome))
  says_runs_in w side opens outcome settled (acted o draw drew fair acts) =
      runs_in place keeping state k start mid now lawful s after fits opened opening w side opens asked (saying content draw)
      (asked_by draw drew) (fair opened.is_open) o settled acts
  says_runs_in w side opens outcome settled (stayed asks rose same keeps) =
      undrawn_in place keeping state k start mid now lawful s after fits opened opening w side opens asked
      (record { needed = needs _ asks; rose = rose; none = same }) settled

  pub say_runs : (result : Result Position SayRefusal) → KeeperSaysWithDraw keeping state draws k content s after mid now source left result
      → ((w : World) (side : Side) → IsLawfulWorld k w → CellReadsAsSide place.cell k w side (state start)
      → OpensInPlace place keeping k w side s (state start) (state mid))
      → ((w : World) (side : Side) → IsKeeperIn keeping k w side s
      → KeeperSaysIn keeping draws k w side content s after (state mid) (state now) source left (said_as result))
      → RunsActAt place state k asked start now (ending_by (worked_as (said_as result))) (lines_of_ending (worked_as (said_as result)))
  say_runs result says opens says_in = record {
    acted = said result says;
    in_worlds = λ w side lawful_world stands fair.
        let open_in = opens w side lawful_world stands in
        says_runs_in w side open_in (said_as result) (said_settles result says) (says_in w side open_in.is);
  }
