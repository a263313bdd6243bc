-- What saying a text, or a part of a long one, does: an act, with the draw of a seed before it where one is needed.
use Rattle.std.specs.Prelude.{Bool, Err, List, None, Option, Result, Some, [], false, is_none, length, true, ℕ, ⊤, ◌&&◌, ◌∷◌, ◌≡◌}
use Rattle.dr_base.specs.Causes.{Rose}
use Rattle.dr_base.specs.declared.key.Key32.{Key32}
use Rattle.dr_base.specs.declared.position.Position.{Position}
use Rattle.dr_base.specs.declared.position.Side.{Side}
use Rattle.dr_disk.specs.State.{DiskState}
use Rattle.dr_model.specs.Machines.Acts.{act_on, needs_seed, saying}
use Rattle.dr_model.specs.Machines.Worlds.{World}
use Rattle.dr_model.specs.Theorems.Acting.{IsFairAct}
use Rattle.dr_ports.specs.Seeds.{drawn}
use Rattle.dr_ports.specs.States.{DrawsState}
use Rattle.kem_laws.specs.Mechanism.{Mechanism}
use Rattle.session_model.specs.Contents.{Content}
use Rattle.session_model.specs.Clients.{say_check}
use Rattle.client.specs.Clients.{ClientNow}
use Rattle.client.specs.InWorlds.{KeeperActsIn}
use Rattle.client.specs.Keepings.{Keeping, client_keeping}
use Rattle.client.specs.Outcomes.{KeeperActs, Outcome, StaysPassing, said_as, undrawn}
use Rattle.client.specs.declared.refusals.SayRefusal.{SayRefusal}
use Rattle.client.specs.declared.refusals.SayRefusal.TheVariants.{DrawFault, NoPair}

-- whether a seed is drawn for a content: where the keeper is open, and the content may be said and
-- needs one
abbrev pub keeper_asks_seed : {S : Type 0} → Keeping S → S → Content → Bool
keeper_asks_seed keeping s content =
    is_none (keeping.closed s) && needs_seed (say_check (keeping.kept s) content)

-- a seed that has no pair is handed back
abbrev pub HandsBack : Option Key32 → Result Position SayRefusal → Type 0
HandsBack seed (Err (NoPair key)) = seed ≡ Some key
HandsBack seed _ = ⊤

-- The act with the seed that the source gave, or without one where none is asked for; where the source gives none, nothing
-- changes and no call on the disk is made.
pub data KeeperSaysWithDraw {S X W : Type 0} (keeping : Keeping S) (state : X → DiskState)
    (draws : W → DrawsState) (k : Mechanism) (content : Content) (old new : S) (start now : X)
    (source left : W) : Result Position SayRefusal → Type 0 where
  without_draw : (result : Result Position SayRefusal)
      → keeper_asks_seed keeping old content ≡ false → left ≡ source
      → KeeperActs keeping state (act_on k (keeping.kept old) (saying content None)) old new start now
      (said_as result)
      → KeeperSaysWithDraw keeping state draws k content old new start now source left result
  with_draw : (result : Result Position SayRefusal) (seed : Key32)
      → keeper_asks_seed keeping old content ≡ true
      → length seed.bytes ≡ 32
      → (draws source).coming ≡ drawn (seed.bytes ∷ []) (draws left).coming → (draws left).faults ≡ (draws source).faults
      → KeeperActs keeping state (act_on k (keeping.kept old) (saying content (Some seed.bytes))) old
      new start now (said_as result)
      → HandsBack (Some seed) result
      → KeeperSaysWithDraw keeping state draws k content old new start now source left result
  draw_failed : keeper_asks_seed keeping old content ≡ true
      → Rose (draws source).faults (draws left).faults
      → (draws left).coming ≡ (draws source).coming
      → new ≡ old → now ≡ start
      → KeeperSaysWithDraw keeping state draws k content old new start now source left (Err DrawFault)

-- just that, and no call on the disk fails where all pass
pub record IsKeeperSay {S X W : Type 0} (keeping : Keeping S) (state : X → DiskState)
    (draws : W → DrawsState) (k : Mechanism) (content : Content) (old new : S) (start now : X)
    (source left : W) (result : Result Position SayRefusal) : Type 0 where
  pub exact : KeeperSaysWithDraw keeping state draws k content old new start now source left result
  pub fate : StaysPassing (state start) (state now) (said_as result)

-- Whether a seed was drawn for a content, and which one: just where one is asked for, the next that the source gives.
pub data KeeperDraws {S W : Type 0} (keeping : Keeping S) (draws : W → DrawsState) (client : S)
    (content : Content) (source left : W) : Option (List ℕ) → Type 0 where
  was_unasked : keeper_asks_seed keeping client content ≡ false → left ≡ source
      → KeeperDraws keeping draws client content source left None
  was_drawn : (seed : List ℕ) → keeper_asks_seed keeping client content ≡ true → length seed ≡ 32
      → (draws source).coming ≡ drawn (seed ∷ []) (draws left).coming
      → (draws left).faults ≡ (draws source).faults
      → KeeperDraws keeping draws client content source left (Some seed)

-- in a world that the keeper stands for: the act, with the seed that the source gave; or nothing, where it gave none
pub data KeeperSaysIn {S W : Type 0} (keeping : Keeping S) (draws : W → DrawsState) (k : Mechanism)
    (w : World) (side : Side) (content : Content) (old new : S) (start now : DiskState) (source left : W) : Outcome → Type 0 where
  acted : (outcome : Outcome) (draw : Option (List ℕ))
      → KeeperDraws keeping draws old content source left draw
      → (keeping.closed old ≡ None → IsFairAct k w side (saying content draw))
      → KeeperActsIn keeping k w side (saying content draw) old new start now outcome
      → KeeperSaysIn keeping draws k w side content old new start now source left outcome
  stayed : keeper_asks_seed keeping old content ≡ true
      → Rose (draws source).faults (draws left).faults
      → (draws left).coming ≡ (draws source).coming → new ≡ old
      → KeeperSaysIn keeping draws k w side content old new start now source left undrawn

-- ---- of a client

abbrev pub asks_seed : ClientNow → Content → Bool
asks_seed = keeper_asks_seed client_keeping

abbrev pub SaysWithDraw : {X W : Type 0} → (X → DiskState) → (W → DrawsState) → Mechanism → Content
    → ClientNow → ClientNow → X → X → W → W → Result Position SayRefusal → Type 0
SaysWithDraw state draws k content old new start now source left result =
    KeeperSaysWithDraw client_keeping state draws k content old new start now source left result

abbrev pub IsSeedDrawn : {W : Type 0} → (W → DrawsState) → ClientNow → Content → W → W → Option (List ℕ)
    → Type 0
IsSeedDrawn draws client content source left draw =
    KeeperDraws client_keeping draws client content source left draw

abbrev pub SaysIn : {W : Type 0} → (W → DrawsState) → Mechanism → World → Side → Content
    → ClientNow → ClientNow → DiskState → DiskState → W → W → Outcome → Type 0
SaysIn draws k w side content old new start now source left outcome =
    KeeperSaysIn client_keeping draws k w side content old new start now source left outcome
