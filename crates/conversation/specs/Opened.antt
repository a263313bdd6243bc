-- What a side has opened and its peer said.
use Rattle.std.specs.List.{slice_split}
use Rattle.std.specs.Prelude.{Contains, List, Some, codes, slice_get, true, ℕ, ◌+◌, ◌++◌, ◌<◌, ◌==◌, ◌≡◌, ◌≤◌}
use Rattle.answer_lines.specs.Answers.{position_text}
use Rattle.dr_base.specs.Position.{peer_of}
use Rattle.dr_base.specs.declared.position.Position.{Position}
use Rattle.dr_base.specs.declared.position.Side.{Side}
use Rattle.dr_disk.specs.State.{DiskState}
use Rattle.dr_model.specs.Conversations.Views.{has_opened}
use Rattle.dr_model.specs.Machines.Worlds.{view_of}
use Rattle.dr_ports.specs.States.{DrawsState}
use Rattle.endings.specs.declared.ending.Ending.{Ending}
use Rattle.kem_laws.specs.Mechanism.{Mechanism}
use Rattle.session_model.specs.Contents.{Content}
use Rattle.session_model.specs.declared.answer.Answer.TheVariants.{Said}
use Rattle.client.specs.Moments.{Known}
use Rattle.session_commands.specs.WholeRuns.{says}
use Rattle.conversation.specs.Answered.{HasAnswered}
use Rattle.conversation.specs.Joints.{Joint}
use Rattle.conversation.specs.Kept.{StandsOnce}
use Rattle.conversation.specs.Shown.{HasSynced}

-- Of what a side has opened by a moment, in the world of both, however it took it: a text, or a part
-- of a long one, that its peer said stands in its history once, in all that its disk may hold. It
-- stands as it was said.
abbrev pub HoldsOpened : {X Y W : Type 0} → (X → DiskState) → (Y → DiskState) → (W → DrawsState)
    → Mechanism → Side → List X → List Y → (ℕ → Joint) → Type 0
HoldsOpened {X = X} {W = W} state others draws k side moments peers joints =
    (said by at : ℕ) (content : Content) (source left : W) (p : Position) (now : X)
    → said < at → by ≤ at → slice_get moments at ≡ Some now
    → HasAnswered others draws k (peer_of side) peers joints said (says content source left) (Said p)
    → has_opened (view_of (joints by).world side) p ≡ true
    → (bytes : List ℕ) → (state now).image bytes → StandsOnce k side (joints at) p content bytes

-- The same of what the line `opened E.I` of a side's sync names.
abbrev pub HoldsSynced : {X Y W : Type 0} → (X → DiskState) → (Y → DiskState) → (W → DrawsState)
    → Mechanism → Side → List X → List Y → (ℕ → Joint) → Type 0
HoldsSynced {X = X} {W = W} state others draws k side moments peers joints =
    (said took at : ℕ) (content : Content) (source left : W) (p : Position) (now : X)
    (before : Known) (ending : Ending) (text : List ℕ)
    → said < at → took < at → slice_get moments at ≡ Some now
    → HasAnswered others draws k (peer_of side) peers joints said (says content source left) (Said p)
    → HasSynced side before (joints (took + 1)) ending text
    → Contains (slice_split (λ b. b == 10) text) (codes "opened " ++ position_text p)
    → (bytes : List ℕ) → (state now).image bytes → StandsOnce k side (joints at) p content bytes
