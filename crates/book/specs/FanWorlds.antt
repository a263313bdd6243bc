-- A book's sessions, each in a world of its own, and what a fan is in these.
use Rattle.std.specs.Prelude.{Err, List, Ok, Option, Result, Some, if◌then◌else◌, length, ℕ, ◌<◌, ◌≡◌, ◌≢◌}
use Rattle.std.specs.Str.{bytes_eq}
use Rattle.bodies.specs.declared.format.Format.{Format}
use Rattle.book_model.specs.Rows.{Rows, under}
use Rattle.boxes.specs.Posts.{Post}
use Rattle.client.specs.declared.begin.Begin.{Begin}
use Rattle.dr_base.specs.declared.key.Key32.{Key32}
use Rattle.dr_base.specs.declared.position.Side.{Side}
use Rattle.dr_model.specs.Conversations.Formats.{formats_of}
use Rattle.dr_model.specs.Machines.Acts.{Act}
use Rattle.dr_model.specs.Machines.WorldActs.{act_in}
use Rattle.dr_model.specs.Machines.WorldSides.{kept_in}
use Rattle.dr_model.specs.Machines.Worlds.{World, opening_world}
use Rattle.dr_model.specs.Theorems.Acting.{IsFairAct}
use Rattle.dr_model.specs.Theorems.LawfulWorlds.{IsLawfulWorld}
use Rattle.dr_model.specs.Theorems.Spoken.{IsSaidTo}
use Rattle.dr_ports.specs.States.{DrawsState}
use Rattle.kem_laws.specs.Mechanism.{Mechanism}
use Rattle.session_model.specs.Clients.{Client}
use Rattle.session_model.specs.Contents.{text_content}
use Rattle.session_model.specs.declared.answer.Answer.TheVariants.{Said}
use Rattle.book.specs.Books.{BookNow}
use Rattle.book.specs.FanStepping.{fan_act, fan_name}
use Rattle.book.specs.Fans.{AreAsked, Fan, fan_of}
use Rattle.book.specs.declared.refusals.FanRefusal.{FanRefusal}

-- ---- the worlds of sessions

-- for each name a world, and which side of it a session under the name is
pub record NamedWorlds : Type 0 where
  pub world : List ℕ → World
  pub side : List ℕ → Side

-- each session keeps what its side keeps in its world, which is lawful
abbrev pub StandIn : Mechanism → Rows Client → NamedWorlds → Type 0
StandIn k rows worlds = (name : List ℕ) (kept : Client) → under name rows ≡ Some kept
    → IsLawfulWorld k (worlds.world name)
    × (kept ≡ kept_in k (worlds.world name) (worlds.side name))

-- one of them has a beginning, that of its key, with a peer of this format
abbrev pub with_begun : List ℕ → Begin → Format → NamedWorlds → NamedWorlds
with_begun name begin peers worlds = record {
  world = λ other. if bytes_eq name other
      then opening_world begin.key.bytes (formats_of begin.side begin.format peers)
      else worlds.world other;
  side = λ other. if bytes_eq name other then begin.side else worlds.side other;
}

-- one of them is led on by an act of this side
abbrev pub with_acted : Mechanism → List ℕ → Side → Act → NamedWorlds → NamedWorlds
with_acted k name side act worlds = record {
  world = λ other. if bytes_eq name other then (act_in k (worlds.world name) side act).next
      else worlds.world other;
  side = worlds.side;
}

-- ---- a fan

-- its n-th session says the text, which leads its world on, and keeps what its side keeps then; and
-- the peer opens the packet to that text
pub record ReachesPeer (k : Mechanism) (fan : Fan) (rows : Rows Client) (n : ℕ) (side : Side)
    (w next : World) : Type 0 where
  pub fair : IsFairAct k w side (fan_act fan n)
  pub leads : next ≡ (act_in k w side (fan_act fan n)).next
  pub keeps : under (fan_name fan n) rows ≡ Some (kept_in k next side)
  pub post : Post
  pub answer : (act_in k w side (fan_act fan n)).answer ≡ Said post.position
  pub is : IsSaidTo k w next side (text_content fan.text) post

-- none of its sessions has this name
abbrev pub IsOutside : Fan → List ℕ → Type 0
IsOutside fan name = (n : ℕ) → n < length fan.list → fan_name fan n ≢ name

-- each of its sessions reaches its peer, and all other worlds stay
pub record ReachesAll (k : Mechanism) (fan : Fan) (rows : Rows Client)
    (before after : NamedWorlds) : Type 0 where
  pub reaches : (n : ℕ) → n < length fan.list → let name = fan_name fan n in
      ReachesPeer k fan rows n (before.side name) (before.world name) (after.world name)
  pub others : (name : List ℕ) → IsOutside fan name → after.world name ≡ before.world name
  pub sides : after.side ≡ before.side
  pub stand : StandIn k rows after

-- An Ok fan does, with what was drawn for it. Any other leaves all worlds.
abbrev pub FansToPeers : {W : Type 0} → (W → DrawsState) → Mechanism → List ℕ → List ℕ → BookNow
    → BookNow → W → W → NamedWorlds → Result Unit FanRefusal → Type 0
FansToPeers draws k text list old new source left worlds (Ok u) = (seeds : List (Option Key32))
    × AreAsked draws k text old.rows list source (length list) left seeds
    × ((after : NamedWorlds)
    × ReachesAll k (fan_of old.rows list text seeds) new.rows worlds after)
FansToPeers draws k text list old new source left worlds (Err refusal) =
    StandIn k new.rows worlds
