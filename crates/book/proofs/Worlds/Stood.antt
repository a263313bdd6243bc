-- Worlds in which a book's sessions stand: at first none, then those that are begun.
use Rattle.std.proofs.Common.{Bool, List, None, Some, ap, false, refl, replicate, subst, suc, sym, true, zero, ℕ, ◌∙◌, ◌≡◌}
use Rattle.std.specs.Prelude.{if◌then◌else◌}
use Rattle.std.specs.Str.{bytes_eq}
use Rattle.bodies.specs.declared.format.Format.{Format}
use Rattle.book_model.proofs.Names.{begun_other, begun_same, same_is, same_self}
use Rattle.book_model.specs.Rows.{Rows, begun, is_full, under}
use Rattle.client.proofs.Beginnings.{kept_first}
use Rattle.client.specs.Beginning.{HasPair, begin_of, begun_client}
use Rattle.client.specs.declared.begin.Begin.{Begin}
use Rattle.dr_base.specs.Position.{peer_of}
use Rattle.dr_base.specs.declared.position.Side.{Side}
use Rattle.dr_base.specs.declared.position.Side.TheVariants.{First, Second}
use Rattle.dr_model.specs.Conversations.Formats.{Formats, formats_of}
use Rattle.dr_model.specs.Machines.WorldSides.{kept_in}
use Rattle.dr_model.specs.Machines.Worlds.{World, opening_world}
use Rattle.dr_model.specs.Theorems.LawfulWorlds.{IsLawfulWorld}
use Rattle.dr_model.proofs.Worlds.OpeningWorlds.{lawful_opening}
use Rattle.kem_laws.specs.Mechanism.{Mechanism}
use Rattle.session_model.specs.Clients.{Client}
use Rattle.book.specs.FanWorlds.{NamedWorlds, StandIn, with_begun}

-- those of both sides, whichever tells them
same_formats : (side : Side) (own peers : Format) → formats_of (peer_of side) peers own ≡ formats_of side own peers
same_formats First own peers = refl
same_formats Second own peers = refl

-- a book without a session
pub stands_none : (k : Mechanism) (rows : ℕ) (worlds : NamedWorlds) → StandIn k (replicate rows None) worlds
stands_none k zero worlds = λ name kept is. absurd (let e : None ≡ Some kept = is in cc)
stands_none k (suc rows) worlds = λ name kept is. stands_none k rows worlds name kept is

-- the peer of one that is begun
pub peer_first : (k : Mechanism) (name : List ℕ) (begin : Begin) (peers : Format) (worlds : NamedWorlds)
    → begun_client k (begin_of (peer_of begin.side) peers begin.key)
    ≡ kept_in k ((with_begun name begin peers worlds).world name) (peer_of begin.side)
peer_first k name begin peers worlds =
    kept_first k (begin_of (peer_of begin.side) peers begin.key) begin.format
    ∙ ap (λ (f : Formats). kept_in k (opening_world begin.key.bytes f) (peer_of begin.side))
    (same_formats begin.side begin.format peers)
    ∙ ap (λ b. kept_in k (if b then opening_world begin.key.bytes (formats_of begin.side begin.format peers)
    else worlds.world name) (peer_of begin.side)) (sym (same_self name))

module _ (k : Mechanism) (name : List ℕ) (begin : Begin) (peers : Format) (rows : Rows Client) (worlds : NamedWorlds)
    (pair : HasPair k begin) (fresh : under name rows ≡ None) (room : is_full rows ≡ false) (stands : StandIn k rows worlds) where
  abbrev first : World
  first = opening_world begin.key.bytes (formats_of begin.side begin.format peers)

  abbrev kept_now : Client
  kept_now = begun_client k begin

  pub stands_begun : StandIn k (begun name kept_now rows) (with_begun name begin peers worlds)
  stands_begun = λ other kept is. by other kept is (bytes_eq name other) refl
    where
      Stands : List ℕ → Client → Bool → Type 0
      Stands other kept b = IsLawfulWorld k (if b then first else worlds.world other)
          × (kept ≡ kept_in k (if b then first else worlds.world other) (if b then begin.side else worlds.side other))

      by : (other : List ℕ) (kept : Client) → under other (begun name kept_now rows) ≡ Some kept
          → (b : Bool) → bytes_eq name other ≡ b → Stands other kept (bytes_eq name other)
      by other kept is true at =
          let same : Some kept_now ≡ Some kept =
          sym (begun_same name kept_now rows fresh room)
          ∙ ap (λ (l : List ℕ). under l (begun name kept_now rows)) (same_is name other at) ∙ is in
          let now_is : kept_now ≡ kept = cc in
          subst (Stands other kept) (sym at) (
            lawful_opening k begin.key.bytes (formats_of begin.side begin.format peers) pair,
            sym now_is ∙ kept_first k begin peers,
          )
      by other kept is false at =
          subst (Stands other kept) (sym at)
          (stands other kept (sym (begun_other name other at kept_now rows) ∙ is))
