-- What a fan does in the worlds of a book's sessions, however it ends.
use Rattle.std.proofs.Common.{Err, List, Ok, Result, length, subst, sym, ℕ}
use Rattle.book_model.specs.Rows.{Rows}
use Rattle.dr_disk.specs.State.{DiskState}
use Rattle.dr_model.specs.Theorems.Acting.{ActsFollow}
use Rattle.dr_model.specs.Theorems.Spoken.{SaidIsOpened}
use Rattle.dr_ports.specs.States.{DrawsState}
use Rattle.kem_laws.specs.Mechanism.{Mechanism}
use Rattle.session_model.specs.Clients.{Client}
use Rattle.book.specs.Books.{BookNow, MayBookAct}
use Rattle.book.specs.FanWorlds.{FansToPeers, NamedWorlds, ReachesAll, StandIn}
use Rattle.book.specs.Fanning.{AsksAndFans, FansIn}
use Rattle.book.specs.Fans.{AreListed, IsFanList, fan_of}
use Rattle.book.specs.declared.refusals.FanRefusal.{FanRefusal}
use Rattle.book.specs.declared.refusals.FanRefusal.TheVariants.{Closed, Nobody, Peer, StoreFault as Faulted}
use Rattle.book.proofs.Fanning.Asked.{all_say}
use Rattle.book.proofs.Only.{only}
use Rattle.book.proofs.Worlds.Drawn.{asked_whole}
use Rattle.book.proofs.Worlds.Led.{named_after}
use Rattle.book.proofs.Worlds.Reached.{reaches_all}

module _ {W : Type 0} (draws : W → DrawsState) (k : Mechanism) (follow : ActsFollow k) (opens : SaidIsOpened k)
    (text list : List ℕ) (old new : BookNow) (source left : W) (fair : IsFanList list) (listed : AreListed old.rows list)
    (worlds : NamedWorlds) (stands : StandIn k old.rows worlds) where
  pub ok_reaches : (start end : DiskState) (u : Unit) → MayBookAct old start
      → AsksAndFans {T = Unit} draws k text list old new start end source left (Ok u)
      → FansToPeers draws k text list old new source left worlds (Ok u)
  ok_reaches start end u may did =
      let seeds = did.2.0 in
      let asked = did.2.1 in
      let fan = fan_of old.rows list text seeds in
      let all = all_say draws k text old.rows list source left seeds asked fair listed in
      let ready = may did.0 in
      let onlys = only old.rows old.store ready.holds ready.rests.marked in
      let whole = asked_whole draws k text old.rows list source (length list) left seeds asked in (
        seeds,
        asked,
        (
          named_after k fan worlds (length list),
          subst (λ (rows : Rows Client). ReachesAll k fan rows worlds
              (named_after k fan worlds (length list)))
              (sym did.2.2.changes.rows)
              (reaches_all k follow opens fan all whole onlys worlds stands),
        ),
      )

-- however it ends
pub fans_to_peers : {X W : Type 0} (state : X → DiskState) (draws : W → DrawsState) (k : Mechanism) (follow : ActsFollow k)
    (opens : SaidIsOpened k) (text list : List ℕ) (old new : BookNow) (start now : X) (source left : W) → IsFanList list
    → MayBookAct old (state start) → AreListed old.rows list → (worlds : NamedWorlds) → StandIn k old.rows worlds
    → (result : Result Unit FanRefusal) → FansIn state draws k text list old new start now source left result
    → FansToPeers draws k text list old new source left worlds result
fans_to_peers state draws k follow opens text list old new start now source left fair may listed worlds stands (Ok u) did =
    ok_reaches draws k follow opens text list old new source left fair listed worlds stands (state start) (state now) u may did
fans_to_peers state draws k follow opens text list old new start now source left fair may listed worlds stands (Err (Faulted call)) did =
    subst (λ (rows : Rows Client). StandIn k rows worlds) (sym did.2.2.changes.keeps) stands
fans_to_peers state draws k follow opens text list old new start now source left fair may listed worlds stands (Err (Closed call)) did =
    subst (λ (b : BookNow). StandIn k b.rows worlds) (sym did.1) stands
fans_to_peers state draws k follow opens text list old new start now source left fair may listed worlds stands (Err Nobody) did =
    subst (λ (b : BookNow). StandIn k b.rows worlds) (sym did.2) stands
fans_to_peers state draws k follow opens text list old new start now source left fair may listed worlds stands (Err (Peer at refusal)) did =
    subst (λ (b : BookNow). StandIn k b.rows worlds) (sym did.2) stands
