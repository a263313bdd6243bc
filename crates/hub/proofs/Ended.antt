-- A hub's fan, by how it ended.
use Rattle.std.proofs.Common.{Bool, Err, List, Ok, Result, ap, arith, false, length, refl, subst, sym, true, ℕ, ◌∙◌, ◌≡◌, ◌≤◌}
use Rattle.std.specs.Prelude.{IfOk}
use Rattle.book.specs.Books.{BookNow, IsBookReady}
use Rattle.book.specs.Fanning.{AsksInTurn, FansIn}
use Rattle.book.specs.Fans.{AreListed, IsFanList}
use Rattle.book.specs.declared.refusals.FanRefusal.{FanRefusal}
use Rattle.book.specs.declared.refusals.FanRefusal.TheVariants.{Nobody, Peer as PeerOf, StoreFault as Faulted}
use Rattle.book_model.specs.Rows.{Rows}
use Rattle.client.specs.declared.refusals.SayRefusal.{SayRefusal}
use Rattle.dr_disk.specs.MemoryDisks.{state_of, stopped_after}
use Rattle.dr_disk.specs.declared.call.Call.{Call}
use Rattle.dr_disk.specs.declared.call.Mode.{Mode}
use Rattle.dr_disk.specs.declared.memory.MemoryDisk.{MemoryDisk}
use Rattle.dr_ports.specs.Memory.{Turning, turning_at}
use Rattle.kem_laws.specs.Mechanism.{IsLawfulMechanism, Mechanism}
use Rattle.session_model.specs.Clients.{Client}
use Rattle.session_model.specs.declared.answer.Refusal.{Refusal}
use Rattle.hub.specs.Held.{AreLawful, IsHeld, LeavesRows, LeavesSessions}
use Rattle.hub.specs.Peers.{first_draws, hello, hub_rows, places}
use Rattle.hub.specs.Leaving.{IsLeftOf}
use Rattle.hub.specs.Plays.{IsRefusalOf, IsRefusedAt}
use Rattle.hub.proofs.Blank.{RestsWithRows}
use Rattle.hub.proofs.Comes.{acknowledged}
use Rattle.hub.proofs.Cut.{leaves, left_of, rows_cut}
use Rattle.hub.proofs.Placing.{places_at, places_long}
use Rattle.hub.proofs.Stopped.{IsCounted}

-- what two clauses of a result come to
pub if_left : {A E : Type 0} (r : Result A E) (P Q R : A → Type 0) → ((a : A) → P a → Q a → R a)
    → IfOk r P → IfOk r Q → IfOk r R
if_left (Ok a) P Q R each p q = each a p q
if_left (Err e) P Q R each p q = tt

pub places_fair : (n : ℕ) → n ≤ 8 → IsFanList (places n)
places_fair n le = record {
  few = omega (arith, places_long n, le);
  once = λ i j less lt same.
      let j_is = places_at n j (omega (arith, lt, places_long n)) in
      let i_is = places_at n i (omega (arith, less, lt, places_long n)) in
      let e : ⊥ = omega (arith, less, sym i_is ∙ same ∙ j_is) in e;
}

module _ (k : Mechanism) (peers after : ℕ) (old new : BookNow) (disk now : MemoryDisk) (source left : Turning) where
  abbrev start : MemoryDisk
  start = stopped_after after disk

  -- the fan that was made
  abbrev pub Fans : Result Unit FanRefusal → Type 0
  Fans = FansIn state_of turning_at k hello (places peers) old new start now source left

  pub fans_as : (was : BookNow) (list : List ℕ) (stopped : MemoryDisk) (given result : Result Unit FanRefusal)
      → was ≡ old → list ≡ places peers → stopped ≡ start → given ≡ result
      → FansIn state_of turning_at k hello list was new stopped now source left given → Fans result
  fans_as was list stopped given result same listed stops is fans =
      subst (λ (b : BookNow). FansIn state_of turning_at k hello (places peers) b new start now source left result) same
      (subst (λ (l : List ℕ). FansIn state_of turning_at k hello l was new start now source left result) listed
      (subst (λ (d : MemoryDisk). FansIn state_of turning_at k hello list was new d now source left result) stops
      (subst (λ (r : Result Unit FanRefusal). FansIn state_of turning_at k hello list was new stopped now source left r) is fans)))

  pub listed_as : (was : BookNow) (list : List ℕ) → was ≡ old → list ≡ places peers → AreListed was.rows list
      → AreListed old.rows (places peers)
  listed_as was list same is listed =
      subst (λ (b : BookNow). AreListed b.rows (places peers)) same
      (subst (λ (l : List ℕ). AreListed was.rows l) is listed)

  module _ (mode : Mode) (rows : old.rows ≡ hub_rows k peers) (held : IsHeld old.store.rows old disk)
      (is : source ≡ first_draws peers) where
    still_ready : IsBookReady old (state_of disk) → IsBookReady old (state_of start)
    still_ready ready = record {
      rests = record {
        few = ready.rests.few;
        within = ready.rests.within;
        unstaged = ready.rests.unstaged;
        dropped = ready.rests.dropped;
        marked = ready.rests.marked;
        rests = ready.rests.rests;
      };
      holds = ready.holds;
    }

    ready : IsBookReady old (state_of start)
    ready = still_ready held.is_open.1

    pub acknowledged_of : old.store.rows ≡ peers → AreLawful k old.rows → Fans (Ok tt) → IsCounted (state_of now)
        → IsLeftOf k peers after mode true new.rows
    acknowledged_of count lawful fans told =
        acknowledged k peers after mode old new start now source left rows ready is refl refl count lawful fans told

    module _ (law : IsLawfulMechanism k) (resting : RestsWithRows) (count : old.store.rows ≡ peers)
        (lawful : AreLawful k old.rows) (few : peers ≤ 8) (listed : AreListed old.rows (places peers)) (call : Call)
        (fans : Fans (Err (Faulted call))) where
      pub leaves_of : LeavesSessions k peers mode (state_of now)
      leaves_of = (
        rows_cut k peers after mode old new start now source left rows ready is refl refl law resting count lawful
            (places_fair peers few) listed (record { call = call }) fans.2.0 fans.2.1 fans.2.2,
        leaves k peers after mode old new start now source left rows ready is refl refl law resting count lawful
            (places_fair peers few) listed (record { call = call }) fans.2.0 fans.2.1 fans.2.2,
      )

      pub left_as : (cut : Bool) (found : Rows Client)
          → ((sessions : Rows Client) → LeavesRows k peers sessions mode (state_of now) → found ≡ sessions) → cut ≡ false
          → IsLeftOf k peers after mode cut found
      unfolding leaves_of
      left_as cut found opened isnt =
          left_of k peers after mode old new start now source left rows ready is refl refl law resting count lawful
          (places_fair peers few) listed (record { call = call }) fans.2.0 fans.2.1 fans.2.2 cut found isnt
          (opened leaves_of.0 leaves_of.1)

    pub refused_at : (at : ℕ) (refusal : SayRefusal) (end : Refusal) → Fans (Err (PeerOf at refusal))
        → IsRefusalOf refusal end → IsRefusedAt k peers at end
    refused_at at refusal end fans ends = record {
      said = refusal;
      is = ends;
      seeds = fans.1.0;
      left = left;
      asked = subst (λ (s : Turning). AsksInTurn turning_at k hello (hub_rows k peers) (places peers) s left fans.1.0
          (Err (PeerOf at refusal))) is
          (subst (λ (r : Rows Client). AsksInTurn turning_at k hello r (places peers) source left fans.1.0
          (Err (PeerOf at refusal))) rows fans.1.1);
    }

    pub not_nobody : 1 ≤ peers → Fans (Err Nobody) → ⊥
    not_nobody first fans =
        let e : ⊥ = omega (arith, first, places_long peers, ap (λ (l : List ℕ). length l) fans.1) in e
