-- What a hub's fan leaves that was cut off.
use Rattle.std.proofs.Common.{Bool, Err, List, Option, Some, ap, arith, false, if◌then◌else◌, length, refl, subst, true, ℕ, ◌∙◌, ◌≡◌}
use Rattle.std.specs.Prelude.{nat_le, ◌||◌}
use Rattle.book.proofs.Fanning.Asked.{all_say}
use Rattle.book.proofs.Worlds.Drawn.{asked_whole}
use Rattle.book.proofs.Fanning.Fanned.{held_is, rows_long as fanned_long, store_rows}
use Rattle.book.specs.Books.{BookNow, IsBookReady}
use Rattle.book.specs.Fanning.{FansOut}
use Rattle.book.specs.Fans.{AllSay, AreAsked, AreListed, Fan, IsFanList, fan_of, fanned_rows, fanned_store, fanned_writes}
use Rattle.book.specs.Rows.{stored}
use Rattle.book_model.specs.Rows.{Rows}
use Rattle.book_store.specs.Committing.{HasRows}
use Rattle.book_store.specs.Shown.{BookRow}
use Rattle.book_store.specs.Staging.{Rests}
use Rattle.book_store.specs.Store.{BookStore}
use Rattle.book_store.specs.declared.errors.StoreFault.{StoreFault}
use Rattle.client.specs.Beginning.{begun_client}
use Rattle.dr_base.specs.declared.key.Key32.{Key32}
use Rattle.dr_disk.specs.Memory.{left_by}
use Rattle.dr_disk.specs.MemoryDisks.{state_of}
use Rattle.dr_disk.specs.State.{Always, to_failure}
use Rattle.dr_disk.specs.declared.call.Mode.{Mode}
use Rattle.dr_disk.specs.declared.memory.MemoryDisk.{MemoryDisk}
use Rattle.dr_ports.specs.Memory.{Turning, turning_at}
use Rattle.kem_laws.specs.Mechanism.{IsLawfulMechanism, Mechanism}
use Rattle.pages.specs.Stops.{put_took}
use Rattle.session_model.specs.Clients.{Client}
use Rattle.hub.specs.Held.{AreLawful, LeavesRows}
use Rattle.hub.specs.Peers.{first_draws, hello, hub_begin, hub_rows, places}
use Rattle.hub.specs.Leaving.{HubFan, IsLeftOf, hub_calls, hub_writes}
use Rattle.hub.proofs.Blank.{RestsWithRows}
use Rattle.hub.proofs.Comes.{calls_are, hub_of}
use Rattle.hub.proofs.Names.{rows_long}
use Rattle.hub.proofs.Placing.{places_long}
use Rattle.hub.proofs.Saying.{fanned_lawful}
use Rattle.hub.proofs.Stopped.{left_rows, too_few}

-- a store at rest has its rows
stands : (resting : RestsWithRows) (store : BookStore) (c : List ℕ) → Rests store c → HasRows store.rows store.held c
unfolding Rests
stands resting store c rests = resting store.rows store.mark store.held c rests

module _ (k : Mechanism) (peers after : ℕ) (mode : Mode) (old new : BookNow) (start now : MemoryDisk) (source left : Turning)
    (rows : old.rows ≡ hub_rows k peers) (ready : IsBookReady old (state_of start)) (is : source ≡ first_draws peers)
    (fails : to_failure (state_of start).fate ≡ Some after) (anew : (state_of start).passed ≡ Some 0)
    (law : IsLawfulMechanism k) (resting : RestsWithRows) (count : old.store.rows ≡ peers) (lawful : AreLawful k old.rows)
    (fair : IsFanList (places peers)) (listed : AreListed old.rows (places peers)) (fault : StoreFault)
    (seeds : List (Option Key32))
    (asked : AreAsked turning_at k hello old.rows (places peers) source (length (places peers)) left seeds)
    (out : FansOut {T = Unit} k (fan_of old.rows (places peers) hello seeds) old new (state_of start) (state_of now) (Err fault)) where
  abbrev fan : Fan
  fan = fan_of old.rows (places peers) hello seeds

  abbrev all_places : ℕ
  all_places = length (places peers)

  abbrev staged : BookStore
  staged = fanned_store k fan old.store all_places

  abbrev writes : ℕ
  writes = fanned_writes k fan old.store all_places

  abbrev said : Rows Client
  said = fanned_rows k fan all_places

  -- what a crash leaves
  abbrev bytes : List ℕ
  bytes = left_by now.platter.durable.items now.platter.asked.items now.platter.marks.items mode

  -- the rows that it has
  abbrev pub rows_cut : Rows Client
  rows_cut = if put_took writes after mode then said else old.rows

  all : AllSay k fan
  all = all_say turning_at k hello old.rows (places peers) source left seeds asked fair listed

  counted : staged.rows ≡ peers
  counted = store_rows k fan all old.store all_places ∙ count

  held : staged.held ≡ stored said
  held = held_is k fan all old.store all_places (omega arith) ready.holds

  old_rows : Always (HasRows peers old.store.held) (state_of start)
  old_rows c image = subst (λ r. HasRows r old.store.held c) count (stands resting old.store c (ready.rests.rests c image))

  picked : (b : Bool) → HasRows peers (if b then staged.held else old.store.held) bytes
      → HasRows peers (stored (if b then said else old.rows)) bytes
  picked true has = subst (λ (h : List (Option BookRow)). HasRows peers h bytes) held has
  picked false has = subst (λ (h : List (Option BookRow)). HasRows peers h bytes) ready.holds has

  old_long : length old.rows ≡ peers
  old_long = ap (λ (r : Rows Client). length r) rows
      ∙ rows_long (λ number. begun_client k (hub_begin number)) peers peers (omega arith)

  long : (b : Bool) → length (if b then said else old.rows) ≡ peers
  long true = fanned_long k fan all all_places ∙ old_long
  long false = old_long

  kept : (b : Bool) → AreLawful k (if b then said else old.rows)
  kept true = fanned_lawful k fan law all lawful
      (λ n lt. asked_whole turning_at k hello old.rows (places peers) source all_places left seeds asked n lt) all_places (omega arith)
  kept false = lawful

  pub leaves : LeavesRows k peers rows_cut mode (state_of now)
  leaves = record {
    bytes = bytes;
    told = refl;
    long = long (put_took writes after mode);
    lawful = kept (put_took writes after mode);
    has = picked (put_took writes after mode)
        (left_rows writes after staged new.store old.store.held start now fails anew fault out.changes.takes mode bytes refl peers
        counted old_rows);
  }

  abbrev hub : HubFan k peers
  hub = hub_of k peers after mode old new start now source left rows ready is fails anew count lawful seeds asked

  cut_off : false ≡ nat_le (hub_calls k peers hub) after
  cut_off =
      subst (λ n. false ≡ nat_le n after)
      (calls_are k peers after mode old new start now source left rows ready is fails anew count lawful seeds asked)
      (too_few writes after staged new.store old.store.held start now fails anew fault out.changes.takes)

  pub left_of : (acknowledged : Bool) (found : Rows Client) → acknowledged ≡ false → found ≡ rows_cut
      → IsLeftOf k peers after mode acknowledged found
  unfolding hub_of
  left_of acknowledged found isnt has = record {
    hub = hub;
    acknowledged_is = isnt ∙ cut_off;
    rows_are = has
        ∙ ap (λ (r : Rows Client). if put_took (fanned_writes k (fan_of r (places peers) hello seeds) old.store all_places) after mode
        then fanned_rows k (fan_of r (places peers) hello seeds) all_places else r) rows
        ∙ ap (λ n. if put_took (fanned_writes k (fan_of (hub_rows k peers) (places peers) hello seeds) old.store n) after mode
        then fanned_rows k (fan_of (hub_rows k peers) (places peers) hello seeds) n else hub_rows k peers) (places_long peers)
        ∙ ap (λ b. if b || put_took (hub_writes k peers hub) after mode
        then fanned_rows k (fan_of (hub_rows k peers) (places peers) hello seeds) peers else hub_rows k peers) cut_off;
  }
