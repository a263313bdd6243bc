-- What a hub's fan comes to, by how it ended.
use Rattle.std.proofs.Common.{List, Ok, Option, Some, ap, if◌then◌else◌, length, subst, true, ℕ, ◌∙◌, ◌≡◌}
use Rattle.std.specs.Prelude.{nat_le, ◌||◌}
use Rattle.book.specs.Books.{BookNow, IsBookReady}
use Rattle.book.specs.Changing.{change_calls}
use Rattle.book.specs.Fanning.{FansIn}
use Rattle.book.specs.Fans.{AreAsked, fan_of, fanned_rows, fanned_store, fanned_writes}
use Rattle.book.specs.Rows.{stored}
use Rattle.book_model.specs.Rows.{Rows}
use Rattle.dr_base.specs.declared.key.Key32.{Key32}
use Rattle.dr_disk.specs.MemoryDisks.{state_of}
use Rattle.dr_disk.specs.State.{to_failure}
use Rattle.dr_disk.specs.declared.call.Mode.{Mode}
use Rattle.dr_disk.specs.declared.memory.MemoryDisk.{MemoryDisk}
use Rattle.dr_ports.specs.Memory.{Turning, turning_at}
use Rattle.kem_laws.specs.Mechanism.{Mechanism}
use Rattle.pages.specs.Stops.{put_took}
use Rattle.session_model.specs.Clients.{Client}
use Rattle.hub.specs.Peers.{first_draws, hello, hub_rows, places}
use Rattle.hub.specs.Held.{AreLawful}
use Rattle.hub.specs.Leaving.{HubFan, IsLeftOf, hub_calls, hub_writes}
use Rattle.hub.proofs.Placing.{places_long}
use Rattle.hub.proofs.Stopped.{IsCounted, many}

module _ (k : Mechanism) (peers after : ℕ) (mode : Mode) (old new : BookNow) (start now : MemoryDisk) (source left : Turning)
    (rows : old.rows ≡ hub_rows k peers) (ready : IsBookReady old (state_of start)) (is : source ≡ first_draws peers)
    (fails : to_failure (state_of start).fate ≡ Some after) (anew : (state_of start).passed ≡ Some 0)
    (count : old.store.rows ≡ peers) (lawful : AreLawful k old.rows) where
  -- the fan that was asked for
  unfoldable pub hub_of : (seeds : List (Option Key32))
      → AreAsked turning_at k hello old.rows (places peers) source (length (places peers)) left seeds → HubFan k peers
  hub_of seeds asked = record {
    lawful = subst (AreLawful k) rows lawful;
    store = old.store;
    count = count;
    marked = ready.rests.marked;
    dropped = ready.rests.dropped;
    holds = ready.holds ∙ ap stored rows;
    seeds = seeds;
    left = left;
    asked = subst (λ (s : Turning). AreAsked turning_at k hello (hub_rows k peers) (places peers) s peers left seeds) is
        (subst (λ n. AreAsked turning_at k hello (hub_rows k peers) (places peers) source n left seeds) (places_long peers)
        (subst (λ (r : Rows Client). AreAsked turning_at k hello r (places peers) source (length (places peers)) left seeds) rows
        asked));
  }

  pub calls_are : (seeds : List (Option Key32))
      → (asked : AreAsked turning_at k hello old.rows (places peers) source (length (places peers)) left seeds)
      → change_calls (fanned_writes k (fan_of old.rows (places peers) hello seeds) old.store (length (places peers)))
      (fanned_store k (fan_of old.rows (places peers) hello seeds) old.store (length (places peers)))
      ≡ hub_calls k peers (hub_of seeds asked)
  unfolding hub_of
  calls_are seeds asked =
      ap (λ (r : Rows Client). change_calls (fanned_writes k (fan_of r (places peers) hello seeds) old.store (length (places peers)))
      (fanned_store k (fan_of r (places peers) hello seeds) old.store (length (places peers)))) rows
      ∙ ap (λ n. change_calls (fanned_writes k (fan_of (hub_rows k peers) (places peers) hello seeds) old.store n)
      (fanned_store k (fan_of (hub_rows k peers) (places peers) hello seeds) old.store n)) (places_long peers)

  -- it was acknowledged
  pub acknowledged : FansIn state_of turning_at k hello (places peers) old new start now source left (Ok tt)
      → IsCounted (state_of now) → IsLeftOf k peers after mode true new.rows
  unfolding hub_of
  acknowledged fans told =
      let seeds = fans.2.0 in
      let asked = fans.2.1 in
      let out = fans.2.2 in
      let hub = hub_of seeds asked in
      let enough = many (fanned_writes k (fan_of old.rows (places peers) hello seeds) old.store (length (places peers))) after
      (fanned_store k (fan_of old.rows (places peers) hello seeds) old.store (length (places peers))) new.store old.store.held
      start now fails anew out.changes.takes told in
      let calls : true ≡ nat_le (hub_calls k peers hub) after = subst (λ n. true ≡ nat_le n after) (calls_are seeds asked) enough in
      record {
        hub = hub;
        acknowledged_is = calls;
        rows_are = out.changes.rows
            ∙ ap (λ (r : Rows Client). fanned_rows k (fan_of r (places peers) hello seeds) (length (places peers))) rows
            ∙ ap (λ n. fanned_rows k (fan_of (hub_rows k peers) (places peers) hello seeds) n) (places_long peers)
            ∙ ap (λ b. if b || put_took (hub_writes k peers hub) after mode
            then fanned_rows k (fan_of (hub_rows k peers) (places peers) hello seeds) peers else hub_rows k peers) calls;
      }
