-- What is made of a reply.
use Rattle.std.proofs.Common.{Bool, List, None, Some, [], ap, false, refl, subst, sym, true, ℕ, ◌+◌, ◌==◌, ◌∙◌, ◌≡◌}
use Rattle.std.specs.Prelude.{if◌then◌else◌}
use Rattle.std.proofs.lemmas.Bool.Decides.{nat_tests}
use Rattle.std.proofs.Common.{arith}
use Rattle.dr_disk.specs.declared.call.Call.{Call}
use Rattle.relay_wire.specs.Parts.{Lent}
use Rattle.relay_wire.specs.Replies.{acked, absent}
use Rattle.relay_wire.specs.Seen.{replied_of}
use Rattle.relay_wire.specs.declared.reply.Reply.{Reply}
use Rattle.relay_wire.specs.declared.reply.Reply.TheVariants.{Stored, Item, Empty, Acked, BoxFull, Unknown, Absent, Bad, Denied}
use Rattle.relay_guard.specs.declared.guard.Denied.{Denied as DeniedBy}
use Rattle.session_model.specs.Clients.{Client}
use Rattle.sync_model.specs.Moves.{Ending, Move, Wait, acking, acknowledged, fetching, goes, move, over, posting, waits_by, wrong}
use Rattle.sync_model.specs.Parties.{Party}
use Rattle.sync_model.specs.declared.limits.TheConstants.{ITEM_LIMIT}
use Rattle.sync_model.specs.declared.more.More.{More}
use Rattle.sync_model.specs.declared.more.More.TheVariants.{More as MoreStands}
use Rattle.client.specs.Clients.{ClientNow, IsReady}
use Rattle.client.specs.Syncing.Moments.{BrokenOff, Moment, Moved, Wrote, WroteBeginning}
use Rattle.client.specs.Syncing.Rounds.{Idles, IsUnmoved, RoundEnd, MovesTo, came_to_end, sync_fault_of, goes_on, idles_on, idles_to_end, stops, was_unstored, was_unwritten, went_on}
use Rattle.client.specs.declared.syncing.faults.SyncFault.{SyncFault}
use Rattle.client.specs.declared.syncing.faults.SyncFault.TheVariants.{Peer, Store, Write}
use Rattle.client.proofs.Syncs.Moving.{none_passed, still, wrote_nothing}
use Rattle.relay_pipe.specs.declared.faults.PeerKind.TheVariants.{Wrong}

-- ---- a move, by its parts

module _ (m : Move Client) (state : Client) (is : m.state ≡ state) (a b : Moment) where
  pub turns_on : (lines : List ℕ) (next : Wait) → m.lines ≡ lines → m.wait ≡ next → Moved state a b → Wrote lines a b → MovesTo m a b (goes_on next)
  turns_on lines next lines_are waits moved wrote =
      went_on next waits (subst (λ (s : Client). Moved s a b) (sym is) moved) (subst (λ (l : List ℕ). Wrote l a b) (sym lines_are) wrote)

  pub turns_to_end : (ending : Ending) (fault : SyncFault) → m.lines ≡ [] → m.wait ≡ over ending → sync_fault_of ending ≡ Some fault → Moved state a b → Wrote [] a b
      → MovesTo m a b (stops fault)
  turns_to_end ending fault lines_are waits called moved wrote =
      came_to_end ending fault waits called (subst (λ (s : Client). Moved s a b) (sym is) moved) (subst (λ (l : List ℕ). Wrote l a b) (sym lines_are) wrote)

  pub turns_unwritten : (lines : List ℕ) → m.lines ≡ lines → Moved state a b → WroteBeginning lines a b → MovesTo m a b (stops Write)
  turns_unwritten lines lines_are moved wrote =
      was_unwritten (subst (λ (s : Client). Moved s a b) (sym is) moved) (subst (λ (l : List ℕ). WroteBeginning l a b) (sym lines_are) wrote)

  pub turns_unstored : (call : Call) → BrokenOff state call a b → Wrote [] a b → MovesTo m a b (stops (Store call))
  turns_unstored call broken wrote = was_unstored call (subst (λ (s : Client). BrokenOff s call a b) (sym is) broken) wrote

-- a move that asks for nothing, where nothing was done
pub idle_turns : (p : Party Client) (a b : Moment) (m : Move Client) (turn : RoundEnd) → Idles p a.client.kept m turn → IsUnmoved a b → MovesTo m a b turn
idle_turns p a b m turn (idles_on next is) still =
    turns_on m a.client.kept (ap (λ (x : Move Client). x.state) is) a b [] next (ap (λ (x : Move Client). x.lines) is) (ap (λ (x : Move Client). x.wait) is) still.0 still.1
idle_turns p a b m turn (idles_to_end ending fault is called) still =
    turns_to_end m a.client.kept (ap (λ (x : Move Client). x.state) is) a b ending fault (ap (λ (x : Move Client). x.lines) is) (ap (λ (x : Move Client). x.wait) is) called still.0 still.1

-- ---- an acknowledgement

module _ (p : Party Client) (s : Client) (n number : ℕ) where
  waits_so : (test : Bool) (x y : Wait) → (if test then goes p s x else goes p s y) ≡ goes p s (if test then goes p s x else goes p s y).wait
  waits_so true x y = refl
  waits_so false x y = refl

  acknowledged_goes : acknowledged p s n ≡ goes p s (acknowledged p s n).wait
  acknowledged_goes = waits_so (n + 1 == ITEM_LIMIT) (waits_by (p.outbox s) MoreStands) (fetching (n + 1))

  pub idle_acked : Idles p s (move p s (acking n number) acked) (goes_on (acknowledged p s n).wait)
  idle_acked = idles_on (acknowledged p s n).wait acknowledged_goes

  absent_is : (other : ℕ) (test : Bool) → (other == number) ≡ test
      → move p s (acking n number) (absent other) ≡ (if test then acknowledged p s n else goes p s (over wrong))
  absent_is other test is = ap (λ (b : Bool). if b then acknowledged p s n else goes p s (over wrong)) is

  pub idle_absent : (other : ℕ) → other ≡ number → Idles p s (move p s (acking n number) (absent other)) (goes_on (acknowledged p s n).wait)
  idle_absent other same =
      let is : (other == number) ≡ true = grind (arith, nat_tests, same) in
      idles_on (acknowledged p s n).wait (absent_is other true is ∙ acknowledged_goes)

  pub idle_other : (other : ℕ) → (other ≡ number → ⊥) → Idles p s (move p s (acking n number) (absent other)) (stops (Peer 2 Wrong))
  idle_other other differs =
      let is : (other == number) ≡ false = grind (arith, nat_tests, differs) in
      idles_to_end wrong (Peer 2 Wrong) (absent_is other false is) refl

  pub idle_wrong : (reply : Reply) → (reply ≡ Acked → ⊥) → (reply ≡ Unknown → ⊥) → ((other : ℕ) → reply ≡ Absent other → ⊥)
      → ((d : DeniedBy) → reply ≡ Denied d → ⊥)
      → Idles p s (move p s (acking n number) (replied_of reply)) (stops (Peer 2 Wrong))
  idle_wrong (Stored m) not_acked not_unknown not_absent not_denied = idles_to_end wrong (Peer 2 Wrong) refl refl
  idle_wrong (Item m packet) not_acked not_unknown not_absent not_denied = idles_to_end wrong (Peer 2 Wrong) refl refl
  idle_wrong Empty not_acked not_unknown not_absent not_denied = idles_to_end wrong (Peer 2 Wrong) refl refl
  idle_wrong Acked not_acked not_unknown not_absent not_denied = absurd (not_acked refl)
  idle_wrong BoxFull not_acked not_unknown not_absent not_denied = idles_to_end wrong (Peer 2 Wrong) refl refl
  idle_wrong Unknown not_acked not_unknown not_absent not_denied = absurd (not_unknown refl)
  idle_wrong (Absent m) not_acked not_unknown not_absent not_denied = absurd (not_absent m refl)
  idle_wrong (Bad kind) not_acked not_unknown not_absent not_denied = idles_to_end wrong (Peer 2 Wrong) refl refl
  idle_wrong (Denied d) not_acked not_unknown not_absent not_denied = absurd (not_denied d refl)

  -- ---- of a fetch and of a post

  pub fetched_wrong : (reply : Reply) → (reply ≡ Empty → ⊥) → (reply ≡ Unknown → ⊥) → ((m : ℕ) (packet : Lent) → reply ≡ Item m packet → ⊥)
      → ((d : DeniedBy) → reply ≡ Denied d → ⊥)
      → Idles p s (move p s (fetching n) (replied_of reply)) (stops (Peer 2 Wrong))
  fetched_wrong (Stored m) not_empty not_unknown not_item not_denied = idles_to_end wrong (Peer 2 Wrong) refl refl
  fetched_wrong (Item m packet) not_empty not_unknown not_item not_denied = absurd (not_item m packet refl)
  fetched_wrong Empty not_empty not_unknown not_item not_denied = absurd (not_empty refl)
  fetched_wrong Acked not_empty not_unknown not_item not_denied = idles_to_end wrong (Peer 2 Wrong) refl refl
  fetched_wrong BoxFull not_empty not_unknown not_item not_denied = idles_to_end wrong (Peer 2 Wrong) refl refl
  fetched_wrong Unknown not_empty not_unknown not_item not_denied = absurd (not_unknown refl)
  fetched_wrong (Absent m) not_empty not_unknown not_item not_denied = idles_to_end wrong (Peer 2 Wrong) refl refl
  fetched_wrong (Bad kind) not_empty not_unknown not_item not_denied = idles_to_end wrong (Peer 2 Wrong) refl refl
  fetched_wrong (Denied d) not_empty not_unknown not_item not_denied = absurd (not_denied d refl)

pub posted_wrong : (p : Party Client) (s : Client) (which : More) (reply : Reply) → (reply ≡ BoxFull → ⊥) → (reply ≡ Unknown → ⊥) → ((m : ℕ) → reply ≡ Stored m → ⊥)
    → ((d : DeniedBy) → reply ≡ Denied d → ⊥)
    → Idles p s (move p s (posting which) (replied_of reply)) (stops (Peer 2 Wrong))
posted_wrong p s which (Stored m) not_full not_unknown not_stored not_denied = absurd (not_stored m refl)
posted_wrong p s which (Item m packet) not_full not_unknown not_stored not_denied = idles_to_end wrong (Peer 2 Wrong) refl refl
posted_wrong p s which Empty not_full not_unknown not_stored not_denied = idles_to_end wrong (Peer 2 Wrong) refl refl
posted_wrong p s which Acked not_full not_unknown not_stored not_denied = idles_to_end wrong (Peer 2 Wrong) refl refl
posted_wrong p s which BoxFull not_full not_unknown not_stored not_denied = absurd (not_full refl)
posted_wrong p s which Unknown not_full not_unknown not_stored not_denied = absurd (not_unknown refl)
posted_wrong p s which (Absent m) not_full not_unknown not_stored not_denied = idles_to_end wrong (Peer 2 Wrong) refl refl
posted_wrong p s which (Bad kind) not_full not_unknown not_stored not_denied = idles_to_end wrong (Peer 2 Wrong) refl refl
posted_wrong p s which (Denied d) not_full not_unknown not_stored not_denied = absurd (not_denied d refl)

-- ---- a client that didn't change

-- nothing was done, nor written
pub still_again : (a : Moment) (client : ClientNow) → client ≡ a.client → a.client.closed ≡ None → IsReady a.client.kept a.client.store a.disk
    → IsUnmoved a (record a { client = client })
still_again a client same is_open ready =
    subst (λ (x : ClientNow). IsUnmoved a (record a { client = x })) (sym same) (still a.client a.disk is_open ready, wrote_nothing a a refl refl, none_passed a.disk)

-- a move that asks for nothing, over a reply
pub idles_again : (p : Party Client) (a : Moment) (client : ClientNow) (m : Move Client) (turn : RoundEnd) → Idles p a.client.kept m turn → client ≡ a.client
    → a.client.closed ≡ None → IsReady a.client.kept a.client.store a.disk → MovesTo m a (record a { client = client }) turn
idles_again p a client m turn idles same is_open ready = idle_turns p a (record a { client = client }) m turn idles (still_again a client same is_open ready)
