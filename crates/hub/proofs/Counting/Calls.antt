-- A hub's fan over the stand-in, in numbers.
use Rattle.std.proofs.Common.{Bool, Err, List, None, Ok, Result, Some, ap, ap₂, arith, false, get_or, not, refl, subst, sym, true, ℕ, ◌+◌, ◌∙◌, ◌≡◌, ◌≤◌}
use Rattle.std.specs.Prelude.{Option, if◌then◌else◌, length, nat_le, ◌==◌, ◌||◌}
use Rattle.std.proofs.lemmas.Bool.Decides.{nat_tests}
use Rattle.book.proofs.Stored.{stored_at}
use Rattle.book.specs.Rows.{stored_row}
use Rattle.book_store.specs.Shown.{BookRow, absent}
use Rattle.book_store.specs.Store.{all_drops}
use Rattle.book_store.specs.declared.layout.TheConstants.{BOOK_ROWS}
use Rattle.dr_disk.specs.declared.call.Mode.{Mode}
use Rattle.dr_ports.specs.Ports.{appended}
use Rattle.dr_ports.specs.States.{SinkState}
use Rattle.dr_ports.specs.Writing.{TookBeginning}
use Rattle.book.specs.Fans.{fanned_store}
use Rattle.client.specs.Beginning.{begun_client}
use Rattle.kem_laws.specs.Mechanism.{IsLawfulMechanism}
use Rattle.kem_laws.specs.Open.{open_kem}
use Rattle.pages.specs.Stops.{put_took, puts, retires}
use Rattle.hub.specs.Leaving.{HubFan, PlaysOver, fan_in, hub_calls, hub_lines, hub_writes}
use Rattle.hub.specs.Lines.{told_lines}
use Rattle.hub.specs.Peers.{hub_begin, hub_rows}
use Rattle.hub.specs.Plays.{AllAreAsked, PlaysFan, fan_calls, fan_told}
use Rattle.hub.specs.declared.playing.FanPlayError.{FanPlayError}
use Rattle.hub.specs.declared.playing.FanPlayError.TheVariants.{Memory, NoPair, Peer, Write}
use Rattle.hub.proofs.Counting.Drops.{drops_are, turn_stays}
use Rattle.hub.proofs.Counting.Writes.{writes_are}
use Rattle.hub.proofs.Names.{row_at_place}

module _ (law : IsLawfulMechanism open_kem) (peers : ℕ) (first : 1 ≤ peers) (few : peers ≤ 8) (hub : HubFan open_kem peers) where
  -- a book with a row has an open table
  row_held : (row : BookRow) × (get_or hub.store.held 0 None ≡ Some row)
  row_held = (
    _,
    ap (λ (l : List (Option BookRow)). get_or l 0 None) hub.holds
        ∙ stored_at (hub_rows open_kem peers) 0
        ∙ ap stored_row (row_at_place (λ number. begun_client open_kem (hub_begin number)) peers 0 (omega (arith, first))),
  )

  none_absent : get_or (absent BOOK_ROWS) 0 None ≡ None
  none_absent = refl

  replaces : not (hub.store.mark.turn == 0) ≡ true
  replaces = by (hub.store.mark.turn == 0) refl
    where
      by : (b : Bool) → (hub.store.mark.turn == 0) ≡ b → not (hub.store.mark.turn == 0) ≡ true
      by false is = ap not is
      by true is =
          let zero_turn : hub.store.mark.turn ≡ 0 = grind (arith, nat_tests) in
          absurd (let e : None ≡ Some row_held.0 =
          sym none_absent ∙ ap (λ (l : List (Option BookRow)). get_or l 0 None) (sym (hub.marked.none zero_turn)) ∙ row_held.1 in
          cc)

  writes_is : hub_writes open_kem peers hub ≡ peers
  writes_is = writes_are law peers few hub peers (omega arith)

  calls_is : hub_calls open_kem peers hub ≡ fan_calls peers
  calls_is =
      ap (λ n. puts n + (if not ((fanned_store open_kem (fan_in open_kem peers hub) hub.store peers).mark.turn == 0)
      then retires (length (all_drops (fanned_store open_kem (fan_in open_kem peers hub) hub.store peers))) else 0)) writes_is
      ∙ ap (λ n. puts peers + (if not (n == 0)
      then retires (length (all_drops (fanned_store open_kem (fan_in open_kem peers hub) hub.store peers))) else 0))
      (turn_stays law peers few hub peers)
      ∙ ap (λ b. puts peers + (if b
      then retires (length (all_drops (fanned_store open_kem (fan_in open_kem peers hub) hub.store peers))) else 0)) replaces
      ∙ ap (λ n. puts peers + retires n) (drops_are law peers few hub)

  lines_is : (after : ℕ) (mode : Mode) → hub_lines open_kem peers after mode hub ≡ fan_told peers after mode
  lines_is after mode =
      ap₂ (λ calls writes. told_lines peers (nat_le calls after) (nat_le calls after || put_took writes after mode))
      calls_is writes_is

-- what it comes to
all_asked : (peers : ℕ) → HubFan open_kem peers → AllAreAsked open_kem peers
all_asked peers hub = record { seeds = hub.seeds; left = hub.left; asked = hub.asked }

pub plays_in_numbers : (law : IsLawfulMechanism open_kem) (peers : ℕ) → 1 ≤ peers → peers ≤ 8 → (after : ℕ) (mode : Mode)
    (old new : SinkState) (result : Result Unit FanPlayError) → PlaysOver open_kem peers after mode old new result
    → PlaysFan open_kem peers after mode old new result
plays_in_numbers law peers first few after mode old new (Ok u) plays = (
  all_asked peers plays.0,
  plays.1,
  plays.2 ∙ ap (λ (l : List ℕ). appended old.taken l) (lines_is law peers first few plays.0 after mode),
  plays.3,
)
plays_in_numbers law peers first few after mode old new (Err Write) plays = (
  all_asked peers plays.0,
  subst (λ (l : List ℕ). TookBeginning old.taken new.taken l) (lines_is law peers first few plays.0 after mode) plays.1,
  plays.2,
)
plays_in_numbers law peers first few after mode old new (Err NoPair) plays = plays
plays_in_numbers law peers first few after mode old new (Err (Peer at refusal)) plays = plays
plays_in_numbers law peers first few after mode old new (Err Memory) plays = plays
