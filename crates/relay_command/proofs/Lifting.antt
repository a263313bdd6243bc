-- What was served after an opening.
use Rattle.std.proofs.Common.{◌≡◌, inl, inr, ⊎_elim, ℕ, List, [], ◌∷◌, ◌++◌, length, subst, sym, ◌∙◌, arith}
use Rattle.dr_disk.specs.Spans.{IsQuiet, Span}
use Rattle.dr_disk.specs.State.{DiskState}
use Rattle.dr_disk.proofs.Steps.{quiet_twice, spans, widen}
use Rattle.dr_ports.specs.Wires.{Port}
use Rattle.dr_ports.specs.declared.pipe.Part.TheVariants.{Gate}
use Rattle.endings.specs.declared.ending.Ending.{Ending}
use Rattle.relay_core.specs.declared.spec.BoxSpec.{BoxSpec}
use Rattle.relay_server.specs.Places.{IsSameBehind, SameBehind}
use Rattle.relay_server.specs.Opening.{IsOpening}
use Rattle.relay_server.proofs.Behind.{behind_twice}
use Rattle.relay_command.specs.Connections.{Connection, HasRisen, ConnectionStanding}
use Rattle.relay_command.specs.Serving.{HaveCome, ServesConnections, WereServed, was_stopped, was_unaccepted, went_on}
use Rattle.relay_command.proofs.Rounds.{never}

module _ (specs : List BoxSpec) (turns : List Connection → Type 0) (s : ConnectionStanding) (start mid now : DiskState) (from door : Port) (sized : length s.boxes ≡ length specs) (span : Span start mid (IsOpening specs start)) (quiet : IsQuiet start mid) where
  -- what an opening leaves after the areas
  same_behind : (c : List ℕ) → IsOpening specs start c → IsSameBehind (length s.boxes) start c
  same_behind c is = (is.entry, is.image, subst (λ (n : ℕ). SameBehind n is.entry c) (sym sized) is.outside)

  since_then : (c : List ℕ) → IsSameBehind (length s.boxes) mid c → IsSameBehind (length s.boxes) start c
  since_then c frame = ⊎_elim
      (λ was. (frame.0, was, frame.2))
      (λ is. let first = same_behind frame.0 is in (first.0, first.1, behind_twice (length s.boxes) first.0 frame.0 c first.2 frame.2))
      (span.last frame.0 frame.1)

  lift_come : (xs : List Connection) → HaveCome never turns s xs mid now door → HaveCome (IsOpening specs start) turns s xs start now door
  lift_come xs come = record {
    told = come.told;
    faults = come.faults;
    in_turn = come.in_turn;
    during = spans start mid now _
        (widen start mid _ _ (λ c is. (inl is, same_behind c is)) span)
        (widen mid now _ _ (λ c is. (⊎_elim (λ none. absurd none) (λ was. inr was) is.0, since_then c is.1)) come.during);
  }

  lift_served : (xs : List Connection) → WereServed never turns s xs mid now door → WereServed (IsOpening specs start) turns s xs start now door
  lift_served xs were = record {
    come = lift_come xs were.come;
    each = were.each;
    rests = were.rests;
    quiet = quiet_twice start mid now quiet were.quiet;
  }

-- they come once the door listens
module _ (specs : List BoxSpec) (turns : List Connection → Type 0) (s : ConnectionStanding) (start mid now : DiskState) (from heard door : Port) (sized : length s.boxes ≡ length specs)
    (span : Span start mid (IsOpening specs start)) (quiet : IsQuiet start mid) (gate_is : heard.faults Gate ≡ from.faults Gate) (port count code : ℕ) where
  abbrev served : (xs : List Connection) → WereServed never turns s xs mid now door → WereServed (IsOpening specs start) turns s xs start now door
  served = lift_served specs turns s start mid now from door sized span quiet

  pub lift : (ending : Ending) (lines : List ℕ) → ServesConnections never turns s port count mid now heard door code ending lines
      → ServesConnections (IsOpening specs start) turns s port count start now from door code ending lines
  lift ending lines (was_unaccepted xs were less rose) = was_unaccepted xs (served xs were) less (subst (λ (n : ℕ). HasRisen n (door.faults Gate)) gate_is rose)
  lift ending lines (was_stopped xs x call come each stopped less rose gate) =
      was_stopped xs x call (lift_come specs turns s start mid now from door sized span quiet (xs ++ x ∷ []) come) each stopped less
      (let counts = span.counts call in omega (arith, rose, counts)) (gate ∙ gate_is)
  lift ending lines (went_on xs were most full gate) = went_on xs (served xs were) most full (gate ∙ gate_is)
