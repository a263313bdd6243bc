-- A text that is written escaped, piece by piece.
use Rattle.std.proofs.Common.{◌≡◌, ℕ, ◌+◌, List, ◌++◌, take, drop, Option, Result, Err, sym, ◌∙◌, ap, subst}
use Rattle.std.specs.Prelude.{flat_map}
use Rattle.std.proofs.Math.Seq.{take-add}
use Rattle.std.proofs.lemmas.Grind.{flat_map-append}
use Rattle.std.proofs.lemmas.List.{take-append-drop}
use Rattle.dr_ports.specs.Ports.{appended}
use Rattle.dr_ports.specs.States.{SinkState}
use Rattle.dr_ports.specs.Writing.{Writes}
use Rattle.dr_ports.proofs.Told.{appended-appended}
use Rattle.dr_ports.proofs.WritingLemmas.{writes_behind, writes_first}

module _ (line : ℕ → List ℕ) (text : List ℕ) (done size : ℕ) where
  -- the lines up to the end of a piece
  lines_on : flat_map line (take (done + size) text)
      ≡ flat_map line (take done text) ++ flat_map line (take size (drop done text))
  lines_on = ap (flat_map line) (take-add done size text) ∙ flat_map-append line (take done text) (take size (drop done text))

  -- and those behind it
  lines_all : flat_map line text
      ≡ (flat_map line (take done text) ++ flat_map line (take size (drop done text))) ++ flat_map line (drop (done + size) text)
  lines_all =
      ap (flat_map line) (sym (take-append-drop (done + size) text))
      ∙ flat_map-append line (take (done + size) text) (drop (done + size) text)
      ∙ ap (λ front. front ++ flat_map line (drop (done + size) text)) lines_on

  -- a sink that took a piece more
  pub took_piece : (old mid new : Option (List ℕ)) → mid ≡ appended old (flat_map line (take done text))
      → new ≡ appended mid (flat_map line (take size (drop done text)))
      → new ≡ appended old (flat_map line (take (done + size) text))
  took_piece old mid new e f =
      f ∙ ap (λ m. appended m (flat_map line (take size (drop done text)))) e
      ∙ appended-appended old (flat_map line (take done text)) (flat_map line (take size (drop done text)))
      ∙ ap (appended old) (sym lines_on)

  -- a sink that failed in a piece
  pub cut_in_piece : {T E : Type 0} (old mid new : SinkState) (e : E) → mid.taken ≡ appended old.taken (flat_map line (take done text))
      → mid.faults ≡ old.faults → Writes {T = T} mid new (flat_map line (take size (drop done text))) (Err e)
      → Writes {T = T} old new (flat_map line text) (Err e)
  cut_in_piece {T} {E} old mid new e so_far same w =
      subst (λ lines. Writes {T = T} old new lines (Err e)) (sym lines_all)
      (writes_first old new (flat_map line (take done text) ++ flat_map line (take size (drop done text)))
      (flat_map line (drop (done + size) text)) e
      (writes_behind old mid new (flat_map line (take done text)) (flat_map line (take size (drop done text))) (Err e) so_far same w))

-- bytes that are written are these
pub writes_these : {T E : Type 0} (old new : SinkState) (bytes these : List ℕ) (result : Result T E) → bytes ≡ these
    → Writes old new bytes result → Writes old new these result
writes_these old new bytes these result same w = subst (λ b. Writes old new b result) same w
