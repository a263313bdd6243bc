-- The lines of items, written one after another.
use Rattle.std.proofs.Common.{◌≡◌, ℕ, ◌+◌, ◌<◌, List, [], ◌∷◌, ◌++◌, length, take, drop, get_or, Option, Err, sym, ◌∙◌, ap, subst, append-nil}
use Rattle.std.specs.Prelude.{flat_map}
use Rattle.std.proofs.lemmas.Grind.{flat_map-append}
use Rattle.std.proofs.lemmas.List.{take-append-drop, take_more}
use Rattle.dr_ports.specs.Ports.{appended}
use Rattle.dr_ports.specs.States.{SinkState}
use Rattle.dr_ports.specs.Writing.{Writes}
use Rattle.dr_ports.proofs.Told.{appended-appended}
use Rattle.dr_ports.proofs.WritingLemmas.{writes_behind, writes_first}

one_line : {A : Type 0} (line : A → List ℕ) (item : A) → flat_map line (item ∷ []) ≡ line item
one_line line item = append-nil (line item)

-- the lines of the items so far, with one item more
lines_next : {A : Type 0} (line : A → List ℕ) (items : List A) (i : ℕ) (d : A) → i < length items
    → flat_map line (take (i + 1) items) ≡ flat_map line (take i items) ++ line (get_or items i d)
lines_next line items i d h =
    ap (flat_map line) (take_more items i d h) ∙ flat_map-append line (take i items) (get_or items i d ∷ [])
    ∙ ap (λ more. flat_map line (take i items) ++ more) (one_line line (get_or items i d))

-- and those of the items after
lines_whole : {A : Type 0} (line : A → List ℕ) (items : List A) (i : ℕ) (d : A) → i < length items
    → flat_map line items ≡ (flat_map line (take i items) ++ line (get_or items i d)) ++ flat_map line (drop (i + 1) items)
lines_whole line items i d h =
    ap (flat_map line) (sym (take-append-drop (i + 1) items)) ∙ flat_map-append line (take (i + 1) items) (drop (i + 1) items)
    ∙ ap (λ lines. lines ++ flat_map line (drop (i + 1) items)) (lines_next line items i d h)

-- a sink that took the lines so far, and then one more
pub took_line : {A : Type 0} (line : A → List ℕ) (old mid new : Option (List ℕ)) (items : List A) (i : ℕ) (d : A) → i < length items
    → mid ≡ appended old (flat_map line (take i items)) → new ≡ appended mid (line (get_or items i d))
    → new ≡ appended old (flat_map line (take (i + 1) items))
took_line line old mid new items i d h e f =
    f ∙ ap (λ m. appended m (line (get_or items i d))) e ∙ appended-appended old (flat_map line (take i items)) (line (get_or items i d))
    ∙ ap (appended old) (sym (lines_next line items i d h))

-- a sink that took the lines so far, and failed in the next
pub cut_in_lines : {A T E : Type 0} (line : A → List ℕ) (old mid new : SinkState) (items : List A) (i : ℕ) (d : A) (e : E)
    → i < length items → mid.taken ≡ appended old.taken (flat_map line (take i items)) → mid.faults ≡ old.faults
    → Writes {T = T} mid new (line (get_or items i d)) (Err e)
    → Writes {T = T} old new (flat_map line items) (Err e)
cut_in_lines {A} {T} {E} line old mid new items i d e h so_far same w =
    subst (λ lines. Writes {T = T} old new lines (Err e)) (sym (lines_whole line items i d h))
    (writes_first old new (flat_map line (take i items) ++ line (get_or items i d)) (flat_map line (drop (i + 1) items)) e
    (writes_behind old mid new (flat_map line (take i items)) (line (get_or items i d)) (Err e) so_far same w))
