-- The texts of an inbox that the parts of a long text leave.
use Rattle.std.proofs.Common.{◌≡◌, ℕ, ◌+◌, Bool, true, false, List, [], ◌∷◌, ◌++◌, length, Some, take, refl, sym, ◌∙◌, ap, arith}
use Rattle.std.specs.List.{slice_get}
use Rattle.std.specs.Prelude.{filter, not, if◌then◌else◌}
use Rattle.std.proofs.lemmas.List.{length-append, take_more}
use Rattle.std.proofs.lemmas.List.Elements.{filter-append}
use Rattle.std.proofs.lemmas.Option.{slice_get_within, get_or_from_slice_get}
use Rattle.boxes.specs.Entries.{Entry, is_of}
use Rattle.grammar.specs.Printer.{print_items}
use Rattle.session_model.specs.Leaving.{left_in_inbox}
use Rattle.session_model.specs.declared.answer.Which.TheVariants.{OfId}
use Rattle.session_record.specs.Changes.{other_text}
use Rattle.session_record.specs.Lists.{entry_text}
use Rattle.session_record.specs.Versions.{newest}

-- what each has there, one after the other, is the text of those that are left
pub others_text : (id : ℕ) (inbox : List Entry)
    → print_items (other_text id) inbox ≡ print_items (entry_text newest) (left_in_inbox (OfId id) inbox)
unfolding print_items
others_text id [] = refl
others_text id (entry ∷ inbox) = by_test (is_of id entry) (others_text id inbox)
  where
    others : List Entry
    others = filter (λ one. not (is_of id one)) inbox

    by_test : (t : Bool) → print_items (other_text id) inbox ≡ print_items (entry_text newest) others
        → (if t then [] else entry_text newest entry) ++ print_items (other_text id) inbox
        ≡ print_items (entry_text newest) (if not t then entry ∷ others else others)
    by_test true later = later
    by_test false later = ap (λ (rest : List ℕ). entry_text newest entry ++ rest) later

-- one text more
pub left_next : (id : ℕ) (inbox : List Entry) (i : ℕ) (entry : Entry) → slice_get inbox i ≡ Some entry
    → length (left_in_inbox (OfId id) (take (i + 1) inbox))
    ≡ length (left_in_inbox (OfId id) (take i inbox)) + length (left_in_inbox (OfId id) (entry ∷ []))
left_next id inbox i entry here =
    let inside = slice_get_within inbox i entry here in
    let item = get_or_from_slice_get inbox i entry entry here in
    let stays : Entry → Bool = λ one. not (is_of id one) in
    ap (λ (list : List Entry). length (filter stays list)) (take_more inbox i entry inside ∙ ap (λ (one : Entry). take i inbox ++ one ∷ []) item)
    ∙ ap (λ (list : List Entry). length list) (filter-append stays (take i inbox) (entry ∷ []))
    ∙ length-append (filter stays (take i inbox)) (filter stays (entry ∷ []))
