-- A row as it is laid out.
use Rattle.std.proofs.Common.{◌≡◌, ℕ, ◌+◌, ◌-◌, List, [], ◌∷◌, ◌++◌, length, take, drop, replicate, sym, ◌∙◌, ap, append_assoc, arith}
use Rattle.std.specs.Prelude.{slice_index}
use Rattle.std.specs.Int.{w32, to_be_bytes}
use Rattle.std.proofs.lemmas.List.{append-nil, drop_all, length-drop, take_more}
use borrow.Rule.Slice.PartMut.{put_mid}
use Rattle.record_pages.specs.Tables.{printed, table_body}
use Rattle.book_store.specs.Rows.{row_head}
use Rattle.book_store.specs.declared.layout.TheConstants.{RECORD_PLACE, TABLE_ROW}

-- all of a list from a place on is written
pub written_behind : (a : ℕ) (xs ys : List ℕ) → put_mid a (length xs - a) xs ys ≡ take a xs ++ ys
written_behind a xs ys =
    ap (λ (l : List ℕ). take a xs ++ (ys ++ l)) (drop_all (length xs - a) (drop a xs) (omega (arith, length-drop a xs)))
    ∙ ap (λ (l : List ℕ). take a xs ++ l) (append-nil ys)

-- a head, and behind it the table of a record in place of what stands there
pub laid : (row name : List ℕ) (len : ℕ) (numbers : List ℕ) (n : ℕ)
    → take (RECORD_PLACE + 1) row ≡ row_head name → length row ≡ TABLE_ROW
    → take RECORD_PLACE row ++ table_body (slice_index row RECORD_PLACE) len numbers n
    ≡ row_head name ++ (to_be_bytes w32 len ++ (printed numbers ++ replicate n 0))
laid row name len numbers n head long =
    let rest = to_be_bytes w32 len ++ (printed numbers ++ replicate n 0) in
    sym (append_assoc (take RECORD_PLACE row) (slice_index row RECORD_PLACE ∷ []) rest)
    ∙ ap (λ (l : List ℕ). l ++ rest) (sym (take_more row RECORD_PLACE 0 (omega arith)) ∙ head)
