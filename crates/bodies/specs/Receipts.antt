-- Receipts: which texts of the other side a side has opened. They stand in packets, so these are
-- texts of the opener, the side that opens the packet.
use Rattle.std.specs.Prelude.{ℕ, ◌-◌, ◌==◌, ◌%◌, ◌&&◌, ◌||◌, Bool, false, not, nat_le, nat_lt, List, [], ◌∷◌, ◌++◌, length, take, slice_index_or, Option, Some, None, if◌then◌else◌}
use Rattle.std.specs.List.{list_any}
use Rattle.std.specs.Int.{w8, w32, to_be_bytes}
use Rattle.dr_base.specs.Position.{is_at, is_own, position_at}
use Rattle.dr_base.specs.declared.position.Position.{Position}
use Rattle.dr_base.specs.declared.position.Side.{Side}
use Rattle.grammar.specs.Printer.{print_counted, print_maybe}
use Rattle.grammar.specs.Reader.{Reader, both, checked, counted, mapped, maybe, number}
use Rattle.dr_base.specs.declared.limits.TheConstants.{RECEIPT_LIMIT}

-- all texts up to a bound but those that are listed
pub record Receipt : Type 0 where
  pub bound : Position
  pub listed : List Position

-- p stands before q
abbrev pub is_before : Position → Position → Bool
is_before p q = nat_lt p.epoch q.epoch || ((p.epoch == q.epoch) && nat_lt p.index q.index)

-- p stands at q or before it
abbrev pub is_up_to : Position → Position → Bool
is_up_to q p = nat_lt p.epoch q.epoch || ((p.epoch == q.epoch) && nat_le p.index q.index)

-- ---- what a receipt tells

-- the positions that it covers: those of the bound's parity, up to the bound, that aren't listed
unfoldable pub is_covered_by : Receipt → Position → Bool
is_covered_by r p =
    (p.epoch % 2 == r.bound.epoch % 2)
    && (is_up_to r.bound p && not (list_any (is_at p) r.listed))

abbrev pub is_covered : Option Receipt → Position → Bool
is_covered None p = false
is_covered (Some r) p = is_covered_by r p

-- The receipt of a side that has read up to a position, and misses some texts before it. Its bound
-- is that position, and it lists all that are missing. Where they are too many, it lists the first
-- ones, and its bound is the last of these.
unfoldable pub receipt_up_to : List Position → Position → Receipt
receipt_up_to missing reached =
    if nat_le (length missing) RECEIPT_LIMIT then record { bound = reached; listed = missing }
    else record {
      bound = slice_index_or missing (RECEIPT_LIMIT - 1) reached;
      listed = take RECEIPT_LIMIT missing;
    }

-- ---- printed

abbrev pub position_bytes : Position → List ℕ
position_bytes p = to_be_bytes w32 p.epoch ++ to_be_bytes w32 p.index

abbrev pub bound_text : Receipt → List ℕ
bound_text r = position_bytes r.bound ++ print_counted w8 position_bytes r.listed

abbrev pub receipt_code : Option Receipt → ℕ
receipt_code None = 0
receipt_code (Some r) = 1

-- a byte 00; or 01, the bound, and the listed positions after their count
abbrev pub receipt_text : Option Receipt → List ℕ
receipt_text receipt = to_be_bytes w8 (receipt_code receipt) ++ print_maybe bound_text receipt

-- ---- read by an opener of a side

abbrev pub at_most : ℕ → ℕ → Bool
at_most most n = nat_le n most

abbrev pub last_in : Position → List Position → Position
last_in p [] = p
last_in p (q ∷ more) = last_in q more

abbrev pub listed_place : ℕ × ℕ → Position
listed_place e = position_at e.0 e.1

-- a listed position: of the opener's, from index 1 on, after the one before it, up to the bound
abbrev pub is_listed : Side → Position → Position → ℕ × ℕ → Bool
is_listed side bound last e =
    is_own side e.0
    && (nat_le 1 e.1 && (is_before last (listed_place e) && is_up_to bound (listed_place e)))

unfoldable pub listed_behind : Side → Position → Position → Reader Position
listed_behind side bound last =
    mapped listed_place (checked (is_listed side bound last) (both (number w32) (λ _. number w32)))

abbrev pub listed_item : Side → Position → List Position → Reader Position
listed_item side bound before = listed_behind side bound (last_in (position_at 0 0) before)

abbrev pub with_listed : (ℕ × ℕ) × List Position → Receipt
with_listed e = record { bound = listed_place e.0; listed = e.1 }

-- the bound, whose epoch is one of the opener's, and the listed positions
unfoldable pub bound_field : Side → Reader Receipt
bound_field side =
    mapped with_listed
    (both (both (checked (is_own side) (number w32)) (λ _. number w32)) (λ bound.
    counted w8 (at_most RECEIPT_LIMIT) (listed_item side (listed_place bound))))

abbrev pub is_one : ℕ → Bool
is_one n = n == 1

unfoldable pub receipt_field : Side → Reader (Option Receipt)
receipt_field side =
    mapped (λ e. e.1)
    (both (checked (at_most 1) (number w8)) (λ there. maybe (is_one there) (bound_field side)))
