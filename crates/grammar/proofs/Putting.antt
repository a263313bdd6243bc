-- Printed bytes put into a buffer, one part after the other.
use Rattle.std.proofs.Common.{◌≡◌, ℕ, ◌+◌, ◌≤◌, List, [], length, take, Some, refl, sym, subst, append-nil, arith}
use Rattle.std.specs.List.{slice_get}
use Rattle.dr_base.proofs.Putting.{then_puts}
use Rattle.dr_base.specs.Buffer.{Puts}
use Rattle.grammar.specs.Printer.{print_items}
use Rattle.grammar.proofs.Printing.{print-next, print-within}

-- no items
pub puts_no_items : {A : Type 0} (print : A → List ℕ) (a : List ℕ) (at : ℕ) → Puts a a at (print_items print []) at
unfolding print_items
puts_no_items print a at = record { next_is = omega arith; front = sym (append-nil (take at a)); rest = refl }

-- one item more
pub puts_next : {A : Type 0} (print : A → List ℕ) (xs : List A) (i : ℕ) (x : A) {a b c : List ℕ} {at m n : ℕ} → slice_get xs i ≡ Some x
    → Puts a b at (print_items print (take i xs)) m → Puts b c m (print x) n → Puts a c at (print_items print (take (i + 1) xs)) n
puts_next print xs i x {a} {b} {c} {at} {m} {n} here before next =
    subst (λ t. Puts a c at t n) (sym (print-next print xs i x here)) (then_puts before next)

-- the room that one item more needs
pub room_next : {A : Type 0} (print : A → List ℕ) (xs : List A) (i : ℕ) (x : A) {a b : List ℕ} {at m : ℕ} (room : ℕ) → slice_get xs i ≡ Some x
    → Puts a b at (print_items print (take i xs)) m → at + length (print_items print xs) ≤ room → m + length (print x) ≤ room
room_next print xs i x {a} {b} {at} {m} room here before fits = omega (arith, before.next_is, print-within print xs i x here)
