-- How many bytes the receipt and the kind take, of all numbers, also of those that are no bytes.
use Rattle.std.proofs.Common.{◌≡◌, ℕ, ◌+◌, ◌*◌, ◌==◌, ◌≤◌, Bool, true, false, List, length, drop, Option, Some, None, Ok, refl, sym, ◌∙◌, ap, subst, arith, if◌then◌else◌}
use Rattle.std.specs.Int.{w8, w32}
use Rattle.dr_base.specs.Position.{is_own, position_at}
use Rattle.dr_base.specs.declared.position.Position.{Position}
use Rattle.dr_base.specs.declared.position.Side.{Side}
use Rattle.grammar.specs.Reader.{Read, Reader, both, checked, counted, gives, maybe, number}
use Rattle.grammar.specs.Standing.{Standing}
use Rattle.bodies.specs.Bodies.{body_read, head_field, with_content}
use Rattle.bodies.specs.Receipts.{Receipt, bound_field, is_listed, is_one, last_in, listed_behind, listed_item, listed_place, receipt_field, receipt_text, at_most, with_listed}
use Rattle.dr_base.specs.declared.limits.TheConstants.{RECEIPTS, RECEIPT_LIMIT}
use Rattle.boxes.specs.Parts.{is_content}
use Rattle.boxes.specs.declared.kinds.TheConstants.{TEXT_KIND}
use Rattle.bodies.proofs.Heads.{Head}
use Rattle.bodies.proofs.Lengths.{length-receipt}
use Rattle.bodies.proofs.Taken.{Takes, takes-both, takes-checked, takes-counted, takes-mapped, takes-maybe, takes-none, takes-number}

-- ---- what receipts take

takes-listed : (side : Side) (bound : Position) (before : List Position) → Takes (λ _. 8) (listed_item side bound before)
unfolding listed_behind
takes-listed side bound before =
    takes-mapped (λ (e : ℕ × ℕ). 8) (λ _. 8) listed_place
    (checked (is_listed side bound (last_in (position_at 0 0) before)) (both (number w32) (λ _. number w32))) (λ e. refl)
    (takes-checked (λ (e : ℕ × ℕ). 8) (is_listed side bound (last_in (position_at 0 0) before)) (both (number w32) (λ _. number w32))
    (takes-both (λ (n : ℕ). 4) (λ (n m : ℕ). 4) (number w32) (λ _. number w32) (takes-number w32) (λ _. takes-number w32)))

takes-bound : (side : Side) → Takes (λ (r : Receipt). 9 + 8 * length r.listed) (bound_field side)
unfolding bound_field
takes-bound side =
    let place = both (checked (is_own side) (number w32)) (λ _. number w32) in
    let list : ℕ × ℕ → Reader (List Position) = λ bound. counted w8 (at_most RECEIPT_LIMIT) (listed_item side (listed_place bound)) in
    takes-mapped (λ (e : (ℕ × ℕ) × List Position). 8 + (1 + 8 * length e.1)) (λ (r : Receipt). 9 + 8 * length r.listed) with_listed
    (both place list) (λ e. omega arith)
    (takes-both (λ (e : ℕ × ℕ). 8) (λ (e : ℕ × ℕ) (l : List Position). 1 + 8 * length l) place list
    (takes-both (λ (n : ℕ). 4) (λ (n m : ℕ). 4) (checked (is_own side) (number w32)) (λ _. number w32)
    (takes-checked (λ (n : ℕ). 4) (is_own side) (number w32) (takes-number w32)) (λ _. takes-number w32))
    (λ bound. takes-counted w8 (at_most RECEIPT_LIMIT) 8 (listed_item side (listed_place bound)) (takes-listed side (listed_place bound))))

-- after the byte that tells whether there is one
abbrev size_behind : Option Receipt → ℕ
size_behind None = 0
size_behind (Some r) = 9 + 8 * length r.listed

size_is : (o : Option Receipt) → 1 + size_behind o ≡ length (receipt_text o)
size_is None = refl
size_is (Some r) = omega (arith, length-receipt r)

takes-receipt : (side : Side) → Takes (λ (o : Option Receipt). length (receipt_text o)) (receipt_field side)
unfolding receipt_field
takes-receipt side =
    let there = checked (at_most 1) (number w8) in
    let receipt : ℕ → Reader (Option Receipt) = λ n. maybe (is_one n) (bound_field side) in
    takes-mapped (λ (e : ℕ × Option Receipt). 1 + size_behind e.1) (λ (o : Option Receipt). length (receipt_text o)) (λ e. e.1)
    (both there receipt) (λ e. size_is e.1)
    (takes-both (λ (n : ℕ). 1) (λ (n : ℕ) (o : Option Receipt). size_behind o) there receipt
    (takes-checked (λ (n : ℕ). 1) (at_most 1) (number w8) (takes-number w8))
    (λ n. takes-maybe (λ (r : Receipt). 9 + 8 * length r.listed) size_behind (is_one n) (bound_field side) refl (λ r. refl) (takes-bound side)))

-- ---- what stands before a content

abbrev pub size_by : Bool → Head → ℕ
size_by told e = if told then length (receipt_text e.0) + 1 else 0

takes_by : (told : Bool) (side : Side)
    → Takes (size_by told) (λ at bytes. if told then both (receipt_field side) (λ _. number w8) at bytes else gives (None, TEXT_KIND) at bytes)
takes_by true side =
    takes-both (λ (o : Option Receipt). length (receipt_text o)) (λ (o : Option Receipt) (n : ℕ). 1) (receipt_field side) (λ _. number w8)
    (takes-receipt side) (λ _. takes-number w8)
takes_by false side = takes-none (None, TEXT_KIND)

pub takes-head : (version : ℕ) (side : Side) → Takes (size_by (version == RECEIPTS)) (head_field version side)
unfolding head_field
takes-head version side = takes_by (version == RECEIPTS) side

-- so code that read it stands in front of the content
pub head-ends : (version : ℕ) (side : Side) (start : Standing) (bytes : List ℕ) (x : Read Head)
    → start ≡ record { at = 0; rest = bytes } → head_field version side start.at start.rest ≡ Ok x → x.at ≤ length bytes
head-ends version side start bytes x is h =
    let read = subst (λ (s : Standing). head_field version side s.at s.rest ≡ Ok x) is h in
    let taken = takes-head version side 0 bytes x read in
    omega (arith, taken.inside, taken.at_is)

pub read-as : (version : ℕ) (side : Side) (start : Standing) (bytes : List ℕ) (x : Read Head) (content : List ℕ)
    → start ≡ record { at = 0; rest = bytes } → head_field version side start.at start.rest ≡ Ok x
    → content ≡ drop x.at bytes
    → body_read version side bytes
    ≡ (if is_content x.value.1 content then Some (record { receipt = x.value.0; kind = x.value.1; content = content }) else None)
read-as version side start bytes x content is h behind =
    let read = subst (λ (s : Standing). head_field version side s.at s.rest ≡ Ok x) is h in
    let taken = takes-head version side 0 bytes x read in
    let rest : x.rest ≡ content =
    taken.rest_is ∙ ap (λ (n : ℕ). drop n bytes) (let ends : size_by (version == RECEIPTS) x.value ≡ x.at = omega (arith, taken.at_is) in ends)
    ∙ sym behind in
    ap with_content read
    ∙ ap (λ (l : List ℕ). if is_content x.value.1 l then Some (record { receipt = x.value.0; kind = x.value.1; content = l }) else None) rest
