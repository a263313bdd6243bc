-- A fan of the hub's drops one page of each record.
use Rattle.std.proofs.Common.{List, None, Option, [], ap, ap₂, arith, false, get_or, length, refl, suc, sym, zero, ℕ, ⊎_elim, ◌+◌, ◌<◌, ◌∙◌, ◌∷◌, ◌≡◌, ◌≤◌}
use Rattle.std.proofs.Math.ListN.{set}
use Rattle.std.proofs.lemmas.Bool.{cases_eq}
use Rattle.std.proofs.lemmas.List.{get_or-set_other, get_or-set_same, length-append, length-map, length-set}
use Rattle.std.specs.Prelude.{if◌then◌else◌, ◌*◌}
use Rattle.std.specs.Str.{bytes_eq}
use Rattle.book.proofs.Fanning.Fanned.{store_rows}
use Rattle.book.proofs.Only.{numbers_long}
use Rattle.book.specs.Fans.{Fan, fan_place, fan_row, fan_seed, fanned_store, said_next}
use Rattle.book.specs.RowKeepings.{kept_of}
use Rattle.book_store.specs.Rows.{names_by, shifted}
use Rattle.book_store.specs.Shown.{BookRow}
use Rattle.book_store.specs.Store.{BookStore, all_drops, drops_at, numbers_at, numbers_of, pages_at}
use Rattle.book_store.specs.declared.layout.TheConstants.{BOOK_ROWS, ROW_PAGES}
use Rattle.client.specs.Beginning.{begun_client}
use Rattle.kem_laws.specs.Mechanism.{IsLawfulMechanism}
use Rattle.kem_laws.specs.Open.{open_kem}
use Rattle.record_pages.specs.Pages.{pages_in}
use Rattle.record_pages.specs.Plans.{dropped}
use Rattle.session_model.specs.Clients.{Client}
use Rattle.session_record.specs.Record.{record_text}
use Rattle.hub.specs.Peers.{hello, hub_begin, hub_rows}
use Rattle.hub.specs.Leaving.{HubFan, fan_in}
use Rattle.hub.proofs.Counting.Differing.{page_first}
use Rattle.hub.proofs.Counting.Texts.{count_is}
use Rattle.hub.proofs.Counting.Writes.{before, changes, page, pages_there, place_is, row_there, was}
use Rattle.hub.proofs.HubFans.{all, row_is}

-- a list of one
has_one : (xs : List ℕ) → length xs ≡ 1 → (x : ℕ) × (xs ≡ x ∷ [])
has_one [] is = absurd (let e : ⊥ = omega (arith, is) in e)
has_one (x ∷ []) is = (x, refl)
has_one (x ∷ y ∷ xs) is = absurd (let e : ⊥ = omega (arith, is) in e)

-- a page takes the place of another, whose number is dropped
one_dropped : (old new : List ℕ) (number : ℕ) → bytes_eq old new ≡ false
    → dropped (old ∷ []) (number ∷ []) (new ∷ []) ≡ number ∷ []
one_dropped old new number differ = ap (λ b. if b then [] else number ∷ []) differ

-- so many rows that dropped a page each
names_long : (k r : ℕ) (each : ℕ → List ℕ) → ((i : ℕ) → r ≤ i → i < r + k → length (each i) ≡ 1)
    → length (names_by k r each) ≡ k
names_long zero r each one = refl
names_long (suc k) r each one =
    length-append (shifted r (each r)) (names_by k (suc r) each)
    ∙ ap₂ (λ a b. a + b)
    (length-map {A = ℕ} (each r) (λ n. ROW_PAGES * r + n) ∙ one r (omega arith) (omega arith))
    (names_long k (suc r) each (λ i le lt. one i (omega (arith, le)) (omega (arith, lt))))
    ∙ (let e : 1 + k ≡ suc k = omega arith in e)

module _ (law : IsLawfulMechanism open_kem) (peers : ℕ) (few : peers ≤ 8) (hub : HubFan open_kem peers) where
  abbrev fan : Fan
  fan = fan_in open_kem peers hub

  abbrev store : ℕ → BookStore
  store n = fanned_store open_kem fan hub.store n

  abbrev kept : ℕ → Client
  kept number = begun_client open_kem (hub_begin number)

  abbrev next : ℕ → Client
  next n = said_next open_kem hello (kept_of (fan_row fan n)) (fan_seed fan n)

  numbers_stay : (n q : ℕ) → n ≤ q → n ≤ peers
      → get_or (store n).mark.numbers q [] ≡ get_or hub.store.mark.numbers q []
  numbers_stay zero q le few_ones = refl
  numbers_stay (suc n) q le few_ones =
      get_or-set_other (store n).mark.numbers (fan_place fan n) q _ []
      (λ e. let no : ⊥ = omega (arith, le, e, place_is law peers few hub n (omega (arith, few_ones))) in no)
      ∙ numbers_stay n q (omega (arith, le)) (omega (arith, few_ones))

  module _ (n : ℕ) (lt : n < peers) where
    own_one : length (get_or hub.store.mark.numbers n []) ≡ 1
    own_one =
        numbers_long (hub_rows open_kem peers) hub.store hub.holds hub.marked n _
        (sym (ap (λ q. get_or (hub_rows open_kem peers) q None) (place_is law peers few hub n lt)) ∙ row_is open_kem peers hub n lt)
        ∙ count_is (record_text (kept (suc n))) (page_first (suc n) (before law peers few hub n lt))

    numbers_there : numbers_at (store n).mark (store n).held (fan_place fan n) ≡ get_or hub.store.mark.numbers n []
    numbers_there =
        ap (λ (o : Option BookRow). numbers_of o (get_or (store n).mark.numbers (fan_place fan n) [])) (row_there law peers few hub n lt)
        ∙ ap (λ q. get_or (store n).mark.numbers q []) (place_is law peers few hub n lt)
        ∙ numbers_stay n n (omega arith) (omega (arith, lt))

    abbrev gone : List ℕ
    gone = dropped (pages_at (store n).held (fan_place fan n)) (numbers_at (store n).mark (store n).held (fan_place fan n))
        (pages_in (record_text (next n)))

    gone_one : length gone ≡ 1
    gone_one =
        let one = has_one (get_or hub.store.mark.numbers n []) own_one in
        ap₂ (λ (old new : List (List ℕ)). length (dropped old (numbers_at (store n).mark (store n).held (fan_place fan n)) new))
        (pages_there law peers few hub n lt) (changes law peers few hub n lt).pages
        ∙ ap (λ (l : List ℕ). length (dropped (was law peers few hub n lt ∷ []) l (page law peers few hub n lt ∷ [])))
        (numbers_there ∙ one.1)
        ∙ ap (λ (l : List ℕ). length l) (one_dropped (was law peers few hub n lt) (page law peers few hub n lt) one.0
        (changes law peers few hub n lt).differ)

  drops_long : (n : ℕ) → length (store n).drops ≡ BOOK_ROWS
  drops_long zero = ap (λ (l : List (List ℕ)). length l) hub.dropped
  drops_long (suc n) = length-set (store n).drops (fan_place fan n) _ ∙ drops_long n

  drop_one : (n : ℕ) → n ≤ peers → (q : ℕ) → q < n → length (drops_at (store n) q) ≡ 1
  drop_one zero le q lt = absurd (omega (arith, lt))
  drop_one (suc n) le q lt = ⊎_elim
      (λ same.
      ap (λ i. length (get_or (set (store n).drops (fan_place fan n) (gone n below)) i []))
      (same ∙ sym (place_is law peers few hub n below))
      ∙ ap (λ (l : List ℕ). length l) (get_or-set_same (store n).drops (fan_place fan n) (gone n below) []
      (omega (arith, place_is law peers few hub n below, below, few, drops_long n)))
      ∙ gone_one n below)
      (λ apart.
      ap (λ (l : List ℕ). length l) (get_or-set_other (store n).drops (fan_place fan n) q (gone n below) []
      (λ e. apart (e ∙ place_is law peers few hub n below)))
      ∙ drop_one n (omega (arith, le)) q (let d : q ≡ n → ⊥ = apart in omega (arith, lt, d)))
      (cases_eq q n)
    where
      below : n < peers
      below = omega (arith, le)

  pub drops_are : length (all_drops (store peers)) ≡ peers
  drops_are =
      ap (λ r. length (names_by r 0 (drops_at (store peers))))
      (store_rows open_kem fan (all open_kem peers hub few) hub.store peers ∙ hub.count)
      ∙ names_long peers 0 (drops_at (store peers)) (λ i le lt. drop_one peers (omega arith) i (omega (arith, lt)))

  pub turn_stays : (n : ℕ) → (store n).mark.turn ≡ hub.store.mark.turn
  turn_stays zero = refl
  turn_stays (suc n) = turn_stays n
