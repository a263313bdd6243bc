-- A fan of the hub's writes one page of each record.
use Rattle.std.proofs.Common.{Err, List, None, Ok, Option, Result, Some, [], ap, ap₂, arith, false, get_or, length, refl, subst, suc, sym, true, zero, ℕ, ◌+◌, ◌<◌, ◌∙◌, ◌∷◌, ◌≡◌, ◌≤◌}
use Rattle.std.specs.Prelude.{IsOk, if◌then◌else◌}
use Rattle.std.specs.Str.{bytes_eq}
use Rattle.book.proofs.Fanning.Fanned.{held_is, later, row_stays}
use Rattle.book.proofs.Stored.{stored_at}
use Rattle.book.specs.Fans.{Fan, Says, fan_place, fan_row, fan_seed, fanned_rows, fanned_store, fanned_writes, said_next, said_or, said_writes}
use Rattle.book.specs.RowKeepings.{kept_of}
use Rattle.book.specs.Rows.{stored_row}
use Rattle.book_model.specs.Rows.{Row}
use Rattle.book_store.specs.AtRest.{row_pages}
use Rattle.book_store.specs.Shown.{BookRow}
use Rattle.book_store.specs.Store.{BookStore, pages_at}
use Rattle.client.specs.Beginning.{begun_client}
use Rattle.kem_laws.specs.Mechanism.{IsLawfulMechanism}
use Rattle.kem_laws.specs.Open.{open_kem}
use Rattle.ratchet.specs.Seen.{seed_bytes}
use Rattle.record_pages.specs.Pages.{filled_page, pages_in}
use Rattle.record_pages.specs.Plans.{changed}
use Rattle.session_model.specs.Clients.{Client, SaidText, say_on}
use Rattle.session_model.specs.Contents.{text_content}
use Rattle.session_model.specs.declared.answer.Refusal.{Refusal}
use Rattle.session_record.specs.Lawful.{IsLawfulClient}
use Rattle.session_record.specs.Record.{record_text}
use Rattle.hub.specs.Peers.{hello, hub_begin, hub_rows, peer_name}
use Rattle.hub.specs.Leaving.{HubFan, fan_in}
use Rattle.hub.proofs.Counting.Differing.{page_first, page_said, pages_differ}
use Rattle.hub.proofs.Counting.Texts.{page_is}
use Rattle.hub.proofs.FirstSaid.{first_said}
use Rattle.hub.proofs.HubFans.{all, row_is, whole}
use Rattle.hub.proofs.Placing.{places_at, places_long}
use Rattle.hub.proofs.Saying.{one_lawful}

-- a page takes the place of another
one_changed : (was page : List ℕ) → bytes_eq was page ≡ false → length (changed (was ∷ []) (page ∷ [])) ≡ 1
one_changed was page differ = ap (λ b. length (if b then [] else page ∷ [])) differ

module _ (law : IsLawfulMechanism open_kem) (peers : ℕ) (few : peers ≤ 8) (hub : HubFan open_kem peers) where
  abbrev pub fan : Fan
  fan = fan_in open_kem peers hub

  abbrev pub store : ℕ → BookStore
  store n = fanned_store open_kem fan hub.store n

  abbrev pub kept : ℕ → Client
  kept number = begun_client open_kem (hub_begin number)

  abbrev pub next : ℕ → Client
  next n = said_next open_kem hello (kept_of (fan_row fan n)) (fan_seed fan n)

  pub inside : (n : ℕ) → n < peers → n < length fan.list
  inside n lt = omega (arith, lt, places_long peers)

  pub place_is : (n : ℕ) → n < peers → fan_place fan n ≡ n
  place_is n lt = places_at peers n lt

  -- ---- a session's pages

  module _ (n : ℕ) (lt : n < peers) where
    abbrev pub was : List ℕ
    was = filled_page (record_text (kept (suc n)))

    abbrev pub page : List ℕ
    page = filled_page (record_text (next n))

    pub before : IsLawfulClient open_kem (kept (suc n))
    before = hub.lawful n _ (sym (ap (λ q. get_or (hub_rows open_kem peers) q None) (place_is n lt)) ∙ row_is open_kem peers hub n lt)

    says : Says open_kem hello (kept (suc n)) (fan_seed fan n)
    says = subst (λ (o : Option (Row Client)). Says open_kem hello (kept_of o) (fan_seed fan n))
        (row_is open_kem peers hub n lt) ((all open_kem peers hub few).say n (inside n lt))

    after : IsLawfulClient open_kem (next n)
    after = one_lawful open_kem fan law (all open_kem peers hub few) hub.lawful (whole open_kem peers hub) n (inside n lt) _
        (row_is open_kem peers hub n lt)

    -- its record is a page, another one than before
    pub record Changes : Type 0 where
      pub pages : pages_in (record_text (next n)) ≡ page ∷ []
      pub differ : bytes_eq was page ≡ false

    next_is : next n ≡ said_or (kept (suc n)) (say_on open_kem (kept (suc n)) (text_content hello) (seed_bytes (fan_seed fan n)))
    next_is = ap (λ (o : Option (Row Client)). said_next open_kem hello (kept_of o) (fan_seed fan n)) (row_is open_kem peers hub n lt)

    by : (r : Result SaidText Refusal) → say_on open_kem (kept (suc n)) (text_content hello) (seed_bytes (fan_seed fan n)) ≡ r
        → IsOk r → Changes
    by (Ok said) is ok =
        let turn = first_said open_kem (suc n) hello (seed_bytes (fan_seed fan n)) said is in
        let same = next_is ∙ ap (λ r. said_or (kept (suc n)) r) is ∙ ap (λ (s : SaidText). s.next) turn.is in
        let lawful = subst (λ (c : Client). IsLawfulClient open_kem c) same after in
        record {
          pages = ap (λ (c : Client). pages_in (record_text c)) same
              ∙ page_is _ (page_said (suc n) before turn.turn lawful)
              ∙ ap (λ (c : Client). filled_page (record_text c) ∷ []) (sym same);
          differ = ap (λ (c : Client). bytes_eq was (filled_page (record_text c))) same
              ∙ pages_differ (suc n) before turn.turn lawful;
        }
    by (Err refusal) is ok = absurd (let e : false ≡ true = ok in cc)

    pub changes : Changes
    changes = by (say_on open_kem (kept (suc n)) (text_content hello) (seed_bytes (fan_seed fan n))) refl says.said

    -- what stands in its row, once those before have said it
    row_held : get_or (store n).held (fan_place fan n) None ≡ stored_row (fan_row fan n)
    row_held =
        ap (λ (l : List (Option BookRow)). get_or l (fan_place fan n) None)
        (held_is open_kem fan (all open_kem peers hub few) hub.store n (omega (arith, inside n lt)) hub.holds)
        ∙ stored_at (fanned_rows open_kem fan n) (fan_place fan n)
        ∙ ap stored_row (row_stays open_kem fan (all open_kem peers hub few) n (fan_place fan n)
        (later open_kem fan (all open_kem peers hub few) n (inside n lt)))

    pub row_there : get_or (store n).held (fan_place fan n) None
        ≡ Some (record { name = peer_name (suc n); text = record_text (kept (suc n)) })
    row_there = row_held ∙ ap stored_row (row_is open_kem peers hub n lt)

    pub pages_there : pages_at (store n).held (fan_place fan n) ≡ was ∷ []
    pages_there = ap row_pages row_there ∙ page_is (record_text (kept (suc n))) (page_first (suc n) before)

    pub writes_one : said_writes open_kem hello (fan_seed fan n) (fan_row fan n) (fan_place fan n) (store n) ≡ 1
    writes_one =
        ap₂ (λ (old new : List (List ℕ)). length (changed old new)) pages_there changes.pages
        ∙ one_changed was page changes.differ

  -- ---- how many pages are written

  pub writes_are : (n : ℕ) → n ≤ peers → fanned_writes open_kem fan hub.store n ≡ n
  writes_are zero le = refl
  writes_are (suc n) le =
      ap₂ (λ a b. a + b) (writes_are n (omega (arith, le))) (writes_one n (omega (arith, le)))
      ∙ (let e : n + 1 ≡ suc n = omega arith in e)
