-- The sessions of a fan are those of its book also once they said its text, or didn't.
use Rattle.std.proofs.Common.{Err, List, None, Ok, Option, Result, Some, ap, arith, get_or, length, refl, subst, suc, sym, true, zero, ℕ, ⊎_elim, ◌<◌, ◌≤◌, ◌∙◌, ◌≡◌}
use Rattle.std.proofs.Math.ListN.{set}
use Rattle.std.proofs.lemmas.Bool.{cases_eq}
use Rattle.std.proofs.lemmas.List.{get_or-set_other, get_or-set_same}
use Rattle.std.specs.Prelude.{is_some}
use Rattle.book_model.specs.Rows.{Row, Rows}
use Rattle.dr_disk.specs.State.{DiskState}
use Rattle.dr_ports.specs.States.{DrawsState}
use Rattle.kem_laws.specs.Mechanism.{Mechanism}
use Rattle.session_model.specs.Clients.{Client}
use Rattle.book.specs.Books.{BookNow}
use Rattle.book.specs.Fanning.{FansIn}
use Rattle.book.specs.Fans.{AreListed, Fan, fan_of, fan_place, fan_row, fan_seed, fanned_rows, said_row}
use Rattle.book.specs.RowKeepings.{row_at, with_kept}
use Rattle.book.specs.declared.refusals.FanRefusal.{FanRefusal}
use Rattle.book.specs.declared.refusals.FanRefusal.TheVariants.{Closed, Nobody, Peer, StoreFault as Faulted}
use Rattle.book.proofs.Stored.{present, present_inside}

with_is : (row : Option (Row Client)) (next : Client) → is_some row ≡ true
    → is_some (with_kept row next) ≡ true
with_is None next is = is
with_is (Some row) next is = refl

module _ (k : Mechanism) (fan : Fan) (listed : AreListed fan.rows fan.list) where
  pub stays_there : (n : ℕ) → n ≤ length fan.list → (q : ℕ) → is_some (row_at fan.rows q) ≡ true
      → is_some (row_at (fanned_rows k fan n) q) ≡ true
  stays_there zero le q is = is
  stays_there (suc n) le q is =
      let lt : n < length fan.list = omega (arith, le) in
      let less : n ≤ length fan.list = omega (arith, le) in
      let next = said_row k fan.text (fan_seed fan n) (fan_row fan n) in
      let here = present (row_at (fanned_rows k fan n) (fan_place fan n))
      (stays_there n less (fan_place fan n) (listed n lt)) in
      ⊎_elim
      (λ at. ap (λ i. is_some (get_or (set (fanned_rows k fan n) (fan_place fan n) next) i None)) at
      ∙ ap is_some (get_or-set_same (fanned_rows k fan n) (fan_place fan n) next None
      (present_inside (fanned_rows k fan n) (fan_place fan n) here.0 here.1))
      ∙ with_is (fan_row fan n) _ (listed n lt))
      (λ apart. ap is_some (get_or-set_other (fanned_rows k fan n) (fan_place fan n) q next None apart)
      ∙ stays_there n less q is)
      (cases_eq q (fan_place fan n))

module _ {X W : Type 0} (state : X → DiskState) (draws : W → DrawsState) (k : Mechanism) (text list : List ℕ)
    (old new : BookNow) (start now : X) (source left : W) (listed : AreListed old.rows list) where
  same_listed : new.rows ≡ old.rows → AreListed new.rows list
  same_listed same i lt =
      subst (λ (rows : Rows Client). is_some (row_at rows (get_or list i 0)) ≡ true) (sym same) (listed i lt)

  pub fans_listed : (result : Result Unit FanRefusal)
      → FansIn state draws k text list old new start now source left result → AreListed new.rows list
  fans_listed (Ok u) fans = λ i lt.
      subst (λ (rows : Rows Client). is_some (row_at rows (get_or list i 0)) ≡ true) (sym fans.2.2.changes.rows)
      (stays_there k (fan_of old.rows list text fans.2.0) listed (length list) (omega arith) (get_or list i 0) (listed i lt))
  fans_listed (Err (Faulted call)) fans = same_listed fans.2.2.changes.keeps
  fans_listed (Err (Closed call)) fans = same_listed (ap (λ (b : BookNow). b.rows) fans.1)
  fans_listed (Err Nobody) fans = same_listed (ap (λ (b : BookNow). b.rows) fans.2)
  fans_listed (Err (Peer at refusal)) fans = same_listed (ap (λ (b : BookNow). b.rows) fans.2)
