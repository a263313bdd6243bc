-- The sessions of a fan stay lawful.
use Rattle.std.proofs.Common.{Err, None, Ok, Option, Result, Some, ap, arith, false, get_or, length, refl, subst, suc, sym, true, zero, ℕ, ⊎_elim, ◌<◌, ◌∙◌, ◌≡◌, ◌≤◌}
use Rattle.std.proofs.Math.ListN.{set}
use Rattle.std.proofs.lemmas.Bool.{cases_eq}
use Rattle.std.proofs.lemmas.List.{get_or-set_other, get_or-set_same}
use Rattle.std.specs.Prelude.{IsOk, is_some}
use Rattle.book.proofs.Fanning.Fanned.{here, inside_rows, rows_long}
use Rattle.book.proofs.Worlds.Drawn.{IsWhole}
use Rattle.book.specs.Fans.{AllSay, Fan, fan_place, fan_row, fan_seed, fanned_rows, said_next, said_or, said_row}
use Rattle.book.specs.RowKeepings.{kept_of, with_kept}
use Rattle.book_model.specs.Rows.{Row}
use Rattle.client.proofs.Lawful.Acts.{say_lawful}
use Rattle.kem_laws.specs.Mechanism.{IsLawfulMechanism, Mechanism}
use Rattle.ratchet.specs.Seen.{seed_bytes}
use Rattle.session_model.specs.Clients.{Client, SaidText, say_on}
use Rattle.session_model.specs.Contents.{text_content}
use Rattle.session_model.specs.declared.answer.Refusal.{Refusal}
use Rattle.session_record.specs.Lawful.{IsLawfulClient}
use Rattle.hub.specs.Held.{AreLawful}

said_lawful : (k : Mechanism) (kept : Client) (r : Result SaidText Refusal) → IsOk r
    → ((said : SaidText) → r ≡ Ok said → IsLawfulClient k said.next) → IsLawfulClient k (said_or kept r)
said_lawful k kept (Ok said) ok each = each said refl
said_lawful k kept (Err refusal) ok each = absurd (let e : false ≡ true = ok in cc)

module _ (k : Mechanism) (fan : Fan) (law : IsLawfulMechanism k) (all : AllSay k fan) (lawful : AreLawful k fan.rows)
    (whole : (n : ℕ) → n < length fan.list → IsWhole (fan_seed fan n)) where
  pub one_lawful : (n : ℕ) → n < length fan.list → (row : Row Client) → fan_row fan n ≡ Some row
      → IsLawfulClient k (said_next k fan.text (kept_of (fan_row fan n)) (fan_seed fan n))
  one_lawful n lt row is =
      let says = all.say n lt in
      let kept = kept_of (fan_row fan n) in
      let before : IsLawfulClient k kept =
      subst (λ (o : Option (Row Client)). IsLawfulClient k (kept_of o)) (sym is) (lawful (fan_place fan n) row is) in
      said_lawful k kept (say_on k kept (text_content fan.text) (seed_bytes (fan_seed fan n))) says.said
      (λ said gives. say_lawful k kept (text_content fan.text) (seed_bytes (fan_seed fan n)) (is_some (fan_seed fan n)) said law
      before says.checked (whole n lt) gives)

  kept_lawful : (o : Option (Row Client)) (next : Client) (row : Row Client) → with_kept o next ≡ Some row
      → IsLawfulClient k next → IsLawfulClient k row.kept
  kept_lawful None next row is next_lawful = absurd (let e : None ≡ Some row = is in cc)
  kept_lawful (Some was) next row is next_lawful =
      let one : Row Client = record { name = was.name; kept = next } in
      let same : one ≡ row = let e : Some one ≡ Some row = is in cc in
      subst (λ (r : Row Client). IsLawfulClient k r.kept) same next_lawful

  pub fanned_lawful : (n : ℕ) → n ≤ length fan.list → AreLawful k (fanned_rows k fan n)
  fanned_lawful zero le r row is = lawful r row is
  fanned_lawful (suc n) le r row is =
      by_place r row is (fanned_lawful n (omega (arith, le)) r row)
    where
      lt : n < length fan.list
      lt = omega (arith, le)

      next : Option (Row Client)
      next = said_row k fan.text (fan_seed fan n) (fan_row fan n)

      inside : fan_place fan n < length (fanned_rows k fan n)
      inside = omega (arith, rows_long k fan all n, inside_rows k fan all n lt)

      by_place : (r : ℕ) (row : Row Client) → get_or (fanned_rows k fan (suc n)) r None ≡ Some row
          → (get_or (fanned_rows k fan n) r None ≡ Some row → IsLawfulClient k row.kept) → IsLawfulClient k row.kept
      by_place r row is before = ⊎_elim
          (λ same.
          let there : next ≡ Some row =
          sym (ap (λ q. get_or (set (fanned_rows k fan n) (fan_place fan n) next) q None) same
          ∙ get_or-set_same (fanned_rows k fan n) (fan_place fan n) next None inside) ∙ is in
          kept_lawful (fan_row fan n) (said_next k fan.text (kept_of (fan_row fan n)) (fan_seed fan n)) row there
          (one_lawful n lt (here k fan all n lt).0 (here k fan all n lt).1))
          (λ apart. before (sym (get_or-set_other (fanned_rows k fan n) (fan_place fan n) r next None apart) ∙ is))
          (cases_eq r (fan_place fan n))
