-- The worlds of a book's sessions, as a fan leads them on, one after the other.
use Rattle.std.proofs.Common.{Bool, List, Option, Some, ap, arith, false, length, refl, subst, suc, sym, zero, ℕ, ⊎_elim, ◌<◌, ◌∙◌, ◌≡◌, ◌≢◌, ◌≤◌}
use Rattle.std.proofs.lemmas.Bool.{cases_eq, cases_lt}
use Rattle.std.specs.Prelude.{if◌then◌else◌}
use Rattle.std.specs.Str.{bytes_eq}
use Rattle.book_model.proofs.Names.{keeping_other, keeping_same, same_self}
use Rattle.book_model.specs.Rows.{Row, Rows, under}
use Rattle.dr_model.specs.Machines.WorldActs.{act_in}
use Rattle.dr_model.specs.Machines.Worlds.{World}
use Rattle.kem_laws.specs.Mechanism.{Mechanism}
use Rattle.session_model.specs.Clients.{Client}
use Rattle.book.specs.FanStepping.{fan_act, fan_name}
use Rattle.book.specs.FanWorlds.{NamedWorlds}
use Rattle.book.specs.Fans.{AllSay, Fan, Says, fan_place, fan_row, fan_seed, fanned_rows, said_next}
use Rattle.book.specs.Naming.{is_named}
use Rattle.book.specs.RowKeepings.{kept_of, known_name, name_of}
use Rattle.book.proofs.Fanning.Machine.{AreOnly, first_only, kept_now, keeps, only_place, row}
use Rattle.book.proofs.Places.{under_at}

module _ (k : Mechanism) (fan : Fan) (all : AllSay k fan) (onlys : AreOnly fan.rows) where
  -- ---- the names

  module _ (n : ℕ) (lt : n < length fan.list) where
    abbrev pub there : Row Client
    there = (row k fan all onlys n lt).0

    pub there_is : fan_row fan n ≡ Some there
    there_is = (row k fan all onlys n lt).1

    pub name_is : fan_name fan n ≡ there.name
    name_is = ap (λ (o : Option (Row Client)). known_name (name_of o)) there_is

    pub says_there : Says k fan.text there.kept (fan_seed fan n)
    says_there = subst (λ (o : Option (Row Client)). Says k fan.text (kept_of o) (fan_seed fan n)) there_is (all.say n lt)

    -- what is kept under it, before any says the text
    pub kept_first : under (fan_name fan n) fan.rows ≡ Some there.kept
    kept_first =
        ap (λ (l : List ℕ). under l fan.rows) name_is
        ∙ under_at there.name fan.rows (fan_place fan n) there
        (only_place there.name fan.rows (fan_place fan n) there (first_only k fan all onlys n lt)) there_is

  apart : (i n : ℕ) → i < length fan.list → n < length fan.list → i ≢ n → bytes_eq (fan_name fan i) (fan_name fan n) ≡ false
  apart i n li ln other =
      ap (λ (l : List ℕ). bytes_eq l (fan_name fan n)) (name_is i li)
      ∙ ap (λ (l : List ℕ). bytes_eq (there i li).name l) (name_is n ln)
      ∙ ap (λ (o : Option (Row Client)). is_named (there n ln).name o) (sym (there_is i li))
      ∙ (first_only k fan all onlys n ln).others (fan_place fan i) places_apart
    where
      places_apart : fan_place fan i ≢ fan_place fan n
      places_apart e = ⊎_elim
          (λ less. all.list.once i n less ln e)
          (λ more. all.list.once n i (omega (arith, more, other)) li (sym e))
          (cases_lt i n)

  -- ---- each of the first is still there

  abbrev pub StillThere : ℕ → ℕ → Type 0
  StillThere m n = (kept : Client) × (under (fan_name fan n) (fanned_rows k fan m) ≡ Some kept)

  pub still : (m n : ℕ) → n < m → m ≤ length fan.list → StillThere m n
  still zero n less le = absurd (omega (arith, less))
  still (suc m) n less le = ⊎_elim at_last (before (λ lower. still m n lower (omega (arith, le)))) (cases_eq n m)
    where
      lt : m < length fan.list
      lt = omega (arith, le)

      next : Client
      next = said_next k fan.text (there m lt).kept (fan_seed fan m)

      at_last : n ≡ m → StillThere (suc m) n
      at_last is = (
        next,
        ap (λ (l : List ℕ). under l (fanned_rows k fan (suc m))) (ap (fan_name fan) is ∙ name_is m lt)
            ∙ ap (λ (l : Rows Client). under (there m lt).name l) (sym (keeps k fan all onlys m lt))
            ∙ keeping_same (there m lt).name next (there m lt).kept (fanned_rows k fan m) (kept_now k fan all onlys m lt),
      )

      before : (n < m → StillThere m n) → n ≢ m → StillThere (suc m) n
      before behind other =
          let lower : n < m = omega (arith, less, other) in
          let rest = behind lower in (
            rest.0,
            ap (λ (l : Rows Client). under (fan_name fan n) l) (sym (keeps k fan all onlys m lt))
                ∙ keeping_other (there m lt).name (fan_name fan n)
                (ap (λ (l : List ℕ). bytes_eq l (fan_name fan n)) (sym (name_is m lt))
                ∙ apart m n lt (omega (arith, lower, lt)) (λ e. other (sym e))) next (fanned_rows k fan m)
                ∙ rest.1,
          )

module _ (k : Mechanism) (fan : Fan) (worlds : NamedWorlds) where
  -- ---- the worlds, once the first sessions said it

  abbrev pub after : ℕ → List ℕ → World
  after zero name = worlds.world name
  after (suc n) name =
      if bytes_eq (fan_name fan n) name then (act_in k (after n name) (worlds.side name) (fan_act fan n)).next
      else after n name

  abbrev pub named_after : ℕ → NamedWorlds
  named_after n = record { world = after n; side = worlds.side }

  -- those of other names stay
  pub untouched : (m : ℕ) (name : List ℕ) → ((i : ℕ) → i < m → bytes_eq (fan_name fan i) name ≡ false)
      → after m name ≡ worlds.world name
  untouched zero name none = refl
  untouched (suc m) name none =
      ap (λ b. if b then (act_in k (after m name) (worlds.side name) (fan_act fan m)).next else after m name)
      (none m (omega arith))
      ∙ untouched m name (λ i lt. none i (omega (arith, lt)))

  abbrev pub first_step : ℕ → World
  first_step n = (act_in k (worlds.world (fan_name fan n)) (worlds.side (fan_name fan n)) (fan_act fan n)).next

module _ (k : Mechanism) (fan : Fan) (all : AllSay k fan) (onlys : AreOnly fan.rows) (worlds : NamedWorlds) where
  -- each is led on once
  pub led : (m n : ℕ) → n < m → m ≤ length fan.list → after k fan worlds m (fan_name fan n) ≡ first_step k fan worlds n
  led zero n less le = absurd (omega (arith, less))
  led (suc m) n less le = ⊎_elim at_last (before (λ lower. led m n lower (omega (arith, le)))) (cases_eq n m)
    where
      lt : m < length fan.list
      lt = omega (arith, le)

      stepped : Bool → World
      stepped b = if b then (act_in k (after k fan worlds m (fan_name fan n)) (worlds.side (fan_name fan n)) (fan_act fan m)).next
          else after k fan worlds m (fan_name fan n)

      at_last : n ≡ m → after k fan worlds (suc m) (fan_name fan n) ≡ first_step k fan worlds n
      at_last is =
          ap stepped (ap (λ i. bytes_eq (fan_name fan i) (fan_name fan n)) (sym is) ∙ same_self (fan_name fan n))
          ∙ ap (λ i. (act_in k (after k fan worlds i (fan_name fan n)) (worlds.side (fan_name fan n)) (fan_act fan i)).next) (sym is)
          ∙ ap (λ (v : World). (act_in k v (worlds.side (fan_name fan n)) (fan_act fan n)).next)
          (untouched k fan worlds n (fan_name fan n) (λ i li. apart k fan all onlys i n (omega (arith, li, is, lt)) (omega (arith, is, lt))
          (λ e. absurd (omega (arith, li, e)))))

      before : (n < m → after k fan worlds m (fan_name fan n) ≡ first_step k fan worlds n) → n ≢ m
          → after k fan worlds (suc m) (fan_name fan n) ≡ first_step k fan worlds n
      before rest other =
          let lower : n < m = omega (arith, less, other) in
          ap stepped (apart k fan all onlys m n lt (omega (arith, lower, lt)) (λ e. other (sym e)))
          ∙ rest lower
