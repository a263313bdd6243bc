-- An act of a row's session is a step of the machine of named rows.
use Rattle.std.proofs.Common.{Bool, Err, List, None, Ok, Option, Result, Some, ap, false, get_or, refl, subst, sym, true, ℕ, ◌∙◌, ◌≡◌}
use Rattle.std.proofs.Math.ListN.{set}
use Rattle.std.proofs.lemmas.List.{set-get_or, set-set}
use Rattle.std.specs.Prelude.{if◌then◌else◌, is_some}
use Rattle.book_model.proofs.Names.{same_is}
use Rattle.book_model.specs.Rows.{Row, Rows, keeping, under}
use Rattle.book_model.specs.Runs.{Book, Event, Went, asks, befallen, goes, happens_if, is_look_in, replied, went_step}
use Rattle.book_model.specs.Steps.{Ask, answers, called_in, calls, calls_in, closed as is_shut, fails, no_name, refuses, step as asked_step, store_fault}
use Rattle.dr_disk.specs.State.{DiskState}
use Rattle.dr_disk.specs.declared.call.Call.{Call}
use Rattle.dr_model.specs.Machines.Acts.{Act, act_on}
use Rattle.dr_model.specs.Machines.Steps.{Step, has_effect, step}
use Rattle.kem_laws.specs.Mechanism.{Mechanism}
use Rattle.session_model.specs.Clients.{Client}
use Rattle.session_model.specs.declared.answer.Answer.{Answer}
use Rattle.session_model.specs.declared.answer.Refusal.{Refusal}
use Rattle.client.specs.declared.begin.Begin.{Begin}
use Rattle.client.specs.Outcomes.{IsKeeperEffected, KeeperActs, Outcome, acknowledged, faulted, is_closed, refused, undrawn}
use Rattle.book.specs.Books.{BookNow, IsBookReady}
use Rattle.book.specs.Calling.{row_in}
use Rattle.book.specs.Machines.{BookOutcome, IsStep, RowAnswer, RowCall, acted, acts, asked_under, done_as, machine_of, outcome_of, sessions_of}
use Rattle.book.specs.Naming.{IsPlaceOf, is_named}
use Rattle.book.specs.RowKeepings.{RowNow, RowPlace, kept_of, name_of, row_keeping}
use Rattle.book.proofs.Only.{only}
use Rattle.book.proofs.Places.{IsOnly, keeping_is, under_at}

named_row : (o : Option (Row Client)) (n : List ℕ) → name_of o ≡ Some n
    → o ≡ Some (record { name = n; kept = kept_of o })
named_row None n is = absurd (let e : None ≡ Some n = is in cc)
named_row (Some row) n is =
    let same : row.name ≡ n = let e : Some row.name ≡ Some n = is in cc in
    ap (λ (l : List ℕ). Some (record { name = l; kept = row.kept })) same

-- a row of a name that is present
pub row_of : {C : Type 0} (name : List ℕ) (o : Option (Row C)) → is_named name o ≡ true
    → (row : Row C) × (o ≡ Some row) × (row.name ≡ name)
row_of name None is = absurd (let e : false ≡ true = is in cc)
row_of name (Some row) is = (row, refl, same_is row.name name is)

-- all rows, by one of them and all others
by_others : (new old : Rows Client) (at : ℕ) → set new at None ≡ set old at None
    → new ≡ set old at (get_or new at None)
by_others new old at same =
    sym (set-set new at None (get_or new at None) ∙ set-get_or new at None)
    ∙ ap (λ (l : Rows Client). set l at (get_or new at None)) same
    ∙ set-set old at None (get_or new at None)

-- what came of rows, as what came of an open book
abbrev pub opened : Went RowAnswer Refusal (Rows Client) → Went RowAnswer Refusal (Book Client)
opened w = record { outcome = w.outcome; next = record { rows = w.next; closed = false } }

module _ (k : Mechanism) (name : List ℕ) (old new : BookNow) where
  -- an open book does what is asked, unless a mishap befalls it
  pub on_open : (event : Event RowCall Begin) (w : Went RowAnswer Refusal (Book Client))
      → old.closed ≡ None → befallen (sessions_of k) old.rows event.wanted event.mishap ≡ w
      → happens_if (sessions_of k) (is_some old.closed) (machine_of old) event ≡ w
  on_open event w is_open is =
      ap (λ b. happens_if (sessions_of k) b (machine_of old) event) (ap is_some is_open) ∙ is

  abbrev Came : BookOutcome → Went RowAnswer Refusal (Book Client)
  Came outcome = record { outcome = outcome; next = machine_of new }

  -- what stands then, by its rows and whether it is closed
  pub then_is : (outcome : BookOutcome) (rows : Rows Client) (shut : Bool) → new.rows ≡ rows
      → is_some new.closed ≡ shut
      → record { outcome = outcome; next = record { rows = rows; closed = shut } } ≡ Came outcome
  then_is outcome rows shut same is =
      ap (λ (r : Rows Client). record { outcome = outcome; next = record { rows = r; closed = shut } }) (sym same)
      ∙ ap (λ b. record { outcome = outcome; next = record { rows = new.rows; closed = b } }) (sym is)

  pub closed_step : (ask : Ask RowCall Begin) (call : Call) → is_look_in (sessions_of k) ask ≡ false
      → old.closed ≡ Some call → new ≡ old → IsStep k old new name ask (replied is_shut)
  closed_step ask call look is same =
      ap (λ b. happens_if (sessions_of k) b (machine_of old) (asked_under name ask (replied is_shut))) (ap is_some is)
      ∙ ap (λ b. record {
        outcome = if b then replied (asked_step (sessions_of k) old.rows name ask).reply else replied is_shut;
        next = machine_of old;
      }) look
      ∙ ap (λ (b : BookNow). record { outcome = replied is_shut; next = machine_of b }) (sym same)

  pub none_step : (call : RowCall) → old.closed ≡ None → under name old.rows ≡ None → new ≡ old
      → IsStep k old new name (calls call) (replied no_name)
  none_step call is_open none same =
      on_open (asked_under name (calls call) (replied no_name)) (Came (replied no_name)) is_open
      (ap (λ (o : Option Client). opened (went_step (calls_in (sessions_of k) name old.rows call o))) none
      ∙ then_is (replied no_name) old.rows false (ap (λ (b : BookNow). b.rows) same)
      (ap (λ (b : BookNow). is_some b.closed) same ∙ ap is_some is_open))

module _ (k : Mechanism) (name : List ℕ) (act : Act) (old new : BookNow) (at : ℕ)
    (is : IsPlaceOf name old.rows at) where
  here : (row : Row Client) × (get_or old.rows at None ≡ Some row) × (row.name ≡ name)
  here = row_of name (get_or old.rows at None) is.named

  abbrev Kept : BookNow → Client
  Kept book = kept_of (get_or book.rows at None)

  kept_is : under name old.rows ≡ Some (Kept old)
  kept_is = under_at name old.rows at here.0 is here.1 ∙ ap (λ (o : Option (Row Client)). Some (kept_of o)) (sym here.1)

  -- what the row's session does, as what the rows do
  came : (made : Result (Step Client) Refusal) → act_on k (Kept old) act ≡ made
      → goes (sessions_of k) old.rows (asks (record { name = name; ask = calls (acts act) }))
      ≡ went_step (called_in name old.rows (done_as made))
  came made made_is =
      ap (λ (o : Option Client). went_step (calls_in (sessions_of k) name old.rows (acts act) o)) kept_is
      ∙ ap (λ m. went_step (called_in name old.rows (done_as m))) made_is

  abbrev Stays : Type 0
  Stays = row_keeping.place (row_in new at) ≡ row_keeping.place (row_in old at)

  -- the row keeps its name
  row_is : Stays → get_or new.rows at None ≡ Some (record { name = here.0.name; kept = Kept new })
  row_is stays = named_row (get_or new.rows at None) here.0.name
      (ap (λ (p : RowPlace). p.name) stays ∙ ap name_of here.1)

  rows_are : Stays → new.rows ≡ set old.rows at (Some (record { name = here.0.name; kept = Kept new }))
  rows_are stays = by_others new.rows old.rows at (ap (λ (p : RowPlace). p.others) stays)
      ∙ ap (λ (o : Option (Row Client)). set old.rows at o) (row_is stays)

  same_rows : Stays → Kept new ≡ Kept old → new.rows ≡ old.rows
  same_rows stays keeps = rows_are stays
      ∙ ap (λ (c : Client). set old.rows at (Some (record { name = here.0.name; kept = c })))
      (keeps ∙ ap kept_of here.1)
      ∙ ap (λ (o : Option (Row Client)). set old.rows at o) (sym here.1) ∙ set-get_or old.rows at None

  module _ (disk : DiskState) (ready : IsBookReady old disk) where
    alone : IsOnly name old.rows at here.0
    alone = subst (λ (n : List ℕ). IsOnly n old.rows at here.0) here.2
        (only old.rows old.store ready.holds ready.rests.marked at here.0 here.1)

    done_step : (answer : Answer) → old.closed ≡ None → new.closed ≡ None
        → act_on k (Kept old) act ≡ Ok (step answer (Kept new)) → Stays
        → IsStep k old new name (calls (acts act)) (replied (answers (acted answer)))
    done_step answer is_open stays_open made_is stays =
        on_open k name old new (asked_under name (calls (acts act)) (replied (answers (acted answer)))) _ is_open
        (ap opened (came (Ok (step answer (Kept new))) made_is)
        ∙ then_is k name old new (replied (answers (acted answer))) (keeping name (Kept new) old.rows) false
        (rows_are stays ∙ sym (keeping_is name (Kept new) old.rows at here.0 alone)) (ap is_some stays_open))

    pub act_step : {X : Type 0} (state : X → DiskState) (start now : X) (outcome : Outcome) → old.closed ≡ None
        → KeeperActs row_keeping state (act_on k (Kept old) act) (row_in old at) (row_in new at) start now outcome
        → IsStep k old new name (calls (acts act)) (outcome_of outcome)
    act_step state start now (is_closed call) is_open does =
        let e : None ≡ Some call = sym is_open ∙ does.0 in absurd cc
    act_step state start now (refused refusal) is_open does =
        on_open k name old new (asked_under name (calls (acts act)) (replied (refuses refusal))) _ is_open
        (ap opened (came (Err refusal) does.1)
        ∙ then_is k name old new (replied (refuses refusal)) old.rows false (ap (λ (r : RowNow). r.book.rows) does.2)
        (ap (λ (r : RowNow). is_some r.book.closed) does.2 ∙ ap is_some is_open))
    act_step state start now undrawn is_open does = absurd does
    act_step state start now (acknowledged answer) is_open does = by (has_effect answer) does
      where
        by : (effect : Bool) → IsKeeperEffected row_keeping state effect (act_on k (Kept old) act) (row_in old at)
            (row_in new at) start now answer
            → IsStep k old new name (calls (acts act)) (replied (answers (acted answer)))
        by true did = done_step answer is_open did.stays_open did.made_is did.disk.stays
        by false did = done_step answer is_open (ap (λ (r : RowNow). r.book.closed) did.2 ∙ is_open) did.0
            (ap row_keeping.place did.2)
    act_step state start now (faulted call) is_open does =
        on_open k name old new (asked_under name (calls (acts act)) (replied (fails store_fault))) _ is_open
        (then_is k name old new (replied (fails store_fault)) old.rows true (same_rows does.stays does.keeps)
        (ap is_some does.closes))
