-- A fan is an event of the machine of named rows: each of its calls is done on the rows as the ones before left them.
use Rattle.std.proofs.Common.{Err, List, None, Ok, Option, Result, Some, [], ap, arith, false, get_or, length, refl, subst, suc, sym, true, zero, ℕ, ⊎_elim, ◌+◌, ◌<◌, ◌≤◌, ◌∙◌, ◌∷◌, ◌≡◌}
use Rattle.std.proofs.Math.ListN.{set}
use Rattle.std.proofs.lemmas.Bool.{cases_eq}
use Rattle.std.proofs.lemmas.List.{get_or-set_other, get_or-set_same}
use Rattle.std.specs.Prelude.{IsOk, is_some}
use Rattle.std.specs.Str.{bytes_eq}
use Rattle.book_model.specs.Rows.{Row, Rows, keeping, under}
use Rattle.book_model.specs.Runs.{Fanned, Wanted, failed, fan_all, fan_called, fan_under, fanned, fans, goes, more, went_fan}
use Rattle.book_model.specs.Steps.{store_fault}
use Rattle.dr_base.specs.declared.key.Key32.{Key32}
use Rattle.dr_disk.specs.State.{DiskState}
use Rattle.dr_ports.specs.States.{DrawsState}
use Rattle.book_store.specs.declared.errors.StoreFault.{StoreFault}
use Rattle.dr_disk.specs.declared.call.Call.{Call}
use Rattle.dr_model.specs.Machines.Acts.{said_by, saying, saying_by}
use Rattle.dr_model.specs.Machines.Draws.{given_or}
use Rattle.kem_laws.specs.Mechanism.{Mechanism}
use Rattle.ratchet.specs.Seen.{seed_bytes}
use Rattle.session_model.specs.Clients.{Client, SaidText, say_on}
use Rattle.session_model.specs.Contents.{text_content}
use Rattle.session_model.specs.declared.answer.Answer.TheVariants.{Said}
use Rattle.session_model.specs.declared.answer.Refusal.{Refusal}
use Rattle.book.specs.Books.{BookNow, IsBookReady, MayBookAct}
use Rattle.book.specs.Fanning.{AsksAndFans, FansIn}
use Rattle.book.specs.Fans.{AllSay, AreListed, Fan, IsFanList, Says, fan_of, fan_place, fan_row, fan_seed, fanned_rows, key_bytes, said_next, said_or, said_row}
use Rattle.client.specs.declared.begin.Begin.{Begin}
use Rattle.book.specs.FanStepping.{FansAsStep, IsFanStep, fan_calls}
use Rattle.book.specs.Machines.{RowAnswer, RowCall, acted, acts, done_as, row_does, sessions_of}
use Rattle.book.specs.Naming.{IsPlaceOf, is_named}
use Rattle.book.specs.RowKeepings.{kept_of, known_name, name_of, with_kept}
use Rattle.book.proofs.Fanning.Fanned.{here, later, row_stays, rows_long, inside_rows}
use Rattle.book.specs.declared.refusals.FanRefusal.{FanRefusal}
use Rattle.book.specs.declared.refusals.FanRefusal.TheVariants.{Closed, Nobody, Peer, StoreFault as Faulted}
use Rattle.book.proofs.Fanning.Asked.{all_say}
use Rattle.book.proofs.Only.{only}
use Rattle.book.specs.Rows.{stored}
use Rattle.book.proofs.Places.{IsOnly, keeping_is, under_at}
use Rattle.book.proofs.Stepped.{on_open, opened, then_is}

-- ---- names

named_by : (name : List ℕ) (a b : Option (Row Client)) → name_of a ≡ name_of b → is_named name a ≡ is_named name b
named_by name None None is = refl
named_by name None (Some b) is = absurd (let e : None ≡ Some b.name = is in cc)
named_by name (Some a) None is = absurd (let e : Some a.name ≡ None = is in cc)
named_by name (Some a) (Some b) is =
    ap (λ (l : List ℕ). bytes_eq l name) (let e : Some a.name ≡ Some b.name = is in let f : a.name ≡ b.name = cc in f)

same_name : (row : Option (Row Client)) (next : Client) → name_of (with_kept row next) ≡ name_of row
same_name None next = refl
same_name (Some row) next = refl

-- ---- a session that says the text, as the machine has it

pub seed_given : (seed : Option Key32) → given_or [] (key_bytes seed) ≡ seed_bytes seed
seed_given None = refl
seed_given (Some seed) = refl

-- what it answers
pub record IsDone (k : Mechanism) (text : List ℕ) (kept : Client) (seed : Option Key32) : Type 0 where
  pub answer : RowAnswer
  pub does : row_does k kept (acts (saying (text_content text) (key_bytes seed))) ≡ Ok (answer, said_next k text kept seed)

abbrev Said_as : Result SaidText Refusal → Result (RowAnswer × Client) Refusal
Said_as r = done_as (said_by r)

done_of : (k : Mechanism) (text : List ℕ) (kept : Client) (seed : Option Key32) → Says k text kept seed → IsDone k text kept seed
done_of k text kept seed says = by (say_on k kept (text_content text) (seed_bytes seed)) refl says.said
  where
    does_as : row_does k kept (acts (saying (text_content text) (key_bytes seed)))
        ≡ Said_as (say_on k kept (text_content text) (seed_bytes seed))
    does_as = ap (λ r. done_as (saying_by k kept (text_content text) (key_bytes seed) r)) says.checked
        ∙ ap (λ (s : List ℕ). Said_as (say_on k kept (text_content text) s)) (seed_given seed)

    by : (r : Result SaidText Refusal) → say_on k kept (text_content text) (seed_bytes seed) ≡ r
        → IsOk (say_on k kept (text_content text) (seed_bytes seed)) → IsDone k text kept seed
    by (Ok said) is ok = record {
      answer = acted (Said said.post.position);
      does = does_as ∙ ap Said_as is
          ∙ ap (λ (c : Client). Ok (acted (Said said.post.position), c)) (sym (ap (λ r. said_or kept r) is));
    }
    by (Err e) is ok = absurd (let f : IsOk {T = SaidText} (Err e) = subst (λ (r : Result SaidText Refusal). IsOk r) is ok in cc)

-- each present row is the only one of its name
abbrev pub AreOnly : Rows Client → Type 0
AreOnly rows = (at : ℕ) (row : Row Client) → get_or rows at None ≡ Some row → IsOnly row.name rows at row

pub only_place : (name : List ℕ) (rows : Rows Client) (at : ℕ) (row : Row Client) → IsOnly name rows at row
    → IsPlaceOf name rows at
only_place name rows at row is = record {
  named = ap (λ (o : Option (Row Client)). is_named name o) is.here ∙ is.named;
  first = λ q less. is.others q (λ e. absurd (omega (arith, less, e)));
}

module _ (k : Mechanism) (fan : Fan) (all : AllSay k fan) (onlys : AreOnly fan.rows) where
  abbrev next : ℕ → Option (Row Client)
  next n = said_row k fan.text (fan_seed fan n) (fan_row fan n)

  names_same : (n q : ℕ) → n ≤ length fan.list → name_of (get_or (fanned_rows k fan n) q None) ≡ name_of (get_or fan.rows q None)
  names_same zero q le = refl
  names_same (suc n) q le = ⊎_elim
      (λ at. ap (λ i. name_of (get_or (set (fanned_rows k fan n) (fan_place fan n) (next n)) i None)) at
      ∙ ap name_of (get_or-set_same (fanned_rows k fan n) (fan_place fan n) (next n) None
      (omega (arith, rows_long k fan all n, inside_rows k fan all n (omega (arith, le)))))
      ∙ same_name (fan_row fan n) (said_next k fan.text (kept_of (fan_row fan n)) (fan_seed fan n))
      ∙ ap (λ i. name_of (get_or fan.rows i None)) (sym at))
      (λ apart. ap name_of (get_or-set_other (fanned_rows k fan n) (fan_place fan n) q (next n) None apart)
      ∙ names_same n q (omega (arith, le)))
      (cases_eq q (fan_place fan n))

  module _ (n : ℕ) (lt : n < length fan.list) where
    pub row : (row : Row Client) × (fan_row fan n ≡ Some row)
    row = here k fan all n lt

    abbrev name : List ℕ
    name = row.0.name

    pub first_only : IsOnly name fan.rows (fan_place fan n) row.0
    first_only = onlys (fan_place fan n) row.0 row.1

    now_only : IsOnly name (fanned_rows k fan n) (fan_place fan n) row.0
    now_only = record {
      here = row_stays k fan all n (fan_place fan n) (later k fan all n lt) ∙ row.1;
      named = first_only.named;
      others = λ q apart. named_by name (get_or (fanned_rows k fan n) q None) (get_or fan.rows q None)
          (names_same n q (omega (arith, lt))) ∙ first_only.others q apart;
    }

    pub kept_now : under name (fanned_rows k fan n) ≡ Some row.0.kept
    kept_now = under_at name (fanned_rows k fan n) (fan_place fan n) row.0
        (only_place name (fanned_rows k fan n) (fan_place fan n) row.0 now_only) now_only.here

    done : IsDone k fan.text row.0.kept (fan_seed fan n)
    done = done_of k fan.text row.0.kept (fan_seed fan n)
        (subst (λ (o : Option (Row Client)). Says k fan.text (kept_of o) (fan_seed fan n)) row.1 (all.say n lt))

    pub keeps : keeping name (said_next k fan.text row.0.kept (fan_seed fan n)) (fanned_rows k fan n) ≡ fanned_rows k fan (suc n)
    keeps = keeping_is name (said_next k fan.text row.0.kept (fan_seed fan n)) (fanned_rows k fan n) (fan_place fan n) row.0 now_only
        ∙ ap (λ (o : Option (Row Client)). set (fanned_rows k fan n) (fan_place fan n)
        (said_row k fan.text (fan_seed fan n) o)) (sym row.1)

  abbrev then_all : ℕ → ℕ → Rows Client → Option (Fanned RowAnswer Client)
  then_all n m rows = fan_all (sessions_of k) rows (fan_calls fan (suc n) m)

  abbrev call : ℕ → RowCall
  call n = acts (saying (text_content fan.text) (key_bytes (fan_seed fan n)))

  pub goes_on : (m n : ℕ) → n + m ≡ length fan.list → (said : List RowAnswer)
      × (fan_all (sessions_of k) (fanned_rows k fan n) (fan_calls fan n m)
      ≡ Some (record { said = said; next = fanned_rows k fan (length fan.list) }))
  goes_on zero n is = (
    [],
    ap (λ i. Some (record { said = []; next = fanned_rows k fan i })) (let e : n ≡ length fan.list = omega (arith, is) in e),
  )
  goes_on (suc m) n is =
      let rest = goes_on m (suc n) (omega (arith, is)) in
      (done_now.answer ∷ rest.0, step rest.0 rest.1)
    where
      lt : n < length fan.list
      lt = omega (arith, is)

      done_now : IsDone k fan.text (row n lt).0.kept (fan_seed fan n)
      done_now = done n lt

      step : (said : List RowAnswer) → fan_all (sessions_of k) (fanned_rows k fan (suc n)) (fan_calls fan (suc n) m)
          ≡ Some (record { said = said; next = fanned_rows k fan (length fan.list) })
          → fan_all (sessions_of k) (fanned_rows k fan n) (fan_calls fan n (suc m))
          ≡ Some (record { said = done_now.answer ∷ said; next = fanned_rows k fan (length fan.list) })
      step said rest =
          ap (λ (o : Option (Row Client)). fan_under (sessions_of k) (known_name (name_of o)) (fanned_rows k fan n) (call n)
          (under (known_name (name_of o)) (fanned_rows k fan n)) (then_all n m)) (row n lt).1
          ∙ ap (λ (o : Option Client). fan_under (sessions_of k) (row n lt).0.name (fanned_rows k fan n) (call n) o (then_all n m))
          (kept_now n lt)
          ∙ ap (λ r. fan_called (row n lt).0.name (fanned_rows k fan n) r (then_all n m)) done_now.does
          ∙ ap (λ (l : Rows Client). more done_now.answer (then_all n m l)) (keeps n lt)
          ∙ ap (λ o. more done_now.answer o) rest

-- ---- an event

module _ (k : Mechanism) (fan : Fan) (old new : BookNow) where
  abbrev Wants : Wanted RowCall Begin
  Wants = fans (fan_calls fan 0 (length fan.list))

  goes_fan : (n : ℕ) → 0 < n → goes (sessions_of k) old.rows (fans (fan_calls fan 0 n))
      ≡ went_fan old.rows (fan_all (sessions_of k) old.rows (fan_calls fan 0 n))
  goes_fan zero lt = absurd (omega (arith, lt))
  goes_fan (suc n) lt = refl

  pub fan_step : AllSay k fan → (disk : DiskState) → IsBookReady old disk → old.rows ≡ fan.rows → 0 < length fan.list
      → old.closed ≡ None → new.closed ≡ None → new.rows ≡ fanned_rows k fan (length fan.list)
      → (said : List RowAnswer) × IsFanStep k old new fan None (fanned said)
  fan_step all disk ready same some is_open stays_open rows =
      let all_said = goes_on k fan all (only fan.rows old.store (ready.holds ∙ ap stored same) ready.rests.marked)
      (length fan.list) 0 (omega arith) in (
        all_said.0,
        on_open k [] old new (record { wanted = Wants; mishap = None }) _ is_open
            (ap opened (goes_fan (length fan.list) some
            ∙ ap (λ (l : Rows Client). went_fan old.rows (fan_all (sessions_of k) l (fan_calls fan 0 (length fan.list)))) same
            ∙ ap (λ o. went_fan old.rows o) all_said.1)
            ∙ then_is k [] old new (fanned all_said.0) (fanned_rows k fan (length fan.list)) false rows (ap is_some stays_open)),
      )

  pub fault_step : (call : Call) → old.closed ≡ None → new.closed ≡ Some call → new.rows ≡ old.rows
      → IsFanStep k old new fan (Some store_fault) (failed store_fault)
  fault_step call is_open shut rows =
      on_open k [] old new (record { wanted = Wants; mishap = Some store_fault }) _ is_open
      (then_is k [] old new (failed store_fault) old.rows true rows (ap is_some shut))

-- ---- by what a fan did

module _ {W : Type 0} (draws : W → DrawsState) (k : Mechanism) (text list : List ℕ) (old new : BookNow)
    (start end : DiskState) (source left : W) where
  pub ok_steps : (u : Unit) → IsFanList list → AreListed old.rows list → MayBookAct old start
      → AsksAndFans {T = Unit} draws k text list old new start end source left (Ok u)
      → FansAsStep draws k text list old new source left (Ok u)
  ok_steps u fair listed may did =
      let seeds = did.2.0 in
      let fans = did.2.2 in (
        seeds,
        did.2.1,
        fan_step k (fan_of old.rows list text seeds) old new
            (all_say draws k text old.rows list source left seeds did.2.1 fair listed)
            start (may did.0) refl did.1 did.0 fans.changes.stays_open fans.changes.rows,
      )

  pub fault_steps : (fault : StoreFault)
      → AsksAndFans {T = Unit} draws k text list old new start end source left (Err fault)
      → FansAsStep draws k text list old new source left (Err (Faulted fault.call))
  fault_steps fault did =
      let seeds = did.2.0 in
      let fans = did.2.2 in (
        seeds,
        did.2.1,
        fault_step k (fan_of old.rows list text seeds) old new fault.call did.0 fans.changes.closes fans.changes.keeps,
      )

-- however it ends
pub fan_steps : {X W : Type 0} (state : X → DiskState) (draws : W → DrawsState) (k : Mechanism) (text list : List ℕ)
    (old new : BookNow) (start now : X) (source left : W) → IsFanList list → MayBookAct old (state start) → AreListed old.rows list
    → (result : Result Unit FanRefusal) → FansIn state draws k text list old new start now source left result
    → FansAsStep draws k text list old new source left result
fan_steps state draws k text list old new start now source left fair may listed (Ok u) did =
    ok_steps draws k text list old new (state start) (state now) source left u fair listed may did
fan_steps state draws k text list old new start now source left fair may listed (Err (Faulted call)) did =
    fault_steps draws k text list old new (state start) (state now) source left (record { call = call }) did
fan_steps state draws k text list old new start now source left fair may listed (Err (Closed call)) did = did.1
fan_steps state draws k text list old new start now source left fair may listed (Err Nobody) did = did.2
fan_steps state draws k text list old new start now source left fair may listed (Err (Peer at refusal)) did = did.2
