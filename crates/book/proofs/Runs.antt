-- Calls of a book, one after the other, are a run of the machine of named rows.
use Rattle.std.proofs.Common.{List, None, Option, [], ap, map, refl, subst, sym, ℕ, ◌∙◌, ◌∷◌, ◌≡◌}
use Rattle.std.specs.Prelude.{is_some}
use Rattle.book_model.specs.Independence.{AllWentWell, asked_of, replies_of}
use Rattle.book_model.specs.Rows.{under}
use Rattle.book_model.specs.Runs.{Book, Event, Happened, Went, run}
use Rattle.book_model.specs.Steps.{alone_replies}
use Rattle.book_model.proofs.Running.{answered_so}
use Rattle.kem_laws.specs.Mechanism.{Mechanism}
use Rattle.session_model.specs.Clients.{Client}
use Rattle.session_model.specs.declared.answer.Refusal.{Refusal}
use Rattle.client.specs.declared.begin.Begin.{Begin}
use Rattle.book.specs.Books.{BookNow}
use Rattle.book.specs.Machines.{AreSteps, HaveInCommon, RowAnswer, RowCall, machine_of, sessions_of}

abbrev Came : Type 0
Came = Happened RowCall Begin RowAnswer Refusal

abbrev events_of : List Came → List (Event RowCall Begin)
events_of hs = map (λ (h : Came). h.event) hs

module _ (k : Mechanism) where
  ran : (book : BookNow) (books : List BookNow) (hs : List Came) → AreSteps k book books hs
      → run (sessions_of k) (machine_of book) (events_of hs) ≡ hs
  ran book [] [] are = refl
  ran book [] (h ∷ hs) are = absurd are
  ran book (next ∷ books) [] are = absurd are
  ran book (next ∷ books) (h ∷ hs) are =
      ap (λ (w : Went RowAnswer Refusal (Book Client)). record { event = h.event; outcome = w.outcome }
      ∷ run (sessions_of k) w.next (events_of hs)) are.0
      ∙ ap (λ (l : List Came). h ∷ l) (ran next books hs are.1)

  module _ (name : List ℕ) where
    pub alone_so : (book : BookNow) (books : List BookNow) (hs : List Came) → AreSteps k book books hs
        → book.closed ≡ None → AllWentWell hs
        → replies_of name hs ≡ alone_replies (sessions_of k) name (under name book.rows) (asked_of name hs)
    alone_so book books hs are is_open well =
        let is = ran book books hs are in
        subst (λ (l : List Came). replies_of name l
        ≡ alone_replies (sessions_of k) name (under name book.rows) (asked_of name l)) is
        (answered_so (sessions_of k) name (machine_of book) (events_of hs) (ap is_some is_open)
        (subst (λ (l : List Came). AllWentWell l) (sym is) well))

    pub independent_so : (first second : BookNow) (books others : List BookNow) (here there : List Came)
        → AreSteps k first books here → AreSteps k second others there
        → HaveInCommon name first second here there → replies_of name here ≡ replies_of name there
    independent_so first second books others here there are also common =
        alone_so first books here are common.first_open common.first_well
        ∙ ap (λ (o : Option Client). alone_replies (sessions_of k) name o (asked_of name here)) common.kept
        ∙ ap (λ l. alone_replies (sessions_of k) name (under name second.rows) l) common.asked
        ∙ sym (alone_so second others there also common.second_open common.second_well)
