-- Whole runs: what is answered under a name is what the session by itself answers.
use Rattle.std.proofs.Common.{◌≡◌, ℕ, Bool, true, false, List, [], ◌∷◌, ◌++◌, Option, Some, None, refl, sym, ◌∙◌, ap, subst}
use Rattle.std.specs.Prelude.{if◌then◌else◌}
use Rattle.std.specs.Str.{bytes_eq}
use Rattle.book_model.specs.Rows.{Rows, under}
use Rattle.book_model.specs.Steps.{Ask, Mishap, Reply, Sessions, alone, alone_after, alone_replies, step}
use Rattle.book_model.specs.Runs.{Asked, Book, Event, Fanned, Wanted, Went, asks, befallen, fan_all, fans, goes, happens, happens_if, replied, run, went_fan}
use Rattle.book_model.specs.Independence.{AllWentWell, IsAnsweredAlone, IsIndependent, asked_here, asked_of, replied_here, replies_of, went_well}
use Rattle.book_model.proofs.Names.{same_is}
use Rattle.book_model.proofs.Stepping.{step_other, step_same}
use Rattle.book_model.proofs.Fanning.{fanned_alone}

module _ {C A R Call Begin : Type 0} (k : Sessions C A R Call Begin) (name : List ℕ) where
  -- the session by itself, over two lists of calls
  solo_both : (c : Option C) (xs ys : List (Ask Call Begin))
      → alone_replies k name c (xs ++ ys)
      ≡ alone_replies k name c xs ++ alone_replies k name (alone_after k name c xs) ys
  solo_both c [] ys = refl
  solo_both c (ask ∷ xs) ys =
      ap (λ (l : List (Reply A R)). (alone k name c ask).reply ∷ l)
      (solo_both (alone k name c ask).next xs ys)

  -- what came under the name of what was wanted
  record IsHere (rows : Rows C) (wanted : Wanted Call Begin) (w : Went A R (Rows C)) : Type 0 where
    replies : replied_here name wanted w.outcome
        ≡ alone_replies k name (under name rows) (asked_here name wanted w.outcome)
    stands : under name w.next
        ≡ alone_after k name (under name rows) (asked_here name wanted w.outcome)

  abbrev Goal : Rows C → Asked Call Begin → Bool → Type 0
  Goal rows a b = ((if b then (step k rows a.name a.ask).reply ∷ [] else [])
      ≡ alone_replies k name (under name rows) (if b then a.ask ∷ [] else []))
      × (under name (step k rows a.name a.ask).next
      ≡ alone_after k name (under name rows) (if b then a.ask ∷ [] else []))

  asked_once : (rows : Rows C) (a : Asked Call Begin)
      → went_well (replied (step k rows a.name a.ask).reply) ≡ true
      → IsHere rows (asks a) (goes k rows (asks a))
  asked_once rows a room = by (bytes_eq a.name name) refl
    where
      pair : (b : Bool) → bytes_eq a.name name ≡ b → Goal rows a b
      pair true same =
          let is = step_same k rows a.name a.ask room in
          subst (λ (n : List ℕ). ((step k rows a.name a.ask).reply ∷ []
          ≡ alone_replies k n (under n rows) (a.ask ∷ []))
          × (under n (step k rows a.name a.ask).next
          ≡ alone_after k n (under n rows) (a.ask ∷ []))) (same_is a.name name same)
          (ap (λ (r : Reply A R). r ∷ []) is.reply_is, is.next_is)
      pair false other = (refl, step_other k rows a.name name a.ask other)

      by : (b : Bool) → bytes_eq a.name name ≡ b
          → IsHere rows (asks a) (goes k rows (asks a))
      by b is_b = let both = subst (Goal rows a) (sym is_b) (pair b is_b) in
          record { replies = both.0; stands = both.1 }

  fanned_once : (rows : Rows C) (list : List (List ℕ × Call)) (o : Option (Fanned A C))
      → fan_all k rows list ≡ o → IsHere rows (fans list) (went_fan rows o)
  fanned_once rows list None is = record { replies = refl; stands = refl }
  fanned_once rows list (Some f) is =
      let f_is = fanned_alone k name rows list f is in
      record { replies = f_is.replies; stands = f_is.stands }

  here : (rows : Rows C) (wanted : Wanted Call Begin)
      → went_well (goes k rows wanted).outcome ≡ true → IsHere rows wanted (goes k rows wanted)
  here rows (asks a) well = asked_once rows a well
  here rows (fans []) well = record { replies = refl; stands = refl }
  here rows (fans (one ∷ list)) well =
      fanned_once rows (one ∷ list) (fan_all k rows (one ∷ list)) refl

  -- what came of an event on an open book, which stays open where all goes well
  record IsOnBook (rows : Rows C) (wanted : Wanted Call Begin)
      (w : Went A R (Book C)) : Type 0 where
    stays_open : w.next.closed ≡ false
    replies : replied_here name wanted w.outcome
        ≡ alone_replies k name (under name rows) (asked_here name wanted w.outcome)
    stands : under name w.next.rows
        ≡ alone_after k name (under name rows) (asked_here name wanted w.outcome)

  spared : (rows : Rows C) (wanted : Wanted Call Begin) (mishap : Option Mishap)
      → went_well (befallen k rows wanted mishap).outcome ≡ true
      → IsOnBook rows wanted (befallen k rows wanted mishap)
  spared rows wanted None well =
      let is = here rows wanted well in
      record { stays_open = refl; replies = is.replies; stands = is.stands }
  spared rows (asks a) (Some mishap) well = absurd (let e : false ≡ true = well in cc)
  spared rows (fans list) (Some mishap) well = absurd (let e : false ≡ true = well in cc)

  on_book : (book : Book C) (event : Event Call Begin) (closed : Bool) → closed ≡ false
      → went_well (happens_if k closed book event).outcome ≡ true
      → IsOnBook book.rows event.wanted (happens_if k closed book event)
  on_book book event true is well = absurd cc
  on_book book event false is well = spared book.rows event.wanted event.mishap well

  pub answered_so : (book : Book C) (events : List (Event Call Begin)) → book.closed ≡ false
      → AllWentWell (run k book events) → replies_of name (run k book events)
      ≡ alone_replies k name (under name book.rows) (asked_of name (run k book events))
  answered_so book [] is_open well = refl
  answered_so book (event ∷ events) is_open well =
      let w = happens k book event in
      let is = on_book book event book.closed is_open well.0 in
      let rest = answered_so w.next events is.stays_open well.1 in
      let asked = asked_here name event.wanted w.outcome in
      let later = asked_of name (run k w.next events) in
      ap (λ (l : List (Reply A R)). l ++ replies_of name (run k w.next events)) is.replies
      ∙ ap (λ (l : List (Reply A R)). alone_replies k name (under name book.rows) asked ++ l)
      (rest ∙ ap (λ (o : Option C). alone_replies k name o later) is.stands)
      ∙ sym (solo_both (under name book.rows) asked later)

pub books_answer_alone : {C A R Call Begin : Type 0} (k : Sessions C A R Call Begin)
    → IsAnsweredAlone k
books_answer_alone k name book events is_open well = answered_so k name book events is_open well

pub names_are_independent : {C A R Call Begin : Type 0} (k : Sessions C A R Call Begin)
    → IsIndependent k
names_are_independent k name first second events others is =
    answered_so k name first events is.first_open is.first_well
    ∙ ap (λ o. alone_replies k name o (asked_of name (run k first events))) is.kept
    ∙ ap (λ l. alone_replies k name (under name second.rows) l) is.asked
    ∙ sym (answered_so k name second others is.second_open is.second_well)
