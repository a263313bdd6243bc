-- One call under each of several names.
use Rattle.std.proofs.Common.{◌≡◌, ℕ, Bool, true, false, List, [], ◌∷◌, Option, Some, None, Result, Ok, Err, refl, sym, ◌∙◌, ap, subst}
use Rattle.std.specs.Prelude.{if◌then◌else◌}
use Rattle.std.specs.Str.{bytes_eq}
use Rattle.book_model.specs.Rows.{Rows, keeping, under}
use Rattle.book_model.specs.Steps.{Reply, Sessions, alone, alone_after, alone_replies, answers, called, calls}
use Rattle.book_model.specs.Runs.{Fanned, fan_all, fan_called, fan_under, more}
use Rattle.book_model.specs.Independence.{fan_asks, fan_replies}
use Rattle.book_model.proofs.Names.{keeping_other, keeping_same, same_is}

module _ {C A R Call Begin : Type 0} (k : Sessions C A R Call Begin)
    (name : List ℕ) where
  pub record IsFanned (rows : Rows C) (list : List (List ℕ × Call)) (f : Fanned A C) : Type 0 where
    pub replies : fan_replies {R = R} name list f.said
        ≡ alone_replies k name (under name rows) (fan_asks name list)
    pub stands : under name f.next ≡ alone_after k name (under name rows) (fan_asks name list)

  abbrev Goal : Rows C → List ℕ × Call → List (List ℕ × Call) → A → Fanned A C → Bool → Type 0
  Goal rows one list a f b = ((if b then answers a ∷ fan_replies {R = R} name list f.said
      else fan_replies name list f.said)
      ≡ alone_replies k name (under name rows)
      (if b then calls one.1 ∷ fan_asks name list else fan_asks name list))
      × (under name f.next ≡ alone_after k name (under name rows)
      (if b then calls one.1 ∷ fan_asks name list else fan_asks name list))

  -- one more, whose call was Ok
  one_more : (rows : Rows C) (one : List ℕ × Call) (list : List (List ℕ × Call)) (c : C)
      (made : A × C) (f : Fanned A C) → under one.0 rows ≡ Some c → k.does c one.1 ≡ Ok made
      → IsFanned (keeping one.0 made.1 rows) list f
      → IsFanned rows (one ∷ list) (record { said = made.0 ∷ f.said; next = f.next })
  one_more rows one list c made f is ok rest = by (bytes_eq one.0 name) refl
    where
      pair : (b : Bool) → bytes_eq one.0 name ≡ b → Goal rows one list made.0 f b
      pair true same =
          let here : under name rows ≡ Some c =
          ap (λ (n : List ℕ). under n rows) (sym (same_is one.0 name same)) ∙ is in
          let stood : under name (keeping one.0 made.1 rows) ≡ Some made.1 =
          ap (λ (n : List ℕ). under name (keeping n made.1 rows)) (same_is one.0 name same)
          ∙ keeping_same name made.1 c rows here in
          let step : alone k name (under name rows) (calls one.1)
          ≡ record { reply = answers made.0; next = Some made.1 } =
          ap (λ (o : Option C). alone k name o (calls one.1)) here
          ∙ ap (λ (r : Result (A × C) R). called c r) ok in (
            ap (λ (l : List (Reply A R)). answers made.0 ∷ l) (rest.replies
                ∙ ap (λ (o : Option C). alone_replies k name o (fan_asks name list)) stood)
                ∙ sym (ap (λ s. s.reply ∷ alone_replies k name s.next (fan_asks name list)) step),
            rest.stands ∙ ap (λ (o : Option C). alone_after k name o (fan_asks name list)) stood
                ∙ sym (ap (λ s. alone_after k name s.next (fan_asks name list)) step),
          )
      pair false other =
          let stays : under name (keeping one.0 made.1 rows) ≡ under name rows =
          keeping_other one.0 name other made.1 rows in (
            rest.replies ∙ ap (λ (o : Option C). alone_replies k name o (fan_asks name list)) stays,
            rest.stands ∙ ap (λ (o : Option C). alone_after k name o (fan_asks name list)) stays,
          )

      by : (b : Bool) → bytes_eq one.0 name ≡ b → IsFanned rows (one ∷ list)
          (record { said = made.0 ∷ f.said; next = f.next })
      by b is_b = let both = subst (Goal rows one list made.0 f) (sym is_b) (pair b is_b) in
          record { replies = both.0; stands = both.1 }

  abbrev Rest : Rows C → List (List ℕ × Call) → Type 0
  Rest rows list = (f : Fanned A C) → fan_all k rows list ≡ Some f → IsFanned rows list f

  rest_of : (rows : Rows C) (one : List ℕ × Call) (list : List (List ℕ × Call)) (f : Fanned A C)
      (c : C) (made : A × C) → under one.0 rows ≡ Some c → k.does c one.1 ≡ Ok made
      → (o : Option (Fanned A C)) → fan_all k (keeping one.0 made.1 rows) list ≡ o
      → Rest (keeping one.0 made.1 rows) list
      → more made.0 o ≡ Some f → IsFanned rows (one ∷ list) f
  rest_of rows one list f c made is ok None all rest h = absurd (let e : None ≡ Some f = h in cc)
  rest_of rows one list f c made is ok (Some g) all rest h =
      let e : record { said = made.0 ∷ g.said; next = g.next } ≡ f = cc in
      subst (IsFanned rows (one ∷ list)) e (one_more rows one list c made g is ok (rest g all))

  made_of : (rows : Rows C) (one : List ℕ × Call) (list : List (List ℕ × Call)) (f : Fanned A C)
      (c : C) → under one.0 rows ≡ Some c → (r : Result (A × C) R) → k.does c one.1 ≡ r
      → ((next : Rows C) → Rest next list)
      → fan_called one.0 rows r (λ next. fan_all k next list) ≡ Some f
      → IsFanned rows (one ∷ list) f
  made_of rows one list f c is (Ok made) ok rest h =
      rest_of rows one list f c made is ok (fan_all k (keeping one.0 made.1 rows) list) refl
      (rest (keeping one.0 made.1 rows)) h
  made_of rows one list f c is (Err refusal) ok rest h = absurd (let e : None ≡ Some f = h in cc)

  under_of : (rows : Rows C) (one : List ℕ × Call) (list : List (List ℕ × Call)) (f : Fanned A C)
      (o : Option C) → under one.0 rows ≡ o → ((next : Rows C) → Rest next list)
      → fan_under k one.0 rows one.1 o (λ next. fan_all k next list) ≡ Some f
      → IsFanned rows (one ∷ list) f
  under_of rows one list f None is rest h = absurd (let e : None ≡ Some f = h in cc)
  under_of rows one list f (Some c) is rest h =
      made_of rows one list f c is (k.does c one.1) refl rest h

  pub fanned_alone : (rows : Rows C) (list : List (List ℕ × Call)) → Rest rows list
  fanned_alone rows [] f is =
      let some : Some (record { said = []; next = rows }) ≡ Some f = is in
      let e : record { said = []; next = rows } ≡ f = cc in
      subst (IsFanned rows []) e (record { replies = refl; stands = refl })
  fanned_alone rows (one ∷ list) f is =
      under_of rows one list f (under one.0 rows) refl (λ next. fanned_alone next list) is
