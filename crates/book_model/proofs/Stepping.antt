-- One step of a book, under its name and under another.
use Rattle.std.proofs.Common.{◌≡◌, ℕ, Bool, true, false, List, Option, Some, None, Result, Ok, Err, refl}
use Rattle.std.specs.Str.{bytes_eq}
use Rattle.book_model.specs.Rows.{Rows, is_full, under}
use Rattle.book_model.specs.Steps.{Ask, Sessions, Stepped, alone, begins, begins_alone, begins_in, called, called_in, calls, calls_in, forgets, forgets_in, opened_alone, opened_if, opened_in, step}
use Rattle.book_model.specs.Runs.{replied}
use Rattle.book_model.specs.Independence.{went_well}
use Rattle.book_model.proofs.Names.{begun_other, begun_same, keeping_other, keeping_same, without_other, without_same}

module _ {C A R Call Begin : Type 0} (k : Sessions C A R Call Begin) where
  -- a reply and what stands under the name then are those of the session by itself
  pub record IsAlone (name : List ℕ) (rows : Rows C) (s : Stepped A R (Rows C))
      (t : Stepped A R (Option C)) : Type 0 where
    pub reply_is : s.reply ≡ t.reply
    pub next_is : under name s.next ≡ t.next

  called_same : (name : List ℕ) (rows : Rows C) (c : C) (made : Result (A × C) R)
      → under name rows ≡ Some c → IsAlone name rows (called_in name rows made) (called c made)
  called_same name rows c (Ok made) is = record {
    reply_is = refl;
    next_is = keeping_same name made.1 c rows is;
  }
  called_same name rows c (Err refusal) is = record { reply_is = refl; next_is = is }

  pub step_same : (rows : Rows C) (name : List ℕ) (ask : Ask Call Begin)
      → went_well (replied (step k rows name ask).reply) ≡ true
      → IsAlone name rows (step k rows name ask)
      (alone k name (under name rows) ask)
  step_same rows name (calls call) room = by (under name rows) refl
    where
      by : (o : Option C) → under name rows ≡ o → IsAlone name rows
          (calls_in k name rows call o) (alone k name o (calls call))
      by None is = record { reply_is = refl; next_is = is }
      by (Some c) is = called_same name rows c (k.does c call) is
  step_same rows name forgets room = by (under name rows) refl
    where
      by : (o : Option C) → under name rows ≡ o → IsAlone name rows
          (forgets_in name rows o) (alone k name o forgets)
      by None is = record { reply_is = refl; next_is = is }
      by (Some c) is = record { reply_is = refl; next_is = without_same name rows }
  step_same rows name (begins begin) room = by (k.is_lawful name) (under name rows) refl room
    where
      opened : (f : Bool) (o : Option C) → is_full rows ≡ f → under name rows ≡ None
          → went_well (replied (opened_if {A = A} {R = R} f name rows o).reply) ≡ true
          → IsAlone name rows (opened_if f name rows o) (opened_alone o)
      opened true o full none room = absurd (let e : false ≡ true = room in cc)
      opened false None full none room = record { reply_is = refl; next_is = none }
      opened false (Some c) full none room = record {
        reply_is = refl;
        next_is = begun_same name c rows none full;
      }

      by : (l : Bool) (o : Option C) → under name rows ≡ o
          → went_well (replied
          (begins_in {A = A} {R = R} l name rows o (k.opens begin)).reply) ≡ true
          → IsAlone name rows (begins_in l name rows o (k.opens begin))
          (begins_alone l o (k.opens begin))
      by false o is room = record { reply_is = refl; next_is = is }
      by true (Some c) is room = record { reply_is = refl; next_is = is }
      by true None is room = opened (is_full rows) (k.opens begin) refl is room

  pub step_other : (rows : Rows C) (n m : List ℕ) (ask : Ask Call Begin) → bytes_eq n m ≡ false
      → under m (step k rows n ask).next ≡ under m rows
  step_other rows n m (calls call) isnt = by (under n rows)
    where
      one : (made : Result (A × C) R) → under m (called_in n rows made).next ≡ under m rows
      one (Ok made) = keeping_other n m isnt made.1 rows
      one (Err refusal) = refl

      by : (o : Option C) → under m (calls_in k n rows call o).next ≡ under m rows
      by None = refl
      by (Some c) = one (k.does c call)
  step_other rows n m forgets isnt = by (under n rows)
    where
      by : (o : Option C) → under m (forgets_in {A = A} {R = R} n rows o).next ≡ under m rows
      by None = refl
      by (Some c) = without_other n m isnt rows
  step_other rows n m (begins begin) isnt = by (k.is_lawful n) (under n rows)
    where
      begun_on : (o : Option C) → under m (opened_in {A = A} {R = R} n rows o).next ≡ under m rows
      begun_on None = refl
      begun_on (Some c) = begun_other n m isnt c rows

      full_on : (f : Bool)
          → under m (opened_if {A = A} {R = R} f n rows (k.opens begin)).next ≡ under m rows
      full_on true = refl
      full_on false = begun_on (k.opens begin)

      by : (l : Bool) (o : Option C)
          → under m (begins_in {A = A} {R = R} l n rows o (k.opens begin)).next ≡ under m rows
      by false o = refl
      by true (Some c) = refl
      by true None = full_on (is_full rows)
