-- The lines of a fan, written one after the other.
use Rattle.std.proofs.Common.{Err, List, Option, ap, append_assoc, append-nil, arith, subst, suc, sym, zero, ℕ, ◌++◌, ◌+◌, ◌-◌, ◌<◌, ◌∙◌, ◌≡◌}
use Rattle.std.specs.Borrow.{Bor}
use Rattle.dr_ports.specs.Ports.{appended}
use Rattle.dr_ports.specs.States.{SinkState}
use Rattle.dr_ports.specs.Writing.{Writes}
use Rattle.dr_ports.proofs.Told.{appended-appended}
use Rattle.dr_ports.proofs.WritingLemmas.{writes_behind, writes_first}
use Rattle.session_model.specs.Clients.{Client}
use Rattle.book_model.specs.Rows.{Rows}
use Rattle.book.specs.Fans.{said_at}
use Rattle.book_commands.specs.FanLines.{said_if, said_lines}
use Rattle.book_commands.proofs.FanAdded.{no_word, text_at, texts}
use Rattle.std.proofs.Common.{[], get_or, length}

module _ (sessions : Rows Client) (words : List (Bor (List ℕ))) (list : List ℕ) where
  abbrev pub lines : ℕ → List ℕ
  lines n = said_lines sessions (texts words) list n

  -- the line of the n-th
  abbrev pub line : ℕ → List ℕ
  line n = said_if (get_or words n no_word).now (said_at sessions list n)

  pub one_line : (n : ℕ) → n < length words → lines n ++ line n ≡ lines (n + 1)
  one_line n lt =
      ap (λ (name : List ℕ). lines n ++ said_if name (said_at sessions list n)) (sym (text_at words n lt))
      ∙ ap lines (let e : suc n ≡ n + 1 = omega arith in e)

  -- what stands behind the first n of them
  record Behind (n m : ℕ) : Type 0 where
    pub rest : List ℕ
    pub whole : lines (m + n) ≡ lines n ++ rest

  behind : (n m : ℕ) → Behind n m
  behind n zero = record { rest = []; whole = ap lines (let e : 0 + n ≡ n = omega arith in e) ∙ sym (append-nil (lines n)) }
  behind n (suc m) = let before = behind n m in record {
    rest = before.rest ++ said_if (get_or (texts words) (m + n) []) (said_at sessions list (m + n));
    whole = ap lines (let e : suc m + n ≡ suc (m + n) = omega arith in e)
        ∙ ap (λ (l : List ℕ). l ++ said_if (get_or (texts words) (m + n) []) (said_at sessions list (m + n))) before.whole
        ∙ append_assoc (lines n) before.rest _;
  }

  -- a sink that took the lines so far, and then one more
  pub took_one : (old mid new : Option (List ℕ)) (n : ℕ) → n < length words → mid ≡ appended old (lines n)
      → new ≡ appended mid (line n) → new ≡ appended old (lines (n + 1))
  took_one old mid new n lt before now =
      now ∙ ap (λ m. appended m (line n)) before ∙ appended-appended old (lines n) (line n)
      ∙ ap (appended old) (one_line n lt)

  -- a sink that took the lines so far, and failed in the next
  pub cut_in_one : {T E : Type 0} (old mid new : SinkState) (n : ℕ) (e : E) → n < length words
      → mid.taken ≡ appended old.taken (lines n) → mid.faults ≡ old.faults
      → Writes {T = T} mid new (line n) (Err e) → Writes {T = T} old new (lines (length words)) (Err e)
  cut_in_one {T} {E} old mid new n e lt before same w =
      subst (λ l. Writes {T = T} old new l (Err e))
      (sym (ap lines (let f : length words ≡ (length words - (n + 1)) + (n + 1) = omega (arith, lt) in f) ∙ after.whole))
      (writes_first old new (lines (n + 1)) after.rest e
      (subst (λ l. Writes {T = T} old new l (Err e)) (one_line n lt)
      (writes_behind old mid new (lines n) (line n) (Err e) before same w)))
    where
      after : Behind (n + 1) (length words - (n + 1))
      after = behind (n + 1) (length words - (n + 1))
