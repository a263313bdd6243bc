-- The sessions of a fan that were asked in turn, one by one; and a list to which one is added.
use Rattle.std.proofs.Common.{Err, List, None, Ok, Option, Result, Some, [], ap, arith, get_or, length, refl, subst, sym, true, ℕ, ⊎_elim, ◌+◌, ◌++◌, ◌<◌, ◌∙◌, ◌∷◌, ◌≡◌}
use Rattle.std.proofs.Math.Seq.{get_or-append_seam}
use Rattle.std.proofs.lemmas.Bool.{cases_eq}
use Rattle.std.proofs.lemmas.List.{get_or_append_left, length_push}
use Rattle.std.specs.Prelude.{IsOk, is_some}
use Rattle.book_model.specs.Rows.{Row, Rows}
use Rattle.dr_base.specs.declared.key.Key32.{Key32}
use Rattle.dr_ports.specs.States.{DrawsState}
use Rattle.kem_laws.specs.Mechanism.{Mechanism}
use Rattle.ratchet.specs.Seen.{seed_bytes}
use Rattle.session_model.specs.Clients.{Client, say_check, say_on}
use Rattle.session_model.specs.Contents.{text_content}
use Rattle.client.specs.declared.refusals.SayRefusal.{SayRefusal}
use Rattle.client.specs.declared.refusals.SayRefusal.TheVariants.{Closed, DrawFault, NoPair, Refused, StoreFault}
use Rattle.book.specs.Fanning.{IsUnlisted}
use Rattle.book.specs.Fans.{AllSay, Answers, AreAsked, AreListed, Asks, IsFanList, Says, fan_of, key_bytes, none_asked, one_more}
use Rattle.book.specs.Naming.{is_named}
use Rattle.book.specs.RowKeepings.{kept_of, row_at}
use Rattle.book.specs.Stepping.{WasDrawn}
use Rattle.book.specs.declared.fans.list.TheConstants.{FAN_LIMIT}

module _ {W : Type 0} (draws : W → DrawsState) (k : Mechanism) (text : List ℕ) (rows : Rows Client)
    (list : List ℕ) (source : W) where
  pub asked_long : (n : ℕ) (left : W) (seeds : List (Option Key32))
      → AreAsked draws k text rows list source n left seeds → length seeds ≡ n
  asked_long n left seeds none_asked = refl
  asked_long n left seeds (one_more m mid l before seed asked asks) =
      length_push before seed ∙ ap (λ i. i + 1) (asked_long m mid before asked)

  abbrev Here : ℕ → Option Key32 → Type 0
  Here q s = Says k text (kept_of (row_at rows (get_or list q 0))) s

  pub asked_says : (n : ℕ) (left : W) (seeds : List (Option Key32))
      → AreAsked draws k text rows list source n left seeds → (i : ℕ) → i < n
      → Says k text (kept_of (row_at rows (get_or list i 0))) (get_or seeds i None)
  asked_says n left seeds none_asked i lt = absurd (omega (arith, lt))
  asked_says n left seeds (one_more m mid l before seed asked asks) i lt =
      ⊎_elim same (λ apart. other apart (asked_says m mid before asked i (let e : i ≡ m → ⊥ = apart in omega (arith, lt)))) (cases_eq i m)
    where
      long : length before ≡ m
      long = asked_long m mid before asked

      same : i ≡ m → Here i (get_or (before ++ seed ∷ []) i None)
      same is = subst (λ q. Here q (get_or (before ++ seed ∷ []) q None)) (sym is)
          (subst (λ (s : Option Key32). Here m s)
          (sym (ap (λ q. get_or (before ++ seed ∷ []) q None) (sym long) ∙ get_or-append_seam before seed [] None)) asks.0)

      other : (i ≡ m → ⊥) → Here i (get_or before i None) → Here i (get_or (before ++ seed ∷ []) i None)
      other apart said = subst (λ (s : Option Key32). Here i s)
          (sym (get_or_append_left before (seed ∷ []) None i (let e : i ≡ m → ⊥ = apart in omega (arith, lt, long))))
          said

  -- where all were asked, all say it
  pub all_say : (left : W) (seeds : List (Option Key32))
      → AreAsked draws k text rows list source (length list) left seeds → IsFanList list → AreListed rows list
      → AllSay k (fan_of rows list text seeds)
  all_say left seeds asked fair listed = record {
    list = fair;
    there = listed;
    long = asked_long (length list) left seeds asked;
    say = λ n lt. asked_says (length list) left seeds asked n lt;
  }

-- ---- a list to which a place is added

module _ (list : List ℕ) (at : ℕ) where
  added : get_or (list ++ at ∷ []) (length list) 0 ≡ at
  added = get_or-append_seam list at [] 0

  kept : (i : ℕ) → i < length list → get_or (list ++ at ∷ []) i 0 ≡ get_or list i 0
  kept i lt = get_or_append_left list (at ∷ []) 0 i lt

  pub longer : IsFanList list → IsUnlisted at list → length list < FAN_LIMIT → IsFanList (list ++ at ∷ [])
  longer fair apart few = record {
    few = omega (arith, few, length_push list at);
    once = λ i j less lt. ⊎_elim
        (λ same e. apart i (omega (arith, less, same))
        (sym (kept i (omega (arith, less, same))) ∙ e ∙ ap (λ q. get_or (list ++ at ∷ []) q 0) same ∙ added))
        (λ other e.
        let below : j < length list = (let d : j ≡ length list → ⊥ = other in omega (arith, lt, length_push list at)) in
        fair.once i j less below (sym (kept i (omega (arith, less, below))) ∙ e ∙ kept j below))
        (cases_eq j (length list));
  }

  pub still_listed : (rows : Rows Client) → AreListed rows list → is_some (row_at rows at) ≡ true
      → AreListed rows (list ++ at ∷ [])
  still_listed rows listed is i lt = ⊎_elim
      (λ same. subst (λ q. is_some (row_at rows q) ≡ true)
      (sym (ap (λ q. get_or (list ++ at ∷ []) q 0) same ∙ added)) is)
      (λ other. let below : i < length list = (let d : i ≡ length list → ⊥ = other in omega (arith, lt, length_push list at)) in
      subst (λ q. is_some (row_at rows q) ≡ true) (sym (kept i below)) (listed i below))
      (cases_eq i (length list))

-- a row that has a name is present
pub named_there : (name : List ℕ) (o : Option (Row Client)) → is_named name o ≡ true → is_some o ≡ true
named_there name None is = is
named_there name (Some row) is = refl

-- a session that was asked with the seed that it needs
pub answers_asked : {W : Type 0} (draws : W → DrawsState) (k : Mechanism) (text : List ℕ) (kept : Client) (source left : W)
    (seed : Option Key32) (result : Result (Option Key32) SayRefusal) → say_check kept (text_content text) ≡ Ok (is_some seed)
    → WasDrawn draws source left (key_bytes seed) → Answers k text kept seed result → Asks draws k text kept source left result
answers_asked draws k text kept source left seed (Ok back) checked drawn answers = (
  record {
    checked = checked ∙ ap (λ (s : Option Key32). Ok (is_some s)) (sym answers.0);
    said = subst (λ (s : Option Key32). IsOk (say_on k kept (text_content text) (seed_bytes s))) (sym answers.0) answers.1;
  },
  subst (λ (s : Option Key32). WasDrawn draws source left (key_bytes s)) (sym answers.0) drawn,
)
answers_asked draws k text kept source left seed (Err (NoPair key)) checked drawn answers = (
  checked ∙ ap (λ (s : Option Key32). Ok (is_some s)) answers.0,
  subst (λ (s : Option Key32). WasDrawn draws source left (key_bytes s)) answers.0 drawn,
  answers.1,
)
answers_asked draws k text kept source left seed (Err (Closed call)) checked drawn answers = absurd answers
answers_asked draws k text kept source left seed (Err (Refused refusal)) checked drawn answers = absurd answers
answers_asked draws k text kept source left seed (Err DrawFault) checked drawn answers = absurd answers
answers_asked draws k text kept source left seed (Err (StoreFault call)) checked drawn answers = absurd answers
