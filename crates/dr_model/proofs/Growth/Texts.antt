-- What was said in each epoch, with one text more.
use Rattle.std.proofs.Common.{◌≡◌, ◌≢◌, ℕ, ◌+◌, ◌<◌, ◌≤◌, ◌==◌, Bool, true, false, List, [], ◌∷◌, ◌++◌, length, filter, map, refl, sym, ◌∙◌, ap, inl, inr, append-nil, length-append, if◌then◌else◌, arith}
use Rattle.std.specs.Prelude.{All, slice_index_or}
use Rattle.std.proofs.Math.Seq.{get_or-append_seam}
use Rattle.std.proofs.lemmas.Bool.{cases_lt, eq-eqb, ne_eqb}
use Rattle.std.proofs.lemmas.List.{get_or_append_left, length_push, map-append}
use Rattle.std.proofs.lemmas.List.Elements.{All-head, All-tail, filter-append}
use Rattle.bodies.specs.Bodies.{Body, text_body}
use Rattle.dr_model.specs.Conversations.Conversation.{Said, bodies_of}

-- a text in its epoch
abbrev pub saying_of : ℕ → Body → Said
saying_of epoch body = record { epoch = epoch; body = body }

-- the texts of an epoch, of two lists
pub bodies_of-append : (said more : List Said) (t : ℕ) → bodies_of (said ++ more) t ≡ bodies_of said t ++ bodies_of more t
bodies_of-append said more t =
    ap (map (λ (s : Said). s.body)) (filter-append (λ (s : Said). s.epoch == t) said more)
    ∙ map-append (λ (s : Said). s.body) (filter (λ s. s.epoch == t) said) (filter (λ s. s.epoch == t) more)

-- a test that holds keeps the first, and one that fails doesn't
texts_kept : (s : Said) (rest : List Said) (test : Bool) → test ≡ true
    → map (λ (s : Said). s.body) (if test then s ∷ rest else rest) ≡ s.body ∷ map (λ s. s.body) rest
texts_kept s rest true h = refl
texts_kept s rest false h = cc

texts_passed : (s : Said) (rest : List Said) (test : Bool) → test ≡ false
    → map (λ (s : Said). s.body) (if test then s ∷ rest else rest) ≡ map (λ s. s.body) rest
texts_passed s rest true h = cc
texts_passed s rest false h = refl

-- the first text, in its epoch and in another
pub bodies_of-first : (s : Said) (rest : List Said) → bodies_of (s ∷ rest) s.epoch ≡ s.body ∷ bodies_of rest s.epoch
bodies_of-first s rest =
    texts_kept s (filter (λ r. r.epoch == s.epoch) rest) (s.epoch == s.epoch) (eq-eqb s.epoch s.epoch refl)

pub bodies_of-skip : (s : Said) (rest : List Said) (t : ℕ) → t ≢ s.epoch → bodies_of (s ∷ rest) t ≡ bodies_of rest t
bodies_of-skip s rest t other =
    texts_passed s (filter (λ r. r.epoch == t) rest) (s.epoch == t) (ne_eqb s.epoch t (λ same. other (sym same)))

-- one text more, in its epoch and in another
pub bodies_of-here : (said : List Said) (epoch : ℕ) (body : Body)
    → bodies_of (said ++ saying_of epoch body ∷ []) epoch ≡ bodies_of said epoch ++ body ∷ []
bodies_of-here said epoch body =
    bodies_of-append said (saying_of epoch body ∷ []) epoch
    ∙ ap (λ ts. bodies_of said epoch ++ ts) (bodies_of-first (saying_of epoch body) [])

pub bodies_of-other : (said : List Said) (epoch : ℕ) (body : Body) (t : ℕ) → t ≢ epoch
    → bodies_of (said ++ saying_of epoch body ∷ []) t ≡ bodies_of said t
bodies_of-other said epoch body t other =
    bodies_of-append said (saying_of epoch body ∷ []) t
    ∙ ap (λ ts. bodies_of said t ++ ts) (bodies_of-skip (saying_of epoch body) [] t other)
    ∙ append-nil (bodies_of said t)

-- how many they are then
pub count-here : (said : List Said) (epoch : ℕ) (body : Body)
    → length (bodies_of (said ++ saying_of epoch body ∷ []) epoch) ≡ length (bodies_of said epoch) + 1
count-here said epoch body = ap length (bodies_of-here said epoch body) ∙ length_push (bodies_of said epoch) body

pub count-grows : (said : List Said) (epoch : ℕ) (body : Body) (t : ℕ)
    → length (bodies_of said t) ≤ length (bodies_of (said ++ saying_of epoch body ∷ []) t)
count-grows said epoch body t =
    omega (
      arith,
      ap length (bodies_of-append said (saying_of epoch body ∷ []) t),
      length-append (bodies_of said t) (bodies_of (saying_of epoch body ∷ []) t),
    )

-- what stands at an index stays
pub body-stays : (said : List Said) (epoch : ℕ) (body : Body) (t i : ℕ) → i < length (bodies_of said t)
    → slice_index_or (bodies_of (said ++ saying_of epoch body ∷ []) t) i (text_body []) ≡ slice_index_or (bodies_of said t) i (text_body [])
body-stays said epoch body t i below =
    ap (λ ts. slice_index_or ts i (text_body [])) (bodies_of-append said (saying_of epoch body ∷ []) t)
    ∙ get_or_append_left (bodies_of said t) (bodies_of (saying_of epoch body ∷ []) t) (text_body []) i below

-- and the new one stands after them
pub body-new : (said : List Said) (epoch : ℕ) (body : Body)
    → slice_index_or (bodies_of (said ++ saying_of epoch body ∷ []) epoch) (length (bodies_of said epoch)) (text_body []) ≡ body
body-new said epoch body =
    ap (λ ts. slice_index_or ts (length (bodies_of said epoch)) (text_body [])) (bodies_of-here said epoch body)
    ∙ get_or-append_seam (bodies_of said epoch) body [] (text_body [])

-- there are none after the last epoch
pub bodies_of-beyond : (said : List Said) (last t : ℕ) → All (λ s. s.epoch ≤ last) said → last < t → bodies_of said t ≡ []
bodies_of-beyond [] last t begun h = refl
bodies_of-beyond (s ∷ rest) last t begun h =
    let early = All-head (λ (s : Said). s.epoch ≤ last) s rest begun in
    bodies_of-skip s rest t (λ same. omega arith)
    ∙ bodies_of-beyond rest last t (All-tail (λ (s : Said). s.epoch ≤ last) s rest begun) h

-- so what was said has an epoch up to the last
pub epoch-most : (said : List Said) (last t : ℕ) → All (λ s. s.epoch ≤ last) said → 1 ≤ length (bodies_of said t) → t ≤ last
epoch-most said last t begun some =
    elim (cases_lt last t) as (λ _. t ≤ last) [
      | inl beyond ↦ absurd (omega (arith, ap length (bodies_of-beyond said last t begun beyond)))
      | inr within ↦ within
    ]
