-- A session that says a text of a fan's, in its world.
use Rattle.std.proofs.Common.{Err, List, None, Ok, Option, Result, Some, ap, false, length, refl, sym, true, ℕ, ◌∙◌, ◌≡◌}
use Rattle.std.specs.Prelude.{IfSome, IsOk, is_some}
use Rattle.dr_base.specs.declared.key.Key32.{Key32}
use Rattle.dr_base.specs.declared.position.Position.{Position}
use Rattle.dr_base.specs.declared.position.Side.{Side}
use Rattle.dr_model.specs.Machines.Acts.{Act, act_on, needs_seed, said_by, saying, saying_by}
use Rattle.dr_model.specs.Machines.Steps.{Step, settled, step}
use Rattle.dr_model.specs.Machines.WorldActs.{act_in, kept_by}
use Rattle.dr_model.specs.Machines.WorldSides.{kept_in}
use Rattle.dr_model.specs.Machines.Worlds.{World}
use Rattle.dr_model.specs.Theorems.Acting.{ActsFollow, IsFairAct}
use Rattle.dr_model.specs.Theorems.LawfulWorlds.{IsLawfulWorld}
use Rattle.dr_model.proofs.Saying.SayingChecks.{same_check}
use Rattle.dr_model.proofs.Worlds.WorldViews.{client_of-kept}
use Rattle.kem_laws.specs.Mechanism.{Mechanism}
use Rattle.ratchet.specs.Seen.{seed_bytes}
use Rattle.session_model.specs.Clients.{Client, SaidText, say_check, say_on}
use Rattle.session_model.specs.Contents.{text_content}
use Rattle.session_model.specs.declared.answer.Answer.TheVariants.{Said}
use Rattle.session_model.specs.declared.answer.Refusal.{Refusal}
use Rattle.book.specs.Fans.{Says, key_bytes, said_next, said_or}
use Rattle.book.proofs.Fanning.Machine.{seed_given}
use Rattle.book.proofs.Worlds.Drawn.{IsWhole}

some_bytes : (seed : Option Key32) → is_some (key_bytes seed) ≡ is_some seed
some_bytes None = refl
some_bytes (Some key) = refl

whole_bytes : (seed : Option Key32) → IsWhole seed → IfSome (key_bytes seed) (λ bytes. length bytes ≡ 32)
whole_bytes None whole = tt
whole_bytes (Some key) whole = whole refl

-- the act
abbrev pub said_act : List ℕ → Option Key32 → Act
said_act text seed = saying (text_content text) (key_bytes seed)

-- what it answers, and what is kept then
pub record IsSaidIn (k : Mechanism) (text : List ℕ) (w : World) (side : Side) (kept : Client) (seed : Option Key32) : Type 0 where
  pub position : Position
  pub answer : (act_in k w side (said_act text seed)).answer ≡ Said position
  pub keeps_then : said_next k text kept seed ≡ kept_in k (act_in k w side (said_act text seed)).next side

module _ (k : Mechanism) (follow : ActsFollow k) (text : List ℕ) (w : World) (side : Side) (kept : Client)
    (seed : Option Key32) (lawful : IsLawfulWorld k w) (keeps : kept ≡ kept_in k w side)
    (says : Says k text kept seed) (whole : IsWhole seed) where
  abbrev act : Act
  act = said_act text seed

  pub fair : IsFairAct k w side act
  fair = record {
    needed = some_bytes seed ∙ sym (ap needs_seed says.checked)
        ∙ ap (λ (c : Client). needs_seed (say_check c (text_content text))) (keeps ∙ sym (client_of-kept k w side))
        ∙ ap needs_seed (same_check k w side (text_content text) lawful);
    whole = whole_bytes seed whole;
  }

  follows : settled kept (said_by (say_on k kept (text_content text) (seed_bytes seed)))
      ≡ kept_by k side (act_in k w side act)
  follows =
      sym (ap (λ r. settled kept (saying_by k kept (text_content text) (key_bytes seed) r)) says.checked
      ∙ ap (λ (s : List ℕ). settled kept (said_by (say_on k kept (text_content text) s))) (seed_given seed))
      ∙ ap (λ (c : Client). settled c (act_on k c act)) keeps
      ∙ follow.follows w side act lawful fair

  answers : (said : SaidText) → say_on k kept (text_content text) (seed_bytes seed) ≡ Ok said
      → step (Said said.post.position) said.next ≡ kept_by k side (act_in k w side act)
  answers said is = sym (ap (λ r. settled kept (said_by r)) is) ∙ follows

  -- it answers with the position of the packet
  pub answer_is : (said : SaidText) → say_on k kept (text_content text) (seed_bytes seed) ≡ Ok said
      → (act_in k w side act).answer ≡ Said said.post.position
  answer_is said is = sym (ap (λ (made : Step Client). made.answer) (answers said is))

  by : (r : Result SaidText Refusal) → say_on k kept (text_content text) (seed_bytes seed) ≡ r → IsOk r
      → IsSaidIn k text w side kept seed
  by (Ok said) is ok = record {
    position = said.post.position;
    answer = answer_is said is;
    keeps_then = ap (λ r. said_or kept r) is ∙ ap (λ (made : Step Client). made.next) (answers said is);
  }
  by (Err refusal) is ok = absurd (let e : false ≡ true = ok in cc)

  pub said_in : IsSaidIn k text w side kept seed
  said_in = by (say_on k kept (text_content text) (seed_bytes seed)) refl says.said
