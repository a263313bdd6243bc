-- What a conversation begins with is lawful.
use Rattle.std.proofs.Common.{◌≡◌, ℕ, ◌≤◌, List, [], ◌++◌, length, take, Option, Some, None, refl, sym, ◌∙◌, ap, subst, arith}
use Rattle.std.proofs.Math.Seq.{take-append_seam}
use Rattle.std.proofs.lemmas.List.{length-append}
use Rattle.std.proofs.lemmas.List.Elements.{All-nil}
use Rattle.bodies.specs.declared.format.Format.{Format}
use Rattle.dr_base.specs.declared.limits.TheConstants.{INDEX_LIMIT}
use Rattle.dr_base.specs.declared.key.Kept.{Kept}
use Rattle.dr_base.specs.declared.position.Position.{Position}
use Rattle.dr_base.specs.declared.position.Side.{Side}
use Rattle.dr_base.specs.declared.position.Side.TheVariants.{First, Second}
use Rattle.kem_laws.specs.Mechanism.{IsLawful, Mechanism}
use Rattle.session_model.proofs.Waiting.{waiting-none}
use Rattle.session_model.specs.LawfulStates.{IsLawfulState}
use Rattle.session_model.specs.States.{Own, Phase, Reception, State, in_own, in_peers}

-- what a session begins with, in equal parts
abbrev pub opening : Side → Format → List ℕ → List ℕ → Phase → Option Reception → List Kept → List Position → State
opening side format session root phase receiving kept awaiting = record {
  side = side;
  format = format;
  session = session;
  root = root;
  epoch = 0;
  phase = phase;
  previous = 0;
  receiving = receiving;
  kept = kept;
  awaiting = awaiting;
}

opening_is : {side side₁ : Side} (format : Format) (session root : List ℕ) {phase phase₁ : Phase} {receiving receiving₁ : Option Reception} {kept kept₁ : List Kept}
    {awaiting awaiting₁ : List Position}
    → side ≡ side₁ → phase ≡ phase₁ → receiving ≡ receiving₁ → kept ≡ kept₁ → awaiting ≡ awaiting₁
    → opening side format session root phase receiving kept awaiting ≡ opening side₁ format session root phase₁ receiving₁ kept₁ awaiting₁
opening_is format session root a b c d e = cc

-- First has the public key, and the stream of epoch 0
pub opens_first : (k : Mechanism) (side : Side) (format : Format) (session root : List ℕ) (phase : Phase) (receiving : Option Reception) (kept : List Kept) (awaiting : List Position) (public chain : List ℕ)
    → side ≡ First → phase ≡ in_peers public → receiving ≡ Some (record { chain = chain; reach = 0 }) → kept ≡ [] → awaiting ≡ []
    → length session ≡ 16 → length root ≡ 32 → length chain ≡ 32 → length public ≡ k.public → IsLawfulState k (opening side format session root phase receiving kept awaiting)
opens_first k side format session root phase receiving kept awaiting public chain s p r e w session_long root_long chain_long public_long =
    let small : 0 ≤ INDEX_LIMIT = omega arith in
    let begun : IsLawfulState k (opening First format session root (in_peers public) (Some (record { chain = chain; reach = 0 })) [] []) = record {
      session_long = session_long;
      root_long = root_long;
      epoch_fits = omega arith;
      phase = (refl, public_long);
      previous = (small, λ _. refl);
      receiving = (chain_long, small, All-nil _);
      kept = λ i j d lt below. absurd (omega arith);
      each = All-nil _;
      few = omega arith;
      waiting = waiting-none _ _ _;
    } in
    subst (IsLawfulState k) (sym (opening_is format session root s p r e w)) begun

-- Second has the secret, and the stream of epoch 0
pub opens_second : (k : Mechanism) (side : Side) (format : Format) (session root : List ℕ) (phase : Phase) (receiving : Option Reception) (kept : List Kept) (awaiting : List Position) (own : Own)
    → side ≡ Second → phase ≡ in_own own → receiving ≡ None → kept ≡ [] → awaiting ≡ []
    → length session ≡ 16 → length root ≡ 32 → length own.chain ≡ 32 → length own.secret ≡ k.secret → IsLawful k.meaning own.secret
    → own.agreement ≡ [] → own.sent ≡ 0 → IsLawfulState k (opening side format session root phase receiving kept awaiting)
opens_second k side format session root phase receiving kept awaiting own s p r e w session_long root_long chain_long secret_long lawful message none =
    let small : 0 ≤ INDEX_LIMIT = omega arith in
    let begun : IsLawfulState k (opening Second format session root (in_own own) None [] []) = record {
      session_long = session_long;
      root_long = root_long;
      epoch_fits = omega arith;
      phase = (refl, record { secret_long = secret_long; secret_lawful = lawful; agreement_long = ap length message; chain_long = chain_long; few = omega arith });
      previous = (small, λ _. refl);
      receiving = refl;
      kept = λ i j d lt below. absurd (omega arith);
      each = All-nil _;
      few = omega arith;
      waiting = waiting-none _ _ _;
    } in
    subst (IsLawfulState k) (sym (opening_is format session root s p r e w)) begun

-- the front of a buffer
pub front_of : (n : ℕ) (part after text : List ℕ) → length part ≡ n → text ≡ take n (part ++ after) → text ≡ part
front_of n part after text long e = e ∙ ap (λ k. take k (part ++ after)) (sym long) ∙ take-append_seam part after

pub front_long : (n : ℕ) (part after : List ℕ) → length part ≡ n → n ≡ length (take n (part ++ after))
front_long n part after long = sym long ∙ sym (ap length (front_of n part after _ long refl))

pub front_few : (n most : ℕ) (part after : List ℕ) → length part ≡ n → n ≤ most
    → length (take n (part ++ after)) ≤ most
front_few n most part after long few = omega (arith, front_long n part after long)

pub front_fits : (n : ℕ) (part after : List ℕ) → length part ≡ n → n ≤ length (part ++ after)
front_fits n part after long = omega (arith, length-append part after)
