-- What an act makes of a lawful client is lawful.
use Rattle.std.proofs.Common.{Bool, Err, List, None, Ok, Option, Result, Some, [], ap, false, if◌then◌else◌, length, refl, subst, sym, true, ℕ, ◌∙◌, ◌≡◌}
use Rattle.std.specs.Prelude.{IfSome, is_some}
use Rattle.dr_model.specs.Machines.Acts.{Act, act_on, dropping, said_by, saying, saying_by, taken_by, taking}
use Rattle.dr_model.specs.Machines.Draws.{given_or}
use Rattle.dr_model.specs.Machines.Steps.{Step, step}
use Rattle.kem_laws.specs.Mechanism.{IsLawfulMechanism, Mechanism}
use Rattle.session_model.specs.Clients.{Client, SaidText, TakenPacket, say_on, take_on}
use Rattle.session_model.specs.declared.answer.Answer.TheVariants.{Opened, Said}
use Rattle.session_model.specs.declared.answer.Refusal.{Refusal}
use Rattle.session_record.specs.Lawful.{IsLawfulClient}
use Rattle.client.proofs.Lawful.Acts.{drop_lawful, say_lawful, take_lawful}
use Rattle.parties.specs.Acts.{IsChecked}

said_keeps : (k : Mechanism) (r : Result SaidText Refusal) (next : Step Client)
    → ((said : SaidText) → r ≡ Ok said → IsLawfulClient k said.next) → said_by r ≡ Ok next → IsLawfulClient k next.next
said_keeps k (Err refusal) next each is = absurd (cc is)
said_keeps k (Ok said) next each is =
    let same : step (Said said.post.position) said.next ≡ next = cc in
    subst (λ (made : Step Client). IsLawfulClient k made.next) same (each said refl)

taken_keeps : (k : Mechanism) (r : Result TakenPacket Refusal) (next : Step Client)
    → ((taken : TakenPacket) → r ≡ Ok taken → IsLawfulClient k taken.next) → taken_by r ≡ Ok next → IsLawfulClient k next.next
taken_keeps k (Err refusal) next each is = absurd (cc is)
taken_keeps k (Ok taken) next each is =
    let same : step (Opened taken.position) taken.next ≡ next = cc in
    subst (λ (made : Step Client). IsLawfulClient k made.next) same (each taken refl)

seed_whole : (draw : Option (List ℕ)) → IfSome draw (λ seed. length seed ≡ 32) → is_some draw ≡ true
    → length (given_or [] draw) ≡ 32
seed_whole None long needs = absurd (let e : false ≡ true = needs in cc)
seed_whole (Some seed) long needs = long

-- what an act makes of a lawful client is lawful
pub made_lawful : (k : Mechanism) (c : Client) (act : Act) (next : Step Client) → IsLawfulMechanism k → IsLawfulClient k c
    → IsChecked c act → act_on k c act ≡ Ok next → IsLawfulClient k next.next
made_lawful k c (saying content draw) next law l checked is =
    let seed = given_or [] draw in
    said_keeps k (say_on k c content seed) next
    (λ said gives. say_lawful k c content seed (is_some draw) said law l checked.0 (seed_whole draw checked.1) gives)
    (ap (saying_by k c content draw) (sym checked.0) ∙ is)
made_lawful k c (taking bytes) next law l small is =
    taken_keeps k (take_on k c bytes) next (λ taken gives. take_lawful k c bytes taken l small gives) is
made_lawful k c (dropping which) next law l checked is = drop_lawful k c which next l is

-- whichever is left
pub left_lawful : (k : Mechanism) (b : Bool) (a z : Client) → IsLawfulClient k a → IsLawfulClient k z
    → IsLawfulClient k (if b then a else z)
left_lawful k true a z first second = first
left_lawful k false a z first second = second
