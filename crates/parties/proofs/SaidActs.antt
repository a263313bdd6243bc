-- What was checked, said by a client with the seed that it needs.
use Rattle.std.proofs.Common.{Bool, List, None, Ok, Option, Result, Some, [], ap, arith, false, refl, subst, sym, true, ℕ, ◌∙◌, ◌∷◌, ◌≡◌}
use Rattle.std.specs.Prelude.{is_none, is_some, ◌&&◌}
use Rattle.dr_base.specs.Causes.{Rose}
use Rattle.dr_base.specs.declared.key.Key32.{Key32}
use Rattle.dr_base.specs.declared.position.Position.{Position}
use Rattle.dr_disk.specs.MemoryDisks.{state_of}
use Rattle.dr_disk.specs.declared.memory.MemoryDisk.{MemoryDisk}
use Rattle.dr_model.specs.Machines.Acts.{act_on, needs_seed, saying}
use Rattle.dr_ports.specs.Seeds.{Seeds, drawn}
use Rattle.dr_ports.specs.States.{DrawsState}
use Rattle.kem_laws.specs.Mechanism.{Mechanism}
use Rattle.session_model.specs.Contents.{Content}
use Rattle.session_model.specs.Clients.{say_check}
use Rattle.client.specs.Clients.{ClientNow}
use Rattle.client.specs.Outcomes.{Acts, said_as}
use Rattle.client.specs.Saying.{SaysWithDraw, asks_seed, draw_failed, with_draw, without_draw}
use Rattle.client.specs.declared.refusals.SayRefusal.{SayRefusal}
use Rattle.parties.specs.Acts.{draw_given}

abbrev first_of : Option Seeds → List ℕ
first_of None = []
first_of (Some seeds) = seeds 0

-- a source that gives one seed
one_seed : (one seed : List ℕ) (told : Option Seeds) → Some (λ (k : ℕ). one) ≡ drawn (seed ∷ []) told → one ≡ seed
one_seed one seed None drew = absurd (let e : Some (λ (k : ℕ). one) ≡ None = drew in cc)
one_seed one seed (Some seeds) drew = ap first_of drew

none_drawn : (seed : Option Key32) → is_some (draw_given seed) ≡ false → None ≡ draw_given seed
none_drawn None asks = refl
none_drawn (Some key) asks = absurd (let e : true ≡ false = asks in cc)

one_drawn : (seed : Option Key32) (one : List ℕ) → is_some (draw_given seed) ≡ true → ((key : Key32) → seed ≡ Some key → one ≡ key.bytes)
    → Some one ≡ draw_given seed
one_drawn None one asks gives = absurd (let e : false ≡ true = asks in cc)
one_drawn (Some key) one asks gives = ap Some (gives key refl)

asks_is : (client : ClientNow) (content : Content) (b : Bool) → client.closed ≡ None → say_check client.kept content ≡ Ok b
    → asks_seed client content ≡ b
asks_is client content b unclosed is =
    ap (λ closed. is_none closed && needs_seed (say_check client.kept content)) unclosed ∙ ap needs_seed is

-- a text that was checked, with the seed that it needs
pub said_acts : {W : Type 0} (draws : W → DrawsState) (k : Mechanism) (content : Content) (old new : ClientNow)
    (start now : MemoryDisk) (source left : W) (seed : Option Key32) (one : List ℕ) (result : Result Position SayRefusal)
    → old.closed ≡ None → say_check old.kept content ≡ Ok (is_some (draw_given seed))
    → (draws source).coming ≡ Some (λ j. one) → (draws source).faults ≡ 0 → (draws left).faults ≡ 0 → ((key : Key32) → seed ≡ Some key → one ≡ key.bytes)
    → SaysWithDraw state_of draws k content old new start now source left result
    → Acts state_of (act_on k old.kept (saying content (draw_given seed))) old new start now (said_as result)
said_acts draws k content old new start now source left seed one result unclosed checked tells before after gives (without_draw ended asks leaves acts) =
    let none : is_some (draw_given seed) ≡ false = sym (asks_is old content (is_some (draw_given seed)) unclosed checked) ∙ asks in
    subst (λ draw. Acts state_of (act_on k old.kept (saying content draw)) old new start now (said_as result)) (none_drawn seed none) acts
said_acts draws k content old new start now source left seed one result unclosed checked tells before after gives (with_draw ended key asks long drew quiet acts back) =
    let some : is_some (draw_given seed) ≡ true = sym (asks_is old content (is_some (draw_given seed)) unclosed checked) ∙ asks in
    let same : Some key.bytes ≡ draw_given seed =
    ap Some (sym (one_seed one key.bytes (draws left).coming (sym tells ∙ drew))) ∙ one_drawn seed one some gives in
    subst (λ draw. Acts state_of (act_on k old.kept (saying content draw)) old new start now (said_as result)) same acts
said_acts draws k content old new start now source left seed one result unclosed checked tells before after gives (draw_failed asks rose same stays leaves) =
    absurd (let r : Rose 0 0 = subst (λ n. Rose n 0) before (subst (Rose (draws source).faults) after rose) in omega (arith, r))
