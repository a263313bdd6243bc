-- Which way a packet's fields lead, in the order in which the code finds it out.
use Rattle.std.proofs.Common.{◌≡◌, ℕ, ◌+◌, ◌<◌, ◌≤◌, Bool, true, false, nat_eq, List, Err, sym, ◌∙◌, ap, ap₂, arith}
use Rattle.std.specs.Prelude.{nat_lt, not}
use Rattle.std.specs.Cmp.Lexicographic.{pointwise}
use Rattle.std.proofs.lemmas.Bool.Decides.{nat_tests}
use Rattle.std.proofs.lemmas.Bool.{cond-true, cond-false}
use Rattle.dr_base.specs.declared.position.Side.{Side}
use Rattle.packet.specs.Packet.{Fields}
use Rattle.session_model.specs.declared.answer.Refusal.TheVariants.{OtherSession, OwnPacket, Ahead}
use Rattle.dr_base.specs.Position.{is_own}
use Rattle.session_model.specs.Ways.{epoch_way, known_way, next_way, position_of, way_of}
use Rattle.session_model.specs.States.{Own, in_own, State}
use Rattle.kem_laws.specs.Mechanism.{Mechanism}

-- a test that was turned round
not_of : (b c : Bool) → c ≡ not b → b ≡ not c
not_of true c h = ap not (sym h)
not_of false c h = ap not (sym h)

-- two sessions that were compared
pub compared : (a b c d : List ℕ) (other : Bool) → a ≡ c → b ≡ d → other ≡ not (pointwise nat_eq a b) → pointwise nat_eq c d ≡ not other
compared a b c d other e f h = ap (λ x. pointwise nat_eq x d) (sym e) ∙ ap (pointwise nat_eq a) (sym f) ∙ not_of (pointwise nat_eq a b) other h

-- whose epoch it is, as it was asked
pub asked : (side mine : Side) (epoch its : ℕ) (own : Bool) → side ≡ mine → epoch ≡ its → own ≡ is_own side epoch → is_own mine its ≡ own
asked side mine epoch its own e f h = ap₂ is_own (sym e) (sym f) ∙ sym h

-- a packet of another session
pub leads_elsewhere : (k : Mechanism) (s : State) (f : Fields) → pointwise nat_eq f.session s.session ≡ false → way_of k s f ≡ Err OtherSession
unfolding way_of
leads_elsewhere k s f h = cond-true (not (pointwise nat_eq f.session s.session)) _ _ (ap not h)

-- of an own epoch
pub leads_back : (k : Mechanism) (s : State) (f : Fields) → pointwise nat_eq f.session s.session ≡ true → is_own s.side f.epoch ≡ true
    → way_of k s f ≡ Err (OwnPacket f.epoch)
unfolding way_of
leads_back k s f h o = cond-false (not (pointwise nat_eq f.session s.session)) _ _ (ap not h) ∙ cond-true (is_own s.side f.epoch) _ _ o

-- of an epoch after the next
pub leads_ahead : (k : Mechanism) (s : State) (f : Fields) → pointwise nat_eq f.session s.session ≡ true → is_own s.side f.epoch ≡ false
    → s.epoch + 1 < f.epoch → way_of k s f ≡ Err (Ahead f.epoch s.epoch)
unfolding way_of
leads_ahead k s f h o lt =
    cond-false (not (pointwise nat_eq f.session s.session)) _ _ (ap not h) ∙ cond-false (is_own s.side f.epoch) _ _ o
    ∙ cond-true (nat_lt (s.epoch + 1) f.epoch) _ _ (grind (arith, nat_tests))

-- of the next epoch
pub leads_next : (k : Mechanism) (s : State) (f : Fields) → pointwise nat_eq f.session s.session ≡ true → is_own s.side f.epoch ≡ false
    → f.epoch ≡ s.epoch + 1 → way_of k s f ≡ epoch_way k s f s.phase
unfolding way_of
leads_next k s f h o e =
    cond-false (not (pointwise nat_eq f.session s.session)) _ _ (ap not h) ∙ cond-false (is_own s.side f.epoch) _ _ o
    ∙ cond-false (nat_lt (s.epoch + 1) f.epoch) _ _ (grind (arith, nat_tests)) ∙ cond-true (nat_eq f.epoch (s.epoch + 1)) _ _ (grind (arith, nat_tests))

-- of the next epoch, in an own one
pub leads_on : (k : Mechanism) (s : State) (f : Fields) (own : Own) → pointwise nat_eq f.session s.session ≡ true → is_own s.side f.epoch ≡ false
    → f.epoch ≡ s.epoch + 1 → s.phase ≡ in_own own → way_of k s f ≡ next_way k s own f s.receiving
leads_on k s f own h o e held = leads_next k s f h o e ∙ ap (epoch_way k s f) held

-- of an epoch that was reached
pub leads_known : (k : Mechanism) (s : State) (f : Fields) → pointwise nat_eq f.session s.session ≡ true → is_own s.side f.epoch ≡ false
    → f.epoch ≤ s.epoch → way_of k s f ≡ known_way s (position_of f) s.receiving
unfolding way_of
leads_known k s f h o le =
    cond-false (not (pointwise nat_eq f.session s.session)) _ _ (ap not h) ∙ cond-false (is_own s.side f.epoch) _ _ o
    ∙ cond-false (nat_lt (s.epoch + 1) f.epoch) _ _ (grind (arith, nat_tests)) ∙ cond-false (nat_eq f.epoch (s.epoch + 1)) _ _ (grind (arith, nat_tests))
