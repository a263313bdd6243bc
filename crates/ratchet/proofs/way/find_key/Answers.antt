use Rattle.std.proofs.Common.{◌≡◌, ◌∙◌, ◌+◌, ◌≤◌, ℕ, Err, true, false, ap, ap₂, subst, sym, arith}
use Rattle.dr_base.specs.declared.position.Position.{Position}
use Rattle.session_model.specs.declared.answer.Refusal.TheVariants.{OwnPacket, Ahead}
use Rattle.session_model.specs.LawfulStates.{IsLawfulState}
use Rattle.session_model.specs.Ways.{known_way, next_way}
use Rattle.session_model.specs.States.{State}
use Rattle.session_model.specs.Seen.{own_seen, phase_seen, seen}
use Rattle.ratchet.specs.Seen.{kept_in, way_found}
use Rattle.ratchet.proofs.Finding.{asked, compared, leads_elsewhere, leads_back, leads_ahead, leads_on, leads_known}
use Rattle.ratchet.proofs.way.find_key.Goals as goal

pub returns-then-ne-clause-way : goal.returns-then-ne-clause-way
returns-then-ne-clause-way g c =
    sym (leads_elsewhere _ _ _ (compared _ _ _ _ true c.session.ensures (ap (λ (s : State). s.session) c.part.view_is) c.if-ne.ensures))

pub returns-then-owns-clause-way : goal.returns-then-owns-clause-way
returns-then-owns-clause-way g c =
    let same = compared _ _ _ _ false c.session.ensures (ap (λ (s : State). s.session) c.part.view_is) c.if-ne.ensures in
    let own = asked _ _ _ _ true (ap (λ (s : State). s.side) c.part.view_is) c.epoch-epoch.ensures.value c.if-owns.ensures in
    ap (λ e. Err (OwnPacket e)) c.epoch-epoch.ensures.value ∙ sym (leads_back _ _ _ same own)

pub returns-then-epoch-head-clause-way : goal.returns-then-epoch-head-clause-way
returns-then-epoch-head-clause-way g c =
    let same = compared _ _ _ _ false c.session.ensures (ap (λ (s : State). s.session) c.part.view_is) c.if-ne.ensures in
    let peers = asked _ _ _ _ false (ap (λ (s : State). s.side) c.part.view_is) c.epoch-epoch.ensures.value c.if-owns.ensures in
    let reached : c.part.inside.head.epoch ≡ c.args.part.now.epoch = ap (λ (s : State). s.epoch) c.part.view_is in
    let place = c.epoch-epoch.ensures.value in
    ap₂ (λ e r. Err (Ahead e r)) place reached ∙ sym (leads_ahead _ _ _ same peers (omega (arith, c.if-epoch-head.true, reached, place)))

pub returns-in-Own-clause-way : goal.returns-in-Own-clause-way
returns-in-Own-clause-way g c =
    let same = compared _ _ _ _ false c.session.ensures (ap (λ (s : State). s.session) c.part.view_is) c.if-ne.ensures in
    let peers = asked _ _ _ _ false (ap (λ (s : State). s.side) c.part.view_is) c.epoch-epoch.ensures.value c.if-owns.ensures in
    let reached : c.part.inside.head.epoch ≡ c.args.part.now.epoch = ap (λ (s : State). s.epoch) c.part.view_is in
    let next : c.args.view.now.epoch ≡ c.args.part.now.epoch + 1 = omega (arith, c.if-epoch-head-2.true, reached, c.epoch-epoch.ensures.value) in
    let held = sym (ap (λ (s : State). s.phase) c.part.view_is) ∙ ap phase_seen c.in-Own.is in
    let kept = ap (λ (s : State). s.kept) c.part.view_is in
    ap (λ keys. way_found c.enter.result (seen c.enter.new.next (kept_in keys c.enter.new.table))) (sym kept)
    ∙ c.enter.ensures.way
    ∙ ap (λ (s : State). next_way g.K.Kem.mechanism s (own_seen c.in-Own.own) c.args.view.now s.receiving)
    (ap (seen c.args.next.now) kept ∙ c.requires.copy)
    ∙ sym (leads_on _ _ _ (own_seen c.in-Own.own) same peers next held)

pub returns-clause-way : goal.returns-clause-way
returns-clause-way g c =
    let same = compared _ _ _ _ false c.session.ensures (ap (λ (s : State). s.session) c.part.view_is) c.if-ne.ensures in
    let peers = asked _ _ _ _ false (ap (λ (s : State). s.side) c.part.view_is) c.epoch-epoch.ensures.value c.if-owns.ensures in
    let reached : c.part.inside.head.epoch ≡ c.args.part.now.epoch = ap (λ (s : State). s.epoch) c.part.view_is in
    let known : c.args.view.now.epoch ≤ c.args.part.now.epoch =
    omega (arith, c.if-epoch-head.false, c.if-epoch-head-2.false, reached, c.epoch-epoch.ensures.value) in
    let at : ℕ → ℕ → Position = λ e i. record { epoch = e; index = i } in
    let place = ap₂ (λ e i. known_way c.args.part.now (at e i) c.args.part.now.receiving) c.epoch-epoch.ensures.value c.index.ensures.value in
    let kept = ap (λ (s : State). s.kept) c.part.view_is in
    ap (λ keys. way_found c.find_known.result (seen c.find_known.new.next (kept_in keys c.find_known.new.table))) (sym kept)
    ∙ c.find_known.ensures.way
    ∙ ap (λ (s : State). known_way s (at c.epoch-epoch.result c.index.result) s.receiving) (ap (seen c.args.next.now) kept ∙ c.requires.copy)
    ∙ place ∙ sym (leads_known _ _ _ same peers known)

pub returns-then-ne-clause-state : goal.returns-then-ne-clause-state
returns-then-ne-clause-state g c =
    let before = subst (IsLawfulState g.K.Kem.mechanism) c.part.view_is c.part.invariant in
    subst (λ t. IsLawfulState g.K.Kem.mechanism (seen c.args.next.now (kept_in c.args.part.now.kept t)))
    (sym c.requires.same) (subst (IsLawfulState g.K.Kem.mechanism) (sym c.requires.copy) before)

pub returns-then-owns-clause-state : goal.returns-then-owns-clause-state
returns-then-owns-clause-state g c =
    let before = subst (IsLawfulState g.K.Kem.mechanism) c.part.view_is c.part.invariant in
    subst (λ t. IsLawfulState g.K.Kem.mechanism (seen c.args.next.now (kept_in c.args.part.now.kept t)))
    (sym c.requires.same) (subst (IsLawfulState g.K.Kem.mechanism) (sym c.requires.copy) before)

pub returns-then-epoch-head-clause-state : goal.returns-then-epoch-head-clause-state
returns-then-epoch-head-clause-state g c =
    let before = subst (IsLawfulState g.K.Kem.mechanism) c.part.view_is c.part.invariant in
    subst (λ t. IsLawfulState g.K.Kem.mechanism (seen c.args.next.now (kept_in c.args.part.now.kept t)))
    (sym c.requires.same) (subst (IsLawfulState g.K.Kem.mechanism) (sym c.requires.copy) before)
