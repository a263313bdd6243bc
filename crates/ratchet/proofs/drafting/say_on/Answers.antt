use Rattle.std.proofs.Common.{◌≡◌, ◌∙◌, ◌+◌, ℕ, [], ap, length, rules, subst, sym, arith}
use Rattle.dr_base.specs.declared.key.Key32.{Key32}
use Rattle.fs_aead.specs.Stream.{Stream}
use Rattle.session_model.specs.LawfulStates.{IsLawfulState}
use Rattle.session_model.specs.Seen.{own_seen, phase_seen, seen}
use Rattle.session_model.specs.States.{Own, Phase, in_own}
use Rattle.session_model.specs.declared.part.Phase.{Phase as CodePhase}
use Rattle.session_model.specs.declared.part.Phase.TheVariants.{Own as InOwn, Peers as InPeers}
use Rattle.ratchet.specs.Seen.{went_on}
use Rattle.ratchet.proofs.Fields.{lawful_sealing}
use Rattle.ratchet.proofs.LawfulTurn.{in_own_phase, in_own_previous, lawful_on}
use Rattle.ratchet.proofs.drafting.say_on.Goals as goal

pub seal_packet-len-requires-clause-lawful : goal.seal_packet-len-requires-clause-lawful
seal_packet-len-requires-clause-lawful g c =
    let own = in_own_phase _ _ _ c.requires.lawful c.requires.held in
    let before = in_own_previous _ _ _ c.requires.lawful c.requires.held in
    let fits = c.requires.lawful.epoch_fits in
    let few = c.requires.few in
    lawful_sealing _ _ _ _ _ _ _ _ _ c.version-version.ensures c.requires.lawful.session_long (omega (arith, fits)) before.0 before.1
    (omega arith) (omega (arith, few)) (ap length c.as_slice.ensures.value ∙ own.1.agreement_long) c.requires.listed c.requires.short

-- the phase of a stream that went on
phase_on : (phase : CodePhase) (chain : Key32) (sent : ℕ) (own : Own) → phase_seen phase ≡ in_own own
    → phase_seen (went_on phase chain sent) ≡ in_own (record own { chain = chain.bytes; sent = sent })
phase_on (InOwn held) chain sent own is =
    let same : own_seen held ≡ own = cc in
    ap (λ (o : Own). in_own (record o { chain = chain.bytes; sent = sent })) same
phase_on (InPeers public) chain sent own is = absurd (cc is)

pub returns-clause-lawful : goal.returns-clause-lawful
returns-clause-lawful g c =
    let k = g.K.Kem.mechanism in
    let s = seen c.args.next.now [] in
    let own = own_seen c.args.own.now in
    let was = in_own_phase _ _ _ c.requires.lawful c.requires.held in
    let chain = c.rest-sent.result.0 in
    let next : Own = record own { chain = chain.bytes; sent = c.rest-sent.result.1 } in
    let sent : c.rest-sent.result.1 ≡ own.sent + 1 =
    c.rest-sent.ensures.sent ∙ ap (λ (x : Stream). x.count) c.next-stream.ensures.stream
    ∙ ap (λ (x : Stream). x.count + 1) c.resume.ensures in
    let few = c.requires.few in
    let phase = ap phase_seen c.go_on.ensures ∙ phase_on c.args.next.now.phase chain c.rest-sent.result.1 own c.requires.held in
    subst (λ (p : Phase). IsLawfulState k (record s { phase = p; awaiting = c.wait.new.self })) (sym phase)
    (lawful_on k s own next c.wait.new.self c.requires.lawful c.requires.held few
    (record {
      secret_long = was.1.secret_long;
      secret_lawful = was.1.secret_lawful;
      agreement_long = was.1.agreement_long;
      chain_long = search rules;
      few = omega (arith, few, sent);
    }) sent c.wait.ensures)
