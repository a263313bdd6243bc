use Rattle.std.proofs.Common.{◌∙◌, rules, ap, length, refl, arith}
use Rattle.dr_base.specs.declared.key.Key32.{Key32}
use Rattle.session_model.specs.Seen.{own_seen, seen}
use Rattle.ratchet.specs.Seen.{kept_in}
use Rattle.ratchet.proofs.LawfulTurn.{in_own_phase}
use Rattle.ratchet.proofs.LawfulNext.{kept_before, lawful_next}
use Rattle.ratchet.proofs.Turning.{turns, went_first}
use Rattle.ratchet.proofs.Ways.{Went, went_reach}
use Rattle.ratchet.proofs.entering.turn.Given.{Over}
use Rattle.ratchet.proofs.entering.turn.Goals as goal

pub resume-holder-requires-clause-long : goal.resume-holder-requires-clause-long
resume-holder-requires-clause-long g c =
    ap length c.as_slice.ensures.value ∙ (in_own_phase _ _ _ c.requires.state c.requires.held).1.secret_long

pub resume-holder-requires-clause-lawful : goal.resume-holder-requires-clause-lawful
resume-holder-requires-clause-lawful g c =
    ap g.K.Kem.mechanism.meaning.bad_byte c.as_slice.ensures.value
    ∙ (in_own_phase _ _ _ c.requires.state c.requires.held).1.secret_lawful

pub pass-requires-clause-below : goal.pass-requires-clause-below
pass-requires-clause-below g c =
    kept_before _ _ c.epoch-epoch.result c.requires.state (c.epoch-epoch.ensures.value ∙ c.requires.next)

-- how the stream went on
went : (g : Over) (c : goal.After-next-5-1 g)
    → Went c.epoch-epoch.result c.index-index.result c.up-root.result.1.bytes 0 (kept_in c.args.kept.now c.args.table.now)
    (record { chain = c.up-root.result.1.bytes; count = 0 }) c.pass.result c.next-stream.result.0
    (kept_in c.args.kept.now c.pass.new.self)
went g c = record {
  from = refl;
  passed = c.pass.ensures.stream;
  next = c.next-stream.ensures.stream;
  keys = c.pass.ensures.shelved;
}

pub returns-clause-state : goal.returns-clause-state
returns-clause-state g c =
    let index = c.index-index.ensures.value in
    let one = c.index-index.ensures.from_one in
    let room = c.requires.room in
    lawful_next _ _ (own_seen c.args.own.now) _ _ _ _ _ _ _ _ c.requires.state c.requires.held
    (c.epoch-epoch.ensures.value ∙ c.requires.next) c.epoch-epoch.ensures.fits
    one c.index-index.ensures.fits (search rules)
    (ap length c.rest.ensures.value ∙ c.rest.ensures.long) (search rules)
    (c.rest-reach.ensures.reach ∙ went_reach _ _ _ _ _ _ _ _ _ (omega (arith, one)) (went g c))
    (omega (arith, room, index))
    (went_first _ _ _ _ _ _ _ _ (went g c))

pub returns-clause-way : goal.returns-clause-way
returns-clause-way g c =
    let one = c.index-index.ensures.from_one in
    turns g.K.Kem.mechanism (seen c.args.next.now (kept_in c.args.kept.now c.args.table.now)) (own_seen c.args.own.now)
    c.args.view.now _ _ _ _ _ _ _ _ _ _ _ _ _ _ _ _
    (c.resume-holder.ensures ∙ c.as_slice.ensures.value) c.agreement.ensures.value c.answer-caller.ensures.key
    (c.rest.ensures.value ∙ c.answer-caller.ensures.caller) (c.resume-root.ensures ∙ ap (λ (k : Key32). k.bytes) c.copy_of_key.ensures)
    (c.rest-next.ensures ∙ c.up-root.ensures.root) c.up-root.ensures.key c.epoch-epoch.ensures.value c.index-index.ensures.value (omega (arith, one)) (went g c)
    c.next-stream.ensures.key c.rest-reach.ensures.chain c.rest-reach.ensures.reach
