use Rattle.std.proofs.Common.{◌∙◌, ◌≡◌, ◌-◌, ◌++◌, rules, ap, arith}
use Rattle.fs_aead.specs.Stream.{Stream}
use Rattle.fs_aead.specs.Table.{shelved}
use Rattle.dr_base.specs.declared.key.Key32.{Key32}
use Rattle.session_model.specs.Seen.{reception_seen}
use Rattle.ratchet.specs.Seen.{kept_in}
use Rattle.ratchet.proofs.LawfulKept.{lawful_along}
use Rattle.ratchet.proofs.entering.keep_to_end.Goals as goal

pub returns-clause-state : goal.returns-clause-state
returns-clause-state g c =
    let place = c.rest-reach.ensures.reach ∙ ap (λ (x : Stream). x.count) c.pass.ensures.stream in
    let from = c.requires.from in
    let most = c.requires.most in
    let room = c.requires.room in
    let old = kept_in c.args.kept.now c.args.table.now in
    let same : old ≡ c.args.kept.now = ap (kept_in c.args.kept.now) c.requires.same in
    let reach = c.args.reception.now.reach in
    lawful_along _ _ (reception_seen c.args.reception.now) _ _ _ _ _ c.requires.state c.requires.held c.requires.latest (search rules)
    (omega (arith, from, place)) (omega (arith, most, place)) (omega (arith, room))
    (c.pass.ensures.shelved
    ∙ ap (λ keys. keys ++ shelved c.args.epoch c.copy_of_key-chain.result.bytes reach (c.args.end - reach)) same
    ∙ ap (λ (k : Key32). c.args.kept.now ++ shelved c.args.epoch k.bytes reach (c.args.end - reach)) c.copy_of_key-chain.ensures)
