use Rattle.std.proofs.Common.{◌≡◌, ◌∙◌, ◌+◌, ◌-◌, ◌≤◌, ◌++◌, ℕ, ap, length, refl, arith}
use Rattle.dr_base.specs.declared.limits.TheConstants.{KEPT_LIMIT}
use Rattle.dr_base.specs.declared.key.Key32.{Key32}
use Rattle.fs_aead.specs.Stream.{Stream}
use Rattle.fs_aead.specs.Table.{shelved}
use Rattle.session_model.specs.Seen.{reception_seen, seen}
use Rattle.ratchet.specs.Seen.{kept_in}
use Rattle.ratchet.proofs.Fields.{length-next_chain}
use Rattle.ratchet.proofs.LawfulKept.{lawful_along}
use Rattle.ratchet.proofs.Ways.{Went, goes_along, went_keys, went_reach}
use Rattle.ratchet.proofs.way.go_along.Given.{Over}
use Rattle.ratchet.proofs.way.go_along.Goals as goal

-- a stream that a key begins
abbrev of_key : ℕ → Key32 → Stream
of_key count key = record { chain = key.bytes; count = count }

-- how the stream went on
went : (g : Over) (c : goal.After-next-1 g)
    → Went c.args.position.epoch c.args.position.index c.args.reception.now.chain.bytes c.args.reception.now.reach c.args.kept.now
    (of_key c.args.reception.now.reach c.copy_of_key-chain.result) c.pass.result c.next-stream.result.0
    (kept_in c.args.kept.now c.pass.new.self)
went g c =
    let reach = c.args.reception.now.reach in
    let same : kept_in c.args.kept.now c.args.table.now ≡ c.args.kept.now = ap (kept_in c.args.kept.now) c.requires.same in
    record {
      from = ap (of_key reach) c.copy_of_key-chain.ensures;
      passed = c.pass.ensures.stream;
      next = c.next-stream.ensures.stream;
      keys =
          c.pass.ensures.shelved
          ∙ ap (λ keys. keys ++ shelved c.args.position.epoch c.copy_of_key-chain.result.bytes reach (c.args.position.index - 1 - reach)) same;
    }

pub returns-clause-state : goal.returns-clause-state
returns-clause-state g c =
    let above = c.requires.above in
    let most = c.requires.most in
    let few : length c.args.kept.now + (c.args.position.index - c.args.reception.now.reach - 1) ≤ KEPT_LIMIT = c.in_default.ensures.ok.0 refl in
    let place = c.rest-reach.ensures.reach ∙ went_reach _ _ _ _ _ _ _ _ _ above (went g c) in
    lawful_along _ _ (reception_seen c.args.reception.now) _ _ _ _ _ c.requires.state c.requires.held c.requires.latest
    (ap length (c.rest-reach.ensures.chain ∙ ap (λ (x : Stream). x.chain) c.next-stream.ensures.stream) ∙ length-next_chain _)
    (omega (arith, above, place)) (omega (arith, most, place)) few (went_keys _ _ _ _ _ _ _ _ _ (went g c))

pub returns-clause-way : goal.returns-clause-way
returns-clause-way g c =
    let few : length c.args.kept.now + (c.args.position.index - c.args.reception.now.reach - 1) ≤ KEPT_LIMIT = c.in_default.ensures.ok.0 refl in
    goes_along (seen c.args.next.now c.args.kept.now) (reception_seen c.args.reception.now) c.args.position _ _ _ _ _ _ _
    c.requires.above few (went g c) c.next-stream.ensures.key c.rest-reach.ensures.chain c.rest-reach.ensures.reach
