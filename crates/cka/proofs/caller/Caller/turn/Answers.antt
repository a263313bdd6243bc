use Rattle.std.proofs.Common.{arith, rules, ◌∙◌}
use Rattle.std.proofs.lemmas.Grind.{common_steps}
use Rattle.cka.proofs.Agreement.{lawful_front}
use Rattle.cka.proofs.caller.Caller.turn.Goals as goal

pub resume-requires-clause-lawful : goal.resume-requires-clause-lawful
resume-requires-clause-lawful g c =
    lawful_front g.K.Kem.mechanism _ c.args.seed.now.bytes _ _ _ c.laws.ensures.law
    (c.SECRET-in-Ok.ensures ∙ c.laws.ensures.sizes.secret_is) (search rules) c.in-Ok.ensures.exact

pub returns-in-Ok-clause-long : goal.returns-in-Ok-clause-long
returns-in-Ok-clause-long g c = grind (arith, common_steps)

pub message_of-message-requires : goal.message_of-message-requires
message_of-message-requires g c = grind (arith, common_steps)

pub slice_bounds-message_of-end : goal.slice_bounds-message_of-end
slice_bounds-message_of-end g c = grind (arith, common_steps)

pub slice_bounds-message_of-end-in-Ok : goal.slice_bounds-message_of-end-in-Ok
slice_bounds-message_of-end-in-Ok g c = grind (arith, common_steps)

pub slice_bounds-resume-end : goal.slice_bounds-resume-end
slice_bounds-resume-end g c = grind (arith, common_steps)

pub slice_bounds-public-end-in-Ok : goal.slice_bounds-public-end-in-Ok
slice_bounds-public-end-in-Ok g c = grind (arith, common_steps)

pub slice_bounds-secret-end-in-Ok : goal.slice_bounds-secret-end-in-Ok
slice_bounds-secret-end-in-Ok g c = grind (arith, common_steps)

pub resume-requires-clause-long : goal.resume-requires-clause-long
resume-requires-clause-long g c = grind (arith, common_steps)

pub returns-in-Ok-clause-turned : goal.returns-in-Ok-clause-turned
returns-in-Ok-clause-turned g c = grind (arith, common_steps)
