use Rattle.std.proofs.Common.{refl, subst, sym}
use Rattle.dr_disk.specs.MemoryDisks.{state_of}
use Rattle.dr_model.specs.Machines.Acts.{act_on, saying}
use Rattle.client.specs.Outcomes.{Acts, Outcome, said_as}
use Rattle.parties.specs.Acts.{draw_given}
use Rattle.parties.proofs.SaidActs.{said_acts}
use Rattle.parties.proofs.Ended.{is_ended}
use Rattle.parties.proofs.acts.say.Goals as goal
use Rattle.scripts.specs.Seen.{content_said}

pub say_ended-requires : goal.say_ended-requires
say_ended-requires g c =
    is_ended state_of (act_on g.K.Kem.mechanism c.args.client.now.kept (saying (content_said c.args.said) (draw_given c.args.seed)))
    c.args.client.now c.say_content.new.client c.args.disk.now c.say_content.new.disk (said_as c.say_content.result) c.requires.open
    (said_acts _ g.K.Kem.mechanism (content_said c.args.said) c.args.client.now c.say_content.new.client c.args.disk.now c.say_content.new.disk _ _ c.args.seed
    c.new-source.result.seed.bytes c.say_content.result c.requires.open c.requires.checked refl refl refl c.new-source.ensures c.say_content.ensures.exact)

pub returns-clause-acts : goal.returns-clause-acts
returns-clause-acts g c =
    subst (λ (o : Outcome). Acts state_of (act_on g.K.Kem.mechanism c.args.client.now.kept (saying (content_said c.args.said) (draw_given c.args.seed)))
    c.args.client.now c.say_content.new.client c.args.disk.now c.say_content.new.disk o) (sym c.say_ended.ensures)
    (said_acts _ g.K.Kem.mechanism (content_said c.args.said) c.args.client.now c.say_content.new.client c.args.disk.now c.say_content.new.disk _ _ c.args.seed
    c.new-source.result.seed.bytes c.say_content.result c.requires.open c.requires.checked refl refl refl c.new-source.ensures c.say_content.ensures.exact)
