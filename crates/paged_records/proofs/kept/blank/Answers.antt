use Rattle.std.proofs.Common.{◌≡◌, ◌-◌, replicate, ◌∙◌, ap, length}
use Rattle.std.proofs.Common.{rules}
use Rattle.std.proofs.lemmas.List.{length-replicate}
use Rattle.paged_records.proofs.Blanked.{before_kept, between_put}
use Rattle.paged_records.proofs.kept.blank.Goals as goal

pub returns-clause-before : goal.returns-clause-before
returns-clause-before c =
    let zeros : c.fill.new.self ≡ replicate (c.args.end - c.args.from) 0 = search rules in
    before_kept c.args.from c.args.end c.args.bytes.now c.fill.new.self c.requires.order c.requires.inside
    (ap length zeros ∙ length-replicate (c.args.end - c.args.from) 0)

pub returns-clause-blank : goal.returns-clause-blank
returns-clause-blank c =
    let zeros : c.fill.new.self ≡ replicate (c.args.end - c.args.from) 0 = search rules in
    between_put c.args.from c.args.end c.args.bytes.now c.fill.new.self c.requires.order c.requires.inside
    (ap length zeros ∙ length-replicate (c.args.end - c.args.from) 0) ∙ zeros
