use Rattle.std.proofs.Common.{Ok, ap, arith, length, refl, sym, ◌∙◌}
use Rattle.session_model.specs.Clients.{Client, say_check}
use Rattle.session_model.specs.Contents.{content_with}
use Rattle.client.proofs.Drawing.{says_closed, says_drawn, says_nothing, says_plain, says_refused}
use Rattle.client.proofs.saying.say_exact.Goals as goal

pub returns-in-Some : goal.returns-in-Some
returns-in-Some g c = record {
  exact =
      says_closed g.Q.Keeper.keeping g.D.Disk.state g.W.Draws.at g.K.Kem.mechanism (content_with c.args.kind c.args.text.now) c.args.keeper.now _
      c.args.disk.now _ c.args.draws.now _ c.in-Some.call
      (sym c.closed.ensures ∙ c.in-Some.is) refl refl refl;
  fate = λ all. (tt, all);
}

pub returns-in-Err : goal.returns-in-Err
returns-in-Err g c = record {
  exact =
      says_refused g.Q.Keeper.keeping g.D.Disk.state g.W.Draws.at g.K.Kem.mechanism (content_with c.args.kind c.args.text.now) c.args.keeper.now _
      c.args.disk.now _ c.args.draws.now _ c.in-Err.refusal
      (sym c.closed.ensures ∙ c.in_default.is)
      (ap (λ (n : Client). say_check n (content_with c.args.kind c.args.text.now)) (sym c.core.ensures) ∙ sym c.say_check.ensures ∙ c.in-Err.is) refl refl refl;
  fate = λ all. (tt, all);
}

pub returns-in-Err-draw : goal.returns-in-Err-draw
returns-in-Err-draw g c = record {
  exact =
      says_nothing g.Q.Keeper.keeping g.D.Disk.state g.W.Draws.at g.K.Kem.mechanism (content_with c.args.kind c.args.text.now) c.args.keeper.now _
      c.args.disk.now _ c.args.draws.now _
      (sym c.closed.ensures ∙ c.in_default.is)
      (ap (λ (n : Client). say_check n (content_with c.args.kind c.args.text.now)) (sym c.core.ensures) ∙ sym c.say_check.ensures ∙ c.in-Ok-true.is ∙ ap Ok c.in-Ok-true.field-0-test)
      c.in-Err-draw.ensures.cause.failed c.in-Err-draw.ensures.err refl refl;
  fate = λ all. (tt, all);
}

pub returns-in-Ok : goal.returns-in-Ok
returns-in-Ok g c = record {
  exact =
      says_drawn g.Q.Keeper.keeping g.D.Disk.state g.W.Draws.at g.K.Kem.mechanism (content_with c.args.kind c.args.text.now) c.args.keeper.now _
      c.args.disk.now _ c.args.draws.now _ c.speak.result c.in-Ok.seed
      (sym c.closed.ensures ∙ c.in_default.is)
      (ap (λ (n : Client). say_check n (content_with c.args.kind c.args.text.now)) (sym c.core.ensures) ∙ sym c.say_check.ensures ∙ c.in-Ok-true.is ∙ ap Ok c.in-Ok-true.field-0-test)
      (omega arith) c.in-Ok.ensures.seed c.in-Ok.ensures.cause.passed c.speak.ensures.acts.exact c.speak.ensures.seed;
  fate = c.speak.ensures.acts.fate;
}

pub returns-in-Ok-false : goal.returns-in-Ok-false
returns-in-Ok-false g c = record {
  exact =
      says_plain g.Q.Keeper.keeping g.D.Disk.state g.W.Draws.at g.K.Kem.mechanism (content_with c.args.kind c.args.text.now) c.args.keeper.now _
      c.args.disk.now _ c.args.draws.now _ c.speak-in-Ok-false.result
      (sym c.closed.ensures ∙ c.in_default.is)
      (ap (λ (n : Client). say_check n (content_with c.args.kind c.args.text.now)) (sym c.core.ensures) ∙ sym c.say_check.ensures ∙ c.in-Ok-false.is ∙ ap Ok c.in-Ok-false.field-0-test)
      refl c.speak-in-Ok-false.ensures.acts.exact;
  fate = c.speak-in-Ok-false.ensures.acts.fate;
}
