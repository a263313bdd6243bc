use Rattle.std.proofs.Common.{List, Result, ap, refl, subst, sym, ◌∙◌}
use Rattle.std.specs.Prelude.{option_map}
use Rattle.boxes.specs.Posts.{Post}
use Rattle.dr_base.specs.Bytes.{AreBytes}
use Rattle.dr_model.specs.Machines.Acts.{taking}
use Rattle.dr_model.specs.Machines.Events.{does, takes}
use Rattle.dr_model.specs.Machines.Network.{packet_given}
use Rattle.dr_model.specs.Machines.Sides.{acted_on}
use Rattle.session_model.specs.declared.answer.Answer.{Answer}
use Rattle.scripts.specs.Seen.{source_of}
use Rattle.parties.specs.Acts.{CallOfClient}
use Rattle.duet.specs.Acts.{IsPrepared}
use Rattle.duet.specs.Held.{DuetNow}
use Rattle.duet.proofs.Prepared.{packet_here}
use Rattle.duet.proofs.sides.Duet.taking.Goals as goal
use Rattle.duet.proofs.sides.Duet.taking.Goals.{in-Some, in-None}

pub returns : goal.returns
returns g c =
    let k = g.K.Kem.mechanism in
    let now = c.args.self.now in
    let side = c.args.side in
    let source = source_of c.args.source in
    let posts = c.as_slice.ensures.value ∙ ap (λ (d : DuetNow). d.sides.posts) c.self.view_is in
    let given = sym (c.packet_of.ensures ∙ ap (λ (held : List Post). packet_given held side source) posts) in
    elim c.match-packet_of.branch [
      | in-Some w ↦
          subst (λ (r : Result CallOfClient Answer). IsPrepared k now now side (does side (takes source)) r) (sym w.result-is)
          (record {
            drawn = refl;
            comes = (
              packet_here k now.sides side source w.in-Some.packet.items (given ∙ ap (option_map _) w.in-Some.is),
              subst AreBytes w.as_slice-in-Some.ensures.value w.are_bytes.ensures,
            );
          })
      | in-None w ↦
          subst (λ (r : Result CallOfClient Answer). IsPrepared k now now side (does side (takes source)) r) (sym w.result-is)
          (record {
            drawn = refl;
            comes = (
              ap (λ o. acted_on k now.sides side (option_map taking o)) (given ∙ ap (option_map _) w.in-None.is),
              refl,
            );
          })
    ]
