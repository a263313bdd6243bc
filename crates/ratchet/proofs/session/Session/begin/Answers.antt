use Rattle.std.proofs.Common.{◌∙◌, arith, rules, ap, length, Option, refl, sym}
use Rattle.std.specs.Prelude.{option_map}
use Rattle.kem_laws.specs.Mechanism.{IsPairOf}
use Rattle.session_model.specs.Seen.{phase_seen, reception_seen}
use Rattle.session_model.specs.declared.part.Phase.{Phase}
use Rattle.session_model.specs.declared.part.Reception.{Reception}
use Rattle.ratchet.proofs.LawfulOpening.{front_few, front_fits, front_long, front_of, opens_first, opens_second}
use Rattle.ratchet.proofs.session.Session.begin.Goals as goal
use Rattle.ratchet.proofs.session.Session.begin.Goals.{in-First, in-Second}

pub invariant_of-result : goal.invariant_of-result
invariant_of-result g c =
    let pair : IsPairOf g.K.Kem.mechanism.meaning c.begin-beginning.result.seed.bytes c.pair.new.public c.pair.new.secret =
    record { long = search rules; gives = c.in-Ok.ensures.exact } in
    let public_long = c.laws.ensures.law.public_long _ _ _ pair in
    let secret_long = c.laws.ensures.law.secret_long _ _ _ pair in
    elim c.match-side.branch [
      | in-First w ↦
          let public = front_of w.PUBLIC-in-First.result c.pair.new.public _ _ (public_long ∙ sym (w.PUBLIC-in-First.ensures ∙ c.laws.ensures.sizes.public_is)) w.in_room.ensures in
          opens_first _ _ _ _ _ _ _ _ _ w.in_room.result.items c.begin-beginning.result.stream.bytes w.in-First.is (ap (λ (x : Phase × Option Reception). phase_seen x.0) w.phase-is)
          (ap (λ (x : Phase × Option Reception). option_map reception_seen x.1) w.phase-is) c.new-in-Ok-2.ensures c.new-in-Ok.ensures
          (search rules) (search rules) (search rules) (ap length public ∙ public_long)
      | in-Second w ↦
          let secret = front_of w.SECRET-in-Second.result c.pair.new.secret _ _ (secret_long ∙ sym (w.SECRET-in-Second.ensures ∙ c.laws.ensures.sizes.secret_is)) w.in_room-in-Second.ensures in
          opens_second _ _ _ _ _ _ _ _ _ _ w.in-Second.is (ap (λ (x : Phase × Option Reception). phase_seen x.0) w.phase-is)
          (ap (λ (x : Phase × Option Reception). option_map reception_seen x.1) w.phase-is) c.new-in-Ok-2.ensures c.new-in-Ok.ensures (search rules) (search rules) (search rules)
          (ap length secret ∙ secret_long) (ap g.K.Kem.mechanism.meaning.bad_byte secret ∙ c.laws.ensures.law.lawful _ _ _ pair) w.new.ensures refl
    ]

pub in_room-requires : goal.in_room-requires
in_room-requires g c =
    let pair : IsPairOf g.K.Kem.mechanism.meaning c.begin-beginning.result.seed.bytes c.pair.new.public c.pair.new.secret =
    record { long = search rules; gives = c.in-Ok.ensures.exact } in
    let long = c.laws.ensures.law.public_long _ _ _ pair ∙ sym (c.PUBLIC-in-First.ensures ∙ c.laws.ensures.sizes.public_is) in (
      omega arith,
      front_few _ _ _ _ long
          (omega (arith, c.PUBLIC-in-First.ensures, c.laws.ensures.sizes.public_is, c.laws.ensures.law.public_fits)),
    )

pub in_room-requires-in-Second : goal.in_room-requires-in-Second
in_room-requires-in-Second g c =
    let pair : IsPairOf g.K.Kem.mechanism.meaning c.begin-beginning.result.seed.bytes c.pair.new.public c.pair.new.secret =
    record { long = search rules; gives = c.in-Ok.ensures.exact } in
    let long = c.laws.ensures.law.secret_long _ _ _ pair ∙ sym (c.SECRET-in-Second.ensures ∙ c.laws.ensures.sizes.secret_is) in (
      omega arith,
      front_few _ _ _ _ long
          (omega (arith, c.SECRET-in-Second.ensures, c.laws.ensures.sizes.secret_is, c.laws.ensures.law.secret_fits)),
    )

pub slice_bounds-in_room-end-in-Second : goal.slice_bounds-in_room-end-in-Second
slice_bounds-in_room-end-in-Second g c =
    let pair : IsPairOf g.K.Kem.mechanism.meaning c.begin-beginning.result.seed.bytes c.pair.new.public c.pair.new.secret =
    record { long = search rules; gives = c.in-Ok.ensures.exact } in
    let long = c.laws.ensures.law.secret_long _ _ _ pair ∙ sym (c.SECRET-in-Second.ensures ∙ c.laws.ensures.sizes.secret_is) in
    front_long _ _ _ long

pub slice_bounds-in_room-end : goal.slice_bounds-in_room-end
slice_bounds-in_room-end g c =
    let pair : IsPairOf g.K.Kem.mechanism.meaning c.begin-beginning.result.seed.bytes c.pair.new.public c.pair.new.secret =
    record { long = search rules; gives = c.in-Ok.ensures.exact } in
    let long = c.laws.ensures.law.public_long _ _ _ pair ∙ sym (c.PUBLIC-in-First.ensures ∙ c.laws.ensures.sizes.public_is) in
    front_long _ _ _ long

pub slice_bounds-secret-end-in-Second : goal.slice_bounds-secret-end-in-Second
slice_bounds-secret-end-in-Second g c =
    let pair : IsPairOf g.K.Kem.mechanism.meaning c.begin-beginning.result.seed.bytes c.pair.new.public c.pair.new.secret =
    record { long = search rules; gives = c.in-Ok.ensures.exact } in
    let long = c.laws.ensures.law.secret_long _ _ _ pair ∙ sym (c.SECRET-in-Second.ensures ∙ c.laws.ensures.sizes.secret_is) in
    front_fits _ _ _ long

pub slice_bounds-public-end-in-First : goal.slice_bounds-public-end-in-First
slice_bounds-public-end-in-First g c =
    let pair : IsPairOf g.K.Kem.mechanism.meaning c.begin-beginning.result.seed.bytes c.pair.new.public c.pair.new.secret =
    record { long = search rules; gives = c.in-Ok.ensures.exact } in
    let long = c.laws.ensures.law.public_long _ _ _ pair ∙ sym (c.PUBLIC-in-First.ensures ∙ c.laws.ensures.sizes.public_is) in
    front_fits _ _ _ long
