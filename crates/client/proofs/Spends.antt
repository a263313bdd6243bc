-- A call that is acknowledged uses up the key of its position.
use Rattle.std.proofs.Common.{Bool, Err, List, None, Ok, Option, Result, Some, ap, false, inl, inr, sym, true, ℕ, ◌∙◌, ◌≡◌}
use Rattle.std.specs.Prelude.{IfOk, is_none, length, ◌&&◌}
use Rattle.dr_base.specs.declared.position.Position.{Position}
use Rattle.dr_base.specs.declared.position.Side.{Side}
use Rattle.dr_disk.specs.State.{DiskState}
use Rattle.dr_model.specs.Machines.Acts.{act_on, needs_seed, saying, taking}
use Rattle.dr_model.specs.Machines.WorldActs.{act_in}
use Rattle.dr_model.specs.Machines.Worlds.{World, may_say}
use Rattle.dr_model.specs.Theorems.Acting.{IsFairAct}
use Rattle.dr_model.specs.Theorems.Fairness.{IsUnforged}
use Rattle.dr_model.proofs.Saying.SayingChecks.{same_check}
use Rattle.dr_model.proofs.Worlds.WorldViews.{client_of-kept}
use Rattle.dr_ports.specs.States.{DrawsState}
use Rattle.kem_laws.specs.Mechanism.{Mechanism}
use Rattle.session_model.specs.Contents.{Content}
use Rattle.session_model.specs.Clients.{Client, say_check}
use Rattle.session_model.specs.declared.answer.Answer.TheVariants.{Said}
use Rattle.client.specs.Keepings.{HoldsKept, Keeping, MayKeeperAct, cell_of}
use Rattle.client.specs.Grounds.{Grounds}
use Rattle.client.specs.InWorlds.{IsKeeperIn, KeeperActsIn}
use Rattle.client.specs.Outcomes.{IsKeeperDone, acknowledged, said_as, taken_as}
use Rattle.client.specs.Saying.{KeeperDraws, KeeperSaysIn, KeeperSaysWithDraw, acted, draw_failed, keeper_asks_seed, stayed, was_drawn, was_unasked, with_draw, without_draw}
use Rattle.client.specs.Spent.{IsSpentInCell}
use Rattle.client.specs.declared.refusals.SayRefusal.{SayRefusal}
use Rattle.client.specs.declared.refusals.TakeRefusal.{TakeRefusal}
use Rattle.client.proofs.Lifted.{lift}
use Rattle.client.proofs.Spending.{said_used, taken_used, used_erased}

-- ---- a packet that was taken

pub take_spends : {S : Type 0} (keeping : Keeping S) (k : Mechanism) (grounds : Grounds k)
    (packet : List ℕ) (old new : S) (start now : DiskState)
    (result : Result Position TakeRefusal)
    → ((w : World) (side : Side) → IsKeeperIn keeping k w side old → IsUnforged k w side packet
    → KeeperActsIn keeping k w side (taking packet) old new start now (taken_as result))
    → IfOk result
    (λ p. (w : World) (side : Side) → IsKeeperIn keeping k w side old → IsUnforged k w side packet
    → IsSpentInCell (cell_of keeping old) k (act_in k w side (taking packet)).next side p now)
take_spends keeping k grounds packet old new start now (Err refusal) acts = tt
take_spends keeping k grounds packet old new start now (Ok p) acts = λ w side is unforged.
    let done = acts w side is unforged in
    let used = inl (taken_used k w side packet p done.0) in
    record { used = used; erased = used_erased (cell_of keeping old) k grounds.erased (act_in k w side (taking packet)).next side p now done.1.lawful done.3 used }

-- ---- a text that was said

-- an unclosed client asks for a seed where the machine needs one
asked : {S : Type 0} (keeping : Keeping S) (k : Mechanism) (w : World) (side : Side) (client : S)
    (content : Content) (asks : Bool) → IsKeeperIn keeping k w side client
    → keeper_asks_seed keeping client content ≡ asks → keeping.closed client ≡ None
    → asks ≡ needs_seed (may_say k w side content)
asked keeping k w side client content asks is e unclosed =
    sym e
    ∙ ap (λ closed. is_none closed && needs_seed (say_check (keeping.kept client) content)) unclosed
    ∙ ap (λ (c : Client). needs_seed (say_check c content)) (is.keeps ∙ sym (client_of-kept k w side))
    ∙ ap needs_seed (same_check k w side content is.lawful)

module _ {S : Type 0} (keeping : Keeping S) (k : Mechanism) (grounds : Grounds k) (w : World)
    (side : Side) (content : Content) (old new : S)
    (is : IsKeeperIn keeping k w side old) {X W : Type 0} (state : X → DiskState) (holds : (x : X) → HoldsKept keeping (state x)) (draws : W → DrawsState)
    (start now : X) (source left : W) (ready : MayKeeperAct keeping old (state start)) where
  fair_without : keeper_asks_seed keeping old content ≡ false → keeping.closed old ≡ None
      → IsFairAct k w side (saying content None)
  fair_without none unclosed =
      record {
        needed = asked keeping k w side old
            content false is none unclosed;
        whole = tt;
      }

  fair_with : (seed : List ℕ) → keeper_asks_seed keeping old content ≡ true → length seed ≡ 32
      → keeping.closed old ≡ None
      → IsFairAct k w side (saying content (Some seed))
  fair_with seed asks long unclosed =
      record {
        needed = asked keeping k w side old
            content true is asks unclosed;
        whole = long;
      }

  pub says_in : (result : Result Position SayRefusal)
      → KeeperSaysWithDraw keeping state draws k content old new start now source left result
      → KeeperSaysIn keeping draws k w side content old new (state start) (state now) source left
      (said_as result)
  says_in result (without_draw r none same acts) =
      acted (said_as r) None (was_unasked none same) (fair_without none)
      (lift keeping k grounds w side (saying content None) old new is state holds start now ready (fair_without none) (said_as r) acts)
  says_in result (with_draw r seed asks long drew quiet acts back) =
      acted (said_as r) (Some seed.bytes) (was_drawn seed.bytes asks long drew quiet) (fair_with seed.bytes asks long)
      (lift keeping k grounds w side (saying content (Some seed.bytes)) old new is state holds start now ready
      (fair_with seed.bytes asks long) (said_as r) acts)
  says_in result (draw_failed asks rose same stays leaves) = stayed asks rose same stays

  done_spends : (draw : Option (List ℕ)) (p : Position)
      → (keeping.closed old ≡ None → IsFairAct k w side (saying content draw))
      → IsKeeperDone keeping (act_on k (keeping.kept old) (saying content draw)) old new (state start)
      (state now) (Said p)
      → IsSpentInCell (cell_of keeping old) k (act_in k w side (saying content draw)).next side p
      (state now)
  done_spends draw p fair acts =
      let next = (act_in k w side (saying content draw)).next in
      let worlds =
      lift keeping k grounds w side
      (saying content draw) old new is state holds start now ready fair
      (acknowledged (Said p)) acts in
      let used =
      inr (said_used k next side (keeping.kept old)
      (keeping.kept new) content draw p acts.made_is worlds.1.lawful worlds.1.keeps) in
      record { used = used; erased = used_erased (cell_of keeping old) k grounds.erased next side p (state now) worlds.1.lawful worlds.3 used }

  pub say_spends : (result : Result Position SayRefusal)
      → KeeperSaysWithDraw keeping state draws k content old new start now source left result
      → IfOk result
      (λ p. (draw : Option (List ℕ)) × KeeperDraws keeping draws old content source left draw
      × IsSpentInCell (cell_of keeping old) k (act_in k w side (saying content draw)).next side p (state now))
  say_spends result (without_draw (Ok p) none same acts) = (None, was_unasked none same, done_spends None p (fair_without none) acts)
  say_spends result (without_draw (Err e) none same acts) = tt
  say_spends result (with_draw (Ok p) seed asks long drew quiet acts back) =
      (Some seed.bytes, was_drawn seed.bytes asks long drew quiet, done_spends (Some seed.bytes) p (fair_with seed.bytes asks long) acts)
  say_spends result (with_draw (Err e) seed asks long drew quiet acts back) = tt
  say_spends result (draw_failed asks rose same stays leaves) = tt

pub if_ok : (P : World → Side → Position → Type 0) (Q : World → Side → Type 0) (result : Result Position SayRefusal)
    → ((w : World) (side : Side) → Q w side → IfOk result (P w side))
    → IfOk result (λ p. (w : World) (side : Side) → Q w side → P w side p)
if_ok P Q (Err e) all = tt
if_ok P Q (Ok p) all = all
