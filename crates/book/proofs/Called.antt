-- A call on the row in use, as a call on that row of the book.
use Rattle.std.proofs.Common.{Bool, Result, ap, false, subst, true, ℕ, ◌∙◌, ◌≡◌}
use Rattle.dr_base.specs.declared.position.Position.{Position}
use Rattle.dr_disk.specs.State.{DiskState}
use Rattle.dr_model.specs.Machines.Steps.{Step, has_effect}
use Rattle.dr_ports.specs.States.{DrawsState}
use Rattle.kem_laws.specs.Mechanism.{Mechanism}
use Rattle.session_model.specs.Contents.{Content}
use Rattle.session_model.specs.Clients.{Client}
use Rattle.session_model.specs.declared.answer.Refusal.{Refusal}
use Rattle.client.specs.Outcomes.{IsKeeperEffected, KeeperActs, Outcome, acknowledged, faulted, is_closed, refused, said_as, undrawn}
use Rattle.client.specs.Saying.{KeeperSaysWithDraw, draw_failed, with_draw, without_draw}
use Rattle.client.specs.declared.refusals.SayRefusal.{SayRefusal}
use Rattle.book.specs.Books.{BookNow}
use Rattle.book.specs.Calling.{row_in}
use Rattle.book.specs.RowKeepings.{RowNow, RowPlace, row_keeping}

-- no act takes another row into use
module _ {X : Type 0} (state : X → DiskState) (made : Result (Step Client) Refusal) (old new : RowNow) (start now : X) where
  pub stays_at : (outcome : Outcome) → KeeperActs row_keeping state made old new start now outcome → new.at ≡ old.at
  stays_at (is_closed call) does = ap (λ (r : RowNow). r.at) does.1
  stays_at (refused refusal) does = ap (λ (r : RowNow). r.at) does.2
  stays_at undrawn does = absurd does
  stays_at (acknowledged answer) does = by (has_effect answer) does
    where
      by : (effect : Bool) → IsKeeperEffected row_keeping state effect made old new start now answer → new.at ≡ old.at
      by true did = ap (λ (p : RowPlace). p.at) did.disk.stays
      by false did = ap (λ (r : RowNow). r.at) did.2
  stays_at (faulted call) does = ap (λ (p : RowPlace). p.at) does.stays

pub says_at : {X W : Type 0} (state : X → DiskState) (draws : W → DrawsState) (k : Mechanism) (content : Content)
    (old new : RowNow) (start now : X) (source left : W) (result : Result Position SayRefusal)
    → KeeperSaysWithDraw row_keeping state draws k content old new start now source left result → new.at ≡ old.at
says_at state draws k content old new start now source left result (without_draw r none same acts) =
    stays_at state _ old new start now (said_as r) acts
says_at state draws k content old new start now source left result (with_draw r seed asks long drew quiet acts back) =
    stays_at state _ old new start now (said_as r) acts
says_at state draws k content old new start now source left result (draw_failed asks rose same stays leaves) =
    ap (λ (r : RowNow). r.at) stays

-- what is said of a row in use, by the book and the row's place
pub of_book : (P : RowNow → RowNow → Type 0) (old : BookNow) (at : ℕ) (was is : RowNow) → was ≡ row_in old at
    → is.at ≡ was.at → P was is → P (row_in old at) (row_in is.book at)
of_book P old at was is same stays p =
    subst (λ (r : RowNow). P r (row_in is.book at)) same
    (subst (λ (r : RowNow). P was r) (ap (λ i. row_in is.book i) (stays ∙ ap (λ (r : RowNow). r.at) same)) p)
