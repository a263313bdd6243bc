-- What saying a text does, by whether a seed was drawn for it.
use Rattle.std.proofs.Common.{Bool, Err, List, None, Ok, Result, Some, [], ap, false, subst, sym, true, ℕ, ◌∙◌, ◌∷◌, ◌≡◌}
use Rattle.std.specs.Prelude.{OnOk, is_none, length, ◌&&◌}
use Rattle.dr_base.specs.Causes.{Rose}
use Rattle.dr_base.specs.declared.key.Key32.{Key32}
use Rattle.dr_base.specs.declared.position.Position.{Position}
use Rattle.dr_disk.specs.State.{DiskState}
use Rattle.dr_disk.specs.declared.call.Call.{Call}
use Rattle.dr_model.specs.Machines.Acts.{needs_seed, said_by, saying_by}
use Rattle.dr_ports.specs.Seeds.{drawn}
use Rattle.dr_ports.specs.States.{DrawsState}
use Rattle.kem_laws.specs.Mechanism.{Mechanism}
use Rattle.session_model.specs.Contents.{Content}
use Rattle.session_model.specs.Clients.{say_check, say_on}
use Rattle.session_model.specs.declared.answer.Refusal.{Refusal}
use Rattle.client.specs.Keepings.{IsKeeperOpen, Keeping}
use Rattle.client.specs.Outcomes.{KeeperActs, said_as}
use Rattle.client.specs.Saying.{HandsBack, KeeperSaysWithDraw, draw_failed, keeper_asks_seed, with_draw, without_draw}
use Rattle.client.specs.declared.refusals.SayRefusal.{SayRefusal}
use Rattle.client.specs.declared.refusals.SayRefusal.TheVariants.{Closed, DrawFault, Refused}

-- whether a seed is asked for, by what the check answers
asks_by : {S : Type 0} (keeping : Keeping S) (client : S) (content : Content) (r : Result Bool Refusal)
    → keeping.closed client ≡ None → say_check (keeping.kept client) content ≡ r
    → keeper_asks_seed keeping client content ≡ needs_seed r
asks_by keeping client content r unclosed is =
    ap (λ closed. is_none closed && needs_seed (say_check (keeping.kept client) content)) unclosed ∙ ap needs_seed is

module _ {S X W : Type 0} (keeping : Keeping S) (state : X → DiskState) (draws : W → DrawsState)
    (k : Mechanism)
    (content : Content) (old new : S) (start now : X) (source left : W) where
  abbrev Said : Result Position SayRefusal → Type 0
  Said = KeeperSaysWithDraw keeping state draws k content old new start now source left

  pub says_closed : (call : Call) → keeping.closed old ≡ Some call → new ≡ old → now ≡ start
      → left ≡ source → Said (Err (Closed call))
  says_closed call closed same stays leaves =
      without_draw (Err (Closed call))
      (ap (λ c. is_none c && needs_seed (say_check (keeping.kept old) content)) closed) leaves (closed, same, stays)

  pub says_refused : (refusal : Refusal) → keeping.closed old ≡ None
      → say_check (keeping.kept old) content ≡ Err refusal → new ≡ old
      → now ≡ start → left ≡ source → Said (Err (Refused refusal))
  says_refused refusal unclosed is same stays leaves =
      without_draw (Err (Refused refusal)) (asks_by keeping old content (Err refusal) unclosed is) leaves
      (unclosed, ap (saying_by k (keeping.kept old) content None) is, same, stays)

  pub says_plain : (result : Result Position SayRefusal) → keeping.closed old ≡ None
      → say_check (keeping.kept old) content ≡ Ok false
      → left ≡ source
      → KeeperActs keeping state (said_by (say_on k (keeping.kept old) content [])) old new start now
      (said_as result)
      → Said result
  says_plain result unclosed is leaves acts =
      without_draw result (asks_by keeping old content (Ok false) unclosed is) leaves
      (subst (λ made. KeeperActs keeping state made old new start now (said_as result)) (sym (ap (saying_by k (keeping.kept old) content None) is)) acts)

  pub says_drawn : (result : Result Position SayRefusal) (seed : Key32)
      → keeping.closed old ≡ None
      → say_check (keeping.kept old) content ≡ Ok true → length seed.bytes ≡ 32
      → (draws source).coming ≡ drawn (seed.bytes ∷ []) (draws left).coming → (draws left).faults ≡ (draws source).faults
      → KeeperActs keeping state
      (said_by (say_on k (keeping.kept old) content seed.bytes)) old new start now (said_as result)
      → HandsBack (Some seed) result → Said result
  says_drawn result seed unclosed is long drew quiet acts back =
      with_draw result seed (asks_by keeping old content (Ok true) unclosed is) long drew quiet
      (subst (λ made. KeeperActs keeping state made old new start now (said_as result))
      (sym (ap (saying_by k (keeping.kept old) content (Some seed.bytes)) is)) acts)
      back

  pub says_nothing : keeping.closed old ≡ None
      → say_check (keeping.kept old) content ≡ Ok true
      → Rose (draws source).faults (draws left).faults
      → (draws left).coming ≡ (draws source).coming → new ≡ old → now ≡ start → Said (Err DrawFault)
  says_nothing unclosed is rose same stays leaves =
      draw_failed (asks_by keeping old content (Ok true) unclosed is) rose same stays leaves

  -- a text that was said leaves the client open, and its disk at rest
  pub ready_after : (result : Result Position SayRefusal) → Said result
      → OnOk result (IsKeeperOpen keeping new (state now))
  ready_after result (without_draw (Ok p) none leaves acts) = (acts.stays_open, acts.disk.ready)
  ready_after result (without_draw (Err e) none leaves acts) = tt
  ready_after result (with_draw (Ok p) seed asks long drew quiet acts back) = (acts.stays_open, acts.disk.ready)
  ready_after result (with_draw (Err e) seed asks long drew quiet acts back) = tt
  ready_after result (draw_failed asks rose same stays leaves) = tt
