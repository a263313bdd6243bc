-- Which kind of call of a replacement came next, where one failed.
use Rattle.std.proofs.Common.{◌≡◌, ℕ, ◌+◌, ◌-◌, ◌<◌, true, false, List, Option, Some, sym, ◌∙◌, ap, arith}
use Rattle.std.specs.Prelude.{nat_lt, if◌then◌else◌}
use Rattle.std.proofs.lemmas.Bool.Decides.{nat_tests}
use Rattle.dr_disk.specs.declared.call.Call.{Call}
use Rattle.dr_disk.specs.State.{DiskState}
use Rattle.dr_disk.specs.Spans.{HavePassed, HavePassedAtLeast}
use Rattle.pages.specs.Runs.{CameNext}
use Rattle.pages.specs.Stops.{put_call, retire_call}
use Rattle.pages.proofs.NextCalls.{Fewer, came_first, came_later}
use Rattle.slot_store.specs.declared.pager.Pager.{Pager}
use Rattle.slot_store.specs.Areas.{Fits}
use Rattle.slot_store.specs.Pager.{content}
use Rattle.slot_store.specs.Putting.{IsStaged, retire_calls, retire_kind}
use Rattle.slot_store.specs.Stops.{call_after, putting, wipes_of, writes_of}
use Rattle.slot_store.proofs.Puts.PlanFacts.{plans}

module _ (old new : Option (List ℕ)) (k : ℕ) where
  in_put : k < putting old new → put_call (writes_of old new) k ≡ call_after old new k
  unfolding call_after
  in_put lt =
      let e : nat_lt k (putting old new) ≡ true = grind (arith, nat_tests) in
      sym (ap (λ b. if b then put_call (writes_of old new) k
      else retire_call (wipes_of old new) (k - putting old new)) e)

  in_retire : retire_call (wipes_of old new) k ≡ call_after old new (putting old new + k)
  unfolding call_after
  in_retire =
      let p = putting old new in
      let e : nat_lt (p + k) p ≡ false = grind (arith, nat_tests) in
      let f : p + k - p ≡ k = omega arith in
      sym (ap (λ b. if b then put_call (writes_of old new) (p + k)
      else retire_call (wipes_of old new) (p + k - p)) e
      ∙ ap (λ n. retire_call (wipes_of old new) n) f)

module _ (old put : Pager) (text : List ℕ) (start mid : DiskState) (failed : Call) where
  abbrev Replacing : ℕ → Call
  Replacing = call_after (content old) (Some text)

  pub came_in_put : HavePassedAtLeast start mid
      → Fewer (putting (content old) (Some text)) start mid
      → CameNext (put_call (writes_of (content old) (Some text))) start mid failed
      → CameNext Replacing start mid failed
  came_in_put passes few came =
      came_first (put_call (writes_of (content old) (Some text))) Replacing
      (putting (content old) (Some text)) failed start mid passes few
      (λ k lt. in_put (content old) (Some text) k lt) came

  -- of the pages that were replaced
  kinds_are : IsStaged old put text → Fits old.area text → (k : ℕ)
      → retire_kind put k ≡ retire_call (wipes_of (content old) (Some text)) k
  unfolding retire_kind
  kinds_are staged fits k = ap (λ n. retire_call n k) (plans old put text staged fits).wipes

  pub came_in_retire : (end : DiskState) → IsStaged old put text → Fits old.area text
      → HavePassed (putting (content old) (Some text)) start mid → HavePassedAtLeast mid end
      → Fewer (retire_calls put) mid end → CameNext (retire_kind put) mid end failed
      → CameNext Replacing start end failed
  came_in_retire end staged fits before passes few came =
      came_later (retire_kind put) Replacing (putting (content old) (Some text)) (retire_calls put)
      failed start mid end before passes few
      (λ k lt. kinds_are staged fits k ∙ in_retire (content old) (Some text) k) came
