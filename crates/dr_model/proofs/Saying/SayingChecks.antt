-- Whether a side may say a content, as its client checks.
use Rattle.std.proofs.Common.{◌≡◌, ℕ, ◌<◌, ◌≤◌, true, false, Bool, not, nat_le, List, length, Result, Ok, Err, refl, ◌∙◌, ap, if◌then◌else◌}
use Rattle.std.proofs.lemmas.Bool.{leb-false}
use Rattle.dr_base.specs.declared.limits.TheConstants.{INDEX_LIMIT, LAST_EPOCH, OUTBOX_LIMIT}
use Rattle.dr_base.specs.Position.{is_own}
use Rattle.dr_base.specs.declared.position.Side.{Side}
use Rattle.dr_base.specs.declared.position.Side.TheVariants.{First, Second}
use Rattle.kem_laws.specs.Mechanism.{Mechanism}
use Rattle.session_model.specs.Clients.{say_check}
use Rattle.session_model.specs.Contents.{Content, content_check, once_checked}
use Rattle.session_model.specs.Saying.{phase_check, send_check}
use Rattle.session_model.specs.States.{Own, in_own, in_peers}
use Rattle.session_model.specs.declared.answer.Refusal.{Refusal}
use Rattle.session_model.specs.declared.answer.Refusal.TheVariants.{OutboxFull, EpochFull, LastEpoch}
use Rattle.dr_model.specs.Conversations.Conversation.{Conversation, count_of}
use Rattle.dr_model.specs.Conversations.Formats.{side_format}
use Rattle.dr_model.specs.Conversations.Posts.{turn_of_epoch}
use Rattle.dr_model.specs.Conversations.ViewStates.{client_at, view_own, state_of}
use Rattle.dr_model.specs.Conversations.Views.{View, outbox_of}
use Rattle.dr_model.specs.Machines.Sides.{client_of}
use Rattle.dr_model.specs.Machines.WorldSides.{sides_of}
use Rattle.dr_model.specs.Machines.Worlds.{World, view_of, outbox_in, may_say}
use Rattle.dr_model.specs.Theorems.LawfulWorlds.{IsLawfulWorld}
use Rattle.dr_model.specs.Theorems.Sessions.{checked_in}

-- what doesn't pass its own check is refused before
check_by : (passed : Result Unit Refusal) (epoch : ℕ) (full own : Bool) (o : Own) (public : List ℕ)
    → once_checked passed (if full then Err OutboxFull else once_checked passed (phase_check epoch (if own then in_own o else in_peers public)))
    ≡ once_checked passed
    (if full then Err OutboxFull else
    (if own then (if nat_le INDEX_LIMIT o.sent then Err EpochFull else Ok false) else
    (if nat_le LAST_EPOCH epoch then Err LastEpoch else Ok true)))
check_by (Err refusal) epoch full own o public = refl
check_by (Ok done) epoch true own o public = refl
check_by (Ok done) epoch false true o public = refl
check_by (Ok done) epoch false false o public = refl

-- as its client checks
check_view : (k : Mechanism) (c : Conversation) (v : View) (side : Side) (content : Content) → v.side ≡ side
    → say_check (client_at k c v) content
    ≡ once_checked (content_check (side_format c.formats v.side) content)
    (if nat_le OUTBOX_LIMIT (length (outbox_of k c v)) then Err OutboxFull
    else (if is_own side v.epoch then (if nat_le INDEX_LIMIT (count_of c v.epoch) then Err EpochFull else Ok false) else
    (if nat_le LAST_EPOCH v.epoch then Err LastEpoch else Ok true)))
check_view k c v side content is =
    let passed = content_check (side_format c.formats v.side) content in
    check_by passed v.epoch (nat_le OUTBOX_LIMIT (length (outbox_of k c v))) (is_own v.side v.epoch) (view_own k c v)
    (turn_of_epoch k c v.epoch).public
    ∙ ap (λ s. once_checked passed
    (if nat_le OUTBOX_LIMIT (length (outbox_of k c v)) then Err OutboxFull
    else (if is_own s v.epoch then (if nat_le INDEX_LIMIT (count_of c v.epoch) then Err EpochFull else Ok false) else
    (if nat_le LAST_EPOCH v.epoch then Err LastEpoch else Ok true)))) is

pub same_check : (k : Mechanism) (w : World) (side : Side) (content : Content) → IsLawfulWorld k w
    → say_check (client_of (sides_of k w) side) content ≡ may_say k w side content
same_check k w First content lawful = check_view k w.conversation w.first First content lawful.first.side_is
same_check k w Second content lawful = check_view k w.conversation w.second Second content lawful.second.side_is

-- as its session checks, which has no outbox
session_by : (passed : Result Unit Refusal) (epoch : ℕ) (own : Bool) (o : Own) (public : List ℕ)
    → once_checked passed (phase_check epoch (if own then in_own o else in_peers public))
    ≡ once_checked passed
    (if own then (if nat_le INDEX_LIMIT o.sent then Err EpochFull else Ok false) else
    (if nat_le LAST_EPOCH epoch then Err LastEpoch else Ok true))
session_by (Err refusal) epoch own o public = refl
session_by (Ok done) epoch true o public = refl
session_by (Ok done) epoch false o public = refl

pub session_check : (k : Mechanism) (c : Conversation) (v : View) (content : Content)
    → send_check (state_of k c v) content ≡ checked_in c v content
session_check k c v content =
    session_by (content_check (side_format c.formats v.side) content) v.epoch (is_own v.side v.epoch) (view_own k c v)
    (turn_of_epoch k c v.epoch).public

-- whose epoch it is, by the answer
own_by : (q r s : Refusal) (passed : Result Unit Refusal) (full own used last : Bool) (turns : Bool)
    → once_checked passed (if full then Err q else (if own then (if used then Err r else Ok false) else (if last then Err s else Ok true))) ≡ Ok turns
    → own ≡ not turns
own_by q r s (Err refusal) full own used last turns h = cc
own_by q r s (Ok done) true own used last turns h = cc
own_by q r s (Ok done) false true true last turns h = cc
own_by q r s (Ok done) false true false last true h = cc
own_by q r s (Ok done) false true false last false h = refl
own_by q r s (Ok done) false false used true turns h = cc
own_by q r s (Ok done) false false used false true h = refl
own_by q r s (Ok done) false false used false false h = cc

pub own_where : (k : Mechanism) (w : World) (side : Side) (content : Content) (turns : Bool) → may_say k w side content ≡ Ok turns
    → is_own side (view_of w side).epoch ≡ not turns
own_where k w side content turns h =
    own_by OutboxFull EpochFull LastEpoch (content_check (side_format w.conversation.formats (view_of w side).side) content)
    (nat_le OUTBOX_LIMIT (length (outbox_in k w side))) (is_own side (view_of w side).epoch)
    (nat_le INDEX_LIMIT (count_of w.conversation (view_of w side).epoch)) (nat_le LAST_EPOCH (view_of w side).epoch) turns h

-- the tests that failed
tests_by : (q r s : Refusal) (passed : Result Unit Refusal) (full own used last : Bool) (turns : Bool)
    → once_checked passed (if full then Err q else (if own then (if used then Err r else Ok false) else (if last then Err s else Ok true))) ≡ Ok turns
    → (passed ≡ Ok tt) × (full ≡ false) × ((if turns then last else used) ≡ false)
tests_by q r s (Err refusal) full own used last turns h = cc
tests_by q r s (Ok done) true own used last turns h = cc
tests_by q r s (Ok done) false true true last turns h = cc
tests_by q r s (Ok done) false true false last true h = cc
tests_by q r s (Ok done) false true false last false h = (refl, refl, refl)
tests_by q r s (Ok done) false false used true turns h = cc
tests_by q r s (Ok done) false false used false true h = (refl, refl, refl)
tests_by q r s (Ok done) false false used false false h = cc

-- a content that may be said passed its check, and there is room in the outbox and in the epoch, or for one epoch more
pub record MaySay (c : Conversation) (v : View) (packets : ℕ) (content : Content) (turns : Bool) : Type 0 where
  pub checked : content_check (side_format c.formats v.side) content ≡ Ok tt
  pub free : packets < OUTBOX_LIMIT
  pub room : (if turns then nat_le LAST_EPOCH v.epoch else nat_le INDEX_LIMIT (count_of c v.epoch)) ≡ false

pub may_say-where : (k : Mechanism) (w : World) (side : Side) (content : Content) (turns : Bool) → may_say k w side content ≡ Ok turns
    → MaySay w.conversation (view_of w side) (length (outbox_in k w side)) content turns
may_say-where k w side content turns h =
    let tests =
    tests_by OutboxFull EpochFull LastEpoch (content_check (side_format w.conversation.formats (view_of w side).side) content)
    (nat_le OUTBOX_LIMIT (length (outbox_in k w side))) (is_own side (view_of w side).epoch)
    (nat_le INDEX_LIMIT (count_of w.conversation (view_of w side).epoch)) (nat_le LAST_EPOCH (view_of w side).epoch) turns h in
    record { checked = tests.0; free = leb-false OUTBOX_LIMIT (length (outbox_in k w side)) tests.1; room = tests.2 }
