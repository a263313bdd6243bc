-- The counters of the requests that a guarded box served, over streams and crashes.
use Rattle.std.specs.Prelude.{◌≡◌, ⊤, ℕ, Bool, List, [], ◌∷◌, flat_map, Option, Some, None, if◌then◌else◌}
use Rattle.relay_guard.specs.Guards.{Token, last_of}
use Rattle.relay_guard.specs.Histories.{RisesBetween, same_role}
use Rattle.relay_guard.specs.declared.guard.Guard.{Guard}
use Rattle.relay_guard.specs.declared.guard.Role.{Role}
use Rattle.relay_core.specs.Alone.{next_alone, reply_alone}
use Rattle.relay_core.specs.Boxes.{Box, role_of}
use Rattle.relay_core.specs.Streams.{BoxExchange}
use Rattle.relay_wire.specs.Replies.{Replied, denied}
use Rattle.relay_wire.specs.Requests.{Asked}

-- the counter of a request's token, where the request takes this role
abbrev pub counter_in : Role → Role → Option Token → List ℕ
counter_in role other None = []
counter_in role other (Some token) = if same_role role other then token.counter ∷ [] else []

-- of a request that was answered as served
abbrev pub counter_by : Role → Asked → Replied → List ℕ
counter_by role asked (denied rule last) = []
counter_by role asked _ = counter_in role (role_of asked.ask) asked.token

abbrev pub counters : Role → List BoxExchange → List ℕ
counters role list = flat_map (λ t. counter_by role t.asked t.reply) list

-- what a box goes through: requests that are answered, and crashes amid one that isn't, after which
-- the box is the one from before it or the one from after it
pub data Passage : Type 0 where
  answers : BoxExchange → Passage
  cuts : (took : Bool) → Asked → Passage

abbrev pub next_box : Option Box → Passage → Option Box
next_box box (answers t) = next_alone box t.asked
next_box box (cuts took asked) = if took then next_alone box asked else box

abbrev pub box_through : Option Box → List Passage → Option Box
box_through box [] = box
box_through box (passage ∷ more) = box_through (next_box box passage) more

-- each reply is the box's own
abbrev pub IsOwn : Option Box → Passage → Type 0
IsOwn box (answers t) = t.reply ≡ reply_alone box t.asked
IsOwn box (cuts took asked) = ⊤

abbrev pub AreOwn : Option Box → List Passage → Type 0
AreOwn box [] = ⊤
AreOwn box (passage ∷ more) = IsOwn box passage × AreOwn (next_box box passage) more

abbrev pub counter_of : Role → Passage → List ℕ
counter_of role (answers t) = counter_by role t.asked t.reply
counter_of role (cuts took asked) = []

abbrev pub counters_through : Role → List Passage → List ℕ
counters_through role passages = flat_map (counter_of role) passages

-- the counters rise from above the last one that the guard had to the one that it has then
abbrev pub RiseBy : Role → Option Guard → Option Guard → List ℕ → Type 0
RiseBy role None after list = ⊤
RiseBy role (Some was) None list = ⊥
RiseBy role (Some was) (Some is) list = RisesBetween (last_of was role) (last_of is role) list

abbrev pub RiseIn : Role → Option Box → Option Box → List ℕ → Type 0
RiseIn role None after list = ⊤
RiseIn role (Some was) None list = ⊥
RiseIn role (Some was) (Some is) list = RiseBy role was.guard is.guard list
