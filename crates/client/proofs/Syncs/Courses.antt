-- A course after a beginning of the replies, and the request that is waited for then.
use Rattle.std.proofs.Common.{List, None, Option, Some, [], ap, ap₂, refl, sym, ℕ, ◌++◌, ◌∙◌, ◌∷◌, ◌≡◌, ◌≢◌}
use Rattle.std.specs.Prelude.{option_map}
use Rattle.relay_core.specs.Boxes.{role_of}
use Rattle.relay_guard.specs.declared.guard.Role.TheVariants.{Poster}
use Rattle.relay_wire.specs.Replies.{Replied}
use Rattle.relay_wire.specs.Requests.{Asked, acks, bare_request, fetches, posts}
use Rattle.sync_model.specs.Courses.{Course, asked_now, course_from, course_of, read_one}
use Rattle.sync_model.specs.Moves.{Wait, acking, asked_in, fetching, over, posting, posting_of, role_in}
use Rattle.sync_model.specs.Parties.{Party}
use Rattle.sync_model.specs.Tokens.{Tokens, tagged}

-- ---- beginnings

pub read_on : {S : Type 0} (p : Party S) (front back : List Replied) (c : Course S)
    → course_from p c (front ++ back) ≡ course_from p (course_from p c front) back
read_on p [] back c = refl
read_on p (reply ∷ front) back c = read_on p front back (read_one p c reply)

pub none_behind : {X : Type 0} (front back : List X) → front ++ back ≡ [] → back ≡ []
none_behind [] back is = is
none_behind (x ∷ front) back is = absurd (let e : x ∷ (front ++ back) ≡ [] = is in cc)

-- a beginning that leaves something is one of all but the last
pub record IsBefore {X : Type 0} (front back before : List X) (last : X) : Type 0 where
  pub rest : List X
  pub split : before ≡ front ++ rest
  pub behind : back ≡ rest ++ last ∷ []

pub before_last : {X : Type 0} (front back before : List X) (last : X) → front ++ back ≡ before ++ last ∷ [] → back ≢ []
    → IsBefore front back before last
before_last [] back before last is some = record { rest = before; split = refl; behind = is }
before_last (x ∷ front) back [] last is some =
    let e : x ∷ (front ++ back) ≡ last ∷ [] = is in
    let rest : front ++ back ≡ [] = cc in
    absurd (some (none_behind front back rest))
before_last {X = X} (x ∷ front) back (y ∷ before) last is some =
    let e : x ∷ (front ++ back) ≡ y ∷ (before ++ last ∷ []) = is in
    let head : y ≡ x = cc in
    let tail : front ++ back ≡ before ++ last ∷ [] = cc in
    let found = before_last front back before last tail some in
    record { rest = found.rest; split = ap₂ (λ (z : X) (zs : List X). z ∷ zs) head found.split; behind = found.behind }

-- ---- the request that is waited for

-- its token is of the role that the sync waits in
some_role : (x asked : Asked) → Some x ≡ Some asked → role_of asked.ask ≡ role_of x.ask
some_role x asked is = let same : asked ≡ x = cc in ap (λ (y : Asked). role_of y.ask) same

posts_role : (name : List ℕ) (packets : List (List ℕ)) (asked : Asked) → posting_of name packets ≡ Some asked → role_of asked.ask ≡ Poster
posts_role name [] asked is = absurd (let e : None ≡ Some asked = is in cc)
posts_role name (packet ∷ packets) asked is = some_role (bare_request name (posts packet)) asked is

pub asks_role : {S : Type 0} (p : Party S) (s : S) (wait : Wait) (asked : Asked) → asked_in p s wait ≡ Some asked
    → role_of asked.ask ≡ role_in wait
asks_role p s (fetching n) asked is = some_role (bare_request p.own fetches) asked is
asks_role p s (acking n number) asked is = some_role (bare_request p.own (acks number)) asked is
asks_role p s (posting which) asked is = posts_role p.peers (p.outbox s) asked is
asks_role p s (over ending) asked is = absurd (let e : None ≡ Some asked = is in cc)

-- behind these replies
pub asks_still : {S : Type 0} (p : Party S) (first : S) (replies : List Replied) (s : S) (wait : Wait) (tokens : Tokens) (asked : Asked)
    → s ≡ (course_of p first replies).state → (course_of p first replies).wait ≡ wait → (course_of p first replies).tokens ≡ tokens
    → asked_in p s wait ≡ Some asked → asked_now p (course_of p first replies) ≡ Some (tagged p.keys tokens asked)
asks_still p first replies s wait tokens asked keeps waits counts asks =
    ap₂ (λ (t : Tokens) (o : Option Asked). option_map (tagged p.keys t) o) counts (ap₂ (asked_in p) (sym keeps) waits ∙ asks)
