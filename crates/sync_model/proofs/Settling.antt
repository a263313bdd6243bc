-- A request to a guarded box is served at last: at once, or as a repeat.
use Rattle.std.proofs.Common.{◌≡◌, ℕ, zero, suc, ◌+◌, ◌-◌, ◌^◌, ◌<◌, ◌≤◌, Bool, true, false, List, Option, Some, Ok, Err, sym, ◌∙◌, ap, ap₂, subst, arith}
use Rattle.std.specs.Prelude.{◌&&◌, nat_lt, not, is_some, option_map}
use Rattle.std.specs.Str.{bytes_eq}
use Rattle.std.proofs.lemmas.Bool.Decides.{nat_tests}
use Rattle.relay_guard.specs.Guards.{last_of, old_counter}
use Rattle.relay_guard.specs.Histories.{same_role}
use Rattle.relay_guard.specs.declared.guard.Guard.{Guard}
use Rattle.relay_guard.specs.declared.guard.Role.{Role}
use Rattle.relay_wire.specs.Requests.{Asked}
use Rattle.relay_wire.specs.Replies.{denied}
use Rattle.relay_core.specs.Alone.{next_alone, reply_alone}
use Rattle.relay_core.specs.Boxes.{Answer, Box, answer_in, answer_of, answers_of, box_of, passed_by, role_of, stays}
use Rattle.relay_core.proofs.Apart.{next_other, next_own, reply_own}
use Rattle.relay_core.proofs.Judged.{guard_stays, refuses, serves}
use Rattle.sync_model.specs.Parties.{Party}
use Rattle.sync_model.specs.Tokens.{SyncKeys, Tokens, counter_under, is_repeated, next_counter, tagged, tokens_by, with_counter}
use Rattle.sync_model.specs.Moves.{Move, Wait, asked_in, move, role_in}
use Rattle.sync_model.specs.Courses.{Course, read_by, repeats}
use Rattle.sync_model.specs.Transfers.{HasCounters, IsGuardedFor, Meeting, answered, counted, counted_on, meet_times, meets}
use Rattle.sync_model.proofs.Counting.{IsReady, again_with, counter_with, other_with, ready_next, same_self}
use Rattle.sync_model.proofs.Verdicts.{IsVerdict, lets, denied_so, lets_through, none_repeated, plain_reply, verdict_of}

module _ {S : Type 0} (p : Party S) where
  -- a sync asks this of that box
  pub record IsAsking (m : Meeting S) (s : S) (w : Wait) (asked : Asked) (box : Box) : Type 0 where
    pub state : m.course.state ≡ s
    pub waits : m.course.wait ≡ w
    pub asks : asked_in p s w ≡ Some asked
    pub role : role_in w ≡ role_of asked.ask
    pub named : box_of asked.name m.boxes ≡ Some box

  -- and there it was served: the plain reply was read, the box counts one request more, and all else stayed
  pub record IsServedAt (m after : Meeting S) (s : S) (w : Wait) (asked : Asked) (box : Box) : Type 0 where
    pub state : after.course.state ≡ (move p s w (answer_of box asked.ask).reply).state
    pub waits : after.course.wait ≡ (move p s w (answer_of box asked.ask).reply).wait
    pub named : box_of asked.name after.boxes ≡ Some (counted (role_of asked.ask) 1 (answer_of box asked.ask).next)
    pub others : (name : List ℕ) → bytes_eq asked.name name ≡ false → box_of name after.boxes ≡ box_of name m.boxes
    pub fresh : after.course.tokens.again ≡ false
    pub ready : IsReady (counter_under after.course.tokens (role_of asked.ask)) (role_of asked.ask) (counted (role_of asked.ask) 1 (answer_of box asked.ask).next).guard
    pub counters : (role : Role) → same_role role (role_of asked.ask) ≡ false → counter_under after.course.tokens role ≡ counter_under m.course.tokens role

  module _ (m : Meeting S) (s : S) (w : Wait) (asked : Asked) (box : Box) (at : IsAsking m s w asked box) where
    abbrev sends : Asked
    sends = tagged p.keys m.course.tokens asked

    abbrev role : Role
    role = role_of asked.ask

    goes : answered p m (Some sends) ≡ meets p m
    goes = sym (ap (λ (o : Option Asked). answered p m (option_map (tagged p.keys m.course.tokens) o)) (ap₂ (asked_in p) at.state at.waits ∙ at.asks))

    reply_is : (answers_of m.boxes sends).reply ≡ (answer_in box sends).reply
    reply_is = reply_own m.boxes sends ∙ ap (λ (o : Option Box). reply_alone o sends) at.named

    box_is : box_of asked.name (answers_of m.boxes sends).next ≡ Some (answer_in box sends).next
    box_is = next_own m.boxes sends asked.name (same_self asked.name) ∙ ap (λ (o : Option Box). next_alone o sends) at.named

    role_is : role_in m.course.wait ≡ role
    role_is = ap role_in at.waits ∙ at.role

    -- at once
    serve_now : passed_by box.guard sends ≡ Ok (option_map (counted_on role 1) box.guard) → IsReady (counter_under m.course.tokens role) role box.guard
        → IsServedAt m (meets p m) s w asked box
    serve_now passes ready =
        let made = answer_of box asked.ask in
        let served = serves box sends (option_map (counted_on role 1) box.guard) passes in
        let plain : (answers_of m.boxes sends).reply ≡ made.reply = reply_is ∙ served.reply in
        let once : repeats p m.course (answers_of m.boxes sends).reply ≡ false =
        ap (is_repeated p.keys m.course.tokens) plain ∙ none_repeated p.keys m.course.tokens made.reply (plain_reply box asked.ask) in
        let course_is : (answered p m (Some sends)).course ≡ read_by p m.course made.reply false = ap₂ (read_by p m.course) plain once in
        let moves : move p m.course.state m.course.wait made.reply ≡ move p s w made.reply = ap₂ (λ (t : S) (v : Wait). move p t v made.reply) at.state at.waits in
        let tokens_is : (answered p m (Some sends)).course.tokens ≡ with_counter m.course.tokens role (next_counter (counter_under m.course.tokens role)) false =
        ap (λ (c : Course S). c.tokens) course_is ∙ ap (λ (r : Role). tokens_by r m.course.tokens made.reply false) role_is in
        let next_guard : option_map (counted_on role 1) box.guard ≡ option_map (counted_on role 1) made.next.guard = ap (option_map (counted_on role 1)) (sym (guard_stays box asked.ask)) in
        let counter_is : counter_under (answered p m (Some sends)).course.tokens role ≡ next_counter (counter_under m.course.tokens role) =
        ap (λ (t : Tokens). counter_under t role) tokens_is ∙ counter_with m.course.tokens role _ false in
        subst (λ (x : Meeting S). IsServedAt m x s w asked box) goes (record {
          state = ap (λ (c : Course S). c.state) course_is ∙ ap (λ (v : Move S). v.state) moves;
          waits = ap (λ (c : Course S). c.wait) course_is ∙ ap (λ (v : Move S). v.wait) moves;
          named = box_is ∙ ap (λ (b : Box). Some b) (served.next ∙ ap (λ (g : Option Guard). record made.next { guard = g }) next_guard);
          others = λ name differ. next_other m.boxes sends name differ;
          fresh = ap (λ (t : Tokens). t.again) tokens_is ∙ again_with m.course.tokens role _ false;
          ready = subst (λ (n : ℕ). IsReady n role (option_map (counted_on role 1) made.next.guard)) (sym counter_is)
              (subst (λ (g : Option Guard). IsReady (next_counter (counter_under m.course.tokens role)) role g) next_guard (ready_next (counter_under m.course.tokens role) role box.guard ready));
          counters = λ other differ. ap (λ (t : Tokens). counter_under t other) tokens_is ∙ other_with m.course.tokens role other _ false differ;
        })

    -- denied for its counter: the same is asked once more
    record IsDeniedAt (after : Meeting S) (last : ℕ) : Type 0 where
      asking : IsAsking after s w asked box
      others : (name : List ℕ) → bytes_eq asked.name name ≡ false → box_of name after.boxes ≡ box_of name m.boxes
      tokens : after.course.tokens ≡ with_counter m.course.tokens role (last + 1) true

    deny_now : (last : ℕ) → passed_by box.guard sends ≡ Err (old_counter last) → is_some p.keys ≡ true → m.course.tokens.again ≡ false → nat_lt last (2 ^ 64 - 1) ≡ true
        → IsDeniedAt (meets p m) last
    deny_now last passes keyed fresh below =
        let answer : answer_in box sends ≡ stays (denied 3 last) box = refuses box sends (old_counter last) passes in
        let told : (answers_of m.boxes sends).reply ≡ denied 3 last = reply_is ∙ ap (λ (a : Answer). a.reply) answer in
        let once_more : is_repeated p.keys m.course.tokens (denied 3 last) ≡ true =
        ap (λ (k : Bool). k && (not m.course.tokens.again && nat_lt last (2 ^ 64 - 1))) keyed
        ∙ ap₂ (λ (a b : Bool). not a && b) fresh below in
        let again : repeats p m.course (answers_of m.boxes sends).reply ≡ true = ap (is_repeated p.keys m.course.tokens) told ∙ once_more in
        let course_is : (answered p m (Some sends)).course ≡ read_by p m.course (denied 3 last) true = ap₂ (read_by p m.course) told again in
        subst (λ (x : Meeting S). IsDeniedAt x last) goes (record {
          asking = record {
            state = ap (λ (c : Course S). c.state) course_is ∙ at.state;
            waits = ap (λ (c : Course S). c.wait) course_is ∙ at.waits;
            asks = at.asks;
            role = at.role;
            named = box_is ∙ ap (λ (a : Answer). Some a.next) answer;
          };
          others = λ name differ. next_other m.boxes sends name differ;
          tokens = ap (λ (c : Course S). c.tokens) course_is ∙ ap (λ (r : Role). tokens_by r m.course.tokens (denied 3 last) true) role_is;
        })

  below_top : (last : ℕ) → last + 1 < 2 ^ 64 → nat_lt last (2 ^ 64 - 1) ≡ true
  below_top last short = grind (arith, nat_tests, short)

  -- One or two replies later the plain reply was read.
  pub served_at_last : (m : Meeting S) (s : S) (w : Wait) (asked : Asked) (box : Box) → IsAsking m s w asked box → IsGuardedFor p.keys (role_of asked.ask) box.guard
      → HasCounters (role_of asked.ask) 1 box.guard → m.course.tokens.again ≡ false → IsReady (counter_under m.course.tokens (role_of asked.ask)) (role_of asked.ask) box.guard
      → (n : ℕ) × IsServedAt m (meet_times p n m) s w asked box
  served_at_last m s w asked box at guarded has fresh ready = by_verdict (verdict_of p.keys m.course.tokens asked box.guard guarded ready)
    where
      by_verdict : IsVerdict p.keys m.course.tokens asked box.guard → (n : ℕ) × IsServedAt m (meet_times p n m) s w asked box
      by_verdict (lets passes) = (suc zero, serve_now m s w asked box at passes ready)
      by_verdict (denied_so keys guard keyed guard_is key passes) =
          let role = role_of asked.ask in
          let last = last_of guard role in
          let left : HasCounters role 1 (Some guard) = subst (HasCounters role 1) guard_is has in
          let one = deny_now m s w asked box at last passes (ap is_some keyed) fresh (below_top last left) in
          let after = meets p m in
          let next : counter_under after.course.tokens role ≡ last + 1 = ap (λ (t : Tokens). counter_under t role) one.tokens ∙ counter_with m.course.tokens role (last + 1) true in
          let passes_now : passed_by box.guard (tagged p.keys after.course.tokens asked) ≡ Ok (option_map (counted_on role 1) box.guard) =
          ap₂ (λ (g : Option Guard) (k : Option SyncKeys). passed_by g (tagged k after.course.tokens asked)) guard_is keyed
          ∙ lets_through keys after.course.tokens asked guard key next ∙ ap (λ (g : Option Guard). Ok (option_map (counted_on role 1) g)) (sym guard_is) in
          let ready_now : IsReady (counter_under after.course.tokens role) role box.guard =
          subst (λ (g : Option Guard). IsReady (counter_under after.course.tokens role) role g) (sym guard_is) (let e : counter_under after.course.tokens role ≤ last + 1 = omega (arith, next) in e) in
          let two = serve_now after s w asked box one.asking passes_now ready_now in (
            suc (suc zero),
            record {
              state = two.state;
              waits = two.waits;
              named = two.named;
              others = λ name differ. two.others name differ ∙ one.others name differ;
              fresh = two.fresh;
              ready = two.ready;
              counters = λ other differ. two.counters other differ ∙ ap (λ (t : Tokens). counter_under t other) one.tokens ∙ other_with m.course.tokens role other (last + 1) true differ;
            },
          )
