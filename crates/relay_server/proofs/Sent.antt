-- What a crash leaves at a moment at which some replies were sent.
use Rattle.std.proofs.Common.{◌≡◌, ◌⊎◌, inl, inr, ⊎_elim, ℕ, ◌+◌, Bool, true, false, List, [], ◌∷◌, ◌++◌, Some, None, Option, refl, sym, ◌∙◌, ap, ap₂, subst, arith, Result, Ok, Err}
use Rattle.std.specs.Prelude.{if◌then◌else◌, is_some}
use Rattle.dr_disk.specs.State.{DiskState, IsLawful}
use Rattle.dr_ports.specs.Wires.{Port}
use Rattle.slot_store.specs.Laws.{IsResting}
use Rattle.relay_wire.specs.Replies.{absent, acked, box_full, stored}
use Rattle.relay_wire.specs.Requests.{Asked, Asking, posts, fetches, acks}
use Rattle.relay_core.specs.declared.limits.TheConstants.{EXCHANGE_LIMIT}
use Rattle.relay_core.specs.Alone.{box_after, next_alone, replies_alone, reply_alone}
use Rattle.relay_core.specs.Boxes.{Answer, Box, Kept, answer_by, answer_in, answer_of, becomes, box_of, by_verdict, has_number, is_full, judged_in, keys_by, oldest, stays, with_packet, without_number}
use Rattle.relay_core.specs.Streams.{Served, BoxExchange, asks, replies, told}
use Rattle.relay_core.specs.declared.spec.BoxSpec.{BoxSpec}
use Rattle.relay_core.proofs.Apart.{isolated_within}
use Rattle.relay_core.proofs.KeptKeys.{spec_stays}
use Rattle.relay_core.proofs.Served.{served_nothing}
use Rattle.relay_guard.specs.declared.guard.Denied.{Denied}
use Rattle.relay_guard.specs.declared.guard.Guard.{Guard}
use Rattle.relay_server.specs.Durable.{StandsForEitherBoxes}
use Rattle.relay_server.specs.Reading.{StandsForBoxes}
use Rattle.relay_server.specs.FrameByFrame.{AreAnswered, IsServerAtRest, IsMoment, StandsForSent, accepted, after_frames, between, is_accepting, is_guarded, none_yet, one_more, within}
use Rattle.relay_server.proofs.Replacing.{ready_stands}

-- ---- requests that aren't accepted

either_keeps : (box : Box) (is : Bool) (x y : Answer) → (is_accepting false x.reply ≡ false → x.next ≡ box)
    → (is_accepting false y.reply ≡ false → y.next ≡ box)
    → is_accepting false (if is then x else y).reply ≡ false → (if is then x else y).next ≡ box
either_keeps box true x y one other = one
either_keeps box false x y one other = other

refused_stays : (box : Box) (ask : Asking) → is_accepting false (answer_of box ask).reply ≡ false → (answer_of box ask).next ≡ box
unfolding answer_of
refused_stays box (posts packet) = either_keeps box (is_full box) (stays box_full box) (becomes (stored (box.last + 1)) (with_packet box packet)) (λ e. refl) (λ e. absurd (let f : true ≡ false = e in cc))
refused_stays box fetches = λ e. refl
refused_stays box (acks number) = either_keeps box (has_number number box.packets) (becomes acked (without_number box number)) (stays (absent number) box) (λ e. absurd (let f : true ≡ false = e in cc)) (λ e. refl)

-- a guarded box has accepted all that it served
either_accepts : (is : Bool) (x y : Answer) → is_accepting true x.reply ≡ true → is_accepting true y.reply ≡ true
    → is_accepting true (if is then x else y).reply ≡ true
either_accepts true x y one other = one
either_accepts false x y one other = other

oldest_accepts : (packets : List Kept) → is_accepting true (oldest packets) ≡ true
oldest_accepts [] = refl
oldest_accepts (kept ∷ more) = refl

served_accepts : (box : Box) (ask : Asking) → is_accepting true (answer_of box ask).reply ≡ true
unfolding answer_of
served_accepts box (posts packet) = either_accepts (is_full box) (stays box_full box) (becomes (stored (box.last + 1)) (with_packet box packet)) refl refl
served_accepts box fetches = oldest_accepts box.packets
served_accepts box (acks number) = either_accepts (has_number number box.packets) (becomes acked (without_number box number)) (stays (absent number) box) refl refl

by_guard : (box : Box) (asked : Asked) (guard : Option Guard) → is_accepting (is_some guard) (answer_by box asked guard).reply ≡ false
    → (answer_by box asked guard).next ≡ box
by_guard box asked None = refused_stays box asked.ask
by_guard box asked (Some guard) = by_judged (judged_in guard asked)
  where
    by_judged : (v : Result Guard Denied) → is_accepting true (by_verdict box (answer_of box asked.ask) v).reply ≡ false
        → (by_verdict box (answer_of box asked.ask) v).next ≡ box
    by_judged (Ok next) e = absurd (let f : true ≡ false = sym (served_accepts box asked.ask) ∙ e in cc)
    by_judged (Err refusal) e = refl

refused_in : (box : Box) (asked : Asked) → is_accepting (is_some box.guard) (answer_in box asked).reply ≡ false → (answer_in box asked).next ≡ box
unfolding answer_in
refused_in box asked = by_guard box asked box.guard

refused_alone : (box : Option Box) (asked : Asked) → is_accepting (is_guarded box) (reply_alone box asked) ≡ false → next_alone box asked ≡ box
refused_alone None asked refused = refl
refused_alone (Some box) asked refused = ap (λ (b : Box). Some b) (refused_in box asked refused)

-- a guard stays where it is
has_keys : (guard : Option Guard) → is_some (keys_by guard) ≡ is_some guard
has_keys None = refl
has_keys (Some guard) = refl

guarded_still : (box : Option Box) (asked : Asked) → is_guarded (next_alone box asked) ≡ is_guarded box
guarded_still None asked = refl
guarded_still (Some box) asked =
    sym (has_keys (answer_in box asked).next.guard) ∙ ap (λ (spec : BoxSpec). is_some spec.keys) (spec_stays box asked) ∙ has_keys box.guard

-- a box is what its accepted requests made of it
accepted_alone : (guarded : Bool) (box : Option Box) (list : List BoxExchange) → is_guarded box ≡ guarded → replies list ≡ replies_alone box (asks list)
    → box_after box (asks list) ≡ box_after box (asks (accepted guarded list))
accepted_alone guarded box [] has replied = refl
accepted_alone guarded box (t ∷ list) has replied =
    let all : t.reply ∷ replies list ≡ reply_alone box t.asked ∷ replies_alone (next_alone box t.asked) (asks list) = replied in
    let replied_more : replies list ≡ replies_alone (next_alone box t.asked) (asks list) = cc in
    let reply_is : t.reply ≡ reply_alone box t.asked = cc in
    by_reply reply_is (accepted_alone guarded (next_alone box t.asked) list (guarded_still box t.asked ∙ has) replied_more) (is_accepting guarded t.reply) refl
  where
    by_reply : t.reply ≡ reply_alone box t.asked
        → box_after (next_alone box t.asked) (asks list) ≡ box_after (next_alone box t.asked) (asks (accepted guarded list))
        → (is : Bool) → is_accepting guarded t.reply ≡ is
        → box_after (next_alone box t.asked) (asks list) ≡ box_after box (asks (if is then t ∷ accepted guarded list else accepted guarded list))
    by_reply reply_is more true e = more
    by_reply reply_is more false e = more ∙ ap (λ (b : Option Box). box_after b (asks (accepted guarded list)))
        (refused_alone box t.asked (ap₂ is_accepting has (sym reply_is) ∙ e))

own_accepted : (boxes : List Box) (front frames : List (List ℕ)) (c : List ℕ)
    → (front ≡ frames) ⊎ ((frame : List ℕ) × (front ≡ frames ++ frame ∷ []))
    → StandsForBoxes (after_frames boxes front).next c → StandsForSent boxes frames c
own_accepted boxes front frames c reach stands = record {
  front = front;
  reach = reach;
  stands = stands;
  alone = λ name. let own = isolated_within EXCHANGE_LIMIT name boxes front in
      own.next ∙ accepted_alone (is_guarded (box_of name boxes)) (box_of name boxes) (told name (after_frames boxes front).exchanges) refl own.replied;
}

-- ---- moments

module _ {X Y : Type 0} (state : X → DiskState) (port : Y → Port) (lawful : (x : X) → IsLawful (state x))
    (resting : IsResting)
    (boxes : List Box) (start : X) (from : Y) where
  abbrev SoAnswered : List (List ℕ) → List Box → X → Y → Type 0
  SoAnswered frames behind disk pipe = AreAnswered state port boxes start from frames behind disk pipe

  boxes_are : (frames : List (List ℕ)) (behind : List Box) (disk : X) (pipe : Y) → SoAnswered frames behind disk pipe
      → behind ≡ (after_frames boxes frames).next
  boxes_are frames behind disk pipe (none_yet rests) = sym (ap (λ (s : Served). s.next) (served_nothing EXCHANGE_LIMIT boxes))
  boxes_are frames behind disk pipe (one_more front frame before after last next old later so came is rests) = is

  rests_then : (frames : List (List ℕ)) (behind : List Box) (disk : X) (pipe : Y) → SoAnswered frames behind disk pipe
      → IsServerAtRest behind (state disk)
  rests_then frames behind disk pipe (none_yet rests) = rests
  rests_then frames behind disk pipe (one_more front frame before after last next old later so came is rests) = rests

  stands_between : (frames : List (List ℕ)) (behind : List Box) (disk : X) (pipe : Y) → SoAnswered frames behind disk pipe
      → (c : List ℕ) → (state disk).image c → StandsForSent boxes frames c
  stands_between frames behind disk pipe so c left =
      let rests = rests_then frames behind disk pipe so in
      own_accepted boxes frames frames c (inl refl)
      (subst (λ (bs : List Box). StandsForBoxes bs c) (boxes_are frames behind disk pipe so)
      (ready_stands (record { boxes = behind; stores = rests.stores }) (state disk) rests.ready resting c left))

  pub moment_stands : (frames : List (List ℕ)) (c : List ℕ) → IsMoment state port boxes start from frames c
      → StandsForSent boxes frames c
  moment_stands frames c (between behind disk pipe so left) = stands_between frames behind disk pipe so c left
  moment_stands frames c (within frame put before after disk next pipe later so came is left) =
      ⊎_elim
      (λ was. ⊎_elim (λ old. at_first ((lawful disk).only_now c old)) (λ p. either p.0)
      (came.during.each (state disk).moment c (omega arith) was))
      (λ now. ⊎_elim at_first (λ p. either p.0) (came.during.last c now))
      left
    where
      at_first : (state disk).image c → StandsForSent boxes frames c
      at_first old = stands_between frames before disk pipe so c old

      either : StandsForEitherBoxes before after c → StandsForSent boxes frames c
      either e = ⊎_elim
          (λ old. own_accepted boxes frames frames c (inl refl)
          (subst (λ (bs : List Box). StandsForBoxes bs c) (boxes_are frames before disk pipe so) old))
          (λ new. own_accepted boxes (frames ++ frame ∷ []) frames c (inr (frame, refl))
          (subst (λ (bs : List Box). StandsForBoxes bs c) is new))
          e
