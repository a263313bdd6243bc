-- The conversation goes on with whatever a side's program runs.
use Rattle.std.proofs.Common.{List, Some, [], arith, inl, inr, length, refl, subst, sym, ℕ, ◌++◌, ◌+◌, ◌∙◌, ◌∷◌, ◌≡◌}
use Rattle.std.specs.Prelude.{slice_get}
use Rattle.dr_base.specs.declared.position.Side.{Side}
use Rattle.dr_base.specs.declared.position.Side.TheVariants.{First, Second}
use Rattle.dr_disk.specs.State.{DiskState, IsLawful}
use Rattle.dr_model.specs.Machines.Worlds.{World}
use Rattle.dr_model.specs.Theorems.LawfulWorlds.{IsLawfulWorld}
use Rattle.dr_ports.specs.States.{DrawsState}
use Rattle.kem_laws.specs.Mechanism.{Mechanism}
use Rattle.client.specs.Cells.{client_cell}
use Rattle.client.specs.Grounds.{Grounds}
use Rattle.client.specs.Moments.{Known, StandsStill}
use Rattle.client.proofs.Standing.{stands}
use Rattle.session_commands.specs.WholeRuns.{Ran}
use Rattle.conversation.specs.HandedOut.{HandsOut, HasHandedOut}
use Rattle.conversation.specs.Joints.{GoesOn, IsConversation, Joint, known_in, with_next}
use Rattle.conversation.proofs.Counts.{counts}
use Rattle.conversation.proofs.Extending.{beyond, extended, last_there, still_there, up_to}
use Rattle.conversation.proofs.Going.{first_linked, second_linked}
use Rattle.conversation.proofs.Joined.{all_sound}
use Rattle.conversation.proofs.Moved.{IsSound}

-- what a run hands out that is one more, it has handed out
module _ {X W : Type 0} (state : X → DiskState) (draws : W → DrawsState) (k : Mechanism)
    (side : Side) (xs : List X) (joints : ℕ → Joint) (n : ℕ) (before after : X)
    (here : slice_get xs n ≡ Some before) (long : length xs ≡ n + 1) (next : Joint)
    (packet : List ℕ) where
  handed_then : (ran : Ran state draws k side before after (known_in k side (joints n)) (known_in k side next))
      → HandsOut ran packet
      → HasHandedOut state draws k side (xs ++ after ∷ []) (with_next joints n next) n packet
  handed_then ran handed =
      let now = with_next joints n next in
      let Both : Joint → Joint → Type 0 = λ j i.
      (its : Ran state draws k side before after (known_in k side j) (known_in k side i))
      × HandsOut its packet in
      let both : Both (now n) (now (n + 1)) =
      subst (λ j. Both j (now (n + 1))) (up_to joints n next n (omega arith))
      (subst (λ i. Both (joints n) i) (beyond joints n next (n + 1) (omega arith)) (ran, handed)) in
      record {
        before = before;
        after = after;
        here = still_there xs after before n here;
        next = last_there xs after (n + 1) (sym long);
        ran = both.0;
        handed = both.1;
      }

module _ {D E W : Type 0} (state : D → DiskState) (lawful_disks : (d : D) → IsLawful (state d))
    (others : E → DiskState) (lawful_others : (e : E) → IsLawful (others e))
    (draws : W → DrawsState) (k : Mechanism) (grounds : Grounds k) (xs : List D) (ys : List E)
    (w : World) (joints : ℕ → Joint) (lawful : IsLawfulWorld k w)
    (are : IsConversation state others draws xs ys k w joints)
    (n : ℕ) (a : D) (c : E) (long : length xs ≡ n + 1) (here : slice_get xs n ≡ Some a)
    (there : slice_get ys n ≡ Some c) (later : Known) where
  sound : IsSound k (joints n)
  sound = all_sound k grounds state others draws xs ys w joints lawful are n a c here there

  first_still : StandsStill k First w (known_in k First (joints n)) (state a)
  first_still =
      stands client_cell state xs k First w (λ m. known_in k First (joints m))
      (first_linked state lawful_disks others lawful_others draws k grounds xs ys w joints lawful are)
      n a here

  second_still : StandsStill k Second w (known_in k Second (joints n)) (others c)
  second_still =
      stands client_cell others ys k Second w (λ m. known_in k Second (joints m))
      (second_linked state lawful_disks others lawful_others draws k grounds xs ys w joints lawful are)
      n c there

  pub first_counts : (after : D) → Ran state draws k First a after (known_in k First (joints n)) later
      → GoesOn state others draws xs ys k w joints n after c
      (λ now. known_in k First (now (n + 1)) ≡ later)
  first_counts after ran =
      let made = counts state lawful_disks others draws k grounds First w a after c c (joints n) sound
      first_still (λ known its. known ≡ later) later (ran, refl) (λ image left. left) in
      record {
        next = made.0;
        are = extended state others draws xs ys k w joints are n long a after c c here there made.0
            (inl made.1);
        with_it = subst (λ j. known_in k First j ≡ later)
            (beyond joints n made.0 (n + 1) (omega arith)) made.2;
      }

  pub second_counts : (after : E)
      → Ran others draws k Second c after (known_in k Second (joints n)) later
      → GoesOn state others draws xs ys k w joints n a after
      (λ now. known_in k Second (now (n + 1)) ≡ later)
  second_counts after ran =
      let made = counts others lawful_others state draws k grounds Second w c after a a (joints n)
      sound second_still (λ known its. known ≡ later) later (ran, refl) (λ image left. left) in
      record {
        next = made.0;
        are = extended state others draws xs ys k w joints are n long a a c after here there made.0
            (inr made.1);
        with_it = subst (λ j. known_in k Second j ≡ later)
            (beyond joints n made.0 (n + 1) (omega arith)) made.2;
      }

  -- ---- what it hands out

  pub first_hands : (after : D)
      (ran : Ran state draws k First a after (known_in k First (joints n)) later) (packet : List ℕ)
      → HandsOut ran packet
      → GoesOn state others draws xs ys k w joints n after c
      (λ now. HasHandedOut state draws k First (xs ++ after ∷ []) now n packet)
  first_hands after ran packet handed =
      let made = counts state lawful_disks others draws k grounds First w a after c c (joints n) sound
      first_still (λ known its. HandsOut its packet) later (ran, handed) (λ image left. left) in
      record {
        next = made.0;
        are = extended state others draws xs ys k w joints are n long a after c c here there made.0
            (inl made.1);
        with_it =
            handed_then state draws k First xs joints n a after here long made.0 packet made.1.ran made.2;
      }

  pub second_hands : (after : E)
      (ran : Ran others draws k Second c after (known_in k Second (joints n)) later) (packet : List ℕ)
      → HandsOut ran packet
      → GoesOn state others draws xs ys k w joints n a after
      (λ now. HasHandedOut others draws k Second (ys ++ after ∷ []) now n packet)
  second_hands after ran packet handed =
      let made = counts others lawful_others state draws k grounds Second w c after a a (joints n)
      sound second_still (λ known its. HandsOut its packet) later (ran, handed) (λ image left. left) in
      record {
        next = made.0;
        are = extended state others draws xs ys k w joints are n long a a c after here there made.0
            (inr made.1);
        with_it = handed_then others draws k Second ys joints n c after there (sym are.both ∙ long)
            made.0 packet made.1.ran made.2;
      }
