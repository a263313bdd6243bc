-- A read gives a world that is known, and the conversation goes on with what a command makes of it.
use Rattle.std.proofs.Common.{List, Some, length, subst, sym, ℕ, ◌+◌, ◌≡◌}
use Rattle.std.specs.Prelude.{slice_get}
use Rattle.dr_base.specs.declared.position.Side.TheVariants.{First, Second}
use Rattle.dr_disk.specs.State.{DiskState, IsLawful}
use Rattle.dr_model.specs.Machines.Worlds.{World}
use Rattle.dr_model.specs.Theorems.LawfulWorlds.{IsLawfulWorld}
use Rattle.dr_ports.specs.States.{DrawsState}
use Rattle.kem_laws.specs.Mechanism.{Mechanism}
use Rattle.client.specs.Grounds.{Grounds}
use Rattle.client.specs.Moments.{IsAmongKnown, Known}
use Rattle.client.specs.Opening.{ReadsAsSide}
use Rattle.session_commands.specs.WholeRuns.{Ran}
use Rattle.session_commands.proofs.KnownWorlds.{one_lawful}
use Rattle.conversation.specs.Joints.{GoesOn, IsConversation, Joint, known_in, with_next}
use Rattle.conversation.proofs.AnyRun.{first_counts, second_counts}
use Rattle.conversation.proofs.Commands.{found}
use Rattle.conversation.proofs.Going.{first_linked, second_linked}
use Rattle.conversation.proofs.Joined.{all_sound}
use Rattle.conversation.proofs.Moved.{IsSound, sound_known}

module _ {D E W : Type 0} (state : D → DiskState) (lawful_disks : (d : D) → IsLawful (state d))
    (others : E → DiskState) (lawful_others : (e : E) → IsLawful (others e))
    (draws : W → DrawsState) (k : Mechanism) (grounds : Grounds k) (xs : List D) (ys : List E)
    (w : World) (joints : ℕ → Joint) (lawful : IsLawfulWorld k w)
    (are : IsConversation state others draws xs ys k w joints)
    (n : ℕ) (a : D) (c : E) (long : length xs ≡ n + 1) (here : slice_get xs n ≡ Some a)
    (there : slice_get ys n ≡ Some c) where
  sound : IsSound k (joints n)
  sound = all_sound k grounds state others draws xs ys w joints lawful are n a c here there

  -- ---- First's

  pub first_found : (bytes : List ℕ) → (state a).seen ≡ Some bytes
      → (v : World) × IsAmongKnown (known_in k First (joints n)) v × IsLawfulWorld k v
      × ReadsAsSide k v First (state a)
  first_found bytes told =
      let read = found state lawful_disks others draws k grounds First xs w joints
      (first_linked state lawful_disks others lawful_others draws k grounds xs ys w joints lawful are)
      n sound a here bytes told c in (
        read.0,
        read.1,
        one_lawful k (known_in k First (joints n)) read.0
            (sound_known k grounds First (joints n) sound) read.1,
        read.2,
      )

  pub first_onward : (P : Known → Type 0) (Also : Joint → Type 0)
      → ((j : Joint) → P (known_in k First j) → Also j) → (after : D)
      → (later : Known) × Ran state draws k First a after (known_in k First (joints n)) later
      × P later
      → GoesOn state others draws xs ys k w joints n after c (λ now. Also (now (n + 1)))
  first_onward P Also turns after made =
      let on = first_counts state lawful_disks others lawful_others draws k grounds xs ys w joints
      lawful are n a c long here there made.0 after made.1 in
      record {
        next = on.next;
        are = on.are;
        with_it = turns (with_next joints n on.next (n + 1)) (subst P (sym on.with_it) made.2);
      }

  -- ---- Second's

  pub second_found : (bytes : List ℕ) → (others c).seen ≡ Some bytes
      → (v : World) × IsAmongKnown (known_in k Second (joints n)) v × IsLawfulWorld k v
      × ReadsAsSide k v Second (others c)
  second_found bytes told =
      let read = found others lawful_others state draws k grounds Second ys w joints
      (second_linked state lawful_disks others lawful_others draws k grounds xs ys w joints lawful are)
      n sound c there bytes told a in (
        read.0,
        read.1,
        one_lawful k (known_in k Second (joints n)) read.0
            (sound_known k grounds Second (joints n) sound) read.1,
        read.2,
      )

  pub second_onward : (P : Known → Type 0) (Also : Joint → Type 0)
      → ((j : Joint) → P (known_in k Second j) → Also j) → (after : E)
      → (later : Known) × Ran others draws k Second c after (known_in k Second (joints n)) later
      × P later
      → GoesOn state others draws xs ys k w joints n a after (λ now. Also (now (n + 1)))
  second_onward P Also turns after made =
      let on = second_counts state lawful_disks others lawful_others draws k grounds xs ys w joints
      lawful are n a c long here there made.0 after made.1 in
      record {
        next = on.next;
        are = on.are;
        with_it = turns (with_next joints n on.next (n + 1)) (subst P (sym on.with_it) made.2);
      }
