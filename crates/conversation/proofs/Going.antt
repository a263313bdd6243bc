-- The conversation goes on with a command of either side's.
use Rattle.std.proofs.Common.{List, Some, [], inl, inr, length, sym, ℕ, ◌++◌, ◌+◌, ◌∙◌, ◌∷◌, ◌≡◌}
use Rattle.std.specs.Prelude.{slice_get, ⊤}
use Rattle.dr_base.specs.declared.position.Side.TheVariants.{First, Second}
use Rattle.dr_disk.specs.State.{DiskState, IsLawful}
use Rattle.dr_model.specs.Machines.Worlds.{World}
use Rattle.dr_model.specs.Theorems.LawfulWorlds.{IsLawfulWorld}
use Rattle.dr_ports.specs.States.{DrawsState}
use Rattle.endings.specs.declared.ending.Ending.{Ending}
use Rattle.endings.specs.declared.ending.Ending.TheVariants.{Done}
use Rattle.kem_laws.specs.Mechanism.{Mechanism}
use Rattle.client.specs.Grounds.{Grounds}
use Rattle.client.specs.Moments.{AreLinked, IsAmongKnown}
use Rattle.session_commands.specs.Acting.{RunsAct}
use Rattle.session_commands.specs.WholeRuns.{Command, IsCutFrom, asked_by}
use Rattle.session_commands.proofs.WholeRuns.{all_linked}
use Rattle.conversation.specs.Answered.{IsAcknowledged}
use Rattle.conversation.specs.Joints.{IsConversation, GoesOn, Joint, known_in}
use Rattle.conversation.proofs.Commands.{act_counts, crash_counts, is_acked}
use Rattle.conversation.proofs.Extending.{extended}
use Rattle.conversation.proofs.Joined.{all_sound, first_run, second_run}
use Rattle.conversation.proofs.Moved.{IsSound}

module _ {D E W : Type 0} (state : D → DiskState) (lawful_disks : (d : D) → IsLawful (state d))
    (others : E → DiskState) (lawful_others : (e : E) → IsLawful (others e))
    (draws : W → DrawsState) (k : Mechanism) (grounds : Grounds k) (xs : List D) (ys : List E)
    (w : World) (joints : ℕ → Joint) (lawful : IsLawfulWorld k w)
    (are : IsConversation state others draws xs ys k w joints) where
  pub first_linked : AreLinked state xs k First w (λ m. known_in k First (joints m))
  first_linked =
      all_linked state lawful_disks draws k First xs w (λ m. known_in k First (joints m))
      (first_run k grounds state others draws xs ys w joints lawful are) grounds lawful

  pub second_linked : AreLinked others ys k Second w (λ m. known_in k Second (joints m))
  second_linked =
      all_linked others lawful_others draws k Second ys w (λ m. known_in k Second (joints m))
      (second_run k grounds state others draws xs ys w joints lawful are) grounds lawful

  module _ (n : ℕ) (a : D) (c : E) (long : length xs ≡ n + 1) (here : slice_get xs n ≡ Some a)
      (there : slice_get ys n ≡ Some c) (bytes : List ℕ) (command : Command W) (ending : Ending)
      (lines : List ℕ) where
    sound : IsSound k (joints n)
    sound = all_sound k grounds state others draws xs ys w joints lawful are n a c here there

    -- ---- First's

    module _ (told : (state a).seen ≡ Some bytes) (after : D)
        (runs : RunsAct state k (asked_by draws k command) a after ending lines)
        (fair : (v : World) → IsAmongKnown (known_in k First (joints n)) v
        → (asked_by draws k command).fair v First) where
      pub first_goes : GoesOn state others draws xs ys k w joints n after c
          (λ now. ending ≡ Done
          → IsAcknowledged state draws k First (xs ++ after ∷ []) now n command lines)
      first_goes =
          let acts = act_counts state lawful_disks others draws k grounds First xs w joints
          first_linked n sound a here bytes told c command after ending lines runs fair in
          record {
            next = acts.0;
            are = extended state others draws xs ys k w joints are n long a after c c here there
                acts.0 (inl acts.1);
            with_it = is_acked state lawful_disks others draws k grounds First xs w joints
                first_linked n sound a here bytes told c command after ending lines runs fair long
                acts;
          }

      pub first_cut : (crashed : D) → IsCutFrom (state a) (state after) (state crashed)
          → GoesOn state others draws xs ys k w joints n crashed c (λ now. ⊤)
      first_cut crashed leaves =
          let cut = crash_counts state lawful_disks others draws k grounds First xs w joints
          first_linked n sound a here bytes told c command after ending lines runs fair crashed
          leaves in
          record {
            next = cut.0;
            are = extended state others draws xs ys k w joints are n long a crashed c c here there
                cut.0 (inl cut.1);
            with_it = tt;
          }

    -- ---- Second's

    module _ (told : (others c).seen ≡ Some bytes) (after : E)
        (runs : RunsAct others k (asked_by draws k command) c after ending lines)
        (fair : (v : World) → IsAmongKnown (known_in k Second (joints n)) v
        → (asked_by draws k command).fair v Second) where
      pub second_goes : GoesOn state others draws xs ys k w joints n a after
          (λ now. ending ≡ Done
          → IsAcknowledged others draws k Second (ys ++ after ∷ []) now n command lines)
      second_goes =
          let acts = act_counts others lawful_others state draws k grounds Second ys w joints
          second_linked n sound c there bytes told a command after ending lines runs fair in
          record {
            next = acts.0;
            are = extended state others draws xs ys k w joints are n long a a c after here there
                acts.0 (inr acts.1);
            with_it = is_acked others lawful_others state draws k grounds Second ys w joints
                second_linked n sound c there bytes told a command after ending lines runs fair
                (sym are.both ∙ long) acts;
          }

      pub second_cut : (crashed : E) → IsCutFrom (others c) (others after) (others crashed)
          → GoesOn state others draws xs ys k w joints n a crashed (λ now. ⊤)
      second_cut crashed leaves =
          let cut = crash_counts others lawful_others state draws k grounds Second ys w joints
          second_linked n sound c there bytes told a command after ending lines runs fair crashed
          leaves in
          record {
            next = cut.0;
            are = extended state others draws xs ys k w joints are n long a a c crashed here there
                cut.0 (inr cut.1);
            with_it = tt;
          }
