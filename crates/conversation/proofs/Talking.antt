-- The smallest conversation in which a text goes over is one.
use Rattle.std.proofs.Common.{List, Ok, Some, [], arith, refl, subst, sym, ℕ, ⊎_elim, ◌∙◌, ◌∷◌, ◌≡◌}
use Rattle.std.specs.Prelude.{Any, Contains, map, slice_get, ⊤}
use Rattle.boxes.specs.Posts.{Post}
use Rattle.dr_base.specs.declared.position.Side.{Side}
use Rattle.dr_base.specs.declared.position.Side.TheVariants.{First, Second}
use Rattle.dr_disk.specs.State.{DiskState, IsLawful}
use Rattle.dr_model.specs.Machines.WorldSides.{kept_in}
use Rattle.dr_model.specs.Machines.Worlds.{World}
use Rattle.dr_model.specs.Theorems.Headline.{Headline}
use Rattle.dr_model.specs.Theorems.LawfulWorlds.{IsLawfulWorld}
use Rattle.dr_ports.specs.States.{DrawsState}
use Rattle.endings.specs.declared.ending.Ending.TheVariants.{Done}
use Rattle.kem_laws.specs.Mechanism.{Mechanism}
use Rattle.session_model.specs.Clients.{Client}
use Rattle.client.specs.Cells.{client_cell}
use Rattle.client.specs.Grounds.{Grounds}
use Rattle.client.specs.InWorlds.{StandsFor}
use Rattle.client.specs.Moments.{AreLinked, acts_in}
use Rattle.client.proofs.Standing.{stands}
use Rattle.session_commands.specs.Talks.{IsPostedOn}
use Rattle.session_model.specs.Contents.{text_content}
use Rattle.session_commands.specs.WholeRuns.{LeavesAlone, Ran, says, takes}
use Rattle.conversation.specs.Answered.{IsAcknowledged, WasAnswered}
use Rattle.conversation.specs.Talk.{HasWholeTalked, IsWholeTalk}
use Rattle.conversation.specs.Joints.{IsConversation, GoesOn, Joint, cut_off, known_in, joint_of, with_next}
use Rattle.conversation.proofs.Begun.{both_begun, only_one}
use Rattle.conversation.proofs.Going.{first_goes, first_linked, second_cut, second_goes, second_linked}
use Rattle.conversation.proofs.Honest.{honest_later}

-- a disk that was left alone since the first moment
left_since : {D E W : Type 0} (state : D → DiskState) (others : E → DiskState) (draws : W → DrawsState)
    (k : Mechanism) (a : D) (c e : E) (w : World) (joints : ℕ → Joint)
    → IsConversation state others draws (a ∷ []) (c ∷ []) k w joints → LeavesAlone (others c) (others e)
    → IsConversation state others draws (a ∷ []) (e ∷ []) k w joints
left_since state others draws k a c e w joints are alone = record {
  begins = are.begins;
  both = refl;
  first_stands = are.first_stands;
  second_stands = λ x is.
      let at : e ≡ x = let i : Some e ≡ Some x = is in cc in
      subst (λ y. (image : List ℕ) → (others y).image image → StandsFor k w Second image) at
      (λ image left. are.second_stands c refl image (alone image left));
  ran = λ n x y p q here next there after. absurd (only_one a x y n here next);
}

-- what a read gives, where nothing is in doubt
module _ {X : Type 0} (state : X → DiskState) (lawful_disks : (x : X) → IsLawful (state x)) (k : Mechanism) (side : Side)
    (xs : List X) (w : World) (joints : ℕ → Joint)
    (linked : AreLinked state xs k side w (λ n. known_in k side (joints n))) where
  settled_posts : (n : ℕ) (b : X) (post : Post) → slice_get xs n ≡ Some b
      → cut_off (joints n) side ≡ [] → IsPostedOn k (state b) post
      → Contains (kept_in k (joints n).world side).outbox post
  settled_posts n b post is none posted =
      let still = stands client_cell state xs k side w (λ m. known_in k side (joints m)) linked n b is in
      let stood : StandsFor k (joints n).world side posted.bytes =
      ⊎_elim (λ here. here)
      (λ at. absurd (no_doubt (subst (λ lists. Any (λ v. StandsFor k v side posted.bytes)
      (map (acts_in k side (joints n).world) lists)) none at)))
      (still.images posted.bytes ((lawful_disks b).seen_now posted.bytes posted.told)) in
      let same : posted.kept ≡ kept_in k (joints n).world side =
      let e : Some (Ok posted.kept) ≡ Some (Ok (kept_in k (joints n).world side)) =
      sym (posted.held posted.bytes posted.told) ∙ stood in cc in
      subst (λ (c : Client). Contains c.outbox post) same posted.stands
    where
      no_doubt : Any (λ v. StandsFor k v side posted.bytes) [] → ⊥
      no_doubt at = absurd (omega (arith, at.2))

module _ {D E W : Type 0} (state : D → DiskState) (lawful_disks : (d : D) → IsLawful (state d))
    (others : E → DiskState) (lawful_others : (e : E) → IsLawful (others e))
    (draws : W → DrawsState) (k : Mechanism) (grounds : Grounds k) (laws : Headline k) (a b : D) (c d e f : E)
    (text : List ℕ) (source left : W) (post : Post) (said taken : List ℕ)
    (talk : IsWholeTalk state others draws k a b c d e f text source left post said taken) where
  started : (w : World) × IsLawfulWorld k w
      × IsConversation state others draws (a ∷ []) (talk.begun ∷ []) k w (λ n. joint_of w)
  started =
      both_begun state others draws k grounds talk.key talk.other talk.one talk.two talk.start a
      talk.starts talk.begun talk.shown talk.shows talk.same talk.first talk.second

  abbrev w : World
  w = started.0

  are0 : IsConversation state others draws (a ∷ []) (c ∷ []) k w (λ n. joint_of w)
  are0 = left_since state others draws k a talk.begun c w (λ n. joint_of w) started.2 talk.rests

  one : GoesOn state others draws (a ∷ []) (c ∷ []) k w (λ n. joint_of w) 0 b c
      (λ now. Done ≡ Done → IsAcknowledged state draws k First (a ∷ b ∷ []) now 0 (says (text_content text) source left) said)
  one =
      first_goes state lawful_disks others lawful_others draws k grounds (a ∷ []) (c ∷ []) w
      (λ n. joint_of w) started.1 are0 0 a c refl refl refl talk.first_bytes (says (text_content text) source left)
      Done said talk.first_told b talk.says_it (λ v which. tt)

  abbrev joints1 : ℕ → Joint
  joints1 = with_next (λ n. joint_of w) 0 one.next

  was_said : IsAcknowledged state draws k First (a ∷ b ∷ []) joints1 0 (says (text_content text) source left) said
  was_said = one.with_it refl

  posts : Contains (kept_in k (joints1 1).world First).outbox post
  posts =
      settled_posts state lawful_disks k First (a ∷ b ∷ []) w joints1
      (first_linked state lawful_disks others lawful_others draws k grounds (a ∷ b ∷ []) (c ∷ c ∷ []) w joints1 started.1 one.are)
      1 b post refl was_said.settled talk.posted

  two : GoesOn state others draws (a ∷ b ∷ []) (c ∷ c ∷ []) k w joints1 1 b e (λ now. ⊤)
  two =
      second_cut state lawful_disks others lawful_others draws k grounds (a ∷ b ∷ []) (c ∷ c ∷ []) w
      joints1 started.1 one.are 1 b c refl refl refl talk.second_bytes (takes post.packet) talk.ending
      talk.lines talk.second_told d talk.takes_it
      (λ v which. honest_later others k laws Second (c ∷ c ∷ []) w started.1 joints1
      (second_linked state lawful_disks others lawful_others draws k grounds (a ∷ b ∷ []) (c ∷ c ∷ [])
      w joints1 started.1 one.are)
      1 1 c First post v (omega arith) refl posts which) e talk.crashes

  abbrev joints2 : ℕ → Joint
  joints2 = with_next joints1 1 two.next

  three : GoesOn state others draws (a ∷ b ∷ b ∷ []) (c ∷ c ∷ e ∷ []) k w joints2 2 b f
      (λ now. Done ≡ Done → IsAcknowledged others draws k Second (c ∷ c ∷ e ∷ f ∷ []) now 2 (takes post.packet) taken)
  three =
      second_goes state lawful_disks others lawful_others draws k grounds (a ∷ b ∷ b ∷ []) (c ∷ c ∷ e ∷ []) w
      joints2 started.1 two.are 2 b e refl refl refl talk.last_bytes (takes post.packet) Done
      taken talk.last_told f talk.takes_again
      (λ v which. honest_later others k laws Second (c ∷ c ∷ e ∷ []) w started.1 joints2
      (second_linked state lawful_disks others lawful_others draws k grounds (a ∷ b ∷ b ∷ []) (c ∷ c ∷ e ∷ []) w joints2 started.1 two.are)
      1 2 e First post v (omega arith) refl posts which)

  abbrev joints3 : ℕ → Joint
  joints3 = with_next joints2 2 three.next

  -- what was acknowledged first is so in the whole conversation
  still_said : IsAcknowledged state draws k First (a ∷ b ∷ b ∷ b ∷ []) joints3 0 (says (text_content text) source left) said
  still_said = record {
    answer = was_said.answer;
    printed = was_said.printed;
    has = record {
      before = a;
      after = b;
      here = refl;
      next = refl;
      ran = said_ran.0;
      answered = said_ran.1;
    };
    settled = was_said.settled;
  }
    where
      Both : D → D → Type 0
      Both p q = (ran : Ran state draws k First p q (known_in k First (joints1 0)) (known_in k First (joints1 1)))
          × WasAnswered ran (says (text_content text) source left) was_said.answer

      said_ran : Both a b
      said_ran =
          let p_is : was_said.has.before ≡ a = let i : Some a ≡ Some was_said.has.before = was_said.has.here in cc in
          let q_is : was_said.has.after ≡ b = let i : Some b ≡ Some was_said.has.after = was_said.has.next in cc in
          subst (λ q. Both a q) q_is (subst (λ p. Both p was_said.has.after) p_is (was_said.has.ran, was_said.has.answered))

  pub whole_talked : HasWholeTalked state others draws k a b c e f text source left post.packet said taken
  whole_talked = record {
    world = w;
    joints = joints3;
    lawful = started.1;
    are = three.are;
    was_said = still_said;
    was_taken = three.with_it refl;
  }
