-- Runs of both sides are a run of each: what one does moves the other's world on, whatever was cut
-- off there.
use Rattle.std.proofs.Common.{List, None, Some, [], ap, arith, inl, inr, length, refl, subst, suc, sym, zero, ℕ, ⊎_elim, ◌+◌, ◌∙◌, ◌∷◌, ◌≡◌}
use Rattle.std.specs.Prelude.{All, slice_get}
use Rattle.std.proofs.lemmas.List.Elements.{All-nil}
use Rattle.dr_base.specs.Position.{peer_of}
use Rattle.dr_base.specs.declared.position.Side.{Side}
use Rattle.dr_base.specs.declared.position.Side.TheVariants.{First, Second}
use Rattle.dr_disk.specs.State.{DiskState}
use Rattle.dr_model.specs.Machines.Worlds.{World}
use Rattle.dr_model.specs.Theorems.LawfulWorlds.{IsLawfulWorld}
use Rattle.dr_ports.specs.States.{DrawsState}
use Rattle.kem_laws.specs.Mechanism.{Mechanism}
use Rattle.client.specs.Grounds.{Grounds}
use Rattle.client.specs.Moments.{AreFairActs, IsActed}
use Rattle.client.proofs.Ahead.{peer_twice}
use Rattle.client.proofs.Later.{acted_later, lawful_at}
use Rattle.client.proofs.Standing.{get_before}
use Rattle.session_commands.specs.WholeRuns.{AreRun, PeerWentOn}
use Rattle.conversation.specs.Joints.{HasRun, IsConversation, Joint, cut_off, joint_of, known_in}
use Rattle.conversation.proofs.Moved.{IsSound, leads_all, others_fair, others_moved}
use Rattle.conversation.proofs.Own.{ran_acts}

-- as many moments of the one as of the other
pub same_place : {X Y : Type 0} (xs : List X) (ys : List Y) (n : ℕ) (x : X)
    → length xs ≡ length ys → slice_get xs n ≡ Some x → (y : Y) × (slice_get ys n ≡ Some y)
same_place [] ys n x same is = absurd (let e : None ≡ Some x = is in cc)
same_place (x' ∷ xs) [] n x same is = absurd (omega (arith, same))
same_place (x' ∷ xs) (y ∷ ys) zero x same is = (y, refl)
same_place (x' ∷ xs) (y ∷ ys) (suc n) x same is = same_place xs ys n x (omega (arith, same)) is

module _ (k : Mechanism) (grounds : Grounds k) where
  -- ---- a step

  -- by the side or by its peer
  by_side : (P : Side → Type 0) (mover side : Side) → P mover → P (peer_of mover) → P side
  by_side P First First own other = own
  by_side P First Second own other = other
  by_side P Second First own other = other
  by_side P Second Second own other = own

  module _ {X Y W : Type 0} (state : X → DiskState) (others : Y → DiskState)
      (draws : W → DrawsState) (mover : Side) (a b : X) (c d : Y) (j next : Joint)
      (sound : IsSound k j) (has : HasRun state others draws k mover a b c d j next) where
    pub mover_acts : IsActed k mover j.world next.world
    mover_acts =
        ran_acts state draws k mover a b (known_in k mover j) (known_in k mover next) has.ran
        (leads_all k grounds mover j.world (cut_off j mover) (sound.fair mover))

  module _ {X Y W : Type 0} (state : X → DiskState) (others : Y → DiskState)
      (draws : W → DrawsState) (mover : Side) (a b : X) (c d : Y) (j next : Joint)
      (sound : IsSound k j) (has : HasRun state others draws k mover a b c d j next) where
    abbrev leads : IsActed k (peer_of (peer_of mover)) j.world next.world
    leads =
        subst (λ s. IsActed k s j.world next.world) (sym (peer_twice mover))
        (mover_acts state others draws mover a b c d j next sound has)

    pub stays_sound : IsSound k next
    stays_sound = record {
      lawful = lawful_at k j.world next.world sound.lawful
          (acted_later k (peer_of (peer_of mover)) j.world next.world leads);
      fair = λ side. by_side (λ s. All (AreFairActs k s next.world) (cut_off next s)) mover side
          has.fair (others_fair k grounds (peer_of mover) j next sound leads has.same);
    }

    pub peer_went : PeerWentOn others k (peer_of mover) c d (known_in k (peer_of mover) j)
        (known_in k (peer_of mover) next)
    peer_went = record {
      moves = others_moved k grounds (peer_of mover) j next sound leads has.same;
      alone = has.alone;
    }

  -- ---- all steps

  module _ {D E W : Type 0} (state : D → DiskState) (others : E → DiskState)
      (draws : W → DrawsState) (xs : List D) (ys : List E) (w : World) (joints : ℕ → Joint)
      (lawful : IsLawfulWorld k w) (are : IsConversation state others draws xs ys k w joints) where
    begins_sound : IsSound k (joints 0)
    begins_sound =
        subst (IsSound k) (sym are.begins)
        (record { lawful = lawful; fair = nothing_cut })
      where
        nothing_cut : (side : Side) → All (AreFairActs k side w) (cut_off (joint_of w) side)
        nothing_cut First = All-nil (AreFairActs k First w)
        nothing_cut Second = All-nil (AreFairActs k Second w)

    pub all_sound : (n : ℕ) (a : D) (c : E) → slice_get xs n ≡ Some a → slice_get ys n ≡ Some c
        → IsSound k (joints n)
    all_sound zero a c here there = begins_sound
    all_sound (suc n) b d here there =
        let one : n + 1 ≡ suc n = omega arith in
        let first = get_before xs n b here in
        let second = get_before ys n d there in
        let before = all_sound n first.0 second.0 first.1 second.1 in
        subst (λ m. IsSound k (joints m)) one
        (⊎_elim
        (λ has. stays_sound state others draws First first.0 b second.0 d (joints n) (joints (n + 1))
        before has)
        (λ has. stays_sound others state draws Second second.0 d first.0 b (joints n)
        (joints (n + 1)) before has)
        (are.ran n first.0 b second.0 d first.1 (ap (slice_get xs) one ∙ here) second.1
        (ap (slice_get ys) one ∙ there)))

    pub first_run : AreRun state draws xs k First w (λ n. known_in k First (joints n))
    first_run = record {
      begins = ap (known_in k First) are.begins;
      stands = are.first_stands;
      ran = λ n a b here next.
          let c = same_place xs ys n a are.both here in
          let d = same_place xs ys (n + 1) b are.both next in
          let before = all_sound n a c.0 here c.1 in
          ⊎_elim (λ has. inl has.ran)
          (λ has. inr (peer_went others state draws Second c.0 d.0 a b (joints n) (joints (n + 1))
          before has))
          (are.ran n a b c.0 d.0 here next c.1 d.1);
    }

    pub second_run : AreRun others draws ys k Second w (λ n. known_in k Second (joints n))
    second_run = record {
      begins = ap (known_in k Second) are.begins;
      stands = are.second_stands;
      ran = λ n c d here next.
          let a = same_place ys xs n c (sym are.both) here in
          let b = same_place ys xs (n + 1) d (sym are.both) next in
          let before = all_sound n a.0 c a.1 here in
          ⊎_elim
          (λ has. inr (peer_went state others draws First a.0 b.0 c d (joints n) (joints (n + 1))
          before has))
          (λ has. inl has.ran)
          (are.ran n a.0 b.0 c d a.1 b.1 here next);
    }
