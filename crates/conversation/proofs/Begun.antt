-- Where both sides have begun with one key, the conversation begins.
use Rattle.std.proofs.Common.{List, None, Some, [], refl, subst, suc, zero, ℕ, ◌+◌, ◌∷◌, ◌≡◌}
use Rattle.std.specs.Prelude.{slice_get}
use Rattle.bodies.specs.declared.format.Format.{Format}
use Rattle.dr_base.specs.declared.key.Key32.{Key32}
use Rattle.dr_base.specs.declared.position.Side.TheVariants.{First, Second}
use Rattle.dr_disk.specs.State.{Always, DiskState}
use Rattle.dr_model.specs.Conversations.Formats.{formats_of}
use Rattle.dr_model.specs.Machines.WorldSides.{kept_in}
use Rattle.dr_model.specs.Machines.Worlds.{World, opening_world}
use Rattle.dr_model.specs.Theorems.LawfulWorlds.{IsLawfulWorld}
use Rattle.dr_ports.specs.States.{DrawsState}
use Rattle.endings.specs.declared.ending.Ending.{Ending}
use Rattle.endings.specs.declared.ending.Ending.TheVariants.{Damaged, DiskFault, Done, Exists, NoMemory, Refused}
use Rattle.kem_laws.specs.Mechanism.{Mechanism}
use Rattle.client.specs.Beginning.{begin_of}
use Rattle.client.specs.Grounds.{Grounds}
use Rattle.client.specs.InWorlds.{StandsFor}
use Rattle.client.specs.declared.begin.Begin.{Begin}
use Rattle.client.specs.declared.refusals.BeginRefusal.{BeginRefusal}
use Rattle.client.specs.declared.refusals.BeginRefusal.TheVariants.{Damaged as BeginDamaged, Exists as BeginExists, Memory as BeginMemory, NoPair as BeginNoPair, StoreFault as BeginFault}
use Rattle.session_model.specs.declared.answer.Refusal.TheVariants.{NoPair}
use Rattle.client.proofs.Lifted.{ready_stands}
use Rattle.session_commands.specs.Beginning.{Began, RestsIn, was_begun, wasnt_begun}
use Rattle.session_commands.specs.Opening.{ending_of_begin}
use Rattle.conversation.specs.Joints.{IsConversation, joint_of}

pub undone : (refusal : BeginRefusal) → ending_of_begin refusal ≡ Done → ⊥
undone BeginMemory is = absurd (let e : NoMemory ≡ Done = is in cc)
undone (BeginFault call) is = absurd (let e : DiskFault ≡ Done = is in cc)
undone (BeginDamaged slot at) is = absurd (let e : Damaged slot at ≡ Done = is in cc)
undone BeginExists is = absurd (let e : Exists ≡ Done = is in cc)
undone BeginNoPair is = absurd (let e : Refused NoPair ≡ Done = is in cc)

begun_rests : {X : Type 0} (state : X → DiskState) (k : Mechanism) (begin : Begin) (start now : X)
    (ending : Ending) (lines : List ℕ) → Began state k begin start now ending lines → ending ≡ Done
    → (other : Format)
    → RestsIn k (opening_world begin.key.bytes (formats_of begin.side begin.format other)) begin.side
    (state now)
begun_rests state k begin start now ending lines (wasnt_begun refusal why) is = absurd (undone refusal is)
begun_rests state k begin start now ending lines (was_begun none pair rests quiet) is = rests

-- one moment
pub only_one : {X : Type 0} (x y z : X) (n : ℕ) → slice_get (x ∷ []) n ≡ Some y
    → slice_get (x ∷ []) (n + 1) ≡ Some z → ⊥
only_one x y z zero here next = absurd (let e : None ≡ Some z = next in cc)
only_one x y z (suc n) here next = absurd (let e : None ≡ Some y = here in cc)

module _ {D E W : Type 0} (state : D → DiskState) (others : E → DiskState) (draws : W → DrawsState)
    (k : Mechanism) (grounds : Grounds k) (key other : Key32) (one two : Format) (start now : D)
    (begins began : E) (shown lines : List ℕ) (same : other.bytes ≡ key.bytes)
    (first : Began state k (begin_of First one key) start now Done shown)
    (second : Began others k (begin_of Second two other) begins began Done lines) where
  abbrev world : World
  world = opening_world key.bytes (formats_of First one two)

  first_rests : RestsIn k world First (state now)
  first_rests = begun_rests state k (begin_of First one key) start now Done shown first refl two

  second_rests : RestsIn k world Second (others began)
  second_rests =
      subst (λ (bytes : List ℕ). RestsIn k (opening_world bytes (formats_of First one two)) Second (others began)) same
      (begun_rests others k (begin_of Second two other) begins began Done lines second refl one)

  pub both_begun : (w : World) × IsLawfulWorld k w
      × IsConversation state others draws (now ∷ []) (began ∷ []) k w (λ n. joint_of w)
  both_begun = (
    world,
    first_rests.lawful,
    record {
      begins = refl;
      both = refl;
      first_stands = λ a is.
          let at : now ≡ a = let e : Some now ≡ Some a = is in cc in
          subst (λ x. Always (StandsFor k world First) (state x)) at
          (ready_stands k grounds world First (kept_in k world First) first_rests.rests.store
          (state now) first_rests.lawful refl first_rests.rests.ready);
      second_stands = λ c is.
          let at : began ≡ c = let e : Some began ≡ Some c = is in cc in
          subst (λ x. Always (StandsFor k world Second) (others x)) at
          (ready_stands k grounds world Second (kept_in k world Second) second_rests.rests.store
          (others began) second_rests.lawful refl second_rests.rests.ready);
      ran = λ n a b c d here next there then. absurd (only_one now a b n here next);
    },
  )
