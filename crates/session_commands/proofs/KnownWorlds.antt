-- The worlds that are known of a disk: they stay lawful, and after a crash in a command of First's
-- Second keeps the same in each.
use Rattle.std.proofs.Common.{List, [], refl, subst, sym, ℕ, ⊎_elim, ◌∷◌, ◌≡◌}
use Rattle.std.specs.Prelude.{All}
use Rattle.std.proofs.lemmas.List.Elements.{All-append, All-cons, All-nil, All-weaker}
use Rattle.dr_base.specs.declared.position.Side.{Side}
use Rattle.dr_base.specs.declared.position.Side.TheVariants.{First, Second}
use Rattle.dr_disk.specs.State.{DiskState}
use Rattle.dr_model.specs.Machines.Acts.{Act}
use Rattle.dr_model.specs.Machines.WorldActs.{act_in}
use Rattle.dr_model.specs.Machines.WorldSides.{kept_in}
use Rattle.dr_model.specs.Machines.Worlds.{World}
use Rattle.dr_model.specs.Theorems.Acting.{IsFairAct}
use Rattle.dr_model.specs.Theorems.LawfulWorlds.{IsLawfulWorld}
use Rattle.endings.specs.declared.ending.Ending.{Ending}
use Rattle.kem_laws.specs.Mechanism.{Mechanism}
use Rattle.sync_model.specs.Courses.{begun}
use Rattle.client.specs.Grounds.{Grounds}
use Rattle.client.specs.Moments.{IsActed, IsAmongKnown, Known, Link, reached_by, settled_in, was_acknowledged, was_cut, was_cut_in_sync, was_left, was_moved, was_opened, was_synced, with_doubts}
use Rattle.client.specs.Syncing.InWorlds.{course_in}
use Rattle.client.specs.Syncing.Parties.{world_party}
use Rattle.client.proofs.Later.{act_later, acted_later, back_acted, front_later, lawful_at}
use Rattle.client.proofs.Standing.{among}
use Rattle.command_lines.specs.Acting.{ClientAsk}
use Rattle.session_commands.specs.Histories.{cut_known}
use Rattle.command_lines.specs.InWorlds.{goes_on, is_in_doubt, stays_refused, stays_undrawn, stays_unopened}
use Rattle.session_commands.specs.Acting.{RunsIn}

-- ---- lawful worlds

pub record AreLawful (k : Mechanism) (known : Known) : Type 0 where
  pub last : IsLawfulWorld k known.last
  pub doubtful : All (IsLawfulWorld k) known.doubtful

pub one_has : (P : World → Type 0) (known : Known) (w : World) → P known.last → All P known.doubtful
    → IsAmongKnown known w → P w
one_has P known w last doubtful which = ⊎_elim (λ e. subst P (sym e) last)
    (λ at. among P known.doubtful w doubtful at) which

module _ (k : Mechanism) where
  pub one_lawful : (known : Known) (w : World) → AreLawful k known → IsAmongKnown known w
      → IsLawfulWorld k w
  one_lawful known w are = one_has (IsLawfulWorld k) known w are.last are.doubtful

  acted_lawful : (side : Side) (w : World) (worlds : List World) → IsLawfulWorld k w
      → All (IsActed k side w) worlds
      → All (IsLawfulWorld k) worlds
  acted_lawful side w worlds lawful acts =
      All-weaker (IsActed k side w) (IsLawfulWorld k)
      (λ v is. lawful_at k w v lawful (acted_later k side w v is)) worlds acts

  pub link_lawful : (side : Side) (a b : DiskState) (before after : Known)
      → Link k side a b before after → AreLawful k before → AreLawful k after
  link_lawful side a b before after (was_opened known w which rests) are =
      record { last = one_lawful known w are which; doubtful = All-nil (IsLawfulWorld k) }
  link_lawful side a b before after (was_acknowledged known w which act fair rests) are = record {
    last = lawful_at k w (act_in k w side act).next (one_lawful known w are which)
        (act_later k side w act fair);
    doubtful = All-nil (IsLawfulWorld k);
  }
  link_lawful side a b before after (was_cut known w which act fair left_by) are =
      let next = (act_in k w side act).next in
      record {
        last = are.last;
        doubtful = All-append (IsLawfulWorld k) known.doubtful (next ∷ []) are.doubtful
            (All-cons (IsLawfulWorld k) next []
            (lawful_at k w next (one_lawful known w are which) (act_later k side w act fair))
            (All-nil (IsLawfulWorld k)));
      }
  link_lawful side a b before after (was_synced known w which prefix front back fair images) are =
      let there = course_in k prefix side w front in
      let lawful = lawful_at k w there.state (one_lawful known w are which)
      (front_later k prefix side w front back fair) in
      record {
        last = lawful;
        doubtful =
            acted_lawful side there.state (reached_by (world_party k prefix side w) there back)
            lawful (back_acted k prefix side w front back fair);
      }
  link_lawful side a b before after (was_cut_in_sync known w which prefix replies fair left_by)
      are =
      let worlds = reached_by (world_party k prefix side w) (begun (world_party k prefix side w) w)
      replies in
      record {
        last = are.last;
        doubtful = All-append (IsLawfulWorld k) known.doubtful worlds are.doubtful
            (acted_lawful side w worlds (one_lawful known w are which)
            (back_acted k prefix side w [] replies fair));
      }
  link_lawful side a b before after (was_left known left_by) are = are
  link_lawful side a b before after (was_moved known moved have left_by) are =
      let lawful = lawful_at k known.last moved.last are.last have.last_later in
      record {
        last = lawful;
        doubtful = acted_lawful side moved.last moved.doubtful lawful
            have.doubtful_acted;
      }

-- ---- what Second keeps

module _ (k : Mechanism) (grounds : Grounds k) where
  -- First's acts leave it
  abbrev KeepsSecond : World → World → Type 0
  KeepsSecond w v = kept_in k v Second ≡ kept_in k w Second

  stays_kept : (w v : World) → IsAmongKnown (settled_in w) v → KeepsSecond w v
  stays_kept w v = one_has (KeepsSecond w) (settled_in w) v refl (All-nil (KeepsSecond w))

  doubt_kept : (w : World) (act : Act) → IsLawfulWorld k w → IsFairAct k w First act → (v : World)
      → IsAmongKnown (with_doubts (settled_in w) ((act_in k w First act).next ∷ [])) v → KeepsSecond w v
  doubt_kept w act lawful fair v =
      let next = (act_in k w First act).next in
      one_has (KeepsSecond w) (with_doubts (settled_in w) (next ∷ [])) v refl
      (All-cons (KeepsSecond w) next [] (grounds.follow.others w First act lawful fair)
      (All-nil (KeepsSecond w)))

  pub cut_keeps : (w : World) (asked : ClientAsk) (start now : DiskState) (ending : Ending)
      (lines : List ℕ) → IsLawfulWorld k w
      → (runs : RunsIn k w First asked start now ending lines) (v : World)
      → IsAmongKnown (cut_known runs (settled_in w)) v
      → KeepsSecond w v
  cut_keeps w asked start now ending lines lawful (stays_unopened refusal on) v = stays_kept w v
  cut_keeps w asked start now ending lines lawful (stays_undrawn lacks on rests) v = stays_kept w v
  cut_keeps w asked start now ending lines lawful
      (stays_refused act refusal asks fair answer on rests) v = stays_kept w v
  cut_keeps w asked start now ending lines lawful (goes_on act asks fair on rests) v =
      doubt_kept w act lawful fair v
  cut_keeps w asked start now ending lines lawful (is_in_doubt act asks fair on) v =
      doubt_kept w act lawful fair v
