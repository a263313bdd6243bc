-- What a run in which both sides talk rests on: commands that were done, packets that nobody
-- forged, and what the other side does.
use Rattle.std.proofs.Common.{List, None, Ok, Some, [], ap, arith, inl, map, refl, subst, suc, sym, true, zero, ℕ, ⊎_elim, ◌∙◌, ◌∷◌, ◌≡◌}
use Rattle.std.specs.Prelude.{All, Any, Bool, Contains, filter, slice_get, slice_index_or}
use Rattle.std.proofs.lemmas.List.Elements.{All-drop, All-filter, All-map, All-nil, All-weaker}
use Rattle.boxes.specs.Posts.{Post}
use Rattle.dr_base.specs.Position.{is_own}
use Rattle.dr_base.specs.declared.position.Position.{Position}
use Rattle.dr_base.specs.declared.position.Side.{Side}
use Rattle.dr_base.specs.declared.position.Side.TheVariants.{First, Second}
use Rattle.dr_disk.specs.State.{Always, DiskState, IsLawful}
use Rattle.dr_model.specs.Conversations.Conversation.{is_said, positions}
use Rattle.dr_model.specs.Conversations.Posts.{post_at}
use Rattle.dr_model.specs.Machines.Acts.{Act}
use Rattle.dr_model.specs.Machines.WorldActs.{act_in}
use Rattle.dr_model.specs.Machines.WorldSides.{kept_in}
use Rattle.dr_model.specs.Machines.Worlds.{World, view_of}
use Rattle.dr_model.specs.Theorems.Acting.{IsFairAct}
use Rattle.dr_model.specs.Theorems.Fairness.{IsUnforged}
use Rattle.dr_model.specs.Theorems.LawfulWorlds.{IsLawfulWorld}
use Rattle.dr_model.proofs.Growth.Growing.{positions-said}
use Rattle.dr_model.proofs.Taking.PacketsApart.{real}
use Rattle.endings.specs.declared.ending.Ending.{Ending}
use Rattle.endings.specs.declared.ending.Ending.TheVariants.{Damaged, DiskFault, Done, DrawFault, NoMemory, NoSession, Refused}
use Rattle.kem_laws.specs.Mechanism.{Mechanism}
use Rattle.session_model.specs.Clients.{Client}
use Rattle.client.specs.Grounds.{Grounds}
use Rattle.client.specs.InWorlds.{StandsFor}
use Rattle.client.specs.Moments.{HaveMoved, IsActed, Known, settled_in}
use Rattle.client.specs.Opening.{ReadsAsSide}
use Rattle.client.specs.declared.refusals.OpenRefusal.{OpenRefusal}
use Rattle.client.specs.declared.refusals.OpenRefusal.TheVariants.{Damaged as OpenDamaged, Memory as OpenMemory, NoSession as OpenNoSession, StoreFault as OpenFault}
use Rattle.client.proofs.Later.{act_later}
use Rattle.client.proofs.Lifted.{ready_stands}
use Rattle.client.proofs.Standing.{among}
use Rattle.command_lines.specs.Acting.{ClientAsk}
use Rattle.session_commands.specs.Histories.{acted_known}
use Rattle.command_lines.specs.InWorlds.{goes_on, is_in_doubt, stays_refused, stays_undrawn, stays_unopened}
use Rattle.session_commands.specs.Acting.{RunsIn}
use Rattle.session_commands.specs.Opening.{ending_of_open}
use Rattle.session_commands.specs.Talks.{IsPostedOn}

-- ---- a list of moments, with a run from each to the next

module _ {X Y : Type 0} (Step : X → X → Y → Y → Type 0) where
  abbrev pub Chain : List X → List Y → Type 0
  Chain (x ∷ y ∷ xs) (a ∷ b ∷ ks) = Step x y a b × Chain (y ∷ xs) (b ∷ ks)
  Chain (x ∷ []) (a ∷ []) = Unit {0}
  Chain xs ks = ⊥

  pub chained : (xs : List X) (ks : List Y) (d : Y) → Chain xs ks → (n : ℕ) (x y : X)
      → slice_get xs n ≡ Some x
      → slice_get xs (suc n) ≡ Some y → Step x y (slice_index_or ks n d)
      (slice_index_or ks (suc n) d)
  chained [] ks d chain n x y here next = absurd (let e : None ≡ Some x = here in cc)
  chained (x' ∷ []) ks d chain n x y here next = absurd (let e : None ≡ Some y = next in cc)
  chained (x' ∷ y' ∷ xs) [] d chain n x y here next = absurd chain
  chained (x' ∷ y' ∷ xs) (a ∷ []) d chain n x y here next = absurd chain
  chained (x' ∷ y' ∷ xs) (a ∷ b ∷ ks) d chain zero x y here next =
      let one : x' ≡ x = let e : Some x' ≡ Some x = here in cc in
      let two : y' ≡ y = let e : Some y' ≡ Some y = next in cc in
      subst (λ v. Step v y a b) one (subst (λ v. Step x' v a b) two chain.0)
  chained (x' ∷ y' ∷ xs) (a ∷ b ∷ ks) d chain (suc n) x y here next =
      chained (y' ∷ xs) (b ∷ ks) d chain.1 n x y here next

-- ---- a command that was done

pub record IsDone (k : Mechanism) (w : World) (side : Side) (start now : DiskState)
    (after : Known → Known) : Type 0 where
  pub act : Act
  pub fair : IsFairAct k w side act
  pub lawful : IsLawfulWorld k (act_in k w side act).next
  pub stands : Always (StandsFor k (act_in k w side act).next side) now
  pub reads : ReadsAsSide k w side start → ReadsAsSide k (act_in k w side act).next side now
  pub settles : (known : Known) → after known ≡ settled_in (act_in k w side act).next

pub unopened_undone : (refusal : OpenRefusal) → ending_of_open refusal ≡ Done → ⊥
unopened_undone OpenMemory is = absurd (let e : NoMemory ≡ Done = is in cc)
unopened_undone (OpenFault call) is = absurd (let e : DiskFault ≡ Done = is in cc)
unopened_undone (OpenDamaged slot at) is = absurd (let e : Damaged slot at ≡ Done = is in cc)
unopened_undone OpenNoSession is = absurd (let e : NoSession ≡ Done = is in cc)

module _ (k : Mechanism) (grounds : Grounds k) where
  pub done_in : (w : World) (side : Side) (asked : ClientAsk) (start now : DiskState)
      (sound : IsLawful now) (ending : Ending) (lines : List ℕ)
      → IsLawfulWorld k w → (runs : RunsIn k w side asked start now ending lines) → ending ≡ Done
      → IsDone k w side start now (acted_known runs)
  done_in w side asked start now sound ending lines lawful (stays_unopened refusal on) is =
      absurd (unopened_undone refusal is)
  done_in w side asked start now sound ending lines lawful (stays_undrawn lacks on rests) is =
      absurd (let e : DrawFault ≡ Done = is in cc)
  done_in w side asked start now sound ending lines lawful
      (stays_refused act refusal asks fair answer on rests) is =
      absurd (let e : Refused refusal ≡ Done = is in cc)
  done_in w side asked start now sound ending lines lawful (is_in_doubt act asks fair on) is =
      absurd (let e : DiskFault ≡ Done = is in cc)
  done_in w side asked start now sound ending lines lawful (goes_on act asks fair on rests) is =
      let next = (act_in k w side act).next in
      let next_lawful = grounds.follow.lawful w side act lawful fair in
      let stands : Always (StandsFor k next side) now =
      ready_stands k grounds next side (kept_in k next side) rests.store now next_lawful refl
      rests.ready in
      record {
        act = act;
        fair = fair;
        lawful = next_lawful;
        stands = stands;
        reads = λ reads.
            let told = on.any_moment.told reads.bytes reads.told in
            record {
              bytes = told.0;
              told = told.1;
              stands =
                  stands told.0 (sound.seen_now told.0 told.1);
            };
        settles = λ known. refl;
      }

  -- ---- what the other side does

  stands_ahead : (side : Side) (w ahead : World) (c : List ℕ)
      → kept_in k ahead side ≡ kept_in k w side → StandsFor k w side c
      → StandsFor k ahead side c
  stands_ahead side w ahead c keeps stood = stood ∙ ap (λ (x : Client). Some (Ok x)) (sym keeps)

  pub reads_ahead : (side : Side) (w ahead : World) (disk : DiskState)
      → kept_in k ahead side ≡ kept_in k w side → ReadsAsSide k w side disk
      → ReadsAsSide k ahead side disk
  reads_ahead side w ahead disk keeps reads =
      record {
        bytes = reads.bytes;
        told = reads.told;
        stands =
            stands_ahead side w ahead reads.bytes keeps reads.stands;
      }

  -- what Second does moves First's world on, where none is in doubt
  pub peer_moved : (w : World) (act : Act) → IsLawfulWorld k w → IsFairAct k w Second act
      → HaveMoved k First (settled_in w) (settled_in (act_in k w Second act).next)
  peer_moved w act lawful fair =
      let next = (act_in k w Second act).next in
      record {
        last_later = act_later k Second w act fair;
        doubtful_acted = All-nil (IsActed k First next);
        stands = λ c known. ⊎_elim
            (λ stood. inl
            (stands_ahead First w next c (grounds.follow.others w Second act lawful fair) stood))
            (λ (none : Any (λ (v : World). StandsFor k v First c) []). absurd
            (omega (arith, none.2))) known;
      }

  -- ---- packets that nobody forged

  -- what is kept, as the disk that stands for a world tells it
  pub kept_there : (w : World) (side : Side) (disk : DiskState) (sound : IsLawful disk)
      (post : Post) → Always (StandsFor k w side) disk
      → (posted : IsPostedOn k disk post) → posted.kept ≡ kept_in k w side
  kept_there w side disk sound post rests posted =
      let e : Some (Ok posted.kept) ≡ Some (Ok (kept_in k w side)) =
      sym (posted.held posted.bytes posted.told) ∙ rests posted.bytes
      (sound.seen_now posted.bytes posted.told) in cc

  outbox_unforged : (w : World) (side taker : Side) → IsLawfulWorld k w
      → All (λ (i : Post). IsUnforged k w taker i.packet) (kept_in k w side).outbox
  outbox_unforged w side taker lawful =
      let c = w.conversation in
      let v = view_of w side in
      let own : Position → Bool = λ p. is_own v.side p.epoch in
      let IsHonest : Post → Type 0 = λ i. IsUnforged k w taker i.packet in
      All-drop IsHonest v.dropped (map (post_at k c) (filter own (positions c)))
      (All-map IsHonest (post_at k c) (filter own (positions c))
      (All-weaker (λ p. is_said c p ≡ true) (λ p. IsUnforged k w taker (post_at k c p).packet)
      (λ p. real k w taker p lawful) (filter own (positions c))
      (All-filter own (λ p. is_said c p ≡ true) (positions c) (positions-said c))))

  pub honest : (w : World) (side taker : Side) (disk : DiskState) (post : Post) → IsLawfulWorld k w
      → (posted : IsPostedOn k disk post)
      → posted.kept ≡ kept_in k w side → IsUnforged k w taker post.packet
  honest w side taker disk post lawful posted keeps =
      among (λ (i : Post). IsUnforged k w taker i.packet) (kept_in k w side).outbox post
      (outbox_unforged w side taker lawful)
      (subst (λ (c : Client). Contains c.outbox post) keeps posted.stands)
