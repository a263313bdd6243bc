-- What was taken stands once, as it was said.
use Rattle.std.proofs.Common.{Bool, List, Some, [], ap, arith, cond, count_by, false, inl, inr, map, refl, subst, suc, sym, true, ℕ, ⊎_elim, ◌||◌, ◌+◌, ◌∙◌, ◌∷◌, ◌≡◌}
use Rattle.std.specs.List.{list_any}
use Rattle.std.specs.Prelude.{Contains, slice_get}
use Rattle.std.proofs.lemmas.List.Sums.{sum_by-cons}
use Rattle.boxes.specs.Entries.{Entry, entry_with}
use Rattle.dr_base.proofs.Positions.{is_at-same}
use Rattle.dr_base.specs.Position.{is_at, peer_of}
use Rattle.dr_base.specs.declared.position.Position.{Position}
use Rattle.dr_base.specs.declared.position.Side.{Side}
use Rattle.dr_disk.specs.State.{DiskState}
use Rattle.dr_model.specs.Conversations.Conversation.{Conversation}
use Rattle.dr_model.specs.Conversations.Views.{entry_at, has_opened, history_of}
use Rattle.dr_model.specs.Machines.Worlds.{World, view_of}
use Rattle.dr_model.specs.Theorems.Headline.{Headline}
use Rattle.dr_model.specs.Theorems.LawfulWorlds.{IsLawfulWorld}
use Rattle.dr_ports.specs.States.{DrawsState}
use Rattle.kem_laws.specs.Mechanism.{Mechanism}
use Rattle.client.specs.Cells.{client_cell}
use Rattle.client.specs.InWorlds.{StandsFor}
use Rattle.client.specs.Moments.{AreLinked, IsAmongKnown}
use Rattle.client.proofs.Later.{lawful_at}
use Rattle.client.proofs.Standing.{first_later, stands}
use Rattle.session_commands.specs.WholeRuns.{says, takes}
use Rattle.conversation.specs.Answered.{HasAnswered}
use Rattle.conversation.specs.Kept.{HoldsTexts, StandsOnce}
use Rattle.conversation.specs.Joints.{Joint, known_in}
use Rattle.conversation.specs.Opened.{HoldsOpened, HoldsSynced}
use Rattle.conversation.proofs.Answering.{answered_in, opened_in, said_in}
use Rattle.conversation.proofs.Held.{later_known}
use Rattle.conversation.proofs.Lasting.{keeps}
use Rattle.dr_model.specs.Theorems.Spoken.{IsSpoken}
use Rattle.conversation.proofs.Onward.ReadLines.{line_opened}
use Rattle.session_model.specs.Contents.{Content}
use Rattle.session_model.specs.declared.answer.Answer.TheVariants.{Opened, Said}

count_map : {X Y : Type 0} (p : Y → Bool) (f : X → Y) (xs : List X)
    → count_by p (map f xs) ≡ count_by (λ x. p (f x)) xs
count_map p f [] = refl
count_map p f (x ∷ xs) =
    sum_by-cons (λ y. cond (p y) 1 0) (f x) (map f xs)
    ∙ ap (λ n. cond (p (f x)) 1 0 + n) (count_map p f xs)
    ∙ sym (sum_by-cons (λ y. cond (p (f y)) 1 0) x xs)

found_first : (c : Conversation) (p q : Position) (ps : List Position) (b : Bool) → is_at p q ≡ b
    → (list_any (is_at p) ps ≡ true → Contains (map (entry_at c) ps) (entry_at c p))
    → (b || list_any (is_at p) ps) ≡ true → Contains (map (entry_at c) (q ∷ ps)) (entry_at c p)
found_first c p q ps true is rest h = (0, omega arith, ap (entry_at c) (is_at-same p q is))
found_first c p q ps false is rest h =
    let found = rest h in
    (suc found.0, omega (arith, found.1), found.2)

found : (c : Conversation) (p : Position) (ps : List Position) → list_any (is_at p) ps ≡ true
    → Contains (map (entry_at c) ps) (entry_at c p)
found c p [] h = absurd (let e : false ≡ true = h in cc)
found c p (q ∷ ps) h =
    found_first c p q ps (is_at p q) refl (found c p ps) h

module _ {X Y W : Type 0} (state : X → DiskState) (others : Y → DiskState)
    (draws : W → DrawsState) (k : Mechanism) (laws : Headline k) (side : Side) (xs : List X)
    (ys : List Y) (w : World) (lawful : IsLawfulWorld k w) (joints : ℕ → Joint)
    (linked : AreLinked state xs k side w (λ n. known_in k side (joints n)))
    (lawful_known : (n : ℕ) (a : X) (v : World) → slice_get xs n ≡ Some a
    → IsAmongKnown (known_in k side (joints n)) v → IsLawfulWorld k v)
    (lawful_others : (n : ℕ) (c : Y) (v : World) → slice_get ys n ≡ Some c
    → IsAmongKnown (known_in k (peer_of side) (joints n)) v → IsLawfulWorld k v) where
  said_there : (n : ℕ) (content : Content) (source left : W) (p : Position)
      → HasAnswered others draws k (peer_of side) ys joints n (says content source left) (Said p)
      → IsLawfulWorld k (joints (n + 1)).world
      × IsSpoken (joints (n + 1)).world.conversation (peer_of side) content p
  said_there n content source left p has =
      let is = answered_in others draws k (peer_of side) has.before has.after
      (known_in k (peer_of side) (joints n)) (known_in k (peer_of side) (joints (n + 1))) has.ran
      (says content source left) (Said p) has.answered in (
        lawful_others (n + 1) has.after (joints (n + 1)).world has.next (inl refl),
        subst (λ (v : World). IsSpoken v.conversation (peer_of side) content p) is.leads
            (said_in k (peer_of side) is.world draws content source left _ is.act p is.asked
            (lawful_others n has.before is.world has.here is.which) is.fair is.answered),
      )

  opened_there : (n : ℕ) (packet : List ℕ) (p : Position)
      → HasAnswered state draws k side xs joints n (takes packet) (Opened p)
      → IsLawfulWorld k (joints (n + 1)).world
      × (has_opened (view_of (joints (n + 1)).world side) p ≡ true)
  opened_there n packet p has =
      let is = answered_in state draws k side has.before has.after
      (known_in k side (joints n)) (known_in k side (joints (n + 1))) has.ran
      (takes packet) (Opened p) has.answered in (
        lawful_known (n + 1) has.after (joints (n + 1)).world has.next (inl refl),
        subst (λ (v : World). has_opened (view_of v side) p ≡ true) is.leads
            (opened_in k side is.world packet is.act p is.asked is.answered),
      )

  -- what was opened by a moment, however it was taken
  pub holds_opened : HoldsOpened state others draws k side xs ys joints
  holds_opened said by at content source left p now before early is says_it has_it bytes image =
      let spoke = said_there said content source left p says_it in
      let sound = lawful_at k w (joints by).world lawful
      (first_later client_cell state xs k side w (λ n. known_in k side (joints n)) linked by at now
      early is) in
      let still = stands client_cell state xs k side w (λ n. known_in k side (joints n)) linked at now is in
      let once : (v : World) → IsAmongKnown (known_in k side (joints at)) v
      → StandsFor k v side bytes → StandsOnce k side (joints at) p content bytes = λ v which stood.
      let one = keeps k laws side (joints (said + 1)).world v spoke.0
      (later_known state k laws side xs w lawful joints linked (said + 1) at now v
      (omega (arith, before)) is which) in
      let two = keeps k laws side (joints by).world v sound
      (later_known state k laws side xs w lawful joints linked by at now v early is which) in
      let entry_is : entry_at v.conversation p ≡ entry_with p content.kind content.bytes =
      (one.said p spoke.1.said).1 ∙ spoke.1.entry_is in
      let has = two.opened p has_it in
      record {
        world = v;
        known = which;
        stands = stood;
        there = subst (Contains (history_of v.conversation (view_of v side))) entry_is
            (found v.conversation p (view_of v side).arrived has.0);
        once =
            count_map (λ (e : Entry). is_at p e.position) (entry_at v.conversation)
            (view_of v side).arrived ∙ has.1;
      } in
      ⊎_elim (λ stood. once (joints at).world (inl refl) stood)
      (λ found. once found.1 (inr (found.0, found.2, found.3)) found.4) (still.images bytes image)

  pub holds_texts : HoldsTexts state others draws k side xs ys joints
  holds_texts said took at content packet source left p now before earlier is says_it takes_it bytes
      image =
      holds_opened said (took + 1) at content source left p now before (omega (arith, earlier)) is
      says_it (opened_there took packet p takes_it).1 bytes image

  -- what a line of a sync says was opened
  pub holds_synced : HoldsSynced state others draws k side xs ys joints
  holds_synced said took at content source left p now before ending text early earlier is says_it
      synced reads bytes image =
      let spoke = said_there said content source left p says_it in
      let sound = lawful_at k w (joints (took + 1)).world lawful
      (first_later client_cell state xs k side w (λ n. known_in k side (joints n)) linked (took + 1) at
      now (omega (arith, earlier)) is) in
      holds_opened said (took + 1) at content source left p now early (omega (arith, earlier)) is
      says_it
      (line_opened k side synced.read (joints (took + 1)).world text sound synced.tells
      (joints (said + 1)).world.conversation p spoke.0.conversation spoke.1.said reads) bytes image
