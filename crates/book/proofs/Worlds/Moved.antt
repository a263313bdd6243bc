-- Worlds in which a book's sessions stand, once a side of one of them has acted.
use Rattle.std.proofs.Common.{Bool, List, Some, ap, false, refl, subst, sym, true, ℕ, ◌∙◌, ◌≡◌}
use Rattle.std.specs.Prelude.{if◌then◌else◌}
use Rattle.std.specs.Str.{bytes_eq}
use Rattle.book_model.proofs.Names.{keeping_other, keeping_same, same_is}
use Rattle.book_model.specs.Rows.{Rows, keeping, under}
use Rattle.client.proofs.Ahead.{peer_twice}
use Rattle.dr_base.specs.Position.{peer_of}
use Rattle.dr_base.specs.declared.position.Side.{Side}
use Rattle.dr_model.specs.Machines.Acts.{Act, act_on}
use Rattle.dr_model.specs.Machines.Steps.{Step, settled}
use Rattle.dr_model.specs.Machines.WorldActs.{act_in}
use Rattle.dr_model.specs.Machines.WorldSides.{kept_in}
use Rattle.dr_model.specs.Machines.Worlds.{World}
use Rattle.dr_model.specs.Theorems.Acting.{ActsFollow, IsFairAct}
use Rattle.dr_model.specs.Theorems.LawfulWorlds.{IsLawfulWorld}
use Rattle.kem_laws.specs.Mechanism.{Mechanism}
use Rattle.session_model.specs.Clients.{Client}
use Rattle.book.specs.FanWorlds.{NamedWorlds, StandIn, with_acted}

module _ (k : Mechanism) (follow : ActsFollow k) (name : List ℕ) (act : Act) (kept : Client) (rows : Rows Client)
    (worlds : NamedWorlds) (stands : StandIn k rows worlds) (here : under name rows ≡ Some kept) where
  abbrev w : World
  w = worlds.world name

  abbrev side : Side
  side = worlds.side name

  lawful : IsLawfulWorld k w
  lawful = (stands name kept here).0

  keeps : kept ≡ kept_in k w side
  keeps = (stands name kept here).1

  -- what is said of a name, by whether it is this one
  abbrev Stands : World → List ℕ → Client → Bool → Type 0
  Stands led other one b = IsLawfulWorld k (if b then led else worlds.world other)
      × (one ≡ kept_in k (if b then led else worlds.world other) (worlds.side other))

  -- ---- its session acts

  module _ (fair : IsFairAct k w side act) where
    abbrev next : Client
    next = (settled kept (act_on k kept act)).next

    next_is : next ≡ kept_in k (act_in k w side act).next side
    next_is =
        ap (λ (c : Client). (settled c (act_on k c act)).next) keeps
        ∙ ap (λ (made : Step Client). made.next) (follow.follows w side act lawful fair)

    pub stands_acted : StandIn k (keeping name next rows) (with_acted k name side act worlds)
    stands_acted = λ other one is. by other one is (bytes_eq name other) refl
      where
        by : (other : List ℕ) (one : Client) → under other (keeping name next rows) ≡ Some one
            → (b : Bool) → bytes_eq name other ≡ b → Stands (act_in k w side act).next other one (bytes_eq name other)
        by other one is true at =
            let same = same_is name other at in
            let now : Some next ≡ Some one =
            sym (keeping_same name next kept rows here)
            ∙ ap (λ (l : List ℕ). under l (keeping name next rows)) same ∙ is in
            let now_is : next ≡ one = cc in
            subst (Stands (act_in k w side act).next other one) (sym at) (
              follow.lawful w side act lawful fair,
              sym now_is ∙ next_is ∙ ap (λ (l : List ℕ). kept_in k (act_in k w side act).next (worlds.side l)) same,
            )
        by other one is false at =
            subst (Stands (act_in k w side act).next other one) (sym at)
            (stands other one (sym (keeping_other name other at next rows) ∙ is))

  -- ---- its peer acts

  module _ (fair : IsFairAct k w (peer_of side) act) where
    still : kept ≡ kept_in k (act_in k w (peer_of side) act).next side
    still =
        keeps
        ∙ subst (λ (s : Side). kept_in k w s ≡ kept_in k (act_in k w (peer_of side) act).next s) (peer_twice side)
        (sym (follow.others w (peer_of side) act lawful fair))

    pub stands_moved : StandIn k rows (with_acted k name (peer_of side) act worlds)
    stands_moved = λ other one is. by other one is (bytes_eq name other) refl
      where
        by : (other : List ℕ) (one : Client) → under other rows ≡ Some one
            → (b : Bool) → bytes_eq name other ≡ b
            → Stands (act_in k w (peer_of side) act).next other one (bytes_eq name other)
        by other one is true at =
            let same = same_is name other at in
            let now : Some kept ≡ Some one = sym here ∙ ap (λ (l : List ℕ). under l rows) same ∙ is in
            let now_is : kept ≡ one = cc in
            subst (Stands (act_in k w (peer_of side) act).next other one) (sym at) (
              follow.lawful w (peer_of side) act lawful fair,
              sym now_is ∙ still
                  ∙ ap (λ (l : List ℕ). kept_in k (act_in k w (peer_of side) act).next (worlds.side l)) same,
            )
        by other one is false at =
            subst (Stands (act_in k w (peer_of side) act).next other one) (sym at) (stands other one is)
