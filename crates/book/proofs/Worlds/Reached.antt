-- Each session of a fan reaches its peer.
use Rattle.std.proofs.Common.{Bool, List, Some, ap, arith, false, length, refl, subst, suc, sym, true, zero, ℕ, ◌<◌, ◌∙◌, ◌≡◌, ◌≤◌}
use Rattle.std.specs.Prelude.{if◌then◌else◌}
use Rattle.std.specs.Str.{bytes_eq}
use Rattle.book_model.proofs.Names.{keeping_other, keeping_same, same_is}
use Rattle.book_model.specs.Rows.{Row, Rows, keeping, under}
use Rattle.dr_model.specs.Machines.WorldActs.{act_in}
use Rattle.dr_model.specs.Machines.WorldSides.{kept_in}
use Rattle.dr_model.specs.Machines.Worlds.{World}
use Rattle.dr_model.specs.Theorems.Acting.{ActsFollow}
use Rattle.dr_model.specs.Theorems.LawfulWorlds.{IsLawfulWorld}
use Rattle.dr_model.specs.Theorems.Spoken.{IsSaidTo, SaidIsOpened}
use Rattle.kem_laws.specs.Mechanism.{Mechanism}
use Rattle.session_model.specs.Clients.{Client}
use Rattle.session_model.specs.Contents.{text_content}
use Rattle.session_model.specs.declared.answer.Answer.TheVariants.{Said}
use Rattle.book.specs.FanStepping.{fan_act, fan_name}
use Rattle.book.specs.FanWorlds.{NamedWorlds, ReachesAll, ReachesPeer, StandIn}
use Rattle.book.specs.Fans.{AllSay, Fan, fan_seed, fanned_rows, key_bytes, said_next}
use Rattle.book.proofs.Fanning.Machine.{AreOnly, kept_now, keeps}
use Rattle.book.proofs.Only.{differ}
use Rattle.book.proofs.Worlds.Drawn.{IsWhole}
use Rattle.book.proofs.Worlds.Led.{after, kept_first, led, name_is, named_after, says_there, still, there, untouched}
use Rattle.book.proofs.Worlds.SaidIn.{fair, said_in}

module _ (k : Mechanism) (follow : ActsFollow k) (opens : SaidIsOpened k) (fan : Fan) (all : AllSay k fan)
    (whole : (n : ℕ) → n < length fan.list → IsWhole (fan_seed fan n)) (onlys : AreOnly fan.rows) (worlds : NamedWorlds)
    (stands : StandIn k fan.rows worlds) where
  -- ---- what its sessions keep then

  stood : (m : ℕ) → m ≤ length fan.list → StandIn k (fanned_rows k fan m) (named_after k fan worlds m)
  stood zero le = stands
  stood (suc m) le =
      λ name kept is. by (stood m (omega (arith, le))) name kept is (bytes_eq (fan_name fan m) name) refl
    where
      lt : m < length fan.list
      lt = omega (arith, le)

      one : Row Client
      one = there k fan all onlys m lt

      next : Client
      next = said_next k fan.text one.kept (fan_seed fan m)

      kept_is : (name : List ℕ) (kept : Client) → under name (fanned_rows k fan (suc m)) ≡ Some kept
          → under name (keeping one.name next (fanned_rows k fan m)) ≡ Some kept
      kept_is name kept is = ap (λ (l : Rows Client). under name l) (keeps k fan all onlys m lt) ∙ is

      stepped : List ℕ → Bool → World
      stepped name b = if b then (act_in k (after k fan worlds m name) (worlds.side name) (fan_act fan m)).next
          else after k fan worlds m name

      Stands : World → List ℕ → Client → Type 0
      Stands v name kept = IsLawfulWorld k v × (kept ≡ kept_in k v (worlds.side name))

      by : StandIn k (fanned_rows k fan m) (named_after k fan worlds m) → (name : List ℕ) (kept : Client)
          → under name (fanned_rows k fan (suc m)) ≡ Some kept → (b : Bool) → bytes_eq (fan_name fan m) name ≡ b
          → Stands (after k fan worlds (suc m) name) name kept
      by rest name kept is true at =
          let v = after k fan worlds m name in
          let side = worlds.side name in
          let named : one.name ≡ name = sym (name_is k fan all onlys m lt) ∙ same_is (fan_name fan m) name at in
          let under_now : under name (fanned_rows k fan m) ≡ Some one.kept =
          subst (λ (l : List ℕ). under l (fanned_rows k fan m) ≡ Some one.kept) named
          (kept_now k fan all onlys m lt) in
          let here = rest name one.kept under_now in
          let said = said_in k follow fan.text v side one.kept (fan_seed fan m) here.0 here.1
          (says_there k fan all onlys m lt) (whole m lt) in
          let now_is : Some next ≡ Some kept =
          sym (keeping_same name next one.kept (fanned_rows k fan m) under_now)
          ∙ ap (λ (l : List ℕ). under name (keeping l next (fanned_rows k fan m))) (sym named)
          ∙ kept_is name kept is in
          let kept_then : next ≡ kept = cc in
          subst (λ c. Stands (stepped name c) name kept) (sym at) (
            follow.lawful v side (fan_act fan m) here.0
                (fair k follow fan.text v side one.kept (fan_seed fan m) here.0 here.1 (says_there k fan all onlys m lt)
                (whole m lt)),
            sym kept_then ∙ said.keeps_then,
          )
      by rest name kept is false at =
          subst (λ c. Stands (stepped name c) name kept) (sym at)
          (rest name kept
          (sym (keeping_other one.name name (ap (λ (l : List ℕ). bytes_eq l name)
          (sym (name_is k fan all onlys m lt)) ∙ at) next (fanned_rows k fan m))
          ∙ kept_is name kept is))

  -- ---- each reaches its peer

  reached : (n : ℕ) → n < length fan.list
      → ReachesPeer k fan (fanned_rows k fan (length fan.list)) n (worlds.side (fan_name fan n)) (worlds.world (fan_name fan n))
      (after k fan worlds (length fan.list) (fan_name fan n))
  reached n lt =
      let name = fan_name fan n in
      let w = worlds.world name in
      let side = worlds.side name in
      let one = there k fan all onlys n lt in
      let here = stands name one.kept (kept_first k fan all onlys n lt) in
      let said = said_in k follow fan.text w side one.kept (fan_seed fan n) here.0 here.1
      (says_there k fan all onlys n lt) (whole n lt) in
      let fairly = fair k follow fan.text w side one.kept (fan_seed fan n) here.0 here.1
      (says_there k fan all onlys n lt) (whole n lt) in
      let packet = opens w side (text_content fan.text) (key_bytes (fan_seed fan n)) said.position here.0 fairly said.answer in
      let leads = led k fan all onlys worlds (length fan.list) n lt (omega arith) in
      let stays = still k fan all onlys (length fan.list) n lt (omega arith) in
      record {
        fair = fairly;
        leads = leads;
        keeps = stays.1 ∙ ap (λ (c : Client). Some c) (stood (length fan.list) (omega arith) name stays.0 stays.1).1;
        post = packet.post;
        answer = said.answer ∙ ap Said (sym packet.position);
        is = subst (λ (v : World). IsSaidTo k w v side (text_content fan.text) packet.post) (sym leads) packet.is;
      }

  pub reaches_all : ReachesAll k fan (fanned_rows k fan (length fan.list)) worlds (named_after k fan worlds (length fan.list))
  reaches_all = record {
    reaches = reached;
    others = λ name outside. untouched k fan worlds (length fan.list) name
        (λ i lt. differ (fan_name fan i) name (outside i lt));
    sides = refl;
    stand = stood (length fan.list) (omega arith);
  }
