-- What a hub's sessions begin as: no refusal but for a key without a pair, or want of memory.
use Rattle.std.proofs.Common.{Err, List, None, Ok, Option, Result, Some, [], ap, arith, false, refl, subst, suc, sym, true, zero, ℕ, ◌+◌, ◌∙◌, ◌∷◌, ◌≡◌, ◌≤◌}
use Rattle.std.specs.Prelude.{IsSome}
use Rattle.bodies.specs.declared.format.Format.TheVariants.{Plain}
use Rattle.dr_base.specs.declared.key.Key32.{Key32}
use Rattle.dr_base.specs.declared.position.Side.TheVariants.{First}
use Rattle.dr_disk.specs.MemoryDisks.{state_of}
use Rattle.dr_disk.specs.State.{DiskState, all_pass}
use Rattle.dr_disk.specs.declared.memory.MemoryDisk.{MemoryDisk}
use Rattle.book.specs.Beginning.{BeginsIn}
use Rattle.book.specs.Books.{BookNow}
use Rattle.book.specs.declared.refusals.BookBeginError.{BookBeginError}
use Rattle.book.specs.declared.refusals.BookBeginError.TheVariants.{BadName, BookFull, Closed, Memory, NameTaken, NoPair, StoreFault}
use Rattle.book_model.proofs.Names.{begun_same}
use Rattle.book_model.specs.Rows.{is_full, under}
use Rattle.client.specs.Beginning.{begin_of, begun_client}
use Rattle.client.specs.declared.begin.Begin.{Begin}
use Rattle.kem_laws.specs.Mechanism.{Mechanism}
use Rattle.relay_wire.specs.Names.{is_name}
use Rattle.session_model.specs.Clients.{Client}
use Rattle.session_record.specs.Lawful.{IsLawfulClient}
use Rattle.hub.specs.Beginning.{BeginsOne, IsErrorOf, IsFirstRefusal}
use Rattle.hub.specs.Held.{IsHeld}
use Rattle.hub.specs.Peers.{hub_begin, peer_key, peer_name}
use Rattle.hub.specs.declared.playing.FanPlayError.{FanPlayError}
use Rattle.hub.proofs.Names.{name_is}

lawful_digit : (n : ℕ) → n ≤ 8 → is_name (112 ∷ (48 + n) ∷ []) ≡ true
unfolding is_name
lawful_digit zero le = refl
lawful_digit (suc zero) le = refl
lawful_digit (suc (suc zero)) le = refl
lawful_digit (suc (suc (suc zero))) le = refl
lawful_digit (suc (suc (suc (suc zero)))) le = refl
lawful_digit (suc (suc (suc (suc (suc zero))))) le = refl
lawful_digit (suc (suc (suc (suc (suc (suc zero)))))) le = refl
lawful_digit (suc (suc (suc (suc (suc (suc (suc zero))))))) le = refl
lawful_digit (suc (suc (suc (suc (suc (suc (suc (suc zero)))))))) le = refl
lawful_digit (suc (suc (suc (suc (suc (suc (suc (suc (suc n))))))))) le = absurd (let e : ⊥ = omega (arith, le) in e)

pub lawful_name : (n : ℕ) → n ≤ 8 → is_name (peer_name n) ≡ true
lawful_name n le = ap is_name (name_is n le) ∙ lawful_digit n le

module _ {X : Type 0} (state : X → DiskState) (k : Mechanism) (name : List ℕ) (begin : Begin) (old new : BookNow) (start now : X)
    (unclosed : old.closed ≡ None) (lawful : is_name name ≡ true) (fresh : under name old.rows ≡ None)
    (room : is_full old.rows ≡ false) (passes : (state start).fate ≡ all_pass) where
  pub only_first : (error : BookBeginError) → BeginsIn state k name begin old new start now (Err error) → IsFirstRefusal error
  only_first Memory begins = tt
  only_first NoPair begins = tt
  only_first (Closed call) begins = absurd (let e : None ≡ Some call = sym unclosed ∙ begins.0 in cc)
  only_first BadName begins = absurd (let e : false ≡ true = sym begins.1 ∙ lawful in cc)
  only_first NameTaken begins =
      absurd (let e : false ≡ true = subst (λ (o : Option Client). IsSome o) fresh begins.2 in cc)
  only_first (BookFull rows) begins = absurd (let e : false ≡ true = sym room ∙ begins.3 in cc)
  only_first (StoreFault call) begins =
      absurd (let e : false ≡ true = (begins.3.takes.went.calls.went.fate passes).0 in cc)

-- ---- and what comes of the book

module _ (k : Mechanism) (number : ℕ) (old new : BookNow) (start now : MemoryDisk) where
  -- the call that begins a peer's session
  abbrev pub Begins : Result Unit BookBeginError → Type 0
  Begins = BeginsIn state_of k (peer_name number) (hub_begin number) old new start now

  pub begins_as : (was : BookNow) (name : List ℕ) (key : Key32) (result : Result Unit BookBeginError) → was ≡ old
      → name ≡ peer_name number → key ≡ peer_key number
      → BeginsIn state_of k name (begin_of First Plain key) was new start now result → Begins result
  begins_as was name key result same named is begins =
      subst (λ (b : BookNow). BeginsIn state_of k (peer_name number) (hub_begin number) b new start now result) same
      (subst (λ (l : Key32). BeginsIn state_of k (peer_name number) (begin_of First Plain l) was new start now result) is
      (subst (λ (n : List ℕ). BeginsIn state_of k n (begin_of First Plain key) was new start now result) named begins))

  module _ (held : IsHeld old.store.rows old start) where
    stays : (new ≡ old) × (now ≡ start) → IsHeld new.store.rows new now
    stays same =
        subst (λ (d : MemoryDisk). IsHeld new.store.rows new d) (sym same.1)
        (subst (λ (b : BookNow). IsHeld b.store.rows b start) (sym same.0) held)

    pub still_held : (result : Result Unit BookBeginError) → Begins result → IsHeld new.store.rows new now
    still_held (Ok u) begins =
        let changes = begins.3 in record {
          is_open = (changes.stays_open, changes.ready);
          count = refl;
          passes = (changes.takes.went.calls.went.fate held.passes).1;
        }
    still_held (Err Memory) begins = stays begins.1
    still_held (Err NoPair) begins = stays begins.2
    still_held (Err (Closed call)) begins = stays begins.1
    still_held (Err BadName) begins = stays begins.2
    still_held (Err NameTaken) begins = stays begins.3
    still_held (Err (BookFull rows)) begins = stays begins.5
    still_held (Err (StoreFault call)) begins =
        absurd (let e : false ≡ true = (begins.3.takes.went.calls.went.fate held.passes).0 in cc)

    module _ (lawful : 1 ≤ number) (few : number ≤ 8) (fresh : under (peer_name number) old.rows ≡ None)
        (room : is_full old.rows ≡ false) where
      pub first_error : (error : BookBeginError) → Begins (Err error) → IsFirstRefusal error
      first_error error begins =
          only_first state_of k (peer_name number) (hub_begin number) old new start now held.is_open.0
          (lawful_name number few) fresh room held.passes error begins

      pub begins_one : (name : List ℕ) → name ≡ peer_name number → Begins (Ok tt)
          → ((kept : Client) → under name new.rows ≡ Some kept → IsLawfulClient k kept) → BeginsOne k number old new (Ok tt)
      begins_one name named begins lawful =
          let client = begun_client k (hub_begin number) in
          let changes = begins.3 in
          let is : under name new.rows ≡ Some client =
          ap (λ (n : List ℕ). under n new.rows) named ∙ ap (under (peer_name number)) changes.rows
          ∙ begun_same (peer_name number) client old.rows fresh room in
          (changes.rows, changes.takes.rows, record { pair = begins.2; lawful = lawful client is })

      pub begins_none : (error : BookBeginError) → Begins (Err error) → (end : FanPlayError) → IsErrorOf error end
          → BeginsOne k number old new (Err end)
      begins_none NoPair begins end is =
          subst (λ (e : FanPlayError). BeginsOne k number old new (Err e)) (sym is) begins.1
      begins_none Memory begins end is =
          subst (λ (e : FanPlayError). BeginsOne k number old new (Err e)) (sym is) tt
      begins_none (Closed call) begins end is = absurd (first_error (Closed call) begins)
      begins_none BadName begins end is = absurd (first_error BadName begins)
      begins_none NameTaken begins end is = absurd (first_error NameTaken begins)
      begins_none (BookFull rows) begins end is = absurd (first_error (BookFull rows) begins)
      begins_none (StoreFault call) begins end is = absurd (first_error (StoreFault call) begins)
