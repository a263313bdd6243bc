-- The way to the message key of a packet.
use Rattle.std.specs.Cmp.Lexicographic.{pointwise}
use Rattle.std.specs.Prelude.{Err, List, None, Ok, Option, Result, Some, [], drop, if◌then◌else◌, length, nat_eq, nat_le, nat_lt, not, take, ℕ, ◌&&◌, ◌++◌, ◌+◌, ◌-◌, ◌==◌}
use Rattle.dr_base.specs.declared.limits.TheConstants.{KEPT_LIMIT}
use Rattle.dr_base.specs.Position.{is_own}
use Rattle.dr_base.specs.declared.key.Kept.{Kept}
use Rattle.dr_base.specs.declared.position.Position.{Position}
use Rattle.fs_aead.specs.Chain.{chain_of, message_key}
use Rattle.fs_aead.specs.Table.{kept_key, shelved, without}
use Rattle.kem_laws.specs.Mechanism.{Mechanism}
use Rattle.packet.specs.Packet.{Fields}
use Rattle.prf_prng.specs.Root.{next_root, root_key}
use Rattle.session_model.specs.States.{Own, Phase, Reception, State, in_own, in_peers}
use Rattle.session_model.specs.declared.answer.Refusal.{Refusal}
use Rattle.session_model.specs.declared.answer.Refusal.TheVariants.{Ahead, Count, OtherSession, OwnPacket, SkipLimit, Spent}

-- the message key of a packet, and what the session keeps if that key opens it
pub record Way : Type 0 where
  pub key : List ℕ
  pub next : State

-- a kept key opens the packet and leaves the table
abbrev pub kept_way : State → Position → Option (List ℕ) → Result Way Refusal
kept_way s p None = Err (Spent p)
kept_way s p (Some key) = Ok (record { key = key; next = record s { kept = without s.kept p } })

-- a way that keeps this many keys
abbrev pub within_limit : ℕ → Way → Result Way Refusal
within_limit would way = if nat_lt KEPT_LIMIT would then Err (SkipLimit would) else Ok way

-- along the chain: the keys between are kept, and the chain goes on after the index
abbrev pub chain_way : State → Reception → Position → Result Way Refusal
chain_way s r p = within_limit (length s.kept + (p.index - r.reach - 1)) (record {
  key = message_key r.chain (p.index - r.reach);
  next = record s {
    receiving = Some (record { chain = chain_of r.chain (p.index - r.reach); reach = p.index });
    kept = s.kept ++ shelved p.epoch r.chain r.reach (p.index - r.reach - 1);
  };
})

-- in the next epoch, on top of these kept keys: the agreement message is answered, the root takes the agreement's key
-- in, and the keys before the index are kept
abbrev pub turned : Mechanism → State → Own → Fields → List Kept → Way
turned k s own f kept =
    let key = k.meaning.decap_of own.secret (take k.ciphertext f.agreement) in
    let stream = root_key s.root key in
    record {
      key = message_key stream f.index;
      next = record s {
        root = next_root s.root key;
        epoch = f.epoch;
        phase = in_peers (drop k.ciphertext f.agreement);
        previous = own.sent;
        receiving = Some (record { chain = chain_of stream f.index; reach = f.index });
        kept = kept ++ shelved f.epoch stream 0 (f.index - 1);
      };
    }

-- into the next epoch: the keys of the peer's last epoch up to its end are kept first
abbrev pub turn_way : Mechanism → State → Own → Fields → ℕ → List Kept → Result Way Refusal
turn_way k s own f passed keys = within_limit (length s.kept + passed + (f.index - 1)) (turned k s own f (s.kept ++ keys))

-- the packet says how many texts the peer's last epoch has: no fewer than were opened
abbrev pub next_way : Mechanism → State → Own → Fields → Option Reception → Result Way Refusal
next_way k s own f None = turn_way k s own f 0 []
next_way k s own f (Some r) =
    if nat_lt f.previous r.reach then Err (Count f.previous r.reach)
    else turn_way k s own f (f.previous - r.reach) (shelved (f.epoch - 2) r.chain r.reach (f.previous - r.reach))

-- an own epoch has no next way but this; in a peer's epoch the next one is the side's own
abbrev pub epoch_way : Mechanism → State → Fields → Phase → Result Way Refusal
epoch_way k s f (in_own own) = next_way k s own f s.receiving
epoch_way k s f (in_peers public) = Err (OwnPacket f.epoch)

-- in the peer's epochs so far: along the chain in the latest one, else by a kept key
abbrev pub known_way : State → Position → Option Reception → Result Way Refusal
known_way s p None = Err (Spent p)
known_way s p (Some r) =
    if nat_le s.epoch (p.epoch + 1) && nat_lt r.reach p.index then chain_way s r p
    else kept_way s p (kept_key s.kept p)

-- the position that a packet names
abbrev pub position_of : Fields → Position
position_of f = record { epoch = f.epoch; index = f.index }

-- the way to a packet's key, or the first reason why its tag isn't looked at
unfoldable pub way_of : Mechanism → State → Fields → Result Way Refusal
way_of k s f =
    if not (pointwise nat_eq f.session s.session) then Err OtherSession
    else (if is_own s.side f.epoch then Err (OwnPacket f.epoch)
    else (if nat_lt (s.epoch + 1) f.epoch then Err (Ahead f.epoch s.epoch)
    else (if f.epoch == s.epoch + 1 then epoch_way k s f s.phase
    else known_way s (position_of f) s.receiving)))
