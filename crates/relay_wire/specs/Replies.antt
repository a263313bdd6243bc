-- Replies, as a printer and a reader of the bodies of their frames.
use Rattle.std.specs.Prelude.{◌≡◌, ⊤, ℕ, ◌^◌, ◌<◌, ◌==◌, ◌&&◌, Bool, true, nat_le, List, [], ◌∷◌, ◌++◌, length, take, drop, Result, Ok, Err, if◌then◌else◌}
use Rattle.std.specs.Int.{w64, to_be_bytes, from_be_bytes}
use Rattle.relay_wire.specs.declared.reply.BadReply.{BadReply}
use Rattle.relay_wire.specs.declared.reply.BadReply.TheVariants.{Frame, Kind, Size}
use Rattle.relay_wire.specs.Names.{is_packet}

-- what is replied: a packet is kept under this number; the oldest packet, under its number; none
-- stands; the packet is dropped; no further packet may be kept; no box has the name; no packet has
-- this number; no request, for a reason; denied by a rule, with the last counter that was served
pub data Replied : Type 0 where
  stored : ℕ → Replied
  item : ℕ → List ℕ → Replied
  empty : Replied
  acked : Replied
  box_full : Replied
  unknown : Replied
  absent : ℕ → Replied
  bad : ℕ → Replied
  denied : ℕ → ℕ → Replied

-- the reasons against a request are kinds 1 to 4
abbrev pub is_bad_kind : ℕ → Bool
is_bad_kind kind = nat_le 1 kind && nat_le kind 4

-- the rules of a guard are 1 to 3
abbrev pub is_rule : ℕ → Bool
is_rule rule = nat_le 1 rule && nat_le rule 3

abbrev pub IsLawfulReplied : Replied → Type 0
IsLawfulReplied (stored number) = number < 2 ^ 64
IsLawfulReplied (item number packet) = (number < 2 ^ 64) × (is_packet packet ≡ true)
IsLawfulReplied (absent number) = number < 2 ^ 64
IsLawfulReplied (bad kind) = is_bad_kind kind ≡ true
IsLawfulReplied (denied rule last) = (is_rule rule ≡ true) × (last < 2 ^ 64)
IsLawfulReplied _ = ⊤

-- ---- printed: a byte that says what is replied, and the rest

abbrev pub reply_byte : Replied → ℕ
reply_byte (stored number) = 0x81
reply_byte (item number packet) = 0x82
reply_byte empty = 0x83
reply_byte acked = 0x84
reply_byte box_full = 0x85
reply_byte unknown = 0x86
reply_byte (absent number) = 0x87
reply_byte (bad kind) = 0x88
reply_byte (denied rule last) = 0x89

abbrev pub reply_rest : Replied → List ℕ
reply_rest (stored number) = to_be_bytes w64 number
reply_rest (item number packet) = to_be_bytes w64 number ++ packet
reply_rest (absent number) = to_be_bytes w64 number
reply_rest (bad kind) = kind ∷ []
reply_rest (denied rule last) = rule ∷ to_be_bytes w64 last
reply_rest _ = []

unfoldable pub reply_body : Replied → List ℕ
reply_body reply = reply_byte reply ∷ reply_rest reply

-- ---- read: the reply, or why it is none

-- a number, and nothing after it
abbrev pub numbered : (ℕ → Replied) → List ℕ → Result Replied BadReply
numbered make rest = if length rest == 8 then Ok (make (from_be_bytes w64 rest)) else Err Size

-- nothing
abbrev pub bare : Replied → List ℕ → Result Replied BadReply
bare reply rest = if length rest == 0 then Ok reply else Err Size

-- a number and a packet
abbrev pub read_item : List ℕ → Result Replied BadReply
read_item rest =
    if nat_le 8 (length rest) && is_packet (drop 8 rest)
    then Ok (item (from_be_bytes w64 (take 8 rest)) (drop 8 rest))
    else Err Size

-- a kind in one byte
abbrev pub read_bad : List ℕ → Result Replied BadReply
read_bad (kind ∷ []) = if is_bad_kind kind then Ok (bad kind) else Err Size
read_bad _ = Err Size

-- a rule in one byte, and a number
abbrev pub read_denied : List ℕ → Result Replied BadReply
read_denied [] = Err Size
read_denied (rule ∷ rest) =
    if is_rule rule && (length rest == 8) then Ok (denied rule (from_be_bytes w64 rest))
    else Err Size

unfoldable pub read_reply_rest : ℕ → List ℕ → Result Replied BadReply
read_reply_rest first rest =
    if first == 0x81 then numbered stored rest
    else (if first == 0x82 then read_item rest
    else (if first == 0x83 then bare empty rest
    else (if first == 0x84 then bare acked rest
    else (if first == 0x85 then bare box_full rest
    else (if first == 0x86 then bare unknown rest
    else (if first == 0x87 then numbered absent rest
    else (if first == 0x88 then read_bad rest
    else (if first == 0x89 then read_denied rest
    else Err Kind))))))))

-- a frame of no lawful length has no body
unfoldable pub read_reply : List ℕ → Result Replied BadReply
read_reply [] = Err Frame
read_reply (first ∷ rest) = read_reply_rest first rest
