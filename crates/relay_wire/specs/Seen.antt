-- What the values of the code stand for.
use Rattle.std.specs.Prelude.{◌≡◌, ⊤, ℕ, ◌+◌, List, length, Option, Some, None, option_map, Result, Ok, Err}
use Rattle.relay_guard.specs.Seen.{token_seen}
use Rattle.relay_guard.specs.declared.guard.Token.{Token as TokenLent}
use Rattle.relay_wire.specs.declared.request.Ask.{Ask}
use Rattle.relay_wire.specs.declared.request.Ask.TheVariants.{Post, Fetch, Ack}
use Rattle.relay_wire.specs.declared.request.Bad.{Bad}
use Rattle.relay_wire.specs.declared.request.Request.{Request}
use Rattle.relay_wire.specs.declared.reply.BadReply.{BadReply}
use Rattle.relay_wire.specs.declared.reply.Reply.{Reply}
use Rattle.relay_wire.specs.declared.reply.Reply.TheVariants.{Stored, Item, Empty, Acked, BoxFull, Unknown, Absent, Bad as BadKind, Denied}
use Rattle.relay_wire.specs.declared.limits.TheConstants.{TOKEN_LEN}
use Rattle.relay_wire.specs.Parts.{LiesAt}
use Rattle.relay_wire.specs.Requests.{Asked, Asking, posts, fetches, acks}
use Rattle.relay_wire.specs.Replies.{Replied, stored, item, empty, acked, box_full, unknown, absent, bad, denied}

-- what is asked
abbrev pub asking_of : Ask → Asking
asking_of (Post packet) = posts packet.bytes
asking_of Fetch = fetches
asking_of (Ack number) = acks number

-- a request
abbrev pub asked_of : Request → Asked
asked_of request =
    record {
      name = request.name.bytes;
      ask = asking_of request.ask;
      token = option_map token_seen request.token;
    }

-- what is replied
abbrev pub replied_of : Reply → Replied
replied_of (Stored number) = stored number
replied_of (Item number packet) = item number packet.bytes
replied_of Empty = empty
replied_of Acked = acked
replied_of BoxFull = box_full
replied_of Unknown = unknown
replied_of (Absent number) = absent number
replied_of (BadKind kind) = bad kind
replied_of (Denied refusal) = denied refusal.rule refusal.last

-- ---- what code parsed is what a reader reads

abbrev pub ParsesAsk : Result Ask Bad → Result Asking ℕ → Type 0
ParsesAsk (Ok ask) read = read ≡ Ok (asking_of ask)
ParsesAsk (Err e) read = read ≡ Err e.kind

abbrev pub ParsesRequest : Result Request Bad → Result Asked ℕ → Type 0
ParsesRequest (Ok request) read = read ≡ Ok (asked_of request)
ParsesRequest (Err e) read = read ≡ Err e.kind

abbrev pub ParsesReply : Result Reply BadReply → Result Replied BadReply → Type 0
ParsesReply (Ok reply) read = read ≡ Ok (replied_of reply)
ParsesReply (Err e) read = read ≡ Err e

-- ---- where lent parts lie, in bytes that begin at a place

-- a posted packet, from an offset on
abbrev pub IsAskLaid : Ask → ℕ → List ℕ → ℕ → Type 0
IsAskLaid (Post packet) at bytes place = LiesAt packet at bytes place
IsAskLaid _ at bytes place = ⊤

-- where the name stands in a request's frame: after the frame's length, a token with the byte that
-- says so, the first byte and its own length
abbrev pub name_place : Option TokenLent → ℕ
name_place None = 4
name_place (Some token) = 4 + (1 + TOKEN_LEN)

-- the name of a request from an offset on, and right after it the packet
pub record IsLaid (request : Request) (at : ℕ) (bytes : List ℕ) (place : ℕ) : Type 0 where
  pub name : LiesAt request.name at bytes place
  pub ask : IsAskLaid request.ask (at + length request.name.bytes) bytes place

-- the packet of a reply, from an offset on
abbrev pub IsReplyLaid : Reply → ℕ → List ℕ → ℕ → Type 0
IsReplyLaid (Item number packet) at bytes place = LiesAt packet at bytes place
IsReplyLaid _ at bytes place = ⊤
