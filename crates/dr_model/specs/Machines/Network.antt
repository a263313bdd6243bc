-- The network: it holds each packet that stood in an outbox.
use Rattle.std.specs.Option.{option_and_then}
use Rattle.std.specs.Prelude.{Bool, List, None, Option, Some, bit_xor, filter, find, if◌then◌else◌, length, nat_le, nat_lt, not, option_map, slice_get, slice_index, slice_set, ℕ, ◌%◌, ◌-◌, ◌/◌, ◌^◌}
use Rattle.boxes.specs.Posts.{Post}
use Rattle.dr_base.specs.Position.{is_at, is_own}
use Rattle.dr_base.specs.declared.position.Position.{Position}
use Rattle.dr_base.specs.declared.position.Side.{Side}
use Rattle.dr_model.specs.Machines.Events.{PacketSource, of_bytes, of_flip, of_number, of_position}

-- bytes with one bit changed, counted from the lowest of the first byte, if they have that bit
unfoldable pub flipped : ℕ → List ℕ → Option (List ℕ)
flipped bit bytes =
    let at = bit / 8 in
    if nat_lt at (length bytes) then Some (slice_set bytes at (bit_xor (slice_index bytes at) (2 ^ (bit % 8)))) else None

-- the packet of a position, if the network holds it
abbrev pub held_at : List Post → Position → Option (List ℕ)
held_at posts p = option_map (λ post. post.packet) (find (λ post. is_at p post.position) posts)

-- the other side made a packet
abbrev pub is_from_peer : Side → Post → Bool
is_from_peer side post = not (is_own side post.position.epoch)

-- a packet that the other side made
abbrev pub held_nth : List Post → Side → ℕ → Option (List ℕ)
held_nth posts side nth =
    if nat_le 1 nth then option_map (λ post. post.packet) (slice_get (filter (is_from_peer side) posts) (nth - 1)) else None

-- the packet of a position with one bit changed
abbrev pub flipped_at : List Post → Position → ℕ → Option (List ℕ)
flipped_at posts p bit = option_and_then (flipped bit) (held_at posts p)

-- the packet that a side takes, if the network has it to give
abbrev pub packet_given : List Post → Side → PacketSource → Option (List ℕ)
packet_given posts side (of_position p) = held_at posts p
packet_given posts side (of_number nth) = held_nth posts side nth
packet_given posts side (of_flip p bit) = flipped_at posts p bit
packet_given posts side (of_bytes bytes) = Some bytes
