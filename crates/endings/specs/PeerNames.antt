-- The name of a session in room of its own.
use Rattle.std.specs.Prelude.{List, length, replicate, take, ℕ, ◌++◌, ◌-◌}
use Rattle.endings.specs.declared.peer_name.PeerName.{PeerName}
use Rattle.relay_wire.specs.declared.limits.TheConstants.{NAME_LIMIT}

-- a name, with zeros behind it
abbrev pub peer_name : List ℕ → PeerName
peer_name name =
    record { bytes = name ++ replicate (NAME_LIMIT - length name) 0; len = length name }

-- what is shown of it
abbrev pub shown_name : PeerName → List ℕ
shown_name name = take name.len name.bytes
