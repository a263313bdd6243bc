-- What a line says: an event, which may stop the disk of its side or let it fail once, an opening,
-- a sync, or a look at a long text.
use Rattle.scripts.specs.Deeds.{Deed, acts, fails, joins, reopens, stops, syncs}
use Rattle.scripts.specs.Seen.{call_seen, event_of}
use Rattle.scripts.specs.declared.call.Failure.{Failure}
use Rattle.scripts.specs.declared.lined.Lined.{Lined}
use Rattle.scripts.specs.declared.lined.Lined.TheVariants.{Failing, Joining, Opening, Plain, Stopping, Syncing}
use Rattle.scripts.specs.declared.lined.Stop.{Stop}

-- a call in which the disk stops
abbrev pub stop_deed : Stop → Deed
stop_deed stop = stops stop.after stop.mode stop.side (call_seen stop.call)

-- a call in which the disk fails once
abbrev pub failed_deed : Failure → Deed
failed_deed failure = fails failure.at failure.side (call_seen failure.call)

abbrev pub lined_deed : Lined → Deed
lined_deed (Plain line) = acts (event_of line)
lined_deed (Stopping stop) = stop_deed stop
lined_deed (Failing failure) = failed_deed failure
lined_deed (Opening side) = reopens side
lined_deed (Syncing side lost) = syncs side lost
lined_deed (Joining side id) = joins side id
