-- What a run is lent.
use Rattle.std.specs.Prelude.{◌≡◌}
use Rattle.dr_disk.specs.State.{DiskState}
use Rattle.dr_ports.specs.States.{DrawsState, SinkState, SourceState}
use Rattle.dr_ports.specs.Wires.{Port}
use Rattle.messenger_cli.specs.declared.ports.Ports.{Ports}

-- What the ports of a run are.
pub record PortTypes : Type 1 where
  pub Disk : Type 0
  pub RelayDisk : Type 0
  pub Book : Type 0
  pub Source : Type 0
  pub Sink : Type 0
  pub Link : Type 0
  pub Door : Type 0
  pub Draws : Type 0

-- These at one moment.
abbrev pub PortsNow : PortTypes → Type 0
PortsNow P =
    Ports P.Disk P.RelayDisk P.Book P.Source P.Sink P.Link P.Door P.Draws

-- What these tell: of a disk its state; of the source, the sink and the draws how they stand; of
-- the link and the door what they gave and took.
pub record Seen (P : PortTypes) : Type 1 where
  pub disk : P.Disk → DiskState
  pub relay_disk : P.RelayDisk → DiskState
  pub book : P.Book → DiskState
  pub source : P.Source → SourceState
  pub sink : P.Sink → SinkState
  pub link : P.Link → Port
  pub door : P.Door → Port
  pub draws : P.Draws → DrawsState

abbrev pub ports_seen : {X R B S O L A W : Type 0} → (X → DiskState) → (R → DiskState)
    → (B → DiskState) → (S → SourceState) → (O → SinkState) → (L → Port) → (A → Port) → (W → DrawsState)
    → Seen (record {
      Disk = X;
      RelayDisk = R;
      Book = B;
      Source = S;
      Sink = O;
      Link = L;
      Door = A;
      Draws = W;
    })
ports_seen disk relay_disk book source sink link door draws = record {
  disk = disk;
  relay_disk = relay_disk;
  book = book;
  source = source;
  sink = sink;
  link = link;
  door = door;
  draws = draws;
}

-- the relay's disk, the link and the door were left alone
pub record IsOffline {P : PortTypes} (old new : PortsNow P) : Type 0 where
  pub relay_disk : new.relay_disk ≡ old.relay_disk
  pub link : new.link ≡ old.link
  pub door : new.door ≡ old.door

-- all but the sink was left alone
pub record LeavesAllButSink {P : PortTypes} (old new : PortsNow P) : Type 0 where
  pub disk : new.disk ≡ old.disk
  pub book : new.book ≡ old.book
  pub source : new.source ≡ old.source
  pub draws : new.draws ≡ old.draws
  pub offline : IsOffline old new
