use Rattle.std.proofs.Common.{Err, Ok, [], ap, arith, refl, subst, sym, ◌∙◌}
use Rattle.dr_disk.proofs.Steps.{quiet_twice}
use Rattle.endings.specs.Ending.{code_of}
use Rattle.endings.specs.declared.ending.Ending.{Ending}
use Rattle.endings.specs.declared.ending.Ending.TheVariants.{LinkFault}
use Rattle.client.specs.Syncing.Moments.{moment}
use Rattle.client.specs.Syncing.Parties.{client_party}
use Rattle.client.specs.Syncing.Syncs.{EndsSync}
use Rattle.session_commands.specs.Syncing.{RunsSync, ending_of_sync, lines_of_sync, was_synced, wasnt_linked, wasnt_synced}
use Rattle.client.specs.Cells.{client_cell}
use Rattle.client.specs.Keepings.{client_keeping}
use Rattle.command_lines.proofs.Counting.{ended}
use Rattle.command_lines.proofs.Standing.{only_opened, stood, stood_open}
use Rattle.session_commands.specs.Disks.{client_place}
use Rattle.session_commands.proofs.Opened.{client_fits, opened_at, stands_at}
use Rattle.session_commands.proofs.Quiet.{open_code}
use Rattle.session_commands.proofs.SyncRuns.{leaves_course, sync_ends, sync_runs, syncs_behind}
use Rattle.session_commands.proofs.Syncs.{done_quiet, each_part, has_written, near_result}
use Rattle.session_commands.proofs.syncing.sync.Goals as goal

pub returns-in-Err : goal.returns-in-Err
returns-in-Err g c = record {
  runs = record {
    ending = c.unopened.result;
    lines = [];
    came =
        subst (λ (e : Ending). RunsSync g.D.Disk.state g.L.Pipe.port g.K.Kem.mechanism c.args.address.now c.args.disk.now c.open.new.disk c.args.link.now c.args.link.now
        (g.O.Sink.at c.args.out.now).faults (g.O.Sink.at c.finish.new.out).faults e []) (sym c.unopened.ensures)
        (wasnt_synced c.in-Err.refusal c.in-Err.ensures.unopened (record { any_moment = c.open.ensures.any_moment; reads = c.open.ensures.reads }) refl
        (λ w side lawful stands.
        only_opened client_cell g.K.Kem.mechanism side w (g.D.Disk.state c.args.disk.now) (g.D.Disk.state c.open.new.disk)
        (stands_at g.K.Kem.mechanism w side (g.D.Disk.state c.args.disk.now) (g.D.Disk.state c.open.new.disk) (Err c.in-Err.refusal)
        (c.in-Err.ensures.in_worlds w side lawful stands)) c.open.ensures.any_moment c.open.ensures.reads));
    ends = c.finish.ensures.ends;
  };
  quiet = λ zero.
      absurd (open_code c.in-Err.refusal (ap code_of (sym c.unopened.ensures) ∙ (ended c.unopened.result [] (g.O.Sink.at c.args.out.now) (g.O.Sink.at c.finish.new.out) c.finish.result.code zero c.finish.ensures.ends).0));
  later = c.finish.ensures.later;
}

pub returns-in-Err-open : goal.returns-in-Err-open
returns-in-Err-open g c = record {
  runs = record {
    ending = LinkFault;
    lines = [];
    came =
        wasnt_linked c.in-Ok.client.kept c.in-Ok.ensures.opened.read
        (stood (client_place g.K.Kem.mechanism) client_keeping g.D.Disk.state g.K.Kem.mechanism c.args.disk.now c.open.new.disk
        c.open.new.disk (g.met.D.Disk.lawful c.open.new.disk) c.in-Ok.client (client_fits g.K.Kem.mechanism c.in-Ok.client)
        (opened_at g.K.Kem.mechanism c.in-Ok.client (g.D.Disk.state c.args.disk.now) (g.D.Disk.state c.open.new.disk)
        c.in-Ok.ensures.opened) c.open.ensures.any_moment refl)
        c.in-Err-open.ensures.err c.in-Err-open.ensures.flow c.in-Err-open.ensures.cause.failed
        (λ w side lawful stands.
        only_opened client_cell g.K.Kem.mechanism side w (g.D.Disk.state c.args.disk.now) (g.D.Disk.state c.open.new.disk)
        (stands_at g.K.Kem.mechanism w side (g.D.Disk.state c.args.disk.now) (g.D.Disk.state c.open.new.disk) (Ok c.in-Ok.client)
        (c.in-Ok.ensures.in_worlds w side lawful stands)) c.open.ensures.any_moment c.open.ensures.reads);
    ends = c.finish-in-Err-open.ensures.ends;
  };
  quiet = λ zero.
      absurd (omega (arith, (ended LinkFault [] (g.O.Sink.at c.args.out.now) (g.O.Sink.at c.finish-in-Err-open.new.out) c.finish-in-Err-open.result.code zero c.finish-in-Err-open.ensures.ends).0));
  later = c.finish-in-Err-open.ensures.later;
}

pub close-requires : goal.close-requires
close-requires g c =
    near_result (client_party g.K.Kem.mechanism [] c.in-Ok.client.kept)
    (moment c.in-Ok.client (g.D.Disk.state c.open.new.disk) (g.O.Sink.at c.args.out.now))
    (moment c.sync-synced.new.self (g.D.Disk.state c.sync-synced.new.disk) (g.O.Sink.at c.sync-synced.new.out))
    (g.L.Pipe.port c.open-in-Ok.new.self) (g.L.Pipe.port c.sync-synced.new.link) c.sync-synced.result (c.sync-synced.ensures.syncs c.in-Ok.ensures.opened.is_open).exact

pub returns : goal.returns
returns g c =
    let whole = c.sync-synced.ensures.syncs c.in-Ok.ensures.opened.is_open in
    let syncs = whole.exact in
    let done = whole.done syncs.replies syncs.syncs in
    let ends : EndsSync (client_party g.K.Kem.mechanism [] c.in-Ok.client.kept) syncs.replies
    (moment c.in-Ok.client (g.D.Disk.state c.open.new.disk) (g.O.Sink.at c.args.out.now))
    (moment c.sync-synced.new.self (g.D.Disk.state c.sync-synced.new.disk) (g.O.Sink.at c.sync-synced.new.out))
    (g.L.Pipe.port c.open-in-Ok.new.self) (g.L.Pipe.port c.sync-synced.new.link) c.sync-synced.result = syncs.syncs.ends in
    record {
      runs = record {
        ending = ending_of_sync c.sync-synced.result;
        lines = lines_of_sync (client_party g.K.Kem.mechanism [] c.in-Ok.client.kept) c.in-Ok.client.kept syncs.replies c.sync-synced.result;
        came =
            was_synced c.in-Ok.client.kept syncs.replies c.sync-synced.result c.in-Ok.ensures.opened.read syncs.syncs.lawful
            done.transfer
            done.opens
            (leaves_course g.D.Disk.state g.K.Kem.mechanism c.in-Ok.client.kept syncs.replies
            c.args.disk.now c.open.new.disk c.sync-synced.new.disk (g.met.D.Disk.lawful c.sync-synced.new.disk)
            (stood_open (client_place g.K.Kem.mechanism) client_keeping g.K.Kem.mechanism c.in-Ok.client
            (g.D.Disk.state c.args.disk.now) (g.D.Disk.state c.open.new.disk) (client_fits g.K.Kem.mechanism c.in-Ok.client)
            (opened_at g.K.Kem.mechanism c.in-Ok.client (g.D.Disk.state c.args.disk.now) (g.D.Disk.state c.open.new.disk)
            c.in-Ok.ensures.opened)
            (λ rests. (c.in-Ok.ensures.still rests.0 rests.1).one_sync))
            c.open.ensures.any_moment syncs.syncs.passed
            (λ w side lawful stands fair. let opens = c.in-Ok.ensures.in_worlds w side lawful stands in
            syncs_behind g.K.Kem.mechanism (g.D.Disk.state c.args.disk.now) (g.D.Disk.state c.open.new.disk)
            (g.D.Disk.state c.sync-synced.new.disk) (g.met.D.Disk.lawful c.sync-synced.new.disk)
            side w syncs.replies c.in-Ok.client c.sync-synced.new.self (g.O.Sink.at c.args.out.now) (g.O.Sink.at c.sync-synced.new.out)
            (client_party g.K.Kem.mechanism [] c.in-Ok.client.kept) (g.L.Pipe.port c.open-in-Ok.new.self)
            (g.L.Pipe.port c.sync-synced.new.link) c.sync-synced.result opens c.open.ensures.any_moment c.open.ensures.reads
            c.in-Ok.ensures.opened.alike (done.in_worlds w side opens.client.0 fair)))
            (record {
              opened = g.L.Pipe.port c.open-in-Ok.new.self;
              last = g.L.Pipe.port c.sync-synced.new.link;
              connects = c.in-Ok-open.ensures.to;
              quiet = c.in-Ok-open.ensures.flow;
              ends = c.shut.ensures.shuts.told;
              counts = c.shut.ensures.shuts.flow;
              talks = sync_ends (client_party g.K.Kem.mechanism [] c.in-Ok.client.kept) c.in-Ok.client.kept syncs.replies (g.L.Pipe.port c.open-in-Ok.new.self) (g.L.Pipe.port c.sync-synced.new.link)
                  (g.D.Disk.state c.args.disk.now) (g.D.Disk.state c.open.new.disk) (g.D.Disk.state c.sync-synced.new.disk) c.in-Ok.client c.sync-synced.new.self
                  (g.O.Sink.at c.args.out.now) (g.O.Sink.at c.sync-synced.new.out)
                  (g.O.Sink.at c.close.new.out).faults refl c.in-Ok.ensures.opened.quiet c.close.ensures.later c.sync-synced.result ends;
            })
            (c.shut.ensures.shuts.gate ∙ c.sync-synced.ensures.link.gate ∙ c.in-Ok-open.ensures.cause.passed)
            (λ w side lawful stands fair. let opens = c.in-Ok.ensures.in_worlds w side lawful stands in
            sync_runs g.K.Kem.mechanism (g.D.Disk.state c.args.disk.now) (g.D.Disk.state c.open.new.disk) (g.D.Disk.state c.sync-synced.new.disk) (g.met.D.Disk.lawful c.sync-synced.new.disk)
            side w syncs.replies c.in-Ok.client c.sync-synced.new.self
            (g.O.Sink.at c.args.out.now) (g.O.Sink.at c.sync-synced.new.out)
            (client_party g.K.Kem.mechanism [] c.in-Ok.client.kept) (g.L.Pipe.port c.open-in-Ok.new.self) (g.L.Pipe.port c.sync-synced.new.link) c.sync-synced.result opens c.open.ensures.any_moment c.in-Ok.ensures.opened.alike ends
            (done.in_worlds w side opens.client.0 fair));
        ends =
            c.close.ensures.ends (lines_of_sync (client_party g.K.Kem.mechanism [] c.in-Ok.client.kept) c.in-Ok.client.kept syncs.replies c.sync-synced.result) (g.O.Sink.at c.args.out.now)
            (has_written (client_party g.K.Kem.mechanism [] c.in-Ok.client.kept) syncs.replies
            (moment c.in-Ok.client (g.D.Disk.state c.open.new.disk) (g.O.Sink.at c.args.out.now))
            (moment c.sync-synced.new.self (g.D.Disk.state c.sync-synced.new.disk) (g.O.Sink.at c.sync-synced.new.out))
            (g.L.Pipe.port c.open-in-Ok.new.self) (g.L.Pipe.port c.sync-synced.new.link) c.sync-synced.result ends);
      };
      quiet = λ zero.
          let closed = c.close.ensures.done zero in
          let quiet =
          done_quiet (client_party g.K.Kem.mechanism [] c.in-Ok.client.kept)
          (moment c.in-Ok.client (g.D.Disk.state c.open.new.disk) (g.O.Sink.at c.args.out.now))
          (moment c.sync-synced.new.self (g.D.Disk.state c.sync-synced.new.disk) (g.O.Sink.at c.sync-synced.new.out))
          (g.L.Pipe.port c.open-in-Ok.new.self) (g.L.Pipe.port c.sync-synced.new.link) c.sync-synced.result closed.0 syncs closed.1 in (
            (
              quiet_twice (g.D.Disk.state c.args.disk.now) (g.D.Disk.state c.open.new.disk) (g.D.Disk.state c.sync-synced.new.disk) c.in-Ok.ensures.opened.quiet quiet.0,
              each_part (g.L.Pipe.port c.args.link.now).faults (g.L.Pipe.port c.shut.new.self).faults
                  (c.shut.ensures.shuts.flow ∙ quiet.2 ∙ c.in-Ok-open.ensures.flow)
                  (c.shut.ensures.shuts.gate ∙ c.sync-synced.ensures.link.gate ∙ c.in-Ok-open.ensures.cause.passed),
            ),
            c.close.ensures.quiet zero ∙ quiet.1,
          );
      later = omega (arith, c.sync-synced.ensures.later, c.close.ensures.later);
    }
