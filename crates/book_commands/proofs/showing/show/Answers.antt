use Rattle.std.proofs.Common.{Some, [], arith, subst, sym, ◌∙◌, ◌≡◌}
use Rattle.dr_ports.specs.Writing.{Writes}
use Rattle.endings.specs.declared.ending.Ending.TheVariants.{Done, NoName}
use Rattle.session_model.specs.Clients.{Client}
use Rattle.book.specs.Calling.{row_in}
use Rattle.book.specs.RowKeepings.{kept_of, row_at, row_keeping}
use Rattle.command_lines.proofs.Counting.{show_counts}
use Rattle.command_lines.proofs.Shows.{shown_runs}
use Rattle.command_lines.specs.Listings.{lines_of}
use Rattle.command_lines.specs.Showing.{RunsShowAt}
use Rattle.book_commands.specs.Places.{name_place}
use Rattle.book_commands.proofs.Codes.{missing_code}
use Rattle.book_commands.proofs.Fitting.{row_fits, row_opened, under_row}
use Rattle.book_commands.proofs.Opened.{nameless_lists, row_opening, row_opens, unopened_lists}
use Rattle.book_commands.proofs.Placed.{placed}
use Rattle.book_commands.proofs.showing.show.Goals as goal

pub returns-in-Err : goal.returns-in-Err
returns-in-Err g c =
    let k = g.K.Kem.mechanism in
    let place = name_place k c.args.name.now in
    show_counts place missing_code g.D.Disk.state k c.args.disk.now c.open.new.disk (λ kept. Done) (lines_of c.args.listing)
    (g.O.Sink.at c.args.out.now) (g.O.Sink.at c.finish.new.out) c.finish.result.code
    (record {
      ending = c.unopened.result;
      lines = [];
      came =
          subst (λ e. RunsShowAt place g.D.Disk.state k (lines_of c.args.listing) c.args.disk.now c.open.new.disk e [])
          (sym c.unopened.ensures)
          (unopened_lists g.D.Disk.state k (c.record_law.ensures.written k) c.args.name.now c.args.disk.now c.open.new.disk
          c.open.ensures.any_moment c.open.ensures.reads c.in-Err.error
          (record { refused = c.in-Err.ensures.refused; memory = c.in-Err.ensures.memory }) (lines_of c.args.listing));
      ends = c.finish.ensures.ends;
    }) c.finish.ensures.later

pub returns-in-Err-core : goal.returns-in-Err-core
returns-in-Err-core g c =
    let k = g.K.Kem.mechanism in
    show_counts (name_place k c.args.name.now) missing_code g.D.Disk.state k c.args.disk.now c.open.new.disk (λ kept. Done) (lines_of c.args.listing)
    (g.O.Sink.at c.args.out.now) (g.O.Sink.at c.finish-in-Err-core.new.out) c.finish-in-Err-core.result.code
    (record {
      ending = NoName;
      lines = [];
      came =
          nameless_lists g.D.Disk.state k (c.record_law.ensures.written k) c.args.name.now c.args.disk.now c.open.new.disk
          c.open.ensures.any_moment c.open.ensures.reads c.in-Ok.book c.in-Ok.ensures.opened c.in-Ok.ensures.quiet
          c.in-Err-core.ensures.none (lines_of c.args.listing);
      ends = c.finish-in-Err-core.ensures.ends;
    }) c.finish-in-Err-core.ensures.later

pub returns : goal.returns
returns g c =
    let k = g.K.Kem.mechanism in
    let book = c.in-Ok.book in
    let opened = c.in-Ok.ensures.opened in
    let start = g.D.Disk.state c.args.disk.now in
    let mid = g.D.Disk.state c.open.new.disk in
    let name = c.args.name.now in
    let at = placed name book.rows c.in-Ok-core.core.now c.in-Ok-core.ensures.shows in
    let kept : kept_of (row_at book.rows at.0) ≡ c.in-Ok-core.core.now =
    (let e : Some (kept_of (row_at book.rows at.0)) ≡ Some c.in-Ok-core.core.now =
    sym (under_row k name book opened.count at.0 at.1) ∙ c.in-Ok-core.ensures.shows in cc) in
    show_counts (name_place k name) missing_code g.D.Disk.state k c.args.disk.now c.open.new.disk (λ kept. Done) (lines_of c.args.listing)
    (g.O.Sink.at c.args.out.now) (g.O.Sink.at c.finish_written.new.out) c.finish_written.result.code
    (record {
      ending = Done;
      lines = lines_of c.args.listing (kept_of (row_at book.rows at.0));
      came =
          shown_runs (name_place k name) row_keeping g.D.Disk.state k (λ kept. Done) (lines_of c.args.listing) c.args.disk.now c.open.new.disk
          (g.met.D.Disk.lawful c.open.new.disk) (row_in book at.0) (row_fits k name book opened.count at.0 at.1)
          (row_opened k name book opened.count at.0 at.1 start mid opened c.in-Ok.ensures.quiet)
          (row_opening g.D.Disk.state k (c.record_law.ensures.written k) name c.args.disk.now c.open.new.disk
          c.open.ensures.any_moment c.open.ensures.reads)
          (λ rests. (c.in-Ok.ensures.still rests.0 rests.1).one_sync)
          (row_opens g.D.Disk.state k (c.record_law.ensures.written k) name c.args.disk.now c.open.new.disk
          c.open.ensures.any_moment c.open.ensures.reads book opened c.in-Ok.ensures.quiet at.0 at.1);
      ends =
          c.finish_written.ensures.ends _ _
          (subst (λ (kept : Client). Writes (g.O.Sink.at c.args.out.now) (g.O.Sink.at c.write_listing-wrote.new.out)
          (lines_of c.args.listing kept) c.write_listing-wrote.result)
          (sym kept) c.write_listing-wrote.ensures);
    })
    (omega (arith, c.write_listing-wrote.ensures.cause.later, c.finish_written.ensures.later))
