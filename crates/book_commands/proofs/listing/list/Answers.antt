use Rattle.std.proofs.Common.{[], arith, refl, subst, sym}
use Rattle.endings.specs.declared.ending.Ending.TheVariants.{Done}
use Rattle.book_commands.specs.Listing.{RunsList, name_lines, was_listed, wasnt_opened}
use Rattle.book_commands.proofs.Counted.{list_counts}
use Rattle.book_commands.proofs.listing.list.Goals as goal

pub returns-in-Err : goal.returns-in-Err
returns-in-Err g c =
    let k = g.K.Kem.mechanism in
    list_counts g.D.Disk.state k c.args.disk.now c.open.new.disk
    (g.O.Sink.at c.args.out.now) (g.O.Sink.at c.finish.new.out) c.finish.result.code
    (record {
      ending = c.unopened.result;
      lines = [];
      came =
          subst (λ e. RunsList g.D.Disk.state k c.args.disk.now c.open.new.disk e []) (sym c.unopened.ensures)
          (record {
            listed = wasnt_opened c.in-Err.error (record { refused = c.in-Err.ensures.refused; memory = c.in-Err.ensures.memory });
            leaves = record { any_moment = c.open.ensures.any_moment; reads = c.open.ensures.reads };
          });
      ends = c.finish.ensures.ends;
    }) c.finish.ensures.later

pub returns-in-Ok : goal.returns-in-Ok
returns-in-Ok g c =
    let k = g.K.Kem.mechanism in
    let opened = c.in-Ok.ensures.opened in
    list_counts g.D.Disk.state k c.args.disk.now c.open.new.disk
    (g.O.Sink.at c.args.out.now) (g.O.Sink.at c.finish_written.new.out) c.finish_written.result.code
    (record {
      ending = Done;
      lines = name_lines c.in-Ok.book.rows;
      came = record {
        listed = was_listed c.in-Ok.book.rows opened.read
            (record { book = c.in-Ok.book; rows = refl; ready = opened.ready }) c.in-Ok.ensures.quiet;
        leaves = record { any_moment = c.open.ensures.any_moment; reads = c.open.ensures.reads };
      };
      ends = c.finish_written.ensures.ends _ _ c.write_names-wrote.ensures;
    })
    (omega (arith, c.write_names-wrote.ensures.cause.later, c.finish_written.ensures.later))
