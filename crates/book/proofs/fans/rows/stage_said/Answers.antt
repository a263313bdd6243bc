use Rattle.std.proofs.Common.{List, ap, subst, ℕ, ◌∙◌}
use Rattle.book_model.specs.Rows.{Row}
use Rattle.book_store.specs.Committing.{call_of}
use Rattle.book_store.specs.Store.{writes_at}
use Rattle.dr_disk.specs.Called.{Called}
use Rattle.session_model.specs.Clients.{Client}
use Rattle.session_record.specs.Record.{record_text}
use Rattle.book.specs.Fans.{said_next}
use Rattle.book.proofs.fans.rows.stage_said.Goals as goal

pub returns-clause-calls : goal.returns-clause-calls
returns-clause-calls g c =
    subst (λ (t : List ℕ). Called (writes_at c.args.store.now c.args.at t) call_of (g.D.Disk.state c.args.disk.now)
    (g.D.Disk.state c.stage.new.disk) c.stage.result)
    (c.write_said-len.ensures.written
    ∙ ap (λ (r : Row Client). record_text (said_next g.K.Kem.mechanism c.args.text.now r.kept c.args.seed)) c.row.view_is)
    c.stage.ensures.calls

pub returns-clause-stages : goal.returns-clause-stages
returns-clause-stages g c = c.stage.ensures.stages
