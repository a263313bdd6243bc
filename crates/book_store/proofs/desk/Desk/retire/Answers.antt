use Rattle.std.proofs.Common.{◌-◌, ℕ, Bool, Result, List, take, replicate, ap, sym, ◌∙◌, subst, arith}
use Rattle.std.proofs.lemmas.List.{take-replicate}
use Rattle.dr_base.specs.declared.limits.TheConstants.{PAGE}
use Rattle.dr_disk.specs.State.{DiskState}
use Rattle.dr_disk.specs.declared.call.Call.{Call}
use Rattle.pages.specs.declared.layout.Layout.{Layout}
use Rattle.pages.specs.Retiring.{IsOver, Retires}
use Rattle.pages.specs.Tables.{Table}
use Rattle.book_store.specs.Rows.{book_names}
use Rattle.book_store.specs.declared.layout.TheConstants.{BOOK_TABLE}
use Rattle.book_store.proofs.desk.Desk.retire.Goals as goal

pub retire-requires-clause-zeros : goal.retire-requires-clause-zeros
retire-requires-clause-zeros g c = record {
  page_zero = ap (λ (l : List ℕ). take PAGE l) c.requires.zero ∙ take-replicate PAGE (BOOK_TABLE - 1) 0 (omega arith);
  rest_zero = c.requires.zero ∙ ap (λ l. replicate (l.table - 1) 0) (sym c.book_layout.ensures);
}

-- by another word for the layout
abbrev Clause : {T : Type 0} → Bool → List ℕ → DiskState → DiskState → Result T Call → Layout → Type 0
Clause {T = T} second dropped start now result l = (table : Table) (pages : List (List ℕ))
    → IsOver book_names l second dropped table pages start
    → Retires {T = T} book_names l dropped (record { second = second; table = table; pages = pages }) start now result

pub returns-in-Ok-clause-retires : goal.returns-in-Ok-clause-retires
returns-in-Ok-clause-retires g c = subst (Clause {T = Unit} c.args.self.now.second c.args.dropped.now
    (g.D.Disk.state c.args.disk.now) (g.D.Disk.state c.retire.new.disk) _) c.book_layout.ensures c.in-Ok.ensures.retires

pub returns-in-Err-clause-retires : goal.returns-in-Err-clause-retires
returns-in-Err-clause-retires g c = subst (Clause {T = Unit} c.args.self.now.second c.args.dropped.now
    (g.D.Disk.state c.args.disk.now) (g.D.Disk.state c.retire.new.disk) _) c.book_layout.ensures c.in-Err.ensures.retires
