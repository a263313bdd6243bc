use Rattle.std.proofs.Common.{◌≡◌, ◌∙◌, ℕ, List, length, map, sym, ap, subst, arith}
use Rattle.std.specs.Prelude.{OnOk}
use Rattle.std.specs.Vec.{with_items}
use Rattle.std.proofs.lemmas.List.{with_items_is}
use Rattle.dr_disk.specs.State.{OnSeen}
use Rattle.pages.specs.Snapshots.{page_of}
use Rattle.record_pages.specs.Pages.{cut}
use Rattle.paged_records.proofs.loading.fill.Goals as goal

pub returns-clause-pages : goal.returns-clause-pages
returns-clause-pages g c =
    let numbers = c.args.numbers.now in
    let read = c.read_pages.new.bytes in
    let whole : (with_items c.stretch.new.room read).items ≡ read =
    with_items_is c.stretch.new.room read (omega (arith, c.read_pages.ensures.long, ap length c.deref_mut.ensures.value, c.stretch.new.room.ok.0)) in
    subst (λ (l : List ℕ). OnOk c.read_pages.result (OnSeen (λ s. cut (length numbers) l ≡ map (page_of c.args.layout s) numbers)
    (g.D.Disk.state c.args.disk.now))) (sym whole) c.read_pages.ensures.pages

pub returns-clause-long : goal.returns-clause-long
returns-clause-long g c =
    let read = with_items_is c.stretch.new.room c.read_pages.new.bytes (c.read_pages.ensures.long ∙ c.deref_mut.ensures.len) in
    ap (λ (l : List ℕ). length l) read ∙ c.read_pages.ensures.long ∙ c.deref_mut.ensures.len
    ∙ omega (arith, c.stretch.ensures.long, c.stretch.new.room.ok.0)
