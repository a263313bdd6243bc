use Rattle.std.proofs.Common.{◌≡◌, ◌+◌, ◌-◌, ◌*◌, ◌≤◌, ℕ, List, length, map, sym, ◌∙◌, ap, subst, arith, length-drop, length-take}
use Rattle.std.proofs.lemmas.List.{take_all}
use Rattle.dr_base.specs.declared.limits.TheConstants.{PAGE}
use Rattle.pages.specs.Layouts.{IsSound}
use Rattle.pages.specs.Snapshots.{page_of}
use Rattle.record_pages.specs.Pages.{cut}
use Rattle.pages.proofs.Looking.{looks_as, looks_twice}
use Rattle.paged_records.proofs.ReadPages.{put_before, put_here, read_more}
use Rattle.paged_records.proofs.loading.read_pages.Goals as goal

pub read_page-requires-clause-sound : goal.read_page-requires-clause-sound
read_page-requires-clause-sound g c =
    subst (λ n. IsSound c.args.layout n) (sym c.pages.invariant.looks.during.size) c.requires.sound

pub pages-preserved : goal.pages-preserved
pages-preserved g c =
    let i = c.pages.i in
    let page = c.read_page.new.into in
    let k : ℕ = PAGE * c.pages.i + PAGE - PAGE * c.pages.i in
    let size : PAGE * c.pages.i + PAGE - PAGE * c.pages.i ≡ PAGE = omega arith in
    let fits : PAGE * c.pages.i + PAGE ≤ length c.pages.bytes = omega (arith, c.requires.room, c.pages-test.true, c.pages.auto.bytes) in
    let long : length c.read_page.new.into ≡ PAGE = omega (arith, c.read_page.auto.into, length-take {A = ℕ}, length-drop {A = ℕ}) in
    record {
      read = λ s told. read_more c.pages.i c.pages.bytes _ c.read_page.new.into c.args.numbers.now
          (page_of c.args.layout s) c.pages-test.true
          (put_before i _ c.pages.bytes page long size fits)
          (put_here i _ c.pages.bytes page long size fits)
          (c.in-Ok.ensures.bytes s (c.pages.invariant.looks.untouched.unwritten.seen ∙ told))
          (c.pages.invariant.read s told);
      looks = looks_twice (tt {0}) _ _ _ _ (omega arith) c.pages.invariant.looks c.in-Ok.ensures.looks;
    }

pub returns-in-Err-clause-looks : goal.returns-in-Err-clause-looks
returns-in-Err-clause-looks g c = looks_twice (tt {0}) _ _ _ _ (omega arith) c.pages.invariant.looks c.in-Err.ensures.looks

pub returns-clause-pages : goal.returns-clause-pages
returns-clause-pages g c = λ s told.
    let e : c.pages.i ≡ length c.args.numbers.now = omega (arith, c.pages-test.false, c.pages.auto.i-end) in
    ap (λ k. cut k c.pages.bytes) (sym e) ∙ c.pages.invariant.read s told
    ∙ ap (λ (l : List ℕ). map (page_of c.args.layout s) l) (take_all c.pages.i c.args.numbers.now (omega arith))

pub returns-clause-looks : goal.returns-clause-looks
returns-clause-looks g c = looks_as _ (tt {0}) _ _ (omega (arith, c.pages-test.false, c.pages.auto.i-end)) c.pages.invariant.looks
