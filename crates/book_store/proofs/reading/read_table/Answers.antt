use Rattle.std.proofs.Common.{◌+◌, ◌∙◌, List, ap, length, refl, ℕ, arith}
use Rattle.std.proofs.lemmas.Grind.{common_steps}
use Rattle.std.proofs.lemmas.List.{with_items_is}
use Rattle.dr_disk.specs.Called.{itself}
use Rattle.dr_disk.specs.declared.call.Call.TheVariants.{Read}
use Rattle.dr_disk.proofs.Calling.{read_fails, reads_well}
use Rattle.pages.proofs.Looking.{looked, looks_failed, looks_twice}
use Rattle.book_store.proofs.reading.read_table.Goals as goal

pub returns-in_default-clause-table : goal.returns-in_default-clause-table
returns-in_default-clause-table g c = record {
  found = tt;
  looks = looks_failed _ _ _ (omega arith)
      (looked {T = Unit {0}} _ _ _ c.read.ensures.passes c.read.ensures.unwritten c.in_default.ensures.told.passed c.read.ensures.one_read
      (read_fails itself Read _ _ _ c.in_default.ensures.told c.in_default.ensures.cause) refl);
}

pub returns-in_default-read-clause-table : goal.returns-in_default-read-clause-table
returns-in_default-read-clause-table g c = record {
  found = tt;
  looks = looks_twice (tt {0}) _ _ _ _ (omega arith)
      (looked _ _ _ c.read.ensures.passes c.read.ensures.unwritten c.in-Ok.ensures.told.passed c.read.ensures.one_read
      (reads_well itself Read (tt {0}) _ _ _ c.in-Ok.ensures.told c.in-Ok.ensures.cause) tt)
      (looked _ _ _ c.read-2.ensures.passes c.read-2.ensures.unwritten c.in_default-read.ensures.told.passed c.read-2.ensures.one_read
      (read_fails itself Read _ _ _ c.in_default-read.ensures.told c.in_default-read.ensures.cause) refl);
}

pub returns-clause-table : goal.returns-clause-table
returns-clause-table g c = record {
  found = grind (arith, common_steps);
  looks = looks_twice (tt {0}) _ _ _ _ (omega arith)
      (looked _ _ _ c.read.ensures.passes c.read.ensures.unwritten c.in-Ok.ensures.told.passed c.read.ensures.one_read
      (reads_well itself Read (tt {0}) _ _ _ c.in-Ok.ensures.told c.in-Ok.ensures.cause) tt)
      (looked _ _ _ c.read-2.ensures.passes c.read-2.ensures.unwritten c.in-Ok-read.ensures.told.passed c.read-2.ensures.one_read
      (reads_well itself Read _ _ _ _ c.in-Ok-read.ensures.told c.in-Ok-read.ensures.cause) tt);
}

pub returns-clause-long : goal.returns-clause-long
returns-clause-long g c =
    let read = with_items_is c.args.body.now c.read-2.new.into (c.read-2.auto.into ∙ c.deref_mut.ensures.len) in
    ap (λ (l : List ℕ). length l + 1) read ∙ ap (λ (n : ℕ). n + 1) c.read-2.auto.into
    ∙ ap (λ (l : List ℕ). length l + 1) c.deref_mut.ensures.value ∙ c.requires.long

pub returns-in_default-read-clause-long : goal.returns-in_default-read-clause-long
returns-in_default-read-clause-long g c =
    let read = with_items_is c.args.body.now c.read-2.new.into (c.read-2.auto.into ∙ c.deref_mut.ensures.len) in
    ap (λ (l : List ℕ). length l + 1) read ∙ ap (λ (n : ℕ). n + 1) c.read-2.auto.into
    ∙ ap (λ (l : List ℕ). length l + 1) c.deref_mut.ensures.value ∙ c.requires.long
