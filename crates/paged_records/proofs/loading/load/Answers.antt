use Rattle.std.proofs.Common.{◌≡◌, ◌*◌, ℕ, List, length, take, drop, None, refl, sym, ◌∙◌, ap, subst, arith}
use Rattle.std.specs.Prelude.{IsNone}
use Rattle.dr_base.specs.declared.limits.TheConstants.{PAGE}
use Rattle.record_pages.specs.Tables.{length_in, nonzero_from, or_else, record_names}
use Rattle.paged_records.specs.Faults.{behind_table}
use Rattle.paged_records.proofs.LoadedPages.{are_pages, behind_none, count, faultless_by, few, fits, loaded_blank, loaded_fault, loaded_pages}
use Rattle.pages.proofs.Looking.{looks_as, looks_failed}
use Rattle.paged_records.proofs.Paging.{covered, fewest}
use Rattle.paged_records.proofs.loading.load.Goals as goal

pub fill-requires-clause-pages : goal.fill-requires-clause-pages
fill-requires-clause-pages g c =
    let faultless = faultless_by c.args.bounds _ _ _ c.args.body.now _ c.least_number-least.ensures.least c.number_end-total.ensures.end c.record_most.ensures.most
    c.table_fault.ensures.fault c.in_default.is in
    let names : c.deref.result.now ≡ record_names c.args.body.now = c.deref.ensures.value ∙ c.table_fault.ensures.numbers c.in_default.is in
    are_pages c.args.bounds c.args.body.now c.deref.result.now (length_in c.args.body.now) faultless names refl
    c.args.layout c.requires.least c.requires.count

pub fill-requires-clause-room : goal.fill-requires-clause-room
fill-requires-clause-room g c =
    let faultless = faultless_by c.args.bounds _ _ _ c.args.body.now _ c.least_number-least.ensures.least c.number_end-total.ensures.end c.record_most.ensures.most
    c.table_fault.ensures.fault c.in_default.is in
    let names : c.deref.result.now ≡ record_names c.args.body.now = c.deref.ensures.value ∙ c.table_fault.ensures.numbers c.in_default.is in
    let less = few c.args.bounds c.args.body.now c.deref.result.now (length_in c.args.body.now) faultless names refl in
    omega (arith, less, c.requires.room.long)

-- ---- what was read

pub record_fault-requires-clause-fits : goal.record_fault-requires-clause-fits
record_fault-requires-clause-fits g c =
    let faultless = faultless_by c.args.bounds _ _ _ c.args.body.now _ c.least_number-least.ensures.least c.number_end-total.ensures.end c.record_most.ensures.most
    c.table_fault.ensures.fault c.in_default.is in
    let names : c.deref.result.now ≡ record_names c.args.body.now = c.deref.ensures.value ∙ c.table_fault.ensures.numbers c.in_default.is in
    let says : c.record_length-len.result ≡ length_in c.args.body.now = c.record_length-len.ensures in
    let lawful = c.number_end-total.ensures.lawful in
    let inside = fits c.args.bounds c.args.body.now c.deref.result.now c.record_length-len.result faultless names says in
    omega (arith, inside, ap length c.deref-2.ensures.value, c.fill.ensures.long)

pub record_fault-requires-clause-short : goal.record_fault-requires-clause-short
record_fault-requires-clause-short g c =
    let faultless = faultless_by c.args.bounds _ _ _ c.args.body.now _ c.least_number-least.ensures.least c.number_end-total.ensures.end c.record_most.ensures.most
    c.table_fault.ensures.fault c.in_default.is in
    let names : c.deref.result.now ≡ record_names c.args.body.now = c.deref.ensures.value ∙ c.table_fault.ensures.numbers c.in_default.is in
    let lawful = c.number_end-total.ensures.lawful in
    let less = few c.args.bounds c.args.body.now c.deref.result.now (length_in c.args.body.now) faultless names refl in
    omega (arith, less, lawful.named, ap length c.deref-2.ensures.value, c.fill.ensures.long)

pub returns-in-Some-record_fault-clause-loaded : goal.returns-in-Some-record_fault-clause-loaded
returns-in-Some-record_fault-clause-loaded g c = record {
  looks =
      let faultless = faultless_by c.args.bounds _ _ _ c.args.body.now _ c.least_number-least.ensures.least c.number_end-total.ensures.end c.record_most.ensures.most
      c.table_fault.ensures.fault c.in_default.is in
      let names : c.deref.result.now ≡ record_names c.args.body.now = c.deref.ensures.value ∙ c.table_fault.ensures.numbers c.in_default.is in
      let less = few c.args.bounds c.args.body.now c.deref.result.now (length_in c.args.body.now) faultless names refl in
      looks_as _ _ _ _ (omega (arith, less)) c.in-Ok.ensures.looks;
  found = λ s told.
      let faultless = faultless_by c.args.bounds _ _ _ c.args.body.now _ c.least_number-least.ensures.least c.number_end-total.ensures.end c.record_most.ensures.most
      c.table_fault.ensures.fault c.in_default.is in
      let names : c.deref.result.now ≡ record_names c.args.body.now = c.deref.ensures.value ∙ c.table_fault.ensures.numbers c.in_default.is in
      let says : c.record_length-len.result ≡ length_in c.args.body.now = c.record_length-len.ensures in
      loaded_fault c.args.bounds c.args.body.now c.deref.result.now c.record_length-len.result faultless names says
      c.args.layout c.fill.new.bytes.items s c.fill.ensures.long (c.in-Ok.ensures.pages s told) g.G.Grammar.fault_at _
      (sym c.in-Some-record_fault.is ∙ c.record_fault.ensures.fault
      ∙ ap (λ (l : List ℕ). behind_table (or_else (g.G.Grammar.fault_at (take c.record_length-len.result l))
      (nonzero_from c.record_length-len.result (drop c.record_length-len.result l)))) c.deref-2.ensures.value);
}

pub invariant_of-result : goal.invariant_of-result
invariant_of-result g c =
    let faultless = faultless_by c.args.bounds _ _ _ c.args.body.now _ c.least_number-least.ensures.least c.number_end-total.ensures.end c.record_most.ensures.most
    c.table_fault.ensures.fault c.in_default.is in
    let lawful = c.number_end-total.ensures.lawful in
    let says : c.record_length-len.result ≡ length_in c.args.body.now = c.record_length-len.ensures in
    let none = behind_none (g.G.Grammar.fault_at (take c.record_length-len.result c.deref-2.result.now))
    (nonzero_from c.record_length-len.result (drop c.record_length-len.result c.deref-2.result.now))
    (sym c.record_fault.ensures.fault ∙ c.in_default-record_fault.is) in
    let zeros : nonzero_from c.record_length-len.result (drop c.record_length-len.result c.fill.new.bytes.items) ≡ None =
    ap (λ (l : List ℕ). nonzero_from c.record_length-len.result (drop c.record_length-len.result l)) (sym c.deref-2.ensures.value) ∙ none.1 in
    let size : length c.fill.new.bytes.items ≡ PAGE * length c.table_fault.new.numbers.items =
    omega (arith, c.fill.ensures.long, ap length c.deref.ensures.value) in
    let each = count c.args.bounds c.args.body.now c.table_fault.new.numbers.items c.record_length-len.result faultless
    (c.table_fault.ensures.numbers c.in_default.is) says in
    record {
      fits = omega (arith, size);
      blank = loaded_blank c.args.bounds c.args.body.now c.table_fault.new.numbers.items c.record_length-len.result faultless
          (c.table_fault.ensures.numbers c.in_default.is) says c.fill.new.bytes.items size zeros;
      covers = covered (length c.table_fault.new.numbers.items) c.record_length-len.result each;
      least = fewest (length c.table_fault.new.numbers.items) c.record_length-len.result each;
    }

pub returns-clause-named : goal.returns-clause-named
returns-clause-named g c =
    let faultless = faultless_by c.args.bounds _ _ _ c.args.body.now _ c.least_number-least.ensures.least c.number_end-total.ensures.end c.record_most.ensures.most
    c.table_fault.ensures.fault c.in_default.is in
    let names : c.deref.result.now ≡ record_names c.args.body.now = c.deref.ensures.value ∙ c.table_fault.ensures.numbers c.in_default.is in
    let lawful = c.number_end-total.ensures.lawful in
    let says : c.record_length-len.result ≡ length_in c.args.body.now = c.record_length-len.ensures in
    let less = few c.args.bounds c.args.body.now c.deref.result.now c.record_length-len.result faultless names says in
    let inside = fits c.args.bounds c.args.body.now c.deref.result.now c.record_length-len.result faultless names says in
    let none = behind_none (g.G.Grammar.fault_at (take c.record_length-len.result c.deref-2.result.now))
    (nonzero_from c.record_length-len.result (drop c.record_length-len.result c.deref-2.result.now))
    (sym c.record_fault.ensures.fault ∙ c.in_default-record_fault.is) in
    record {
      has_room = record {
        few = omega (arith, inside, less);
        long = omega (arith, c.requires.room.long, c.fill.ensures.room);
        room = omega (arith, c.requires.room.room, c.table_fault.ensures.capacity);
      };
      len = says;
      numbers = c.table_fault.ensures.numbers c.in_default.is;
      lawful = faultless;
      text = ap (λ (l : List ℕ). g.G.Grammar.fault_at (take c.record_length-len.result l)) (sym c.deref-2.ensures.value) ∙ none.0;
    }

pub returns-clause-loaded : goal.returns-clause-loaded
returns-clause-loaded g c = record {
  looks =
      let faultless = faultless_by c.args.bounds _ _ _ c.args.body.now _ c.least_number-least.ensures.least c.number_end-total.ensures.end c.record_most.ensures.most
      c.table_fault.ensures.fault c.in_default.is in
      let names : c.deref.result.now ≡ record_names c.args.body.now = c.deref.ensures.value ∙ c.table_fault.ensures.numbers c.in_default.is in
      let less = few c.args.bounds c.args.body.now c.deref.result.now (length_in c.args.body.now) faultless names refl in
      looks_as _ _ _ _ (omega (arith, less)) c.in-Ok.ensures.looks;
  found = λ s told.
      let faultless = faultless_by c.args.bounds _ _ _ c.args.body.now _ c.least_number-least.ensures.least c.number_end-total.ensures.end c.record_most.ensures.most
      c.table_fault.ensures.fault c.in_default.is in
      let names : c.deref.result.now ≡ record_names c.args.body.now = c.deref.ensures.value ∙ c.table_fault.ensures.numbers c.in_default.is in
      let says : c.record_length-len.result ≡ length_in c.args.body.now = c.record_length-len.ensures in
      let none = behind_none (g.G.Grammar.fault_at (take c.record_length-len.result c.deref-2.result.now))
      (nonzero_from c.record_length-len.result (drop c.record_length-len.result c.deref-2.result.now))
      (sym c.record_fault.ensures.fault ∙ c.in_default-record_fault.is) in
      loaded_pages c.args.bounds c.args.body.now c.deref.result.now c.record_length-len.result faultless names says
      c.args.layout c.fill.new.bytes.items s c.fill.ensures.long (c.in-Ok.ensures.pages s told)
      (ap (λ (l : List ℕ). nonzero_from c.record_length-len.result (drop c.record_length-len.result l)) (sym c.deref-2.ensures.value) ∙ none.1);
}

-- ---- who read it

pub returns-clause-read : goal.returns-clause-read
returns-clause-read g c =
    subst (λ (l : List ℕ). g.G.Grammar.has_read c.record_fault.new.reader (take c.record_length-len.result l)) c.deref-2.ensures.value
    (c.record_fault.ensures.read (subst IsNone (sym c.in_default-record_fault.is) refl))

pub returns-in-Err-clause-loaded : goal.returns-in-Err-clause-loaded
returns-in-Err-clause-loaded g c =
    let faultless = faultless_by c.args.bounds _ _ _ c.args.body.now _ c.least_number-least.ensures.least c.number_end-total.ensures.end c.record_most.ensures.most
    c.table_fault.ensures.fault c.in_default.is in
    let names : c.deref.result.now ≡ record_names c.args.body.now = c.deref.ensures.value ∙ c.table_fault.ensures.numbers c.in_default.is in
    let less = few c.args.bounds c.args.body.now c.deref.result.now (length_in c.args.body.now) faultless names refl in
    record { found = tt; looks = looks_failed _ _ _ (omega (arith, less)) c.in-Err.ensures.looks }
