use Rattle.std.proofs.Common.{◌≡◌, ◌<◌, ◌-◌, ◌+◌, ◌*◌, ◌++◌, ◌∷◌, [], length, drop, true, false, ap, sym, ◌∙◌, arith, vec_capacity}
use Rattle.std.specs.Prelude.{vec_len}
use Rattle.std.proofs.lemmas.Grind.{common_steps}
use Rattle.record_pages.specs.Tables.{entry_fault, numbers_in, record_names}
use Rattle.record_pages.proofs.Entries.{is_entry, n, next_fault, next_read, numbers_long, this_fault}
use Rattle.record_pages.proofs.judging.read_numbers.Goals as goal

pub returns-then-not-is_entry-clause-fault : goal.returns-then-not-is_entry-clause-fault
returns-then-not-is_entry-clause-fault c =
    let isnt : is_entry c.args.least c.args.pages c.entries.numbers.items (n c.args.least c.args.pages c.args.count c.entries.at c.args.body.now c.entries.numbers.items c.entries-test.true) ≡ false =
    ap (λ k. is_entry c.args.least c.args.pages c.entries.numbers.items k) (sym c.number_at-number.ensures)
    ∙ ap (λ l. is_entry c.args.least c.args.pages l c.number_at-number.result) (sym c.deref.ensures.value) ∙ sym c.is_entry.ensures ∙ c.if-not-is_entry.true in
    sym (c.entries.invariant.fault ∙ this_fault c.args.least c.args.pages c.args.count c.entries.at c.args.body.now c.entries.numbers.items c.entries-test.true isnt)

pub unwrap-requires : goal.unwrap-requires
unwrap-requires c =
    let long : length c.entries.numbers.items ≡ c.entries.at = ap length c.entries.invariant.read ∙ numbers_long c.entries.at (drop 5 c.args.body.now) in
    let room : vec_len c.entries.numbers < vec_capacity c.entries.numbers = omega (arith, long, c.entries-test.true, c.entries.invariant.room) in
    c.push.ensures.succeeds room

pub entries-preserved : goal.entries-preserved
entries-preserved c =
    let pushed : c.push.new.self.items ≡ c.entries.numbers.items ++ c.number_at-number.result ∷ [] = grind (arith, common_steps) in
    let is : is_entry c.args.least c.args.pages c.entries.numbers.items (n c.args.least c.args.pages c.args.count c.entries.at c.args.body.now c.entries.numbers.items c.entries-test.true) ≡ true =
    ap (λ k. is_entry c.args.least c.args.pages c.entries.numbers.items k) (sym c.number_at-number.ensures)
    ∙ ap (λ l. is_entry c.args.least c.args.pages l c.number_at-number.result) (sym c.deref.ensures.value) ∙ sym c.is_entry.ensures ∙ c.if-not-is_entry.false in
    let more : c.push.new.self.items ≡ c.entries.numbers.items ++ n c.args.least c.args.pages c.args.count c.entries.at c.args.body.now c.entries.numbers.items c.entries-test.true ∷ [] =
    pushed ∙ ap (λ k. c.entries.numbers.items ++ k ∷ []) c.number_at-number.ensures in
    record {
      read = more ∙ next_read c.args.least c.args.pages c.args.count c.entries.at c.args.body.now c.entries.numbers.items c.entries-test.true c.entries.invariant.read;
      fault = c.entries.invariant.fault
          ∙ next_fault c.args.least c.args.pages c.args.count c.entries.at c.args.body.now c.entries.numbers.items c.entries-test.true is
          ∙ ap (λ l. entry_fault c.args.least c.args.pages l (6 + 2 * (c.entries.at + 1)) (numbers_in (c.args.count - (c.entries.at + 1)) (drop (5 + 2 * (c.entries.at + 1)) c.args.body.now))) (sym more);
      room = omega (arith, c.entries.invariant.room, c.push.ensures.capacity);
      capacity = omega (arith, c.entries.invariant.capacity, c.push.ensures.capacity);
    }

pub returns-clause-numbers : goal.returns-clause-numbers
unfolding record_names
returns-clause-numbers c = λ none.
    let all : c.entries.at ≡ c.args.count = omega (arith, c.entries-test.false, c.entries.auto.at-end) in
    c.entries.invariant.read ∙ ap (λ k. numbers_in k (drop 5 c.args.body.now)) (all ∙ c.requires.count)
