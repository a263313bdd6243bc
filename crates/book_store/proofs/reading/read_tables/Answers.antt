use Rattle.std.proofs.Common.{◌∙◌, arith}
use Rattle.pages.proofs.Looking.{looks_as, looks_failed, looks_twice}
use Rattle.book_store.proofs.reading.read_tables.Goals as goal

pub returns-in-Err : goal.returns-in-Err
returns-in-Err g c = record { found = tt; looks = looks_failed _ _ _ (omega arith) c.in-Err.ensures.table.looks }

pub returns-in-Err-read_table : goal.returns-in-Err-read_table
returns-in-Err-read_table g c = record {
  found = tt;
  looks = looks_twice {more = 2} _ _ _ _ _ (omega arith) c.in-Ok.ensures.table.looks (looks_failed _ _ _ (omega arith) c.in-Err-read_table.ensures.table.looks);
}

pub returns-in-Ok-read_table : goal.returns-in-Ok-read_table
returns-in-Ok-read_table g c =
    let first = c.in-Ok.ensures.table in
    let second = c.in-Ok-read_table.ensures.table in
    record {
      found = record {
        within = c.requires.within;
        room = record {
          first_long = c.read_table.ensures.long;
          second_long = c.read_table-2.ensures.long;
          room_long = c.requires.scratch.room_long;
          marks = c.requires.scratch.marks;
        };
        read = record {
          first_is = first.found;
          second_is = λ s told. second.found s (first.looks.untouched.unwritten.seen ∙ told);
        };
      };
      looks = looks_twice {more = 2} _ _ _ _ _ (omega arith) first.looks (looks_as _ _ _ _ (omega arith) second.looks);
    }
