use Rattle.book_store.proofs.Sayings.LaidTables.{laid_table}
use Rattle.book_store.proofs.laws.faultless_tables_are_laid.Goals as goal

pub returns : goal.returns
returns g = λ rows body are long none. laid_table rows body long are none
