use Rattle.book_store.proofs.Books.Ascii.{name_text}
use Rattle.book_store.proofs.store.words.Goals as goal

pub returns-in-Err : goal.returns-in-Err
returns-in-Err c = absurd (c.in-Err.ensures.cases.0 (name_text c.bytes.result.now c.bytes.ensures.lawful))
