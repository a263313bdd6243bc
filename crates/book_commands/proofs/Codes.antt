-- Status 0 says that a session was found, and no call failed.
use Rattle.std.proofs.Common.{arith, ◌≡◌}
use Rattle.endings.specs.Ending.{code_of}
use Rattle.book_store.specs.declared.errors.BookOpenError.{BookOpenError}
use Rattle.book_store.specs.declared.errors.BookOpenError.TheVariants.{DamagedRow, DamagedTable, Memory, StoreFault}
use Rattle.book_commands.specs.Opening.{ending_of_open_book}
use Rattle.book_commands.specs.Places.{Missing, ending_of_missing, has_no_row, not_opened}

pub open_code : (error : BookOpenError) → code_of (ending_of_open_book error) ≡ 0 → ⊥
open_code Memory e = omega (arith, e)
open_code (StoreFault call) e = omega (arith, e)
open_code (DamagedTable table at) e = omega (arith, e)
open_code (DamagedRow row at) e = omega (arith, e)

pub missing_code : (missing : Missing) → code_of (ending_of_missing missing) ≡ 0 → ⊥
missing_code (not_opened error) e = open_code error e
missing_code has_no_row e = omega (arith, e)
