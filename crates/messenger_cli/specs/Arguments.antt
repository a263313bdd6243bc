-- The program's arguments, as the system gave them.
use Rattle.std.specs.Prelude.{◌≡◌, List, drop, String, Vec, Result, Ok, Err}
use Rattle.std.specs.Vec.Iter.{into_iter_items}
use Rattle.std.specs.declared.alloc.Global.{Global}
use Rattle.std.specs.declared.io.Error.{Error}
use Rattle.std.specs.declared.io.ErrorKind.{ErrorKind}
use Rattle.std.specs.declared.io.ErrorKind.TheVariants.{OutOfMemory}
use Rattle.std.specs.declared.vec.IntoIter.{IntoIter}
use Rattle.std.specs.IoError.{error_kind}
use Rattle.endings.specs.declared.ending.Ending.{Ending}
use Rattle.endings.specs.declared.ending.Ending.TheVariants.{Usage, NoMemory}

-- the words stand after the program's name
abbrev pub words_of : IntoIter (String Global) Global → List (String Global)
words_of arguments = drop 1 (into_iter_items arguments)

-- how the program ends where its arguments couldn't be read: where that wasn't for want of memory, one of them is no
-- text, and such words are no command
abbrev pub ending_of_arguments : ErrorKind → Ending
ending_of_arguments OutOfMemory = NoMemory
ending_of_arguments _ = Usage

abbrev pub ending_without_words : Error → Ending
ending_without_words error = ending_of_arguments (error_kind error)

-- the words were taken out of the arguments; or memory was wanting for them; or the arguments couldn't be read
abbrev pub HasWords : Result (IntoIter (String Global) Global) Error → Result (Vec (String Global) Global) Ending → Type 0
HasWords (Ok arguments) (Ok words) = words.items ≡ words_of arguments
HasWords (Ok arguments) (Err ending) = ending ≡ NoMemory
HasWords (Err error) (Ok words) = ⊥
HasWords (Err error) (Err ending) = ending ≡ ending_without_words error
