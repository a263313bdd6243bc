-- Why a text is no script.
use Rattle.std.specs.Prelude.{◌≡◌, ⊤, Result, Err, ℕ}
use Rattle.scripts.specs.declared.script.ScriptError.{ScriptError}
use Rattle.scripts.specs.declared.script.ScriptError.TheVariants.{Memory, Line}

-- want of memory, or the first bad line that the reading names
abbrev pub IsFaultOf : {T : Type 0} → Result T ℕ → ScriptError → Type 0
IsFaultOf reading Memory = ⊤
IsFaultOf reading (Line number) = reading ≡ Err number
