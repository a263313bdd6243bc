-- The lines of a text that was said under several names.
use Rattle.std.specs.Prelude.{List, None, Option, Some, [], codes, get_or, suc, zero, ℕ, ◌++◌}
use Rattle.answer_lines.specs.Texts.{place_line}
use Rattle.dr_base.specs.declared.position.Position.{Position}
use Rattle.session_model.specs.Clients.{Client}
use Rattle.book_model.specs.Rows.{Rows}
use Rattle.book.specs.Fans.{said_at}

-- where the session of a name said a text, if it did
unfoldable pub said_line : List ℕ → Position → List ℕ
said_line name position = codes "said " ++ name ++ place_line (codes " ") position

abbrev pub said_if : List ℕ → Option Position → List ℕ
said_if name None = []
said_if name (Some position) = said_line name position

-- one a line, for the first n names, whose sessions these are
abbrev pub said_lines : Rows Client → List (List ℕ) → List ℕ → ℕ → List ℕ
said_lines sessions names list zero = []
said_lines sessions names list (suc n) = said_lines sessions names list n
    ++ said_if (get_or names n []) (said_at sessions list n)
