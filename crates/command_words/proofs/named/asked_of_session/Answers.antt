use Rattle.std.proofs.Common.{◌≡◌, List, [], arith, refl, subst, sym}
use Rattle.std.proofs.lemmas.List.{length-map}
use Rattle.std.specs.Borrow.{Bor}
use Rattle.clap.specs.Walk.{Text, texts}
use Rattle.command_words.specs.Commands.{asked, session_rows}
use Rattle.command_words.proofs.Answering.{none_given, one_given, two_given}
use Rattle.command_words.proofs.Tables.{none_asked}
use Rattle.command_words.proofs.named.asked_of_session.Goals as goal

-- what a place past the end gives
abbrev some : Bor Text
some = record { ref_ptr = (0, 0); now = [] }

pub returns-in-empty : goal.returns-in-empty
returns-in-empty c =
    subst (λ (vs : List Text). c.asked_bare.result ≡ asked session_rows c.args.name.now vs)
    (sym (none_given c.args.values.now c.in-empty.len_below)) c.asked_bare.ensures

pub returns-in-len1 : goal.returns-in-len1
returns-in-len1 c =
    subst (λ (vs : List Text). c.asked_with.result ≡ asked session_rows c.args.name.now vs)
    (sym (one_given c.args.values.now some c.in-len1.len_at_least c.in-len1.len_below)) c.asked_with.ensures

pub returns-in-len2 : goal.returns-in-len2
returns-in-len2 c =
    subst (λ (vs : List Text). c.asked_with_two.result ≡ asked session_rows c.args.name.now vs)
    (sym (two_given c.args.values.now some c.in-len2.len_at_least c.in-len2.len_below)) c.asked_with_two.ensures

pub returns-in-len2-up : goal.returns-in-len2-up
returns-in-len2-up c =
    none_asked session_rows c.args.name.now (texts c.args.values.now)
    (omega (arith, c.in-len2-up.len_at_least, length-map c.args.values.now (λ (s : Bor Text). s.now))) refl
