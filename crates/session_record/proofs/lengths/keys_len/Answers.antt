use Rattle.std.proofs.Common.{◌≡◌, ◌+◌, List, arith, length, subst}
use Rattle.std.specs.Int.{w16}
use Rattle.dr_base.specs.declared.key.Kept.{Kept}
use Rattle.grammar.specs.Printer.{print_counted}
use Rattle.session_model.specs.Seen.{seen}
use Rattle.session_model.specs.States.{State}
use Rattle.session_record.specs.Groups.{keys_text}
use Rattle.session_record.specs.Lists.{kept_text}
use Rattle.session_record.specs.Record.{keys_in}
use Rattle.session_record.proofs.Sizes.{keys_size}
use Rattle.session_record.proofs.lengths.keys_len.Goals as goal

pub overflow_add-result-3 : goal.overflow_add-result-3
overflow_add-result-3 g c =
    omega (arith, c.phase_len.ensures.limit, c.receiving_len.ensures.limit, c.kept_len-kept.ensures.limit)

pub returns : goal.returns
returns g c =
    let state = seen c.part.inside.head.now c.part.inside.kept.now in
    let kept = subst (λ (keys : List Kept). c.kept_len-kept.result ≡ length (print_counted w16 kept_text keys)) c.kept.ensures.keys
    c.kept_len-kept.ensures.len in
    subst (λ (s : State). c.phase_len.result + 4 + c.receiving_len.result + c.kept_len-kept.result ≡ length (keys_text (keys_in s))) c.part.view_is
    (omega (arith, kept, c.phase_len.ensures.len, c.receiving_len.ensures.len, keys_size (keys_in state)))
