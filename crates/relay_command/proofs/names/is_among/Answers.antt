use Rattle.std.proofs.Common.{List, ℕ, [], sym, ap, ◌∙◌}
use Rattle.std.specs.Str.{bytes_eq}
use Rattle.std.proofs.lemmas.Option.{slice_get-get_or}
use Rattle.std.proofs.lemmas.Map.Keys.{any_passes_from_place}
use Rattle.relay_command.specs.BoxWords.{name_in}
use Rattle.relay_command.proofs.NamesLemmas.{get-map}
use Rattle.relay_command.proofs.names.is_among.Goals as goal

pub returns-then-eq : goal.returns-then-eq
returns-then-eq c =
    sym (any_passes_from_place _ _ c.words.other-index _ (get-map (λ w. w.now) c.args.words.now c.words.other-index _ (slice_get-get_or c.args.words.now c.words.other-index (record { ref_ptr = (0, 0); now = [] }) c.words-test.true))
    (ap (λ (n : List ℕ). bytes_eq n c.args.name.now) (ap name_in (sym c.as_bytes.ensures.value) ∙ sym c.name_in.ensures) ∙ sym c.eq.ensures ∙ c.if-eq.true))
