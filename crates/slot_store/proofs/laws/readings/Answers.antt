use Rattle.std.proofs.Common.{sym, subst}
use Rattle.slot_store.specs.Reading.{OpensAs, area_reading}
use Rattle.slot_store.specs.Records.{stored_record, shot_in}
use Rattle.slot_store.proofs.Places.Shown.{holds_again, holds_shown, holds_text, none_shown}
use Rattle.slot_store.proofs.laws.readings.Goals as goal

pub returns : goal.returns
unfolding stored_record area_reading
returns c = record {
  content = λ fault_at area c text is. holds_shown fault_at area text (shot_in area c) is;
  fits_grammar = λ fault_at area c text is. holds_text fault_at area text (shot_in area c) is;
  none = λ fault_at area c is. none_shown fault_at area (shot_in area c) is;
  undamaged = λ fault_at area c text is. subst (λ o. OpensAs area o c) (sym (holds_shown fault_at area text (shot_in area c) is))
      (holds_again fault_at area text (shot_in area c) is);
}
