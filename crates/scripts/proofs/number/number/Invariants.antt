use Rattle.std.proofs.Common.{◌≡◌, ◌-◌, ◌^◌, min, take, true}
use Rattle.std.specs.Char.{is_ascii_digit}
use Rattle.std.specs.List.{list_all}
use Rattle.std.specs.Str.Parse.{digits_value}
use Rattle.scripts.proofs.number.number.Given as goal

abbrev pub invariant-digits : goal.invariant-digits
invariant-digits l = record {
  value : l.value ≡ min (digits_value 10 (take l.byte-index l.text)) (2 ^ 64 - 1);
  digits : list_all is_ascii_digit (take l.byte-index l.text) ≡ true;
}
