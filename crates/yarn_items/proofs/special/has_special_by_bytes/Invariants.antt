use Rattle.std.proofs.Common.{◌≡◌, ◌||◌, drop}
use Rattle.std.specs.List.{list_any}
use Rattle.yarn_items.specs.Simple.{is_special}
use Rattle.yarn_items.proofs.special.has_special_by_bytes.Given as goal

abbrev pub invariant-loop-byte : goal.invariant-loop-byte
invariant-loop-byte l = (l.found || list_any is_special (drop l.byte-index l.text)) ≡ list_any is_special l.text
