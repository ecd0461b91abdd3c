use Rattle.std.proofs.Common.{◌≡◌, ◌++◌, drop, false, IsUtf8}
use Rattle.yarn_print.specs.Pieces.{printed}
use Rattle.yarn_print.proofs.texts.write_text.Given as goal

abbrev pub invariant-loop-hole : goal.invariant-loop-hole
invariant-loop-hole l = record {
  utf8 : IsUtf8 l.rest;
  same : l.out ++ printed l.spelling false l.rest (drop l.hole-index l.holes) ≡ l.initial.out ++ printed l.spelling false l.text l.holes;
}
