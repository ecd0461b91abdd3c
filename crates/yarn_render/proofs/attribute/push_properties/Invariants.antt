use Rattle.std.proofs.Common.{◌≡◌, ◌++◌, drop}
use Rattle.yarn_render.specs.Marks.{properties_text}
use Rattle.yarn_render.proofs.attribute.push_properties.Given as goal

-- with the properties that are left, the text is what it is at the end
abbrev pub invariant-loop-property : goal.invariant-loop-property
invariant-loop-property l = l.out ++ properties_text (drop l.property-index l.properties) ≡ l.initial.out ++ properties_text l.properties
