use Rattle.std.proofs.Common.{◌≡◌, ◌++◌, drop}
use Rattle.yarn_render.specs.Marks.{attribute_lines}
use Rattle.yarn_render.proofs.attribute.push_attributes.Given as goal

-- with the lines of the attributes that are left, the text is what it is at the end
abbrev pub invariant-loop-attribute : goal.invariant-loop-attribute
invariant-loop-attribute l = l.out ++ attribute_lines (drop l.attribute-index l.attributes) ≡ l.initial.out ++ attribute_lines l.attributes
