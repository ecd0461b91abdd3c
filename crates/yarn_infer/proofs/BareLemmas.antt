-- Lines without substitutions ask nothing of kinds.
use Rattle.std.proofs.Common.{◌≡◌, ℕ, List, [], ◌++◌, refl, sym, ap, ◌∙◌, append-nil}
use Rattle.yarn_blocks.specs.declared.entry.What.TheVariants as what
use Rattle.yarn_blocks.specs.declared.entry.Simple.{Simple}
use Rattle.yarn_blocks.specs.declared.entry.Simple.TheVariants as simple
use Rattle.yarn_blocks.specs.BodyLine.{IsBareWhat}
use Rattle.yarn_blocks.specs.Tree.{Stmts, Nil, Cons, Leaf, Group, Choice}
use Rattle.yarn_tree.specs.Bare.{AreBare}
use Rattle.yarn_types.specs.Units.{UnitAt}
use Rattle.yarn_infer.specs.Units.{values_unit, simple_units, stmts_units}

bare-line : (file : ℕ) (n : Simple) → IsBareWhat (what.Statement n) → simple_units file n ≡ []
bare-line file (simple.Line text) is = ap (values_unit file text.line) is.0
bare-line file (simple.Set head name op e) is = absurd is
bare-line file (simple.Declare head name value kind) is = absurd is
bare-line file (simple.Jump head title) is = absurd is
bare-line file (simple.JumpTo head e) is = absurd is
bare-line file (simple.Stop head) is = absurd is
bare-line file (simple.Call head e) is = absurd is
bare-line file (simple.Command text) is = absurd is

bare-units : (file : ℕ) (b : Stmts) → AreBare b → stmts_units file b ≡ []
bare-units file Nil are = refl
bare-units file (Cons (Leaf n) b) are = ap (λ us. us ++ stmts_units file b) (bare-line file n are.0) ∙ bare-units file b are.1
bare-units file (Cons (Group os) b) are = absurd are
bare-units file (Cons (Choice cs last e) b) are = absurd are

-- such lines add nothing
pub bare-add : (file : ℕ) (b : Stmts) (before : List UnitAt) → AreBare b → before ≡ before ++ stmts_units file b
bare-add file b before are = sym (ap (λ us. before ++ us) (bare-units file b are) ∙ append-nil before)
