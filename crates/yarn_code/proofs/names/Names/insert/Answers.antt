use Rattle.std.proofs.Common.{◌≡◌, ◌∙◌, ap, Bool, true, false, cond, Option, Some, is_some, refl, not, ◌&&◌}
use mathlib.Core.Path.{fun_ext}
use Rattle.std.proofs.lemmas.Map.Text.{btree_map_updates_str}
use Rattle.yarn_code.proofs.names.Names.insert.Goals as goal

-- a look-up that finds a value where the test holds, and else what it found before
none-cond : {X : Type 0} (test : Bool) (x : X) (o : Option X) → not (is_some (cond test (Some x) o)) ≡ (not test && not (is_some o))
none-cond true x o = refl
none-cond false x o = refl

pub returns : goal.returns
returns c = fun_ext (λ other.
    ap (λ o. not (is_some o)) (btree_map_updates_str c.args.name.now c.args.self.now.map c.insert.new.self _ c.in_ok-_before.ensures.updates other) ∙ none-cond _ _ _)
