use Rattle.std.proofs.Common.{◌∙◌, ap, is_some}
use mathlib.Core.Path.{fun_ext}
use Rattle.std.proofs.lemmas.Map.Text.{btree_map_updates_str}
use Rattle.yarn_tag.proofs.SetLemmas.{is_some-cond}
use Rattle.yarn_tag.proofs.sets.Ids.insert.Goals as goal

pub returns : goal.returns
returns c = fun_ext (λ other.
    ap is_some (btree_map_updates_str c.args.id.now c.args.self.now.map c.insert.new.self _ c.in_ok-_before.ensures.updates other) ∙ is_some-cond _ _ _)
