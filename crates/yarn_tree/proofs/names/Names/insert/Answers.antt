use Rattle.std.proofs.Common.{◌∙◌, ap, is_some}
use mathlib.Core.Path.{fun_ext}
use Rattle.std.proofs.lemmas.Map.Text.{btree_map_updates_str}
use Rattle.yarn_tree.proofs.NamesLemmas.{is_some-cond}
use Rattle.yarn_tree.proofs.names.Names.insert.Goals as goal

pub returns-clause-more : goal.returns-clause-more
returns-clause-more c = fun_ext (λ other.
    ap is_some (btree_map_updates_str c.args.name.now c.args.self.now.map c.insert.new.self _ c.in_ok-before.ensures.updates other) ∙ is_some-cond _ _ _)
