use Rattle.yarn_expr.proofs.ReadLaws.{answered, found_law, only_law, none_law, fraction_law, large_law}
use Rattle.yarn_expr.proofs.piece.read_expr.Goals as goal

pub returns-clause-found : goal.returns-clause-found
returns-clause-found c = found_law _ _ (answered _ _ _ _ _ _ c.read_piece.ensures c.range.ensures.value c.as_str.ensures.value)

pub returns-clause-only : goal.returns-clause-only
returns-clause-only c = only_law _ _ (answered _ _ _ _ _ _ c.read_piece.ensures c.range.ensures.value c.as_str.ensures.value)

pub returns-clause-not_expr : goal.returns-clause-not_expr
returns-clause-not_expr c = none_law _ _ (answered _ _ _ _ _ _ c.read_piece.ensures c.range.ensures.value c.as_str.ensures.value)

pub returns-clause-fraction : goal.returns-clause-fraction
returns-clause-fraction c = fraction_law _ _ (answered _ _ _ _ _ _ c.read_piece.ensures c.range.ensures.value c.as_str.ensures.value)

pub returns-clause-too_large : goal.returns-clause-too_large
returns-clause-too_large c = large_law _ _ (answered _ _ _ _ _ _ c.read_piece.ensures c.range.ensures.value c.as_str.ensures.value)
