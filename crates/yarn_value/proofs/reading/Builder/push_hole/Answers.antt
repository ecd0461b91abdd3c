use Rattle.std.proofs.Common.{◌++◌, ◌∷◌, [], ◌∙◌, ap}
use Rattle.yarn_value.specs.declared.template.Piece.TheVariants as piece
use Rattle.yarn_value.proofs.ReadingLemmas.{built-hole}
use Rattle.yarn_value.proofs.reading.Builder.push_hole.Goals as goal

pub returns : goal.returns
returns c =
    built-hole _ _ _ _ _ _ (c.in_ok-keep.ensures ∙ ap (λ r. c.args.self.now.pieces ++ piece.Run r ∷ []) c.replace-run.ensures.value) c.in_ok-keep-2.ensures
    (c.replace-run.ensures.after ∙ c.in_ok-empty.ensures)
