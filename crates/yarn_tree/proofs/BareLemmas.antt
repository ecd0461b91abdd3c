-- Lines that are said and have neither substitutions nor hashtags stand for such statements.
use Rattle.std.proofs.Common.{◌≡◌, List, [], ◌∷◌, ◌++◌, Bool, true, false, sym, ap, ◌∙◌, subst, append-nil}
use Rattle.std.specs.Prelude.{All, Option, Some, None, is_some, not}
use Rattle.std.proofs.lemmas.List.Elements.{All-head, All-tail}
use Rattle.yarn_blocks.specs.declared.entry.Entry.{Entry}
use Rattle.yarn_blocks.specs.declared.body_line.BodyLine.{BodyLine}
use Rattle.yarn_blocks.specs.BodyLine.{IsBareWhat, Passed, TakesNotable}
use Rattle.yarn_blocks.specs.Block.{Block, empty, statement, option, choice}
use Rattle.yarn_blocks.specs.Tree.{Stmts}
use Rattle.yarn_tree.specs.Bare.{AreBare}

abbrev is_bare : Entry → Type 0
is_bare x = IsBareWhat x.what

bare-stmts : {xs behind : List Entry} {b : Stmts} → Block xs behind b → All is_bare xs → AreBare b
bare-stmts empty are = tt
bare-stmts (statement {x} {n} {xs} is block) are =
    (subst IsBareWhat is (All-head is_bare x xs are), bare-stmts block (All-tail is_bare x xs are))
bare-stmts (option {x} {n} {run} {xs} is cut inner block) are = absurd (subst IsBareWhat is (All-head is_bare x (run ++ xs) are))
bare-stmts (choice {x} {n} {e} {xs} {rest} {ys} is block tail behind) are = absurd (subst IsBareWhat is (All-head is_bare x (xs ++ (rest ++ ys)) are))

pub bare-found : (lines rest : List Entry) (found : Option BodyLine) (told : Bool) (b : Stmts) → TakesNotable lines found rest → is_some found ≡ not told →
    told ≡ true → Block lines [] b → AreBare b
bare-found lines rest None told b passed is so block =
    bare-stmts block (subst (All is_bare) (sym (passed.split ∙ append-nil passed.bare)) passed.are_bare)
bare-found lines rest (Some x) told b passed is so block = absurd (never (is ∙ ap not so))
  where
    never : true ≡ false → ⊥
    never e = absurd cc
