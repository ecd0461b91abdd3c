-- The bodies that are begun, as one list of statements.
use Rattle.std.specs.Prelude.{List, [], ◌∷◌}
use Rattle.std.specs.Borrow.{Bor}
use Rattle.yarn_blocks.specs.declared.tree.Stmt.{Stmt}
use Rattle.yarn_blocks.specs.Tree.{Stmts, Nil, stmts_then}
use Rattle.yarn_blocks.specs.View.{stmts_of}
use Rattle.yarn_walker.specs.declared.frames.Frames.{Frames}

-- the bodies around the innermost, of which the outermost stands first and comes last
abbrev pub joined : List (Bor (List Stmt)) → Stmts
joined [] = Nil
joined (body ∷ bodies) = stmts_then (joined bodies) (stmts_of body.now)

abbrev pub within : List Stmt → List (Bor (List Stmt)) → Stmts
within body outer = stmts_then (stmts_of body) (joined outer)

-- all that is still to be done
abbrev pub rest_of : Frames → Stmts
rest_of frames = within frames.body.now frames.outer.items
