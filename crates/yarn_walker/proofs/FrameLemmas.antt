-- What is to be done, where a body is begun, or has no statement left.
use Rattle.std.proofs.Common.{◌≡◌, List, [], ◌∷◌, ◌++◌, length, Bor, refl, sym, ap, ◌∙◌, arith}
use Rattle.yarn_blocks.specs.declared.tree.Stmt.{Stmt}
use Rattle.yarn_blocks.specs.Tree.{Nil, Cons, stmts_then}
use Rattle.yarn_blocks.specs.View.{stmt_of, stmts_of}
use Rattle.yarn_blocks.proofs.HeldLemmas.{stmts-assoc, stmts-nil}
use Rattle.yarn_walker.specs.Frames.{joined, within}

-- the body that stands last is done first
pub joined-last : (outer : List (Bor (List Stmt))) (body : Bor (List Stmt)) → joined (outer ++ body ∷ []) ≡ within body.now outer
joined-last [] body = sym (stmts-nil (stmts_of body.now))
joined-last (first ∷ outer) body =
    ap (λ b. stmts_then b (stmts_of first.now)) (joined-last outer body) ∙ stmts-assoc (stmts_of body.now) (joined outer) (stmts_of first.now)

pub within-none : (body : List Stmt) → within body [] ≡ stmts_of body
within-none body = stmts-nil (stmts_of body)

pub within-pushed : (inner body : Bor (List Stmt)) (before after : List (Bor (List Stmt))) → after ≡ before ++ body ∷ [] →
    within inner.now after ≡ stmts_then (stmts_of inner.now) (within body.now before)
within-pushed inner body before after e = ap (stmts_then (stmts_of inner.now)) (ap joined e ∙ joined-last before body)

pub within-first : (body rest : List Stmt) (first : Stmt) (outer : List (Bor (List Stmt))) → body ≡ first ∷ rest →
    within body outer ≡ Cons (stmt_of first) (within rest outer)
within-first body rest first outer e = ap (λ ss. within ss outer) e

pub within-popped : (body : List Stmt) (next : Bor (List Stmt)) (before after : List (Bor (List Stmt))) → length body ≡ 0 → before ≡ after ++ next ∷ [] →
    within body before ≡ within next.now after
within-popped [] next before after done e = ap joined e ∙ joined-last after next
within-popped (s ∷ body) next before after done e = absurd (omega arith)

pub within-over : (body : List Stmt) (outer : List (Bor (List Stmt))) → length body ≡ 0 → length outer ≡ 0 → within body outer ≡ Nil
within-over [] [] done none = refl
within-over [] (next ∷ outer) done none = absurd (omega arith)
within-over (s ∷ body) outer done none = absurd (omega arith)
