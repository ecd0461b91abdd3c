-- Verdicts on marks, said over entries.
use Rattle.std.proofs.Common.{◌≡◌, List, [], ◌∷◌, ◌++◌, refl, sym, ap, ◌∙◌, subst, append-nil}
use Rattle.yarn_blocks.specs.declared.entry.Entry.{Entry}
use Rattle.yarn_blocks.specs.declared.verdict.Excess.{Excess}
use Rattle.yarn_blocks.specs.declared.verdict.Verdict.{Verdict}
use Rattle.yarn_blocks.specs.declared.verdict.Verdict.TheVariants as verdict
use Rattle.yarn_blocks.specs.Tree.{Stmts}
use Rattle.yarn_blocks.specs.Tree as T
use Rattle.yarn_blocks.specs.Block.{Block, Viable}
use Rattle.yarn_blocks.specs.Entries.{marks_of, HaveLines}
use Rattle.yarn_blocks.specs.Outline.{verdict_in}
use Rattle.yarn_blocks.specs.Verdict.{IsVerdict, IsBlock}
use Rattle.yarn_blocks.proofs.Outlines.{marks_tell}
use Rattle.yarn_blocks.proofs.Places.{Viable-front}
use Rattle.yarn_blocks.proofs.Viable.{one_block}

block-viable : (xs : List Entry) (b : Stmts) → Block xs [] b → Viable xs
block-viable xs b block = record { more = []; stmts = b; block = subst (λ (l : List Entry). Block l [] b) (sym (append-nil xs)) block }

-- the verdict on a block
pub record Judged (xs : List Entry) (b : Stmts) : Type 0 where
  pub excess : Excess
  pub is : verdict_in (marks_of xs) ≡ verdict.Block excess
  pub deep : excess.too_deep ≡ T.deep_in 0 b
  pub crowd : excess.too_many ≡ T.crowd_in b

pub block-judged : (xs : List Entry) (b : Stmts) → HaveLines xs → Block xs [] b → Judged xs b
block-judged xs b lines block = of (verdict_in (marks_of xs)) refl
  where
    of : (v : Verdict) → verdict_in (marks_of xs) ≡ v → Judged xs b
    of (verdict.Block excess) is =
        let told : IsBlock xs excess = subst (IsVerdict xs) is (marks_tell xs lines) in
        let same : told.stmts ≡ b = one_block told.block block in
        record { excess = excess; is = is; deep = told.deep ∙ ap (T.deep_in 0) same; crowd = told.crowd ∙ ap T.crowd_in same }
    of (verdict.Bad at line) is =
        let told = subst (IsVerdict xs) is (marks_tell xs lines) in
        let viable : Viable ((told.front ++ told.entry ∷ []) ++ told.rest) =
        subst Viable (told.cut ∙ cut told.front told.entry told.rest) (block-viable xs b block) in
        absurd (told.here (Viable-front (told.front ++ told.entry ∷ []) told.rest viable))
      where
        cut : (front : List Entry) (entry : Entry) (rest : List Entry) → front ++ entry ∷ rest ≡ (front ++ entry ∷ []) ++ rest
        cut [] entry rest = refl
        cut (x ∷ front) entry rest = ap (λ (l : List Entry). x ∷ l) (cut front entry rest)
    of verdict.Unfinished is =
        let told = subst (IsVerdict xs) is (marks_tell xs lines) in
        absurd (told.none b block)

-- a verdict that is a block tells one
pub judged-block : (xs : List Entry) (excess : Excess) → HaveLines xs → verdict_in (marks_of xs) ≡ verdict.Block excess → (b : Stmts) × Block xs [] b
judged-block xs excess lines is =
    let told : IsBlock xs excess = subst (IsVerdict xs) is (marks_tell xs lines) in
    (told.stmts, told.block)
