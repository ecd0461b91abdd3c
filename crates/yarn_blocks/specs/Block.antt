-- What the lines of a body stand for: cuts of the list, with the four cases of a block.
-- Source: docs/language.md, Structure of a body.
use Rattle.std.specs.Prelude.{◌≡◌, ℕ, List, [], ◌∷◌, ◌++◌, nat_lt, if◌then◌else◌}
use Rattle.yarn_blocks.specs.declared.tree.Head.{Head}
use Rattle.yarn_blocks.specs.declared.entry.Entry.{Entry}
use Rattle.yarn_blocks.specs.declared.entry.Simple.{Simple}
use Rattle.yarn_blocks.specs.declared.entry.What.TheVariants.{Statement, Offer, If, ElseIf, Else, EndIf}
use Rattle.yarn_blocks.specs.Tree.{Offered, Asked, Stmts, Nil, Cons, Leaf, Choice, Clauses, NoClauses, AndClause, Last, NoElse, ElseOf, and_option}

-- the longest run of entries in front whose indent is greater than k
abbrev pub run_of : ℕ → List Entry → List Entry
run_of k [] = []
run_of k (x ∷ xs) = if nat_lt k x.indent then x ∷ run_of k xs else []

mutual
  -- The entries, before those that stand behind them, are a block that stands for the statements.
  pub data Block : List Entry → List Entry → Stmts → Type 0 where
    empty : {behind : List Entry} → Block [] behind Nil
    statement : {x : Entry} {n : Simple} {xs behind : List Entry} {b : Stmts} →
        x.what ≡ Statement n → Block xs behind b → Block (x ∷ xs) behind (Cons (Leaf n) b)
    -- its run is measured over the list and the entries behind, and ends within the list; it joins the group that follows
    option : {x : Entry} {n : Offered} {run xs behind : List Entry} {body b : Stmts} →
        x.what ≡ Offer n.text n.condition → run_of x.indent ((run ++ xs) ++ behind) ≡ run → Block run (xs ++ behind) body → Block xs behind b →
        Block (x ∷ (run ++ xs)) behind (and_option n body b)
    choice : {x : Entry} {n : Asked} {e : Head} {xs rest ys behind : List Entry} {b c : Stmts} {cs : Clauses} {last : Last} →
        x.what ≡ If n.head n.condition → Block xs (rest ++ (ys ++ behind)) b → Tail rest (ys ++ behind) cs last e → Block ys behind c →
        Block (x ∷ (xs ++ (rest ++ ys))) behind (Cons (Choice (AndClause n b cs) last e) c)

  -- The entries are what is left of an `if` from an `elseif`, an `else` or the `endif` on.
  pub data Tail : List Entry → List Entry → Clauses → Last → Head → Type 0 where
    ends : {x : Entry} {e : Head} {behind : List Entry} →
        x.what ≡ EndIf e → Tail (x ∷ []) behind NoClauses NoElse e
    otherwise : {x y : Entry} {n e : Head} {xs behind : List Entry} {b : Stmts} →
        x.what ≡ Else n → Block xs (y ∷ behind) b → y.what ≡ EndIf e → Tail (x ∷ (xs ++ y ∷ [])) behind NoClauses (ElseOf n b) e
    next : {x : Entry} {n : Asked} {e : Head} {xs rest behind : List Entry} {b : Stmts} {cs : Clauses} {last : Last} →
        x.what ≡ ElseIf n.head n.condition → Block xs (rest ++ behind) b → Tail rest behind cs last e → Tail (x ∷ (xs ++ rest)) behind (AndClause n b cs) last e

-- some list of entries that begins so is a block
pub record Viable (xs : List Entry) : Type 0 where
  pub more : List Entry
  pub stmts : Stmts
  pub block : Block (xs ++ more) [] stmts
