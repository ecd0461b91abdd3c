-- The lines of a body whose front is statements.
use Rattle.std.proofs.Common.{◌≡◌, ℕ, ◌+◌, true, false, List, [], ◌∷◌, ◌++◌, length, Some, refl, sym, ap, ◌∙◌, arith, append_assoc, append-nil, length-append}
use Rattle.std.specs.Prelude.{nat_lt, option_and_then}
use Rattle.std.specs.List.{list_all}
use Rattle.std.proofs.lemmas.Bool.{and_parts}
use Rattle.std.proofs.lemmas.List.Elements.{All-nil, All-cons, All-append}
use Rattle.std.proofs.lemmas.Bool.Decides.{nat_tests}
use Rattle.yarn_blocks.specs.declared.body_line.Spot.{Spot}
use Rattle.yarn_blocks.specs.declared.entry.Entry.{Entry}
use Rattle.yarn_blocks.specs.declared.entry.Simple.{Simple}
use Rattle.yarn_blocks.specs.declared.entry.What.TheVariants as what
use Rattle.yarn_blocks.specs.declared.tree.Stmt.{Stmt, Line, Options', If', Set, Declare, Jump, JumpTo, Stop, Call, Command}
use Rattle.yarn_blocks.specs.Tree.{Stmts, Nil, Cons, Leaf, stmts_then}
use Rattle.yarn_blocks.specs.View.{stmt_of, stmts_of}
use Rattle.yarn_blocks.specs.Entries.{marks_of}
use Rattle.yarn_blocks.specs.BodyLines.{is_leaf, leaf_of, entry_at, entries_at, IsBare, AreMarked, AreLines}
use Rattle.yarn_blocks.specs.BodyLine.{IsBareWhat, Passed}
use Rattle.yarn_blocks.specs.Reading.{go, step, finish, read}
use Rattle.yarn_blocks.specs.Building.{behind, read_behind}
use Rattle.yarn_blocks.specs.Outline.{verdict_behind, verdict_in}
use Rattle.yarn_blocks.proofs.HeldLemmas.{stmts-assoc, stmts-nil}

lines-end : (ss : List Stmt) (ps : List Spot) (s : Stmt) (p : Spot) → length ss ≡ length ps → entries_at (ss ++ s ∷ []) (ps ++ p ∷ []) ≡ entries_at ss ps ++ entry_at s p ∷ []
lines-end [] [] s p e = refl
lines-end [] (q ∷ ps) s p e = absurd (omega arith)
lines-end (t ∷ ss) [] s p e = absurd (omega arith)
lines-end (t ∷ ss) (q ∷ ps) s p e = ap (λ l. entry_at t q ∷ l) (lines-end ss ps s p (omega arith))

leaves-end : (ss : List Stmt) (s : Stmt) → list_all is_leaf ss ≡ true → is_leaf s ≡ true → list_all is_leaf (ss ++ s ∷ []) ≡ true
leaves-end [] s all one = rw one refl
leaves-end (t ∷ ss) s all one =
    let both = and_parts (is_leaf t) (list_all is_leaf ss) all in
    rw (both.0, leaves-end ss s both.1 one) refl

marked-end : (ss : List Stmt) (ps : List Spot) (s : Stmt) (p : Spot) → AreMarked ss ps → (p.is_bare ≡ true → IsBare s) → length ss ≡ length ps → AreMarked (ss ++ s ∷ []) (ps ++ p ∷ [])
marked-end [] [] s p marked one e = (one, tt)
marked-end [] (q ∷ ps) s p marked one e = absurd (omega arith)
marked-end (t ∷ ss) [] s p marked one e = absurd (omega arith)
marked-end (t ∷ ss) (q ∷ ps) s p marked one e = (marked.0, marked-end ss ps s p marked.1 one (omega arith))

-- one more statement with its place
pub lines_more : (ss : List Stmt) (ps : List Spot) (s : Stmt) (p : Spot) → AreLines ss ps → is_leaf s ≡ true → (p.is_bare ≡ true → IsBare s) → AreLines (ss ++ s ∷ []) (ps ++ p ∷ [])
lines_more ss ps s p are one bare = record {
  as_many = omega (arith, are.as_many, length-append ss (s ∷ []), length-append ps (p ∷ []));
  leaves = leaves-end ss s are.leaves one;
  marked = marked-end ss ps s p are.marked bare are.as_many;
}

-- one line more that is bare is passed
pub pass_more : (all : List Entry) (s : Stmt) (ss : List Stmt) (p : Spot) (ps : List Spot) (rest : List Entry) →
    Passed all (entries_at (s ∷ ss) (p ∷ ps) ++ rest) → IsBare s → Passed all (entries_at ss ps ++ rest)
pass_more all s ss p ps rest passed is = record {
  bare = passed.bare ++ entry_at s p ∷ [];
  split = passed.split ∙ sym (append_assoc passed.bare (entry_at s p ∷ []) (entries_at ss ps ++ rest));
  are_bare = All-append (λ (x : Entry). IsBareWhat x.what) passed.bare (entry_at s p ∷ []) passed.are_bare (All-cons (λ (x : Entry). IsBareWhat x.what) (entry_at s p) [] (of s is) (All-nil (λ (x : Entry). IsBareWhat x.what)));
}
  where
    of : (s : Stmt) → IsBare s → IsBareWhat (what.Statement (leaf_of s))
    of (Line text) is = is
    of (Options' n os) is = absurd is
    of (If' n cs last e) is = absurd is
    of (Set head name op v) is = absurd is
    of (Declare head name value kind) is = absurd is
    of (Jump head title) is = absurd is
    of (JumpTo head v) is = absurd is
    of (Stop head) is = absurd is
    of (Call head v) is = absurd is
    of (Command text) is = absurd is

-- where nothing is open, no line is too little deep
no-test : (i : ℕ) → nat_lt i 0 ≡ false
no-test i = grind (arith, nat_tests)

leaf-view : (s : Stmt) → is_leaf s ≡ true → stmt_of s ≡ Leaf (leaf_of s)
leaf-view (Line text) e = refl
leaf-view (Options' n os) e = absurd cc
leaf-view (If' n cs last end) e = absurd cc
leaf-view (Set head name op v) e = refl
leaf-view (Declare head name value kind) e = refl
leaf-view (Jump head title) e = refl
leaf-view (JumpTo head v) e = refl
leaf-view (Stop head) e = refl
leaf-view (Call head v) e = refl
leaf-view (Command text) e = refl

leaf-step : (b : Stmts) (s : Stmt) (p : Spot) → is_leaf s ≡ true → step (behind b) (entry_at s p) ≡ Some (behind (stmts_then b (Cons (stmt_of s) Nil)))
leaf-step b s p e = rw (no-test p.indent, leaf-view s e) refl

lines-go : (ss : List Stmt) (ps : List Spot) (b : Stmts) (rest : List Entry) → length ss ≡ length ps → list_all is_leaf ss ≡ true →
    go (behind b) (entries_at ss ps ++ rest) ≡ go (behind (stmts_then b (stmts_of ss))) rest
lines-go [] ps b rest e all = ap (λ d. go (behind d) rest) (sym (stmts-nil b))
lines-go (s ∷ ss) [] b rest e all = absurd (omega arith)
lines-go (s ∷ ss) (p ∷ ps) b rest e all =
    let both = and_parts (is_leaf s) (list_all is_leaf ss) all in
    ap (option_and_then (λ t. go t (entries_at ss ps ++ rest))) (leaf-step b s p both.0)
    ∙ lines-go ss ps (stmts_then b (Cons (stmt_of s) Nil)) rest (omega arith) both.1
    ∙ ap (λ d. go (behind d) rest) (stmts-assoc b (Cons (stmt_of s) Nil) (stmts_of ss))

-- the statements in front are read as they stand
pub lines_read : (ss : List Stmt) (ps : List Spot) (rest : List Entry) → AreLines ss ps → read (entries_at ss ps ++ rest) ≡ read_behind (stmts_of ss) rest
lines_read ss ps rest are = ap (option_and_then finish) (lines-go ss ps Nil rest are.as_many are.leaves)

lines-verdict : (ss : List Stmt) (ps : List Spot) (before : ℕ) (rest : List Entry) → length ss ≡ length ps →
    verdict_behind before (marks_of (entries_at ss ps ++ rest)) ≡ verdict_behind (before + length ss) (marks_of rest)
lines-verdict [] ps before rest e = ap (λ n. verdict_behind n (marks_of rest)) (omega arith)
lines-verdict (s ∷ ss) [] before rest e = absurd (omega arith)
lines-verdict (s ∷ ss) (p ∷ ps) before rest e =
    rw (no-test p.indent) (lines-verdict ss ps (before + 1) rest (omega arith) ∙ ap (λ n. verdict_behind n (marks_of rest)) (omega arith))

-- statements in front tell nothing but their count
pub lines_judged : (ss : List Stmt) (ps : List Spot) (rest : List Entry) → AreLines ss ps → verdict_in (marks_of (entries_at ss ps ++ rest)) ≡ verdict_behind (length ss) (marks_of rest)
lines_judged ss ps rest are = lines-verdict ss ps 0 rest are.as_many ∙ ap (λ n. verdict_behind n (marks_of rest)) (omega arith)

pub lines_length : (ss : List Stmt) (ps : List Spot) (rest : List Entry) → length ss ≡ length ps → length (entries_at ss ps ++ rest) ≡ length ss + length rest
lines_length [] ps rest e = omega arith
lines_length (s ∷ ss) [] rest e = absurd (omega arith)
lines_length (s ∷ ss) (p ∷ ps) rest e = omega (arith, lines_length ss ps rest (omega arith))

-- one more line behind the statements
pub rest_more : (a : List Entry) (rest new : List Entry) (x : Entry) → new ≡ rest ++ x ∷ [] → a ++ new ≡ (a ++ rest) ++ x ∷ []
rest_more a rest new x e = ap (λ l. a ++ l) e ∙ sym (append_assoc a rest (x ∷ []))

line-more : (ss : List Stmt) (ps : List Spot) (s : Stmt) (p : Spot) → length ss ≡ length ps → entries_at (ss ++ s ∷ []) (ps ++ p ∷ []) ++ [] ≡ (entries_at ss ps ++ []) ++ entry_at s p ∷ []
line-more ss ps s p e =
    append-nil (entries_at (ss ++ s ∷ []) (ps ++ p ∷ [])) ∙ lines-end ss ps s p e ∙ ap (λ l. l ++ entry_at s p ∷ []) (sym (append-nil (entries_at ss ps)))

-- one more statement where nothing stands behind the others
pub line_more : (ss new_ss : List Stmt) (ps new_ps : List Spot) (s : Stmt) (p : Spot) (w : Simple) (rest all : List Entry) → AreLines ss ps → rest ≡ [] → new_ss ≡ ss ++ s ∷ [] → new_ps ≡ ps ++ p ∷ [] → leaf_of s ≡ w → entries_at ss ps ++ rest ≡ all →
    entries_at new_ss new_ps ++ rest ≡ all ++ (record { line = p.line; indent = p.indent; what = what.Statement w }) ∷ []
line_more ss new_ss ps new_ps s p w rest all are none e f same is =
    rw (e, f, ← is, ← same, none) (line-more ss ps s p are.as_many)
