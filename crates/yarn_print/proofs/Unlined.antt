-- What is printed looks at no number of a line, so files that differ in these alone are printed the same.
use Rattle.std.proofs.Common.{◌≡◌, ℕ, ◌+◌, ◌*◌, List, [], ◌∷◌, ◌++◌, codes, refl, sym, ap, ◌∙◌}
use mathlib.Core.Path.{ap₂}
use Rattle.yarn_blocks.specs.declared.entry.Entry.{Entry}
use Rattle.yarn_blocks.specs.declared.entry.Simple.{Simple}
use Rattle.yarn_blocks.specs.declared.entry.Simple.TheVariants as simple
use Rattle.yarn_blocks.specs.declared.entry.What.TheVariants as what
use Rattle.yarn_blocks.specs.Tree.{Stmt, Leaf, Group, Choice, Stmts, Nil, Cons, Options, NoOptions, AndOption, Clauses, NoClauses, AndClause, Last, NoElse, ElseOf}
use Rattle.yarn_blocks.specs.Layout.{at_depth, laid, laid_one, laid_options, laid_clauses, laid_others, laid_last, simple_without_line, stmts_without_lines, stmt_without_lines, options_without_lines, clauses_without_lines, last_without_lines}
use Rattle.yarn_blocks.specs.View.{stmts_of}
use Rattle.yarn_tree.specs.declared.tree.Node.{Node}
use Rattle.yarn_print.specs.Print.{simple_text, entry_text, entries_text, blanks, ended, headers_text, file_tags_text, node_text, nodes_text, print_of}
use Rattle.yarn_print.specs.PrintLaws.{IsSameNode, AreSameNodes, PrintsTheSame}
use Rattle.yarn_print.proofs.Laying.{entries-append}

simple-unlined : (s : Simple) → simple_text (simple_without_line s) ≡ simple_text s
simple-unlined (simple.Line text) = refl
simple-unlined (simple.Set head name op e) = refl
simple-unlined (simple.Declare head name value kind) = refl
simple-unlined (simple.Jump head title) = refl
simple-unlined (simple.JumpTo head e) = refl
simple-unlined (simple.Stop head) = refl
simple-unlined (simple.Call head e) = refl
simple-unlined (simple.Command text) = refl

-- lists of lines of the same text, one behind another
joined : (a b c d : List Entry) → entries_text a ≡ entries_text c → entries_text b ≡ entries_text d → entries_text (a ++ b) ≡ entries_text (c ++ d)
joined a b c d p q = entries-append a b ∙ ap₂ (λ s t. s ++ t) p q ∙ sym (entries-append c d)

mutual
  stmts-unlined : (b : Stmts) (depth : ℕ) → entries_text (laid depth (stmts_without_lines b)) ≡ entries_text (laid depth b)
  stmts-unlined Nil depth = refl
  stmts-unlined (Cons s b) depth =
      joined (laid_one depth (stmt_without_lines s)) (laid depth (stmts_without_lines b)) (laid_one depth s) (laid depth b) (stmt-unlined s depth) (stmts-unlined b depth)

  stmt-unlined : (s : Stmt) (depth : ℕ) → entries_text (laid_one depth (stmt_without_lines s)) ≡ entries_text (laid_one depth s)
  stmt-unlined (Leaf s) depth = ap (λ l. ended (blanks (4 * depth) ++ l) ++ []) (simple-unlined s)
  stmt-unlined (Group os) depth = options-unlined os depth
  stmt-unlined (Choice cs last e) depth =
      joined (laid_clauses depth (clauses_without_lines cs)) (laid_last depth (last_without_lines last) ++ at_depth depth (what.EndIf (record e { line = 0 })) ∷ [])
      (laid_clauses depth cs) (laid_last depth last ++ at_depth depth (what.EndIf e) ∷ []) (clauses-unlined cs depth)
      (joined (laid_last depth (last_without_lines last)) (at_depth depth (what.EndIf (record e { line = 0 })) ∷ []) (laid_last depth last) (at_depth depth (what.EndIf e) ∷ [])
      (last-unlined last depth) refl)

  options-unlined : (os : Options) (depth : ℕ) → entries_text (laid_options depth (options_without_lines os)) ≡ entries_text (laid_options depth os)
  options-unlined NoOptions depth = refl
  options-unlined (AndOption n body os) depth =
      ap (λ l. entry_text (at_depth depth (what.Offer n.text n.condition)) ++ l)
      (joined (laid (depth + 1) (stmts_without_lines body)) (laid_options depth (options_without_lines os)) (laid (depth + 1) body) (laid_options depth os)
      (stmts-unlined body (depth + 1)) (options-unlined os depth))

  clauses-unlined : (cs : Clauses) (depth : ℕ) → entries_text (laid_clauses depth (clauses_without_lines cs)) ≡ entries_text (laid_clauses depth cs)
  clauses-unlined NoClauses depth = refl
  clauses-unlined (AndClause n body cs) depth =
      ap (λ l. entry_text (at_depth depth (what.If n.head n.condition)) ++ l)
      (joined (laid (depth + 1) (stmts_without_lines body)) (laid_others depth (clauses_without_lines cs)) (laid (depth + 1) body) (laid_others depth cs)
      (stmts-unlined body (depth + 1)) (others-unlined cs depth))

  others-unlined : (cs : Clauses) (depth : ℕ) → entries_text (laid_others depth (clauses_without_lines cs)) ≡ entries_text (laid_others depth cs)
  others-unlined NoClauses depth = refl
  others-unlined (AndClause n body cs) depth =
      ap (λ l. entry_text (at_depth depth (what.ElseIf n.head n.condition)) ++ l)
      (joined (laid (depth + 1) (stmts_without_lines body)) (laid_others depth (clauses_without_lines cs)) (laid (depth + 1) body) (laid_others depth cs)
      (stmts-unlined body (depth + 1)) (others-unlined cs depth))

  last-unlined : (last : Last) (depth : ℕ) → entries_text (laid_last depth (last_without_lines last)) ≡ entries_text (laid_last depth last)
  last-unlined NoElse depth = refl
  last-unlined (ElseOf n body) depth = ap (λ l. entry_text (at_depth depth (what.Else n)) ++ l) (stmts-unlined body (depth + 1))

same-stmts : (a b : Stmts) (depth : ℕ) → stmts_without_lines a ≡ stmts_without_lines b → entries_text (laid depth a) ≡ entries_text (laid depth b)
same-stmts a b depth e = sym (stmts-unlined a depth) ∙ ap (λ s. entries_text (laid depth s)) e ∙ stmts-unlined b depth

same-node : (a b : Node) → IsSameNode a b → node_text a ≡ node_text b
same-node a b is =
    ap₂ (λ h l. headers_text h ++ (ended (codes "---") ++ (l ++ ended (codes "===")))) is.headers (same-stmts (stmts_of a.body) (stmts_of b.body) 0 is.body)

same-nodes : (nodes others : List Node) → AreSameNodes nodes others → nodes_text nodes ≡ nodes_text others
same-nodes [] [] are = refl
same-nodes [] (b ∷ others) are = absurd are
same-nodes (a ∷ nodes) [] are = absurd are
same-nodes (a ∷ nodes) (b ∷ others) are = ap₂ (λ s t. s ++ t) (same-node a b are.0) (same-nodes nodes others are.1)

pub prints_the_same_law : PrintsTheSame
unfolding print_of
prints_the_same_law file other same = ap₂ (λ t n. file_tags_text t ++ n) same.tags (same-nodes file.nodes other.nodes same.nodes)
