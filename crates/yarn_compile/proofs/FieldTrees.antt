-- The statements of an accepted project are fine: their expressions, names, values and titles.
use Rattle.std.proofs.Common.{◌≡◌, ℕ, ◌≤◌, List, [], ◌∷◌, ◌++◌, length, map, Option, Some, None, refl, subst}
use Rattle.std.proofs.lemmas.Option.{same_Some}
use Rattle.yarn_base.specs.declared.SourceFile.{SourceFile}
use Rattle.yarn_expr.specs.declared.tree.Expr.{Expr}
use Rattle.yarn_commands.specs.declared.command.Command.{Command}
use Rattle.yarn_commands.specs.declared.command.Command.TheVariants as command
use Rattle.yarn_items.specs.declared.item.Item.{Item}
use Rattle.yarn_items.specs.declared.item.Item.TheVariants as item
use Rattle.yarn_blocks.specs.declared.entry.Entry.{Entry}
use Rattle.yarn_blocks.specs.declared.entry.Simple.{Simple}
use Rattle.yarn_blocks.specs.declared.entry.Simple.TheVariants as simple
use Rattle.yarn_blocks.specs.declared.entry.What.{What}
use Rattle.yarn_blocks.specs.declared.entry.What.TheVariants as what
use Rattle.yarn_blocks.specs.declared.tree.Head.{Head}
use Rattle.yarn_blocks.specs.Block.{Block, empty, statement, option, choice, Tail, ends, otherwise, next}
use Rattle.yarn_blocks.specs.Reading.{read}
use Rattle.yarn_blocks.specs.Tree as T
use Rattle.yarn_blocks.specs.Tree.{Leaf, Group, Choice, Nil, Cons, NoOptions, AndOption, NoClauses, AndClause, NoElse, ElseOf, Offered, and_option}
use Rattle.yarn_blocks.proofs.Viable.{read-block}
use Rattle.yarn_nodes.specs.declared.node.FileLines.{FileLines}
use Rattle.yarn_nodes.specs.declared.node.NodeLines.{NodeLines}
use Rattle.yarn_nodes.specs.Entries.{ItemAt, command_at, what_at, id_in, said_by, AreEntries}
use Rattle.yarn_nodes.specs.Ids.{HasIds}
use Rattle.yarn_nodes.specs.Lines.{IsNode, AreNodes, no_node, first_node, HasLines}
use Rattle.yarn_tree.specs.Project.{AllHaveLines}
use Rattle.yarn_tree.specs.Trees.{NodeTree, FileTree, stmts_or_none, grown_node, grown}
use Rattle.yarn_code.specs.Fields.{IsFitting}
use Rattle.yarn_compile.proofs.Parts.{Each, each_append, each_front, each_back}
use Rattle.yarn_compile.proofs.KnownLines.{EachNode}
use Rattle.yarn_compile.proofs.FieldCharacters.{IsVariableName}
use Rattle.yarn_compile.proofs.FieldExpressions.{FineExpr}
use Rattle.yarn_compile.proofs.FieldCommands.{FineCommand}
use Rattle.yarn_compile.proofs.FieldItems.{FineIf, FineItem, items_fine}
use Rattle.yarn_compile.proofs.FieldNodes.{files_grown}

-- ---- statements

abbrev pub FineSimple : Simple → Type 0
FineSimple (simple.Line text) = Each FineExpr text.holes
FineSimple (simple.Command text) = Each FineExpr text.holes
FineSimple (simple.Set head name op e) = IsVariableName name × FineExpr e
FineSimple (simple.Declare head name v kind) = IsVariableName name × IsFitting v
FineSimple (simple.Jump head title) = length title ≤ 65536
FineSimple (simple.JumpTo head e) = FineExpr e
FineSimple (simple.Stop head) = Unit {0}
FineSimple (simple.Call head e) = FineExpr e

abbrev pub FineOffered : Offered → Type 0
FineOffered n = Each FineExpr n.text.holes × FineIf n.condition

abbrev mutual
  pub FineAll : T.Stmts → Type 0
  FineAll Nil = Unit {0}
  FineAll (Cons s b) = FineOne s × FineAll b

  pub FineOne : T.Stmt → Type 0
  FineOne (Leaf s) = FineSimple s
  FineOne (Group os) = FineOptions os
  FineOne (Choice cs last e) = FineClauses cs × FineLast last

  pub FineOptions : T.Options → Type 0
  FineOptions NoOptions = Unit {0}
  FineOptions (AndOption n body os) = FineOffered n × FineAll body × FineOptions os

  pub FineClauses : T.Clauses → Type 0
  FineClauses NoClauses = Unit {0}
  FineClauses (AndClause n body cs) = FineExpr n.condition × FineAll body × FineClauses cs

  pub FineLast : T.Last → Type 0
  FineLast NoElse = Unit {0}
  FineLast (ElseOf head body) = FineAll body

-- ---- the statements of a block

abbrev FineWhat : What → Type 0
FineWhat (what.Statement s) = FineSimple s
FineWhat (what.Offer text asked) = Each FineExpr text.holes × FineIf asked
FineWhat (what.If head e) = FineExpr e
FineWhat (what.ElseIf head e) = FineExpr e
FineWhat (what.Else head) = Unit {0}
FineWhat (what.EndIf head) = Unit {0}

abbrev FineEntry : Entry → Type 0
FineEntry x = FineWhat x.what

and_fine : (n : Offered) (body b : T.Stmts) → FineOffered n → FineAll body → FineAll b → FineAll (and_option n body b)
and_fine n body Nil own inner more = ((own, inner, tt), tt)
and_fine n body (Cons (Leaf m) b) own inner more = ((own, inner, tt), more)
and_fine n body (Cons (Group os) b) own inner more = ((own, inner, more.0), more.1)
and_fine n body (Cons (Choice cs last e) b) own inner more = ((own, inner, tt), more)

mutual
  block_fine : {xs behind : List Entry} {b : T.Stmts} → Block xs behind b → Each FineEntry xs → FineAll b
  block_fine empty h = tt
  block_fine (statement {x = x} {n = n} {xs = xs} {b = b} w r) h = (subst FineWhat w h.0, block_fine r h.1)
  block_fine (option {x = x} {n = n} {run = run} {xs = xs} {body = body} {b = b} w e first r) h =
      and_fine n body b (subst FineWhat w h.0) (block_fine first (each_front FineEntry run xs h.1)) (block_fine r (each_back FineEntry run xs h.1))
  block_fine (choice {x = x} {n = n} {e = e} {xs = xs} {rest = rest} {ys = ys} {b = b} {c = c} {cs = cs} {last = last} w first more r) h =
      let behind = each_back FineEntry xs (rest ++ ys) h.1 in
      let tail = tail_fine more (each_front FineEntry rest ys behind) in
      (((subst FineWhat w h.0, block_fine first (each_front FineEntry xs (rest ++ ys) h.1), tail.0), tail.1), block_fine r (each_back FineEntry rest ys behind))

  tail_fine : {xs behind : List Entry} {cs : T.Clauses} {last : T.Last} {e : Head} → Tail xs behind cs last e → Each FineEntry xs →
      FineClauses cs × FineLast last
  tail_fine (ends {x = x} {e = e} w) h = (tt, tt)
  tail_fine (otherwise {x = x} {y = y} {n = n} {e = e} {xs = xs} {b = b} w first v) h = (tt, block_fine first (each_front FineEntry xs (y ∷ []) h.1))
  tail_fine (next {x = x} {n = n} {xs = xs} {rest = rest} {b = b} {cs = cs} {last = last} w first more) h =
      let tail = tail_fine more (each_back FineEntry xs rest h.1) in
      ((subst FineWhat w h.0, block_fine first (each_front FineEntry xs rest h.1), tail.0), tail.1)

-- ---- entries

command_what : (line : ℕ) (tags : List (List ℕ)) (c : Command) (w : What) → command_at line tags c ≡ Some w → FineCommand c → FineWhat w
command_what line tags (command.If e) w is h = subst FineWhat (same_Some _ w is) h
command_what line tags (command.ElseIf e) w is h = subst FineWhat (same_Some _ w is) h
command_what line tags command.Else w is h = subst FineWhat (same_Some _ w is) tt
command_what line tags command.EndIf w is h = subst FineWhat (same_Some _ w is) tt
command_what line tags (command.Set name op e) w is h = subst FineWhat (same_Some _ w is) h
command_what line tags (command.Declare name v k) w is h = subst FineWhat (same_Some _ w is) h
command_what line tags (command.Jump title) w is h = subst FineWhat (same_Some _ w is) h
command_what line tags (command.JumpTo e) w is h = subst FineWhat (same_Some _ w is) h
command_what line tags command.Stop w is h = subst FineWhat (same_Some _ w is) tt
command_what line tags (command.Call e) w is h = subst FineWhat (same_Some _ w is) h
command_what line tags command.Game w is h = absurd cc

item_what : (line : ℕ) (id : List ℕ) (i : Item) (w : What) → what_at line id i ≡ Some w → FineItem i → FineWhat w
item_what line id (item.Line said) w is h = subst FineWhat (same_Some _ w is) h
item_what line id (item.Offer said asked) w is h = subst FineWhat (same_Some _ w is) h
item_what line id (item.Command own tags) w is h = command_what line tags own w is h
item_what line id (item.Game said) w is h = subst FineWhat (same_Some _ w is) h
item_what line id (item.FileTag tag) w is h = absurd cc
item_what line id (item.Header header) w is h = absurd cc
item_what line id item.BodyBegins w is h = absurd cc
item_what line id item.NodeEnds w is h = absurd cc

abbrev FineAt : ItemAt → Type 0
FineAt x = FineItem x.item

entries_fine : (items : List ItemAt) (entries : List Entry) → AreEntries items entries → Each FineAt items → Each FineEntry entries
entries_fine [] [] is h = tt
entries_fine [] (entry ∷ entries) is h = absurd is
entries_fine (x ∷ items) [] is h = absurd is
entries_fine (x ∷ items) (entry ∷ entries) is h =
    (item_what x.line (id_in (said_by entry.what)) x.item entry.what is.0.is h.0, entries_fine items entries is.1 h.1)

-- ---- files

abbrev FineNode : NodeLines → Type 0
FineNode n = Each FineEntry n.body

node_fine : (items : List ItemAt) (node : NodeLines) → IsNode HasIds items node → Each FineAt items → FineNode node
node_fine items node is h =
    let behind = each_back FineAt is.headers (is.begins ∷ (is.inner ++ is.ends ∷ [])) (subst (Each FineAt) is.cut h) in
    entries_fine is.inner node.body is.body (each_front FineAt is.inner (is.ends ∷ []) behind.1)

nodes_fine : {items : List ItemAt} {nodes : List NodeLines} → AreNodes HasIds items nodes → Each FineAt items → Each FineNode nodes
nodes_fine no_node h = tt
nodes_fine (first_node {items = items} {rest = rest} {node = node} {nodes = nodes} is more) h =
    (node_fine items node is (each_front FineAt items rest h), nodes_fine more (each_back FineAt items rest h))

file_fine : (source : SourceFile) (file : FileLines) → HasLines HasIds source file → Each FineNode file.nodes
file_fine source file has =
    let all = items_fine source.bytes has.items has.readable has.has_items in
    nodes_fine has.is_file.are_nodes (each_back FineAt has.is_file.front has.is_file.rest (subst (Each FineAt) has.is_file.cut all))

files_fine : (sources : List SourceFile) (files : List FileLines) → AllHaveLines sources files → Each (λ (f : FileLines). Each FineNode f.nodes) files
files_fine [] [] have = tt
files_fine [] (file ∷ files) have = absurd have
files_fine (source ∷ sources) [] have = absurd have
files_fine (source ∷ sources) (file ∷ files) have = (file_fine source file have.0, files_fine sources files have.1)

body_fine : (n : NodeLines) (o : Option T.Stmts) → read n.body ≡ o → FineNode n → FineAll (stmts_or_none o)
body_fine n None is h = tt
body_fine n (Some b) is h = block_fine (read-block n.body b is) h

-- the statements of files that have lines are fine
pub trees_fine : (sources : List SourceFile) (files : List FileLines) → AllHaveLines sources files → EachNode (λ n. FineAll n.body) (map grown files)
trees_fine sources files have = files_grown FineNode (λ n. FineAll n.body) (λ n h. body_fine n (read n.body) refl h) files (files_fine sources files have)
