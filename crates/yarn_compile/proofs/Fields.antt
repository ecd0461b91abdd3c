-- Each field of the code of an accepted project is as it may be.
use Rattle.std.proofs.Common.{◌≡◌, ℕ, ◌+◌, ◌<◌, ◌≤◌, List, [], ◌∷◌, length, map, arith, refl}
use Rattle.std.proofs.lemmas.List.{length-map}
use Rattle.yarn_base.specs.declared.SourceFile.{SourceFile}
use Rattle.yarn_value.specs.declared.signature.Signature.{Signature}
use Rattle.yarn_items.specs.Laws.{ItemsAreFound}
use Rattle.yarn_nodes.specs.declared.node.FileLines.{FileLines}
use Rattle.yarn_nodes.specs.Laws.{IsWellTitled}
use Rattle.yarn_tree.specs.Laws.{ReadExactly, nodes_of}
use Rattle.yarn_tree.specs.Trees.{grown}
use Rattle.yarn_meaning.specs.First.{Placed, nodes_from}
use Rattle.yarn_meaning.specs.Texts.{said_in, said_in_files}
use Rattle.yarn_meaning.proofs.BaseLemmas.{part-apart, files-part, ids-apart}
use Rattle.yarn_kinds.proofs.Typed.{accepted_typed}
use Rattle.yarn_code.specs.declared.program.CodeNode.{CodeNode}
use Rattle.yarn_code.specs.declared.program.Program.{Program}
use Rattle.yarn_code.specs.Fields.{HasOperands, IsName, IsVariableField, IsFunctionField, IsNodeField, IsLineField}
use Rattle.yarn_check.specs.Shapes.{IsValidNode}
use Rattle.yarn_compile.specs.Base.{base_rows}
use Rattle.yarn_compile.specs.Code.{Terms, terms_of, node_code, body_code, code_of}
use Rattle.yarn_compile.specs.Correct.{Fielded}
use Rattle.yarn_compile.proofs.Parts.{Each, each_all}
use Rattle.yarn_compile.proofs.KnownLines.{rows_are}
use Rattle.yarn_compile.proofs.KnownVariables.{each_from_all}
use Rattle.yarn_compile.proofs.Accepted.{valid}
use Rattle.yarn_compile.proofs.Texts.{AreTexts}
use Rattle.yarn_compile.proofs.AcceptedTexts.{PlacedTexts, texts_of_accepted}
use Rattle.yarn_compile.proofs.FieldFunctions.{functions_fields, short_calls}
use Rattle.yarn_compile.proofs.FieldNodes.{placed_from, titles_named, titles_unique, names_length, filed_from, body_some}
use Rattle.yarn_compile.proofs.FieldLines.{HasId, ids_some, rows_fields, ids_unique}
use Rattle.yarn_compile.proofs.FieldTrees.{FineAll, trees_fine}
use Rattle.yarn_compile.proofs.FieldCode.{code_fine, all_operands}
use Rattle.yarn_compile.proofs.FieldVariables.{variables_fields, variables_unique}

module _ (terms : Terms) (p : Program) (functions : Each IsFunctionField p.functions) where
  node_field : (n : Placed) → IsName n.node.title → n.file < length p.files → FineAll n.node.body → AreTexts n.node.body →
      IsValidNode p (node_code terms n) →
      IsNodeField p (node_code terms n)
  node_field n named filed fine texts known = record {
    named = named;
    filed = filed;
    some = body_some terms n.node;
    operands = each_all (λ c. HasOperands c.instr) (body_code terms n.node)
        (all_operands (body_code terms n.node) (code_fine terms n.node fine texts) (short_calls p functions (node_code terms n) known));
  }

  nodes_fields : (ns : List Placed) → Each (λ (n : Placed). IsName n.node.title) ns → Each (λ (n : Placed). n.file < length p.files) ns →
      Each (λ (n : Placed). FineAll n.node.body) ns → Each (λ (n : Placed). AreTexts n.node.body) ns → Each (IsValidNode p) (map (node_code terms) ns) →
      Each (IsNodeField p) (map (node_code terms) ns)
  nodes_fields [] named filed fine texts known = tt
  nodes_fields (n ∷ ns) named filed fine texts known =
      (node_field n named.0 filed.0 fine.0 texts.0 known.0, nodes_fields ns named.1 filed.1 fine.1 texts.1 known.1)

-- each field of the code of an accepted project is as it may be
pub fielded : ItemsAreFound → ReadExactly → Fielded
fielded items_found exactly signatures sources lines entries accepted =
    let files = map grown lines in
    let terms = terms_of signatures entries files in
    let p : Program = code_of signatures entries files in
    let placed = nodes_from 0 files in
    let is = (exactly signatures sources lines).0 accepted.read in
    let typed = accepted_typed exactly signatures sources lines entries accepted in
    let functions = functions_fields terms (each_from_all IsFunctionField signatures accepted.proper.each) p.nodes in
    let titled = titles_named sources lines is.have (each_from_all IsWellTitled (nodes_of lines) is.named.titled) in
    let fine = trees_fine sources lines is.have in
    let texts = each_from_all PlacedTexts placed (texts_of_accepted items_found exactly signatures sources lines entries accepted) in
    let known = each_from_all (IsValidNode p) p.nodes (valid items_found exactly signatures sources lines entries accepted) in
    let filed = filed_from (length p.files) 0 files (omega (arith, names_length files)) in
    let ids = placed_from (λ n. Each HasId (said_in n.body)) 0 files (ids_some sources lines is.have) in
    record {
      variables = each_all IsVariableField p.variables (variables_fields terms signatures files entries accepted.typed fine titled);
      variables_differ = variables_unique terms lines entries is.named.titles_differ typed.apart typed.unreserved;
      functions = each_all IsFunctionField p.functions functions.each;
      functions_differ = functions.differ;
      nodes = each_all (IsNodeField p) p.nodes
          (nodes_fields terms p functions.each placed (placed_from (λ n. IsName n.title) 0 files titled) filed (placed_from (λ n. FineAll n.body) 0 files fine) texts known);
      nodes_differ = titles_unique terms lines is.named.titles_differ;
      lines = each_all (IsLineField p) p.lines (rows_fields p 0 placed (omega (arith, length-map placed (node_code terms))) filed ids texts);
      lines_differ = ids_unique (base_rows files) (said_in_files files) (rows_are files) (part-apart (files-part lines) (ids-apart signatures sources lines accepted.read));
    }
