-- The code of a node, and of a project.
use Rattle.std.proofs.Common.{◌≡◌, ℕ, suc, ◌+◌, ◌<◌, List, [], ◌∷◌, ◌++◌, length, map, Some, None, refl, arith, length-append, Bool, true, false, All}
use Rattle.yarn_value.specs.declared.value.Kind.TheVariants as kind
use Rattle.yarn_base.specs.declared.SourceFile.{SourceFile}
use Rattle.yarn_value.specs.declared.signature.Signature.{Signature}
use Rattle.yarn_nodes.specs.declared.node.FileLines.{FileLines}
use Rattle.yarn_tree.specs.Checks.{is_reserved_name}
use Rattle.yarn_tree.specs.Reading.{Reads, reading_of}
use Rattle.yarn_tree.specs.Trees.{NodeTree, FileTree, grown}
use Rattle.yarn_types.specs.declared.typed.TypedName.{TypedName}
use Rattle.yarn_value.specs.Visits.{count_name}
use Rattle.yarn_meaning.specs.First.{Placed, nodes_at, nodes_from}
use Rattle.yarn_meaning.specs.Texts.{said_in}
use Rattle.yarn_code.specs.declared.program.Coded.{Coded}
use Rattle.yarn_code.specs.declared.program.CodeNode.{CodeNode}
use Rattle.yarn_code.specs.declared.program.Program.{Program}
use Rattle.yarn_compile.specs.Code.{Terms, terms_of, end_code, stmts_code, size_all, body_code, node_code, code_of}
use Rattle.yarn_kinds.proofs.Fitting.{FitsAll}
use Rattle.yarn_kinds.proofs.Typed.{IsFitting}
use Rattle.yarn_check.specs.Shapes.{shape, kind_under, IsValidNode, IsValid}
use Rattle.yarn_compile.proofs.Parts.{Each, each_append, each_front, each_all, Part, then_plain, unreached}
use Rattle.yarn_compile.proofs.Whole.{valid_node}
use Rattle.yarn_compile.proofs.ExpressionShapes.{AreVariables, IsKnown, AreKnown}
use Rattle.yarn_compile.proofs.Room.{HasRoom}
use Rattle.yarn_compile.proofs.SimpleShapes.{after_if, HasLine, stop_part}
use Rattle.yarn_compile.proofs.CodeSizes.{length-stmts}
use Rattle.yarn_compile.proofs.StatementShapes.{stmts_ran}
use Rattle.yarn_compile.proofs.KnownFunctions.{functions_known}
use Rattle.yarn_compile.proofs.KnownLines.{EachNode, lines_told, in_files}
use Rattle.yarn_compile.proofs.KnownVariables.{each_from_all, variables_known, counts_known}

module _ (terms : Terms) where
  -- what is known of a node
  pub record IsReady (p : Program) (n : NodeTree) : Type 0 where
    pub fits : FitsAll terms.signatures terms.entries n.body
    pub counted : kind_under p (count_name n.title) ≡ Some kind.Number
    pub lines : Each (HasLine p) (said_in n.body)
    pub room : HasRoom 0 n.body

  node_valid : (p : Program) → AreVariables terms p → (n : Placed) → IsReady p n.node → AreKnown terms.signatures p (body_code terms n.node) → IsValidNode p (node_code terms n)
  node_valid p variables n ready known =
      let title = n.node.title in
      let c : CodeNode = node_code terms n in
      let body = stmts_code terms title 0 n.node.body in
      let stop = end_code terms title n.node.end_line in
      let long = length-stmts terms title 0 n.node.body in
      let within : 0 + size_all terms title n.node.body < length (body ++ stop) = omega (arith, length-append body stop, long) in
      let ran = stmts_ran p c terms variables title ready.counted n.node.body 0 [] ready.fits (each_front (λ x. IsKnown terms.signatures p x.instr) body stop known) ready.lines ready.room (omega arith) within in
      let last : Part p c (0 + length body) stop (Some (shape [] [])) None [] = stop_part p c terms variables title ready.counted n.node.end_line [] (omega arith) in
      valid_node p c (by_through c body stop ran.through ran.part last)
    where
      by_through : (c : CodeNode) (a b : List Coded) (t : Bool) → Part p c 0 a (Some (shape [] [])) (after_if t (shape [] [])) [] → Part p c (0 + length a) b (Some (shape [] [])) None [] → Part p c 0 (a ++ b) (Some (shape [] [])) None []
      by_through c a b true x y = then_plain p c 0 a b x y
      by_through c a b false x y = then_plain p c 0 a b x (unreached p c y)

  nodes_valid : (p : Program) → AreVariables terms p → (ns : List Placed) → Each (λ (n : Placed). IsReady p n.node) ns → Each (λ (c : CodeNode). AreKnown terms.signatures p c.code) (map (node_code terms) ns) →
      Each (IsValidNode p) (map (node_code terms) ns)
  nodes_valid p variables [] ready known = tt
  nodes_valid p variables (n ∷ ns) ready known = (node_valid p variables n ready.0 known.0, nodes_valid p variables ns ready.1 known.1)

-- ---- facts of nodes

module _ (P : NodeTree → Type 0) where
  placed_at : (file : ℕ) (ns : List NodeTree) → Each P ns → Each (λ (n : Placed). P n.node) (nodes_at file ns)
  placed_at file [] h = tt
  placed_at file (n ∷ ns) h = (h.0, placed_at file ns h.1)

  placed_from : (file : ℕ) (fs : List FileTree) → EachNode P fs → Each (λ (n : Placed). P n.node) (nodes_from file fs)
  placed_from file [] h = tt
  placed_from file (f ∷ fs) h = each_append (λ (n : Placed). P n.node) (nodes_at file f.nodes) (nodes_from (suc file) fs) (placed_at file f.nodes h.0) (placed_from (suc file) fs h.1)

each_four : {A : Type 0} (P Q R S T : A → Type 0) → ((x : A) → P x → Q x → R x → S x → T x) → (xs : List A) → Each P xs → Each Q xs → Each R xs → Each S xs → Each T xs
each_four P Q R S T f [] p q r s = tt
each_four P Q R S T f (x ∷ xs) p q r s = (f x p.0 q.0 r.0 s.0, each_four P Q R S T f xs p.1 q.1 r.1 s.1)

pub fits_each : (terms : Terms) (files : List FileTree) → IsFitting terms.signatures terms.entries files → EachNode (λ n. FitsAll terms.signatures terms.entries n.body) files
fits_each terms files typed = inner files (each_from_all _ files typed.fits)
  where
    inner : (fs : List FileTree) → Each (λ (f : FileTree). All (λ (n : NodeTree). FitsAll terms.signatures terms.entries n.body) f.nodes) fs → EachNode (λ n. FitsAll terms.signatures terms.entries n.body) fs
    inner [] h = tt
    inner (f ∷ fs) h = (each_from_all (λ (n : NodeTree). FitsAll terms.signatures terms.entries n.body) f.nodes h.0, inner fs h.1)

-- the code of a project that is read and typed is valid, where its statements have room
pub valid_with_room : (signatures : List Signature) (sources : List SourceFile) (lines : List FileLines) (entries : List TypedName) → reading_of signatures sources ≡ Reads lines →
    IsFitting signatures entries (map grown lines) → EachNode (λ n. HasRoom 0 n.body) (map grown lines) → IsValid (code_of signatures entries (map grown lines))
valid_with_room signatures sources lines entries reads typed room =
    let files = map grown lines in
    let terms = terms_of signatures entries files in
    let p : Program = code_of signatures entries files in
    let fits = fits_each terms files typed in
    let counted = counts_known terms files (each_from_all (λ (e : TypedName). is_reserved_name e.name ≡ false) entries typed.unreserved) in
    let told = in_files p files (lines_told terms sources lines reads) in
    let ready = each_four (λ (n : Placed). FitsAll signatures entries n.node.body) (λ (n : Placed). kind_under p (count_name n.node.title) ≡ Some kind.Number)
    (λ (n : Placed). Each (HasLine p) (said_in n.node.body)) (λ (n : Placed). HasRoom 0 n.node.body) (λ (n : Placed). IsReady terms p n.node)
    (λ n a b c d. record { fits = a; counted = b; lines = c; room = d }) (nodes_from 0 files)
    (placed_from (λ n. FitsAll signatures entries n.body) 0 files fits) (placed_from (λ n. kind_under p (count_name n.title) ≡ Some kind.Number) 0 files counted)
    (placed_from (λ n. Each (HasLine p) (said_in n.body)) 0 files told) (placed_from (λ n. HasRoom 0 n.body) 0 files room) in
    each_all (IsValidNode p) p.nodes
    (nodes_valid terms p (variables_known terms files fits) (nodes_from 0 files) ready (functions_known terms p refl))
