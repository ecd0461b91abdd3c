-- What is answered of a project and of a file, in words of their trees.
use Rattle.std.proofs.Common.{◌≡◌, ℕ, List, [], ◌∷◌, ◌++◌, map, Result, Ok, Err, refl, sym, ap, ◌∙◌}
use Rattle.std.specs.List.{flat_map}
use Rattle.yarn_nodes.specs.declared.node.FileLines.{FileLines}
use Rattle.yarn_tree.specs.declared.refusal.ProjectFault.{ProjectFault}
use Rattle.yarn_tree.specs.declared.refusal.ProjectFault.TheVariants.{Refused, Memory}
use Rattle.yarn_tree.specs.declared.tree.Project.{Project}
use Rattle.yarn_tree.specs.declared.tree.File.{File}
use Rattle.yarn_tree.specs.declared.tree.Node.{Node}
use Rattle.yarn_tree.specs.Reading.{Reading, Reads, IsFault, IsProjectRead, IsFileRead}
use Rattle.yarn_tree.specs.Trees.{node_tree, file_tree}
use Rattle.yarn_tree.proofs.GrownLemmas.{files-grown, file-grown}
use Rattle.yarn_print.specs.Print.{print_of, nodes_text}
use Rattle.yarn_cli.specs.Outcome.{trees_of}
use Rattle.yarn_cli.specs.Format.{printed, tree_text, node_text}
use Rattle.yarn_cli.specs.Answers.{IsTreeAnswer}

fault-trees : (reading : Reading (List FileLines)) (fault : ProjectFault) → IsFault reading fault → IsFault (trees_of reading) fault
fault-trees reading (Refused refusal) is = rw is refl
fault-trees reading Memory is = tt

pub trees_answer : (reading : Reading (List FileLines)) (result : Result Project ProjectFault) → IsProjectRead reading result → IsTreeAnswer (trees_of reading) result
trees_answer reading (Ok project) is = rw is.1.0 (ap Reads (sym (files-grown is.0 project.files is.1.1)))
trees_answer reading (Err fault) is = fault-trees reading fault is

fault-printed : (reading : Reading FileLines) (fault : ProjectFault) → IsFault reading fault → IsFault (printed reading) fault
fault-printed reading (Refused refusal) is = rw is refl
fault-printed reading Memory is = tt

nodes-printed : (nodes : List Node) → nodes_text nodes ≡ flat_map node_text (map node_tree nodes)
nodes-printed [] = refl
nodes-printed (node ∷ nodes) = ap (λ l. node_text (node_tree node) ++ l) (nodes-printed nodes)

file-printed : (file : File) → print_of file ≡ tree_text (file_tree file)
unfolding print_of
file-printed file = rw (nodes-printed file.nodes) refl

pub text_printed : (reading : Reading FileLines) (file : File) (text : List ℕ) → IsFileRead reading (Ok file) → text ≡ print_of file → printed reading ≡ Reads text
text_printed reading file text is printed_so = rw is.1.0 (ap Reads (ap tree_text (sym (file-grown is.0 file is.1.1)) ∙ sym (file-printed file) ∙ sym printed_so))

pub fault_printed : (reading : Reading FileLines) (fault : ProjectFault) → IsFileRead reading (Err fault) → IsFault (printed reading) fault
fault_printed reading fault is = fault-printed reading fault is
