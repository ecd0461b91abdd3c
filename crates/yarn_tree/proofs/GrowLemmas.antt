-- Bodies of files where nothing is misplaced or too deep: blocks that are built.
use Rattle.std.proofs.Common.{◌≡◌, ℕ, List, [], ◌∷◌, ◌++◌, map, Bool, Option, Some, None, All, append_assoc, append-nil, refl, sym, ap, ◌∙◌, subst}
use Rattle.std.proofs.lemmas.List.Elements.{All-nil, All-cons, All-tail}
use Rattle.yarn_nodes.specs.declared.node.FileRead.{FileRead}
use Rattle.yarn_nodes.specs.declared.node.NodeLines.{NodeLines}
use Rattle.yarn_nodes.specs.declared.node.Note.TheVariants as note
use Rattle.yarn_nodes.specs.Places.{or_later}
use Rattle.yarn_nodes.proofs.ShallowLemmas.{file-shallow}
use Rattle.yarn_tree.specs.declared.stages.SplitFile.{SplitFile}
use Rattle.yarn_tree.specs.declared.tree.File.{File}
use Rattle.yarn_tree.specs.declared.tree.Node.{Node}
use Rattle.yarn_tree.specs.Places.{at_file, first_place}
use Rattle.yarn_tree.specs.Checks.{noted_in}
use Rattle.yarn_tree.specs.Project.{IsNodeOf, AreNodesOf, IsFileOf, AreFilesOf}
use Rattle.yarn_tree.specs.Reading.{lines_in, read_of, AreShallow}
use Rattle.yarn_tree.specs.Growing.{HasShallowBody, HasShallowBodies}

or-none : {A : Type 0} (a b : Option A) → or_later a b ≡ None → (a ≡ None) × (b ≡ None)
or-none None b is = (refl, is)
or-none (Some x) b is = absurd cc

at-none : (file : ℕ) (o : Option ℕ) → at_file file o ≡ None → o ≡ None
at-none file None is = refl
at-none file (Some line) is = absurd cc

split-shallow : (ids : Bool) (split : SplitFile) → noted_in note.Misplaced (read_of ids split) ≡ None → noted_in note.TooDeep (read_of ids split) ≡ None →
    HasShallowBodies (read_of ids split)
split-shallow ids split placed shallow =
    file-shallow ids split.number split.name split.lines (at-none (read_of ids split).number (read_of ids split).notes.misplaced placed)
    (at-none (read_of ids split).number (read_of ids split).notes.too_deep shallow)

splits-shallow : (ids : Bool) (splits : List SplitFile) → first_place (noted_in note.Misplaced) (map (read_of ids) splits) ≡ None →
    first_place (noted_in note.TooDeep) (map (read_of ids) splits) ≡ None → All HasShallowBodies (map (read_of ids) splits)
splits-shallow ids [] placed shallow = All-nil HasShallowBodies
splits-shallow ids (split ∷ splits) placed shallow =
    let a = or-none (noted_in note.Misplaced (read_of ids split)) (first_place (noted_in note.Misplaced) (map (read_of ids) splits)) placed in
    let b = or-none (noted_in note.TooDeep (read_of ids split)) (first_place (noted_in note.TooDeep) (map (read_of ids) splits)) shallow in
    All-cons HasShallowBodies (read_of ids split) (map (read_of ids) splits) (split-shallow ids split a.0 b.0) (splits-shallow ids splits a.1 b.1)

pub reads_shallow : (ids : Bool) (reads : List FileRead) → AreShallow ids reads → All HasShallowBodies reads
reads_shallow ids reads are =
    let e = are.is in
    subst (All HasShallowBodies) (sym e)
    (splits-shallow ids are.splits (ap (first_place (noted_in note.Misplaced)) (sym e) ∙ are.placed) (ap (first_place (noted_in note.TooDeep)) (sym e) ∙ are.shallow))

-- ---- one after the other

-- nodes that are built, and the lines of those that are left
pub record NodesGrow (all rest : List NodeLines) (nodes : List Node) : Type 0 where
  pub done : List NodeLines
  pub cut : done ++ rest ≡ all
  pub are : AreNodesOf done nodes
  pub shallow : All HasShallowBody rest

nodes-more : (done : List NodeLines) (nodes : List Node) (lines : NodeLines) (node : Node) → AreNodesOf done nodes → IsNodeOf lines node →
    AreNodesOf (done ++ lines ∷ []) (nodes ++ node ∷ [])
nodes-more [] [] lines node are is = (is, tt)
nodes-more [] (n ∷ nodes) lines node are is = absurd are
nodes-more (l ∷ done) [] lines node are is = absurd are
nodes-more (l ∷ done) (n ∷ nodes) lines node are is = (are.0, nodes-more done nodes lines node are.1 is)

pub nodes_begin : (all : List NodeLines) → All HasShallowBody all → NodesGrow all all []
nodes_begin all shallow = record { done = []; cut = refl; are = tt; shallow = shallow }

pub nodes_grow : (all rest : List NodeLines) (nodes more : List Node) (lines : NodeLines) (node : Node) → NodesGrow all (lines ∷ rest) nodes → IsNodeOf lines node →
    more ≡ nodes ++ node ∷ [] → NodesGrow all rest more
nodes_grow all rest nodes more lines node grow is e = record {
  done = grow.done ++ lines ∷ [];
  cut = append_assoc grow.done (lines ∷ []) rest ∙ grow.cut;
  are = subst (AreNodesOf (grow.done ++ lines ∷ [])) (sym e) (nodes-more grow.done nodes lines node grow.are is);
  shallow = All-tail HasShallowBody lines rest grow.shallow;
}

pub nodes_end : (all : List NodeLines) (nodes : List Node) → NodesGrow all [] nodes → AreNodesOf all nodes
nodes_end all nodes grow = subst (λ (l : List NodeLines). AreNodesOf l nodes) (sym (append-nil grow.done) ∙ grow.cut) grow.are

-- files whose trees are built, and those that are left
pub record FilesGrow (all rest : List FileRead) (files : List File) : Type 0 where
  pub done : List FileRead
  pub cut : done ++ rest ≡ all
  pub are : AreFilesOf (map lines_in done) files
  pub shallow : All HasShallowBodies rest

files-more : (done : List FileRead) (files : List File) (read : FileRead) (file : File) → AreFilesOf (map lines_in done) files → IsFileOf read.file file →
    AreFilesOf (map lines_in (done ++ read ∷ [])) (files ++ file ∷ [])
files-more [] [] read file are is = (is, tt)
files-more [] (f ∷ files) read file are is = absurd are
files-more (r ∷ done) [] read file are is = absurd are
files-more (r ∷ done) (f ∷ files) read file are is = (are.0, files-more done files read file are.1 is)

pub files_begin : (all : List FileRead) → All HasShallowBodies all → FilesGrow all all []
files_begin all shallow = record { done = []; cut = refl; are = tt; shallow = shallow }

pub files_grow : (all rest : List FileRead) (files more : List File) (read : FileRead) (file : File) → FilesGrow all (read ∷ rest) files → IsFileOf read.file file →
    more ≡ files ++ file ∷ [] → FilesGrow all rest more
files_grow all rest files more read file grow is e = record {
  done = grow.done ++ read ∷ [];
  cut = append_assoc grow.done (read ∷ []) rest ∙ grow.cut;
  are = subst (AreFilesOf (map lines_in (grow.done ++ read ∷ []))) (sym e) (files-more grow.done files read file grow.are is);
  shallow = All-tail HasShallowBodies read rest grow.shallow;
}

pub files_end : (all : List FileRead) (files : List File) → FilesGrow all [] files → AreFilesOf (map lines_in all) files
files_end all files grow = subst (λ (l : List FileRead). AreFilesOf (map lines_in l) files) (sym (append-nil grow.done) ∙ grow.cut) grow.are
