-- The parts of a program file, each with all that stands behind it.
use Rattle.std.proofs.Common.{List, ℕ, length}
use Rattle.yarn_value.specs.declared.base.BaseLine.{BaseLine}
use Rattle.yarn_value.specs.declared.signature.Signature.{Signature}
use Rattle.yarn_code.specs.declared.program.CodeNode.{CodeNode}
use Rattle.yarn_code.specs.declared.program.Variable.{Variable}
use Rattle.yarn_code.specs.declared.program.Program.{Program}
use Rattle.yarn_code.specs.Format.{Format, ◌>>=◌, Ends}
use Rattle.yarn_code.specs.Layout.{many, file_name, variable, function, node, base_line}

abbrev pub behind_lines : List (List ℕ) → List Variable → List Signature → List CodeNode → List BaseLine → Format Program
behind_lines files variables functions nodes lines = Ends (record { files = files; variables = variables; functions = functions; nodes = nodes; lines = lines })

abbrev pub behind_nodes : List (List ℕ) → List Variable → List Signature → List CodeNode → Format Program
behind_nodes files variables functions nodes = many (base_line (length files) (length nodes)) >>= behind_lines files variables functions nodes

abbrev pub behind_functions : List (List ℕ) → List Variable → List Signature → Format Program
behind_functions files variables functions = many (node (length files)) >>= behind_nodes files variables functions

abbrev pub behind_variables : List (List ℕ) → List Variable → Format Program
behind_variables files variables = many function >>= behind_functions files variables

abbrev pub behind_files : List (List ℕ) → Format Program
behind_files files = many variable >>= behind_variables files

abbrev pub behind_mark : ℕ → Format Program
behind_mark mark = many file_name >>= behind_files
