-- The refusals of lines alone, where nothing is read on.
use Rattle.std.specs.Prelude.{◌≡◌, ℕ, List, map, Bool, true, ⊤}
use Rattle.yarn_value.specs.declared.signature.Signature.{Signature}
use Rattle.yarn_nodes.specs.declared.node.FileRead.{FileRead}
use Rattle.yarn_tree.specs.declared.refusal.RefusalKind.TheVariants as kind
use Rattle.yarn_tree.specs.declared.stages.SplitFile.{SplitFile}
use Rattle.yarn_tree.specs.Names.{no_sight, sees_all}
use Rattle.yarn_tree.specs.Uses.{UseAt}
use Rattle.yarn_tree.specs.Checks.{first_use, is_reserved, declarations_in, is_unknown_title, is_unknown_function, has_wrong_count}
use Rattle.yarn_tree.specs.Reading.{Reading, read_of, no_fault, unless, structure_checked, counts_checked, titles_checked, names_checked, ids_checked}

-- what is read of files, with ids
abbrev pub AreRead : List FileRead → Type 0
AreRead reads = (splits : List SplitFile) × (reads ≡ map (read_of true) splits)

-- the refusals of a file that is read alone
abbrev pub lines_checked : List FileRead → Reading ⊤
lines_checked reads = structure_checked reads (counts_checked reads no_fault)

abbrev pub project_checked : List Signature → List FileRead → Reading ⊤
project_checked signatures reads =
    structure_checked reads (counts_checked reads (titles_checked reads (names_checked signatures reads (ids_checked reads no_fault))))

-- variables
abbrev pub variables_checked : {A : Type 0} → List UseAt → Reading A → Reading A
variables_checked uses next =
    unless kind.ReservedName (first_use is_reserved uses)
    (unless kind.DuplicateDeclare (sees_all no_sight (declarations_in uses)).again
    next)

-- jumps and functions, where these titles are known
abbrev pub targets_checked : {A : Type 0} → List Signature → (List ℕ → Bool) → List UseAt → Reading A → Reading A
targets_checked signatures known uses next =
    unless kind.UnknownNode (first_use (is_unknown_title known) uses)
    (unless kind.UnknownFunction (first_use (is_unknown_function signatures) uses)
    (unless kind.WrongArguments (first_use (has_wrong_count signatures) uses)
    next))

-- those of uses
abbrev pub uses_checked : List Signature → (List ℕ → Bool) → List UseAt → Reading ⊤
uses_checked signatures known uses = variables_checked uses (targets_checked signatures known uses no_fault)
