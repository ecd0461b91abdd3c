-- One refusal after the other.
use Rattle.std.proofs.Common.{◌≡◌, ℕ, List, [], ◌∷◌, ◌++◌, Bool, map, true, false, Option, Some, None, Result, refl, sym, ap, ◌∙◌, subst}
use Rattle.std.specs.Prelude.{⊤}
use Rattle.yarn_base.specs.declared.Place.{Place}
use Rattle.yarn_value.specs.declared.signature.Signature.{Signature}
use Rattle.yarn_nodes.specs.declared.node.FileRead.{FileRead}
use Rattle.yarn_nodes.specs.declared.node.FileLines.{FileLines}
use Rattle.yarn_nodes.specs.declared.node.Note.TheVariants as note
use Rattle.yarn_tree.specs.declared.refusal.ProjectFault.{ProjectFault}
use Rattle.yarn_tree.specs.declared.refusal.ProjectFault.TheVariants.{Refused, Memory}
use Rattle.yarn_tree.specs.declared.refusal.RefusalKind.{RefusalKind}
use Rattle.yarn_tree.specs.declared.refusal.RefusalKind.TheVariants as kind
use Rattle.yarn_tree.specs.declared.stages.SplitFile.{SplitFile}
use Rattle.yarn_tree.specs.declared.tree.File.{File}
use Rattle.yarn_tree.specs.Places.{first_place}
use Rattle.yarn_tree.specs.Project.{IsFileOf, AreFilesOf}
use Rattle.yarn_tree.specs.Names.{no_sight, sees_all}
use Rattle.yarn_tree.specs.Uses.{UseAt, uses_in}
use Rattle.yarn_tree.specs.Checks.{noted_in, first_excess, titles_seen, first_use, is_reserved, declarations_in, is_unknown_title, is_unknown_function, has_wrong_count, ids_seen}
use Rattle.yarn_tree.specs.Reading.{Reading, Reads, unless, no_fault, structure_checked, counts_checked, titles_checked, ids_checked, IsFault, Answers, lines_in, reads_read, read_alone, splits_read, split_read, read_of, AreShallow, AreNamed}
use Rattle.yarn_tree.specs.Order.{AreRead, lines_checked, project_checked, uses_checked, variables_checked, targets_checked}

-- kinds with their places, the first of which is told
abbrev tell : {A : Type 0} → List (RefusalKind × Option Place) → Reading A → Reading A
tell [] next = next
tell (x ∷ xs) next = unless x.0 x.1 (tell xs next)

abbrev Stage : Type 0
Stage = List (RefusalKind × Option Place)

-- past a stage that refuses nothing, what is read on
past : {A : Type 0} (xs : Stage) (next : Reading A) → tell xs no_fault ≡ no_fault → tell xs next ≡ next
past [] next fine = refl
past ((k, None) ∷ xs) next fine = past xs next fine
past ((k, Some place) ∷ xs) next fine = absurd cc

-- a fault of a stage is the fault of what is read
stops : {A : Type 0} (xs : Stage) (next : Reading A) (fault : ProjectFault) → IsFault (tell xs no_fault) fault → IsFault (tell xs next) fault
stops xs next Memory at = tt
stops [] next (Refused refusal) at = absurd cc
stops ((k, None) ∷ xs) next (Refused refusal) at = stops xs next (Refused refusal) at
stops ((k, Some place) ∷ xs) next (Refused refusal) at = cc

-- the first stage has no place
fine-here : (k : RefusalKind) (o : Option Place) (xs : Stage) → tell ((k, o) ∷ xs) no_fault ≡ no_fault → (o ≡ None) × (tell xs no_fault ≡ no_fault)
fine-here k None xs fine = (refl, fine)
fine-here k (Some place) xs fine = absurd cc

abbrev lines_of : List FileRead → Stage
lines_of reads =
    (kind.BadLine, first_place (noted_in note.Bad) reads)
    ∷ (kind.BadStructure, first_place (noted_in note.Misplaced) reads)
    ∷ (kind.TooDeep, first_place (noted_in note.TooDeep) reads)
    ∷ []

abbrev counts_of : List FileRead → Stage
counts_of reads =
    (kind.TooMany, first_excess reads)
    ∷ (kind.Fraction, first_place (noted_in note.Fraction) reads)
    ∷ (kind.NumberTooLarge, first_place (noted_in note.TooLarge) reads)
    ∷ []

abbrev titles_of : List FileRead → Stage
titles_of reads = (kind.BadTitle, first_place (noted_in note.Mistitled) reads) ∷ (kind.DuplicateTitle, (titles_seen reads).again) ∷ []

abbrev variables_of : List UseAt → Stage
variables_of uses =
    (kind.ReservedName, first_use is_reserved uses)
    ∷ (kind.DuplicateDeclare, (sees_all no_sight (declarations_in uses)).again)
    ∷ []

abbrev uses_of : List Signature → (List ℕ → Bool) → List UseAt → Stage
uses_of signatures known uses =
    (kind.ReservedName, first_use is_reserved uses)
    ∷ (kind.DuplicateDeclare, (sees_all no_sight (declarations_in uses)).again)
    ∷ (kind.UnknownNode, first_use (is_unknown_title known) uses)
    ∷ (kind.UnknownFunction, first_use (is_unknown_function signatures) uses)
    ∷ (kind.WrongArguments, first_use (has_wrong_count signatures) uses)
    ∷ []

abbrev ids_in : List FileRead → Stage
ids_in reads = (kind.DuplicateLineId, (ids_seen reads).again) ∷ []

-- the stages of a project before the names
abbrev front_of : List FileRead → Reading ⊤ → Reading ⊤
front_of reads next = structure_checked reads (counts_checked reads (titles_checked reads next))

front-past : (reads : List FileRead) (next : Reading ⊤) → structure_checked reads no_fault ≡ no_fault → counts_checked reads no_fault ≡ no_fault →
    titles_checked reads no_fault ≡ no_fault → front_of reads next ≡ next
front-past reads next a b c =
    past (lines_of reads) (counts_checked reads (titles_checked reads next)) a
    ∙ past (counts_of reads) (titles_checked reads next) b
    ∙ past (titles_of reads) next c

pub names-stop : (signatures : List Signature) (reads : List FileRead) (known : List ℕ → Bool) (uses : List UseAt) (fault : ProjectFault) →
    structure_checked reads no_fault ≡ no_fault → counts_checked reads no_fault ≡ no_fault → titles_checked reads no_fault ≡ no_fault →
    known ≡ (titles_seen reads).names → uses ≡ uses_in reads → IsFault (uses_checked signatures known uses) fault → IsFault (project_checked signatures reads) fault
names-stop signatures reads known uses fault a b c is_known are at =
    let names = uses_of signatures (titles_seen reads).names (uses_in reads) in
    let here = subst (λ (k : List ℕ → Bool). IsFault (uses_checked signatures k (uses_in reads)) fault) is_known
    (subst (λ (l : List UseAt). IsFault (uses_checked signatures known l) fault) are at) in
    subst (λ (r : Reading ⊤). IsFault r fault) (sym (front-past reads (tell names (ids_checked reads no_fault)) a b c)) (stops names (ids_checked reads no_fault) fault here)

pub names-go : (signatures : List Signature) (reads : List FileRead) (known : List ℕ → Bool) (uses : List UseAt) (result : Result ⊤ ProjectFault) →
    structure_checked reads no_fault ≡ no_fault → counts_checked reads no_fault ≡ no_fault → titles_checked reads no_fault ≡ no_fault →
    known ≡ (titles_seen reads).names → uses ≡ uses_in reads → uses_checked signatures known uses ≡ no_fault → Answers (ids_checked reads no_fault) result →
    Answers (project_checked signatures reads) result
names-go signatures reads known uses result a b c is_known are fine rest =
    let names = uses_of signatures (titles_seen reads).names (uses_in reads) in
    let here : tell names no_fault ≡ no_fault =
    ap (λ (k : List ℕ → Bool). uses_checked signatures k (uses_in reads)) (sym is_known) ∙ ap (uses_checked signatures known) (sym are) ∙ fine in
    subst (λ (r : Reading ⊤). Answers r result)
    (sym (front-past reads (tell names (ids_checked reads no_fault)) a b c ∙ past names (ids_checked reads no_fault) here)) rest

pub targets-go : (signatures : List Signature) (known : List ℕ → Bool) (uses : List UseAt) (result : Result ⊤ ProjectFault) →
    variables_checked uses no_fault ≡ no_fault → Answers (targets_checked signatures known uses no_fault) result → Answers (uses_checked signatures known uses) result
targets-go signatures known uses result fine rest =
    let next : Reading ⊤ = targets_checked signatures known uses no_fault in
    subst (λ (r : Reading ⊤). Answers r result) (sym (past (variables_of uses) next fine)) rest

abbrev all_of : List Signature → List FileRead → Stage
all_of signatures reads =
    lines_of reads ++ (counts_of reads ++ (titles_of reads ++ (uses_of signatures (titles_seen reads).names (uses_in reads) ++ ids_in reads)))

-- what is read where nothing is refused, and the fault else
pub project-reads : (signatures : List Signature) (reads : List FileRead) → project_checked signatures reads ≡ no_fault →
    reads_read signatures reads ≡ Reads (map lines_in reads)
project-reads signatures reads fine = past (all_of signatures reads) (Reads (map lines_in reads)) fine

pub project-stops : (signatures : List Signature) (reads : List FileRead) (fault : ProjectFault) → IsFault (project_checked signatures reads) fault →
    IsFault (reads_read signatures reads) fault
project-stops signatures reads fault at = stops (all_of signatures reads) (Reads (map lines_in reads)) fault at

pub file-reads : (read : FileRead) → lines_checked (read ∷ []) ≡ no_fault → read_alone read ≡ Reads read.file
file-reads read fine = past (lines_of (read ∷ []) ++ counts_of (read ∷ [])) (Reads read.file) fine

pub file-stops : (read : FileRead) (fault : ProjectFault) → IsFault (lines_checked (read ∷ [])) fault → IsFault (read_alone read) fault
file-stops read fault at = stops (lines_of (read ∷ []) ++ counts_of (read ∷ [])) (Reads read.file) fault at

-- no line is misplaced or too deep
shallow-from : (ids : Bool) (splits : List SplitFile) (reads : List FileRead) (behind : Stage) → reads ≡ map (read_of ids) splits →
    tell (lines_of reads ++ behind) no_fault ≡ no_fault → AreShallow ids reads
shallow-from ids splits reads behind is fine =
    let deep = (kind.TooDeep, first_place (noted_in note.TooDeep) reads) ∷ behind in
    let a = fine-here kind.BadLine (first_place (noted_in note.Bad) reads) ((kind.BadStructure, first_place (noted_in note.Misplaced) reads) ∷ deep) fine in
    let b = fine-here kind.BadStructure (first_place (noted_in note.Misplaced) reads) deep a.1 in
    let c = fine-here kind.TooDeep (first_place (noted_in note.TooDeep) reads) behind b.1 in
    record { splits = splits; is = is; placed = b.0; shallow = c.0 }

pub project-shallow : (signatures : List Signature) (splits : List SplitFile) (reads : List FileRead) → reads ≡ map (read_of true) splits →
    project_checked signatures reads ≡ no_fault → AreShallow true reads
project-shallow signatures splits reads is fine =
    shallow-from true splits reads (counts_of reads ++ (titles_of reads ++ (uses_of signatures (titles_seen reads).names (uses_in reads) ++ ids_in reads))) is fine

pub file-shallow : (ids : Bool) (split : SplitFile) (read : FileRead) → read ≡ read_of ids split → lines_checked (read ∷ []) ≡ no_fault → AreShallow ids (read ∷ [])
file-shallow ids split read is fine =
    shallow-from ids (split ∷ []) (read ∷ []) (counts_of (read ∷ [])) (ap (λ (r : FileRead). r ∷ []) is) fine

-- the trees are those of what is read
pub project-stopped : (signatures : List Signature) (splits : List SplitFile) (reads : List FileRead) (fault : ProjectFault) → reads ≡ map (read_of true) splits →
    IsFault (project_checked signatures reads) fault → IsFault (splits_read signatures splits) fault
project-stopped signatures splits reads fault is at =
    subst (λ (l : List FileRead). IsFault (reads_read signatures l) fault) is (project-stops signatures reads fault at)

pub project-grown : (signatures : List Signature) (splits : List SplitFile) (reads : List FileRead) (files : List File) → reads ≡ map (read_of true) splits →
    project_checked signatures reads ≡ no_fault → AreFilesOf (map lines_in reads) files →
    (lines : List FileLines) × ((splits_read signatures splits ≡ Reads lines) × AreFilesOf lines files)
project-grown signatures splits reads files is fine are =
    (map lines_in reads, (ap (reads_read signatures) (sym is) ∙ project-reads signatures reads fine, are))

pub file-stopped : (split : SplitFile) (read : FileRead) (fault : ProjectFault) → read ≡ read_of false split →
    IsFault (lines_checked (read ∷ [])) fault → IsFault (split_read split) fault
file-stopped split read fault is at = subst (λ (r : FileRead). IsFault (read_alone r) fault) is (file-stops read fault at)

pub file-grown : (split : SplitFile) (read : FileRead) (file : File) → read ≡ read_of false split → lines_checked (read ∷ []) ≡ no_fault → IsFileOf read.file file →
    (lines : FileLines) × ((split_read split ≡ Reads lines) × IsFileOf lines file)
file-grown split read file is fine are = (read.file, (ap read_alone (sym is) ∙ file-reads read fine, are))

-- titles are fine
pub project-named : (reads : List FileRead) → AreRead reads → structure_checked reads no_fault ≡ no_fault → titles_checked reads no_fault ≡ no_fault → AreNamed reads
project-named reads are fine named =
    let placed = (shallow-from true are.0 reads [] are.1 fine).placed in
    let again = (kind.DuplicateTitle, (titles_seen reads).again) ∷ [] in
    let a = fine-here kind.BadTitle (first_place (noted_in note.Mistitled) reads) again named in
    let b = fine-here kind.DuplicateTitle (titles_seen reads).again [] a.1 in
    record { splits = are.0; is = are.1; placed = placed; titled = a.0; differ = b.0 }
