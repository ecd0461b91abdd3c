-- Laws of tagging: a tagged file is tagged to itself, and it is read as the same file but for its ids (docs/language.md, Tags).
use Rattle.std.specs.Prelude.{◌≡◌, ℕ, List, [], ◌∷◌, ◌++◌, true, false, Result, Ok, Err, ⊤}
use Rattle.yarn_base.specs.declared.SourceFile.{SourceFile}
use Rattle.yarn_items.specs.Text.{has_no_id}
use Rattle.yarn_blocks.specs.declared.tree.Head.{Head}
use Rattle.yarn_blocks.specs.declared.tree.LineText.{LineText}
use Rattle.yarn_blocks.specs.declared.entry.Simple.{Simple}
use Rattle.yarn_blocks.specs.declared.entry.Simple.TheVariants as simple
use Rattle.yarn_blocks.specs.Tree.{Offered, Asked, Stmt, Leaf, Group, Choice, Stmts, Nil, Cons, Options, NoOptions, AndOption, Clauses, NoClauses, AndClause, Last, NoElse, ElseOf}
use Rattle.yarn_tree.specs.declared.tree.File.{File}
use Rattle.yarn_tree.specs.declared.refusal.ProjectFault.{ProjectFault}
use Rattle.yarn_tree.specs.declared.refusal.ProjectFault.TheVariants as fault
use Rattle.yarn_tree.specs.Reading.{IsFileRead, file_reading_of}
use Rattle.yarn_tree.specs.Trees.{NodeTree, FileTree, file_tree}
use Rattle.yarn_meaning.specs.Texts.{said_by}
use Rattle.yarn_tag.specs.declared.fault.TagFault.{TagFault}
use Rattle.yarn_tag.specs.declared.fault.TagFault.TheVariants.{Refused, IdsUsedUp, TooLong, Memory}
use Rattle.yarn_tag.specs.Tagged.{id_of, IsTagAnswer}

-- hashtags with an id stay; behind others stands one more, the id of a number
pub data HaveId : List (List ℕ) → List (List ℕ) → Type 0 where
  kept : {tags : List (List ℕ)} → has_no_id tags ≡ false → HaveId tags tags
  put : {tags : List (List ℕ)} (n : ℕ) → has_no_id tags ≡ true → HaveId tags (tags ++ id_of n ∷ [])

-- the same line or option, which now has an id
pub record SameText (a b : LineText) : Type 0 where
  pub line : b.line ≡ a.line
  pub id : b.id ≡ a.id
  pub text : b.text ≡ a.text
  pub holes : b.holes ≡ a.holes
  pub tags : HaveId a.tags b.tags

mutual
  -- the same statements, where each line and each option now has an id
  pub data SameStmts : Stmts → Stmts → Type 0 where
    no_more : SameStmts Nil Nil
    and_more : {s t : Stmt} {a b : Stmts} → SameStmt s t → SameStmts a b → SameStmts (Cons s a) (Cons t b)

  pub data SameStmt : Stmt → Stmt → Type 0 where
    line : {a b : LineText} → SameText a b → SameStmt (Leaf (simple.Line a)) (Leaf (simple.Line b))
    other : {s : Simple} → said_by s ≡ [] → SameStmt (Leaf s) (Leaf s)
    group : {a b : Options} → SameOptions a b → SameStmt (Group a) (Group b)
    choice : {a b : Clauses} {c d : Last} {e : Head} → SameClauses a b → SameLast c d → SameStmt (Choice a c e) (Choice b d e)

  pub data SameOptions : Options → Options → Type 0 where
    no_option : SameOptions NoOptions NoOptions
    and_option : {n m : Offered} {a b : Stmts} {os ps : Options} → SameText n.text m.text → m.condition ≡ n.condition →
        SameStmts a b → SameOptions os ps → SameOptions (AndOption n a os) (AndOption m b ps)

  pub data SameClauses : Clauses → Clauses → Type 0 where
    no_clause : SameClauses NoClauses NoClauses
    and_clause : {n : Asked} {a b : Stmts} {cs ds : Clauses} → SameStmts a b → SameClauses cs ds → SameClauses (AndClause n a cs) (AndClause n b ds)

  pub data SameLast : Last → Last → Type 0 where
    no_else : SameLast NoElse NoElse
    else_of : {e : Head} {a b : Stmts} → SameStmts a b → SameLast (ElseOf e a) (ElseOf e b)

pub record SameNode (a b : NodeTree) : Type 0 where
  pub title : b.title ≡ a.title
  pub headers : b.headers ≡ a.headers
  pub line : b.line ≡ a.line
  pub end_line : b.end_line ≡ a.end_line
  pub body : SameStmts a.body b.body

abbrev pub SameNodes : List NodeTree → List NodeTree → Type 0
SameNodes [] [] = ⊤
SameNodes [] (b ∷ bs) = ⊥
SameNodes (a ∷ nodes) [] = ⊥
SameNodes (a ∷ nodes) (b ∷ bs) = SameNode a b × SameNodes nodes bs

-- the same file, where each line and each option now has an id
pub record SameButIds (a b : FileTree) : Type 0 where
  pub name : b.name ≡ a.name
  pub tags : b.tags ≡ a.tags
  pub nodes : SameNodes a.nodes b.nodes

-- an answer of `read_file` is that file, or there was want of memory
abbrev pub IsSameRead : FileTree → Result File ProjectFault → Type 0
IsSameRead before (Ok after) = SameButIds before (file_tree after)
IsSameRead before (Err (fault.Refused refusal)) = ⊥
IsSameRead before (Err fault.Memory) = ⊤

-- what is read of a tagged file is the same file but for its ids
abbrev pub TaggedStands : Type 0
TaggedStands = (file again : SourceFile) (start : ℕ) (before : File) (answer : Result File ProjectFault) →
    IsTagAnswer file start (Ok again.bytes) → again.name ≡ file.name → IsFileRead (file_reading_of file) (Ok before) →
    IsFileRead (file_reading_of again) answer → IsSameRead (file_tree before) answer

-- an answer of `tag_file` is these bytes, or there was want of memory
abbrev pub AreSameBytes : List ℕ → Result (List ℕ) TagFault → Type 0
AreSameBytes bytes (Ok out) = out ≡ bytes
AreSameBytes bytes (Err (Refused refusal)) = ⊥
AreSameBytes bytes (Err IdsUsedUp) = ⊥
AreSameBytes bytes (Err (TooLong number)) = ⊥
AreSameBytes bytes (Err Memory) = ⊤

-- a tagged file is tagged to itself, whatever the first number is
abbrev pub TaggedOnce : Type 0
TaggedOnce = (file again : SourceFile) (start other : ℕ) (answer : Result (List ℕ) TagFault) →
    IsTagAnswer file start (Ok again.bytes) → IsTagAnswer again other answer → AreSameBytes again.bytes answer
