-- What a plural file is read as: a table, or the first line that is refused (docs/formats.md, Plural rules).
use Rattle.std.specs.Prelude.{◌≡◌, ◌+◌, ℕ, List, [], ◌∷◌, ◌++◌, length, Bool, true, false, if◌then◌else◌, is_some, Option, Some, None, Result, Ok, Err, ⊤}
use Rattle.std.specs.List.{list_any}
use Rattle.yarn_plural.specs.declared.rule.Category.{Category}
use Rattle.yarn_plural.specs.declared.rule.Category.TheVariants as category
use Rattle.yarn_plural.specs.declared.rule.Rule.{Rule}
use Rattle.yarn_plural.specs.declared.table.Form.{Form}
use Rattle.yarn_plural.specs.declared.table.Form.TheVariants.{Cardinal, Ordinal}
use Rattle.yarn_plural.specs.declared.table.PluralTable.{PluralTable}
use Rattle.yarn_plural.specs.declared.line.Line.{Line}
use Rattle.yarn_plural.specs.declared.line.Line.TheVariants.{Ignored, Begins, Gives}
use Rattle.yarn_plural.specs.declared.read.PluralFault.{PluralFault}
use Rattle.yarn_plural.specs.declared.read.PluralFault.TheVariants.{BadRule, DuplicateCategory, Memory}
use Rattle.yarn_plural.specs.Lines.{lines_of}
use Rattle.yarn_plural.specs.Rules.{IsLine}

-- ---- forms and their rules

-- the form in which a line stands behind these lines, which stand in a form themselves or in none
abbrev pub form_after : Option Form → List Line → Option Form
form_after form [] = form
form_after form (Ignored ∷ ls) = form_after form ls
form_after form (Begins new ∷ ls) = form_after (Some new) ls
form_after form (Gives rule ∷ ls) = form_after form ls

abbrev pub is_form : Form → Option Form → Bool
is_form Cardinal (Some Cardinal) = true
is_form Ordinal (Some Ordinal) = true
is_form _ _ = false

-- the rules of the first form, of lines that begin in the second
abbrev pub rules_given : Form → Option Form → List Line → List Rule
rules_given form current [] = []
rules_given form current (Ignored ∷ ls) = rules_given form current ls
rules_given form current (Begins new ∷ ls) = rules_given form (Some new) ls
rules_given form current (Gives rule ∷ ls) = if is_form form current then rule ∷ rules_given form current ls else rules_given form current ls

-- the rules of both forms, in the order of the lines
abbrev pub table_given : List Line → PluralTable
table_given ls = record { cardinal = rules_given Cardinal None ls; ordinal = rules_given Ordinal None ls }

-- ---- where a line may stand

-- a rule stands behind a line that begins a form
abbrev pub may_follow : List Line → Line → Bool
may_follow before (Gives rule) = is_some (form_after None before)
may_follow before _ = true

abbrev pub same_category : Category → Category → Bool
same_category category.Zero category.Zero = true
same_category category.One category.One = true
same_category category.Two category.Two = true
same_category category.Few category.Few = true
same_category category.Many category.Many = true
same_category category.Other category.Other = true
same_category _ _ = false

abbrev pub has_category : Category → List Rule → Bool
has_category c rules = list_any (λ rule. same_category rule.category c) rules

abbrev pub rules_at : Option Form → List Line → List Rule
rules_at None ls = []
rules_at (Some form) ls = rules_given form None ls

-- the rule's form has its category already
abbrev pub repeats : List Line → Line → Bool
repeats before (Gives rule) = has_category rule.category (rules_at (form_after None before) before)
repeats before _ = false

-- ---- the lines of a file

-- each line is what the list says, and may stand behind the lines before
abbrev pub AreRead : List Line → List (List ℕ) → List Line → Type 0
AreRead before [] [] = ⊤
AreRead before (line ∷ lines) (l ∷ ls) = IsLine line l × (may_follow before l ≡ true) × AreRead (before ++ l ∷ []) lines ls
AreRead before _ _ = ⊥

-- none of the lines repeats a category
abbrev pub NoRepeat : List Line → List Line → Type 0
NoRepeat before [] = ⊤
NoRepeat before (l ∷ ls) = (repeats before l ≡ false) × NoRepeat (before ++ l ∷ []) ls

-- the lines before this one are read; it is nothing that may stand there; lines are counted from 1
pub record IsBadAt (bytes : List ℕ) (at : ℕ) : Type 0 where
  pub lines : List (List ℕ)
  pub line : List ℕ
  pub behind : List (List ℕ)
  pub parts : lines_of bytes ≡ lines ++ line ∷ behind
  pub before : List Line
  pub read : AreRead [] lines before
  pub bad : (l : Line) → IsLine line l → may_follow before l ≡ false
  pub number : at ≡ length lines + 1

-- this line repeats a category of its form, and none before it does
pub record RepeatsAt (ls : List Line) (at : ℕ) : Type 0 where
  pub before : List Line
  pub l : Line
  pub behind : List Line
  pub parts : ls ≡ before ++ l ∷ behind
  pub first : NoRepeat [] before
  pub repeated : repeats before l ≡ true
  pub number : at ≡ length before + 1

abbrev pub ReadsPlural : List ℕ → Result PluralTable PluralFault → Type 0
ReadsPlural bytes (Ok table) = (ls : List Line) × AreRead [] (lines_of bytes) ls × NoRepeat [] ls × (table ≡ table_given ls)
ReadsPlural bytes (Err (BadRule at)) = IsBadAt bytes at
ReadsPlural bytes (Err (DuplicateCategory at)) = (ls : List Line) × AreRead [] (lines_of bytes) ls × RepeatsAt ls at
ReadsPlural bytes (Err Memory) = ⊤

-- a file is read as one table or refused at one line, apart from want of memory
abbrev pub FileIsOneThing : Type 0
FileIsOneThing = (bytes : List ℕ) (r s : Result PluralTable PluralFault) → ReadsPlural bytes r → ReadsPlural bytes s → ¬ (r ≡ Err Memory) → ¬ (s ≡ Err Memory) → r ≡ s
