-- What the lines of a file give, one by one.
use Rattle.std.proofs.Common.{◌≡◌, ℕ, ◌+◌, ◌<◌, ◌≤◌, List, [], ◌∷◌, ◌++◌, length, Bool, true, false, if◌then◌else◌, Option, None, Some, refl, sym, ap, ◌∙◌, arith, subst, append-nil, append_assoc, length-append}
use Rattle.std.specs.Prelude.{is_some, Ok, Err}
use Rattle.yarn_plural.specs.declared.rule.Rule.{Rule}
use Rattle.yarn_plural.specs.declared.table.Form.{Form}
use Rattle.yarn_plural.specs.declared.table.Form.TheVariants.{Cardinal, Ordinal}
use Rattle.yarn_plural.specs.declared.line.Line.{Line}
use Rattle.yarn_plural.specs.declared.line.Line.TheVariants.{Ignored, Begins, Gives}
use Rattle.yarn_plural.specs.declared.read.Reader.{Reader}
use Rattle.yarn_plural.specs.Category.{rules_of}
use Rattle.yarn_plural.specs.Lines.{lines_of}
use Rattle.yarn_plural.specs.Rules.{IsLine}
use Rattle.yarn_plural.specs.Reading.{form_after, is_form, rules_given, table_given, may_follow, has_category, rules_at, repeats, AreRead, NoRepeat, IsBadAt, RepeatsAt, ReadsPlural}
use Rattle.yarn_plural.specs.declared.read.PluralFault.TheVariants.{DuplicateCategory}
use Rattle.yarn_plural.specs.Steps.{IsReadable}
use Rattle.yarn_plural.proofs.MeaningLemmas.{line_is_one}
use Rattle.yarn_plural.specs.ReadingSteps.{with_rule, first_repeated, after_rule, after_rule_in, after_line}

-- ---- one line more

abbrev next_form : Option Form → Line → Option Form
next_form current Ignored = current
next_form current (Begins new) = Some new
next_form current (Gives rule) = current

form_after-push : (current : Option Form) (ls : List Line) (l : Line) → form_after current (ls ++ l ∷ []) ≡ next_form (form_after current ls) l
form_after-push current [] Ignored = refl
form_after-push current [] (Begins new) = refl
form_after-push current [] (Gives rule) = refl
form_after-push current (Ignored ∷ ls) l = form_after-push current ls l
form_after-push current (Begins new ∷ ls) l = form_after-push (Some new) ls l
form_after-push current (Gives rule ∷ ls) l = form_after-push current ls l

abbrev new_rules : Form → Option Form → Line → List Rule
new_rules form current Ignored = []
new_rules form current (Begins new) = []
new_rules form current (Gives rule) = if is_form form current then rule ∷ [] else []

rules_given-push : (form : Form) (current : Option Form) (ls : List Line) (l : Line) →
    rules_given form current (ls ++ l ∷ []) ≡ rules_given form current ls ++ new_rules form (form_after current ls) l
rules_given-push form current [] Ignored = refl
rules_given-push form current [] (Begins new) = refl
rules_given-push form current [] (Gives rule) = refl
rules_given-push form current (Ignored ∷ ls) l = rules_given-push form current ls l
rules_given-push form current (Begins new ∷ ls) l = rules_given-push form (Some new) ls l
rules_given-push form current (Gives rule ∷ ls) l = by (is_form form current) (rules_given-push form current ls l)
  where
    by : (t : Bool) → rules_given form current (ls ++ l ∷ []) ≡ rules_given form current ls ++ new_rules form (form_after current ls) l →
        (if t then rule ∷ rules_given form current (ls ++ l ∷ []) else rules_given form current (ls ++ l ∷ []))
        ≡ (if t then rule ∷ rules_given form current ls else rules_given form current ls) ++ new_rules form (form_after current ls) l
    by true later = ap (λ rules. rule ∷ rules) later
    by false later = later

are_read-push : (before : List Line) (lines : List (List ℕ)) (ls : List Line) (line : List ℕ) (l : Line) → AreRead before lines ls → IsLine line l → may_follow (before ++ ls) l ≡ true →
    AreRead before (lines ++ line ∷ []) (ls ++ l ∷ [])
are_read-push before [] [] line l read is may = (is, rw append-nil at may, tt)
are_read-push before [] (m ∷ ls) line l read is may = elim read [ ]
are_read-push before (other ∷ lines) [] line l read is may = elim read [ ]
are_read-push before (other ∷ lines) (m ∷ ls) line l read is may =
    (read.0, read.1, are_read-push (before ++ m ∷ []) lines ls line l read.2 is (ap (λ x. may_follow x l) (append_assoc before (m ∷ []) ls) ∙ may))

no_repeat-push : (before ls : List Line) (l : Line) → NoRepeat before ls → repeats (before ++ ls) l ≡ false → NoRepeat before (ls ++ l ∷ [])
no_repeat-push before [] l none other = (ap (λ x. repeats x l) (sym (append-nil before)) ∙ other, tt)
no_repeat-push before (m ∷ ls) l none other = (none.0, no_repeat-push (before ++ m ∷ []) ls l none.1 (ap (λ x. repeats x l) (append_assoc before (m ∷ []) ls) ∙ other))

-- ---- the reader

-- the first line that repeats a category, if one does
abbrev pub Repeated : List Line → Option ℕ → Type 0
Repeated ls None = NoRepeat [] ls
Repeated ls (Some at) = RepeatsAt ls at

-- the reader holds what these lines give
pub record IsReader (ls : List Line) (reader : Reader) : Type 0 where
  pub table : reader.table ≡ table_given ls
  pub form : reader.form ≡ form_after None ls
  pub repeated : Repeated ls reader.repeated

longer : (ls : List Line) (at : ℕ) (l : Line) → RepeatsAt ls at → RepeatsAt (ls ++ l ∷ []) at
longer ls at l is = record {
  before = is.before;
  l = is.l;
  behind = is.behind ++ l ∷ [];
  parts = ap (λ x. x ++ l ∷ []) is.parts ∙ append_assoc is.before (is.l ∷ is.behind) (l ∷ []);
  first = is.first;
  repeated = is.repeated;
  number = is.number;
}

repeated-same : (ls : List Line) (l : Line) (at : Option ℕ) → repeats ls l ≡ false → Repeated ls at → Repeated (ls ++ l ∷ []) at
repeated-same ls l None other is = no_repeat-push [] ls l is other
repeated-same ls l (Some at) other is = longer ls at l is

repeated-push : (ls : List Line) (l : Line) (at : Option ℕ) (number : ℕ) → number ≡ length ls + 1 → Repeated ls at → Repeated (ls ++ l ∷ []) (first_repeated at (repeats ls l) number)
repeated-push ls l (Some at) number is so_far = longer ls at l so_far
repeated-push ls l None number is so_far = by (repeats ls l) refl
  where
    by : (t : Bool) → repeats ls l ≡ t → Repeated (ls ++ l ∷ []) (if t then Some number else None)
    by true t = record { before = ls; l = l; behind = []; parts = refl; first = so_far; repeated = t; number = is }
    by false t = no_repeat-push [] ls l so_far t

table-same : (ls : List Line) (l : Line) → ((form : Form) → new_rules form (form_after None ls) l ≡ []) → table_given (ls ++ l ∷ []) ≡ table_given ls
table-same ls l none = λ i. record { cardinal = same Cardinal i; ordinal = same Ordinal i }
  where
    same : (form : Form) → rules_given form None (ls ++ l ∷ []) ≡ rules_given form None ls
    same form = rules_given-push form None ls l ∙ ap (λ rules. rules_given form None ls ++ rules) (none form) ∙ append-nil (rules_given form None ls)

table-rule : (ls : List Line) (form : Form) (rule : Rule) → form_after None ls ≡ Some form → table_given (ls ++ Gives rule ∷ []) ≡ with_rule (table_given ls) form rule
table-rule ls Cardinal rule is = λ i. record {
  cardinal = (rules_given-push Cardinal None ls (Gives rule) ∙ ap (λ f. rules_given Cardinal None ls ++ new_rules Cardinal f (Gives rule)) is) i;
  ordinal = (rules_given-push Ordinal None ls (Gives rule) ∙ ap (λ f. rules_given Ordinal None ls ++ new_rules Ordinal f (Gives rule)) is ∙ append-nil (rules_given Ordinal None ls)) i;
}
table-rule ls Ordinal rule is = λ i. record {
  cardinal = (rules_given-push Cardinal None ls (Gives rule) ∙ ap (λ f. rules_given Cardinal None ls ++ new_rules Cardinal f (Gives rule)) is ∙ append-nil (rules_given Cardinal None ls)) i;
  ordinal = (rules_given-push Ordinal None ls (Gives rule) ∙ ap (λ f. rules_given Ordinal None ls ++ new_rules Ordinal f (Gives rule)) is) i;
}

rules_of-given : (ls : List Line) (form : Form) → rules_of (table_given ls) form ≡ rules_at (Some form) ls
rules_of-given ls Cardinal = refl
rules_of-given ls Ordinal = refl

-- a line that is added
record Added (ls : List Line) (l : Line) (new : Reader) : Type 0 where
  may : may_follow ls l ≡ true
  reader : IsReader (ls ++ l ∷ []) new

added-rule : (ls : List Line) (reader : Reader) (rule : Rule) (number : ℕ) (new : Reader) → IsReader ls reader → number ≡ length ls + 1 →
    (form : Option Form) → reader.form ≡ form → after_rule_in reader form rule number ≡ Some new → Added ls (Gives rule) new
added-rule ls reader rule number new so_far is None f e = absurd cc
added-rule ls reader rule number new so_far is (Some form) f e =
    let current : form_after None ls ≡ Some form = sym so_far.form ∙ f in
    let same : after_rule reader form rule number ≡ new = cc in
    let rules : rules_of reader.table form ≡ rules_at (form_after None ls) ls =
    ap (λ t. rules_of t form) so_far.table ∙ rules_of-given ls form ∙ ap (λ g. rules_at g ls) (sym current) in
    let test = ap (λ rs. first_repeated reader.repeated (has_category rule.category rs) number) rules in
    record {
      may = ap is_some current;
      reader = subst (IsReader (ls ++ Gives rule ∷ [])) same (record {
        table = ap (λ t. with_rule t form rule) so_far.table ∙ sym (table-rule ls form rule current);
        form = so_far.form ∙ sym (form_after-push None ls (Gives rule));
        repeated = subst (Repeated (ls ++ Gives rule ∷ [])) (sym test) (repeated-push ls (Gives rule) reader.repeated number is so_far.repeated);
      });
    }

added : (ls : List Line) (reader : Reader) (l : Line) (number : ℕ) (new : Reader) → IsReader ls reader → number ≡ length ls + 1 → after_line reader l number ≡ Some new → Added ls l new
added ls reader Ignored number new so_far is e =
    let same : reader ≡ new = cc in
    record {
      may = refl;
      reader = subst (IsReader (ls ++ Ignored ∷ [])) same (record {
        table = so_far.table ∙ sym (table-same ls Ignored (λ form. refl));
        form = so_far.form ∙ sym (form_after-push None ls Ignored);
        repeated = repeated-same ls Ignored reader.repeated refl so_far.repeated;
      });
    }
added ls reader (Begins form) number new so_far is e =
    let changed : Reader = record { table = reader.table; form = Some form; repeated = reader.repeated } in
    let same : changed ≡ new = cc in
    record {
      may = refl;
      reader = subst (IsReader (ls ++ Begins form ∷ [])) same (record {
        table = so_far.table ∙ sym (table-same ls (Begins form) (λ f. refl));
        form = sym (form_after-push None ls (Begins form));
        repeated = repeated-same ls (Begins form) reader.repeated refl so_far.repeated;
      });
    }
added ls reader (Gives rule) number new so_far is e = added-rule ls reader rule number new so_far is reader.form refl e

not_added : (ls : List Line) (reader : Reader) (l : Line) (number : ℕ) → IsReader ls reader → after_line reader l number ≡ None → may_follow ls l ≡ false
not_added ls reader Ignored number so_far e = absurd cc
not_added ls reader (Begins form) number so_far e = absurd cc
not_added ls reader (Gives rule) number so_far e = by reader.form refl e
  where
    by : (form : Option Form) → reader.form ≡ form → after_rule_in reader form rule number ≡ None → may_follow ls (Gives rule) ≡ false
    by None f e = ap is_some (sym so_far.form ∙ f)
    by (Some form) f e = absurd cc

-- ---- how far a file is read

pub record IsReading (bytes : List ℕ) (number : ℕ) (rest : List ℕ) (reader : Reader) : Type 0 where
  pub lines : List (List ℕ)
  pub ls : List Line
  pub parts : lines_of bytes ≡ lines ++ lines_of rest
  pub read : AreRead [] lines ls
  pub count : number ≡ length lines + 1
  pub few : number + length rest ≤ length bytes + 1
  pub holds : IsReader ls reader

are_read-length : (before : List Line) (lines : List (List ℕ)) (ls : List Line) → AreRead before lines ls → length lines ≡ length ls
are_read-length before [] [] read = refl
are_read-length before [] (l ∷ ls) read = elim read [ ]
are_read-length before (line ∷ lines) [] read = elim read [ ]
are_read-length before (line ∷ lines) (l ∷ ls) read = omega (arith, are_read-length (before ++ l ∷ []) lines ls read.2)

pub IsReading-start : (bytes : List ℕ) (reader : Reader) → reader.table.cardinal ≡ [] → reader.table.ordinal ≡ [] → reader.form ≡ None → reader.repeated ≡ None → IsReading bytes 1 bytes reader
IsReading-start bytes reader cardinal ordinal form repeated = record {
  lines = [];
  ls = [];
  parts = refl;
  read = tt;
  count = omega arith;
  few = omega arith;
  holds = record {
    table = λ i. record { cardinal = cardinal i; ordinal = ordinal i };
    form = form;
    repeated = subst (Repeated []) (sym repeated) tt;
  };
}

pub IsReading-step : (bytes : List ℕ) (number : ℕ) (rest : List ℕ) (reader : Reader) (line after : List ℕ) (l : Line) (new : Reader) → IsReading bytes number rest reader →
    lines_of rest ≡ line ∷ lines_of after → length after < length rest → IsLine line l → after_line reader l number ≡ Some new → IsReading bytes (number + 1) after new
IsReading-step bytes number rest reader line after l new so_far cut shorter is e =
    let numbered : number ≡ length so_far.ls + 1 = so_far.count ∙ ap (λ n. n + 1) (are_read-length [] so_far.lines so_far.ls so_far.read) in
    let more = added so_far.ls reader l number new so_far.holds numbered e in
    let len : length (so_far.lines ++ line ∷ []) ≡ length so_far.lines + 1 = length-append so_far.lines (line ∷ []) in
    record {
      lines = so_far.lines ++ line ∷ [];
      ls = so_far.ls ++ l ∷ [];
      parts = so_far.parts ∙ ap (λ x. so_far.lines ++ x) cut ∙ sym (append_assoc so_far.lines (line ∷ []) (lines_of after));
      read = are_read-push [] so_far.lines so_far.ls line l so_far.read is more.may;
      count = omega (arith, so_far.count, len);
      few = omega (arith, so_far.few, shorter);
      holds = more.reader;
    }

-- nothing that the line is may stand there
bad_at : (bytes : List ℕ) (number : ℕ) (rest : List ℕ) (reader : Reader) (line after : List ℕ) → (so_far : IsReading bytes number rest reader) →
    lines_of rest ≡ line ∷ lines_of after → ((l : Line) → IsLine line l → may_follow so_far.ls l ≡ false) → IsBadAt bytes number
bad_at bytes number rest reader line after so_far cut bad = record {
  lines = so_far.lines;
  line = line;
  behind = lines_of after;
  parts = so_far.parts ∙ ap (λ x. so_far.lines ++ x) cut;
  before = so_far.ls;
  read = so_far.read;
  bad = bad;
  number = so_far.count;
}

pub IsReading-unread : (bytes : List ℕ) (number : ℕ) (rest : List ℕ) (reader : Reader) (line after : List ℕ) → IsReading bytes number rest reader →
    lines_of rest ≡ line ∷ lines_of after → ¬ IsReadable line → IsBadAt bytes number
IsReading-unread bytes number rest reader line after so_far cut none =
    bad_at bytes number rest reader line after so_far cut (λ l is. absurd (none (l, is)))

pub IsReading-misplaced : (bytes : List ℕ) (number : ℕ) (rest : List ℕ) (reader : Reader) (line after : List ℕ) (l : Line) → IsReading bytes number rest reader →
    lines_of rest ≡ line ∷ lines_of after → IsLine line l → after_line reader l number ≡ None → IsBadAt bytes number
IsReading-misplaced bytes number rest reader line after l so_far cut is e =
    bad_at bytes number rest reader line after so_far cut
    (λ m also. ap (may_follow so_far.ls) (line_is_one line m l also is) ∙ not_added so_far.ls reader l number so_far.holds e)

all_read : (bytes : List ℕ) (number : ℕ) (rest : List ℕ) (reader : Reader) → (so_far : IsReading bytes number rest reader) → rest ≡ [] → AreRead [] (lines_of bytes) so_far.ls
all_read bytes number rest reader so_far none =
    let parts : lines_of bytes ≡ so_far.lines = so_far.parts ∙ ap (λ r. so_far.lines ++ lines_of r) none ∙ append-nil so_far.lines in
    subst (λ x. AreRead [] x so_far.ls) (sym parts) so_far.read

pub IsReading-end : (bytes : List ℕ) (number : ℕ) (rest : List ℕ) (reader : Reader) → IsReading bytes number rest reader → rest ≡ [] → reader.repeated ≡ None →
    ReadsPlural bytes (Ok reader.table)
IsReading-end bytes number rest reader so_far none first =
    (so_far.ls, all_read bytes number rest reader so_far none, subst (Repeated so_far.ls) first so_far.holds.repeated, so_far.holds.table)

pub IsReading-repeated : (bytes : List ℕ) (number : ℕ) (rest : List ℕ) (reader : Reader) (at : ℕ) → IsReading bytes number rest reader → rest ≡ [] → reader.repeated ≡ Some at →
    ReadsPlural bytes (Err (DuplicateCategory at))
IsReading-repeated bytes number rest reader at so_far none first =
    (so_far.ls, all_read bytes number rest reader so_far none, subst (Repeated so_far.ls) first so_far.holds.repeated)
