-- A file is read as one thing at most.
use Rattle.std.proofs.Common.{◌≡◌, ℕ, suc, ◌+◌, List, [], ◌∷◌, ◌++◌, length, true, false, refl, sym, ap, ◌∙◌, subst, append-nil, append_assoc, true≢false}
use Rattle.std.specs.Prelude.{Result, Ok, Err}
use Rattle.yarn_plural.specs.declared.line.Line.{Line}
use Rattle.yarn_plural.specs.declared.table.PluralTable.{PluralTable}
use Rattle.yarn_plural.specs.declared.read.PluralFault.{PluralFault}
use Rattle.yarn_plural.specs.declared.read.PluralFault.TheVariants.{BadRule, DuplicateCategory, Memory}
use Rattle.yarn_plural.specs.Lines.{lines_of}
use Rattle.yarn_plural.specs.Rules.{IsLine}
use Rattle.yarn_plural.specs.Reading.{table_given, may_follow, repeats, AreRead, NoRepeat, IsBadAt, RepeatsAt, ReadsPlural}
use Rattle.yarn_plural.proofs.MeaningLemmas.{line_is_one}

-- two lists that are equal, each cut at an item: at the same place, or one behind the other
data Cuts {A : Type 0} (xs : List A) (x : A) (ys : List A) (y : A) : Type 0 where
  Same : length xs ≡ length ys → Cuts xs x ys y
  Before : (mid : List A) → ys ≡ xs ++ x ∷ mid → Cuts xs x ys y
  Behind : (mid : List A) → xs ≡ ys ++ y ∷ mid → Cuts xs x ys y

cuts : {A : Type 0} (xs : List A) (x : A) (behind_x ys : List A) (y : A) (behind_y : List A) → xs ++ x ∷ behind_x ≡ ys ++ y ∷ behind_y → Cuts xs x ys y
cuts [] x bx [] y by e = Same refl
cuts [] x bx (b ∷ ys) y by e = let first : b ≡ x = cc in Before ys (ap (λ h. h ∷ ys) first)
cuts (a ∷ xs) x bx [] y by e = let first : a ≡ y = cc in Behind xs (ap (λ h. h ∷ xs) first)
cuts (a ∷ xs) x bx (b ∷ ys) y by e =
    let first : a ≡ b = cc in
    let rest : xs ++ x ∷ bx ≡ ys ++ y ∷ by = cc in
    elim (cuts xs x bx ys y by rest) [
      | Same s ↦ Same (ap suc s)
      | Before mid s ↦ Before mid (λ i. sym first i ∷ s i)
      | Behind mid s ↦ Behind mid (λ i. first i ∷ s i)
    ]

-- ---- lines that are read

are_read_one : (before : List Line) (lines : List (List ℕ)) (ls ms : List Line) → AreRead before lines ls → AreRead before lines ms → ls ≡ ms
are_read_one before [] [] [] r s = refl
are_read_one before [] (l ∷ ls) ms r s = elim r [ ]
are_read_one before [] [] (m ∷ ms) r s = elim s [ ]
are_read_one before (line ∷ lines) [] ms r s = elim r [ ]
are_read_one before (line ∷ lines) (l ∷ ls) [] r s = elim s [ ]
are_read_one before (line ∷ lines) (l ∷ ls) (m ∷ ms) r s =
    let first : m ≡ l = line_is_one line m l s.0 r.0 in
    let rest = are_read_one (before ++ l ∷ []) lines ls ms r.2 (subst (λ x. AreRead (before ++ x ∷ []) lines ms) first s.2) in
    (λ i. sym first i ∷ rest i)

-- the lines before one are read, and it is something that may stand there
record Reads (before : List Line) (lines : List (List ℕ)) (line : List ℕ) : Type 0 where
  ls : List Line
  l : Line
  read : AreRead before lines ls
  is : IsLine line l
  may : may_follow (before ++ ls) l ≡ true

reads_at : (before : List Line) (lines : List (List ℕ)) (line : List ℕ) (behind : List (List ℕ)) (all : List Line) → AreRead before (lines ++ line ∷ behind) all → Reads before lines line
reads_at before [] line behind [] r = elim r [ ]
reads_at before [] line behind (l ∷ all) r = record { ls = []; l = l; read = tt; is = r.0; may = ap (λ x. may_follow x l) (append-nil before) ∙ r.1 }
reads_at before (other ∷ lines) line behind [] r = elim r [ ]
reads_at before (other ∷ lines) line behind (m ∷ all) r =
    let later = reads_at (before ++ m ∷ []) lines line behind all r.2 in
    record {
      ls = m ∷ later.ls;
      l = later.l;
      read = (r.0, r.1, later.read);
      is = later.is;
      may = ap (λ x. may_follow x later.l) (sym (append_assoc before (m ∷ []) later.ls)) ∙ later.may;
    }

-- a bad line isn't among lines that are read
bad_not_read : (bytes : List ℕ) (at : ℕ) (bad : IsBadAt bytes at) (behind : List (List ℕ)) (all : List Line) → AreRead [] (bad.lines ++ bad.line ∷ behind) all → ⊥
bad_not_read bytes at bad behind all r =
    let reads = reads_at [] bad.lines bad.line behind all r in
    let same = are_read_one [] bad.lines reads.ls bad.before reads.read bad.read in
    true≢false (sym reads.may ∙ ap (λ x. may_follow x reads.l) same ∙ bad.bad reads.l reads.is)

bad_or_read : (bytes : List ℕ) (at : ℕ) (all : List Line) → IsBadAt bytes at → AreRead [] (lines_of bytes) all → ⊥
bad_or_read bytes at all bad r = bad_not_read bytes at bad bad.behind all (subst (λ x. AreRead [] x all) bad.parts r)

bad_one : (bytes : List ℕ) (a b : ℕ) → IsBadAt bytes a → IsBadAt bytes b → a ≡ b
bad_one bytes a b r s = elim (cuts r.lines r.line r.behind s.lines s.line s.behind (sym r.parts ∙ s.parts)) [
  | Same e ↦ r.number ∙ ap (λ n. n + 1) e ∙ sym s.number
  | Before mid e ↦ absurd (bad_not_read bytes a r mid s.before (subst (λ x. AreRead [] x s.before) e s.read))
  | Behind mid e ↦ absurd (bad_not_read bytes b s mid r.before (subst (λ x. AreRead [] x r.before) e r.read))
]

-- ---- categories that come again

no_repeat_at : (before ls : List Line) (l : Line) (behind : List Line) → NoRepeat before (ls ++ l ∷ behind) → repeats (before ++ ls) l ≡ false
no_repeat_at before [] l behind none = ap (λ x. repeats x l) (append-nil before) ∙ none.0
no_repeat_at before (m ∷ ls) l behind none = ap (λ x. repeats x l) (sym (append_assoc before (m ∷ []) ls)) ∙ no_repeat_at (before ++ m ∷ []) ls l behind none.1

repeats_not : (ls : List Line) (at : ℕ) (r : RepeatsAt ls at) (behind : List Line) → NoRepeat [] (r.before ++ r.l ∷ behind) → ⊥
repeats_not ls at r behind none = true≢false (sym r.repeated ∙ no_repeat_at [] r.before r.l behind none)

repeats_or_not : (ls : List Line) (at : ℕ) → RepeatsAt ls at → NoRepeat [] ls → ⊥
repeats_or_not ls at r none = repeats_not ls at r r.behind (subst (NoRepeat []) r.parts none)

repeats_one : (ls : List Line) (a b : ℕ) → RepeatsAt ls a → RepeatsAt ls b → a ≡ b
repeats_one ls a b r s = elim (cuts r.before r.l r.behind s.before s.l s.behind (sym r.parts ∙ s.parts)) [
  | Same e ↦ r.number ∙ ap (λ n. n + 1) e ∙ sym s.number
  | Before mid e ↦ absurd (repeats_not ls a r mid (subst (NoRepeat []) e s.first))
  | Behind mid e ↦ absurd (repeats_not ls b s mid (subst (NoRepeat []) e r.first))
]

-- ---- a file

pub file_is_one : (bytes : List ℕ) (r s : Result PluralTable PluralFault) → ReadsPlural bytes r → ReadsPlural bytes s → ¬ (r ≡ Err Memory) → ¬ (s ≡ Err Memory) → r ≡ s
file_is_one bytes (Ok t) (Ok u) r s m n = ap Ok (r.3 ∙ ap table_given (are_read_one [] (lines_of bytes) r.0 s.0 r.1 s.1) ∙ sym s.3)
file_is_one bytes (Ok t) (Err (BadRule b)) r s m n = absurd (bad_or_read bytes b r.0 s r.1)
file_is_one bytes (Ok t) (Err (DuplicateCategory b)) r s m n =
    let same = are_read_one [] (lines_of bytes) r.0 s.0 r.1 s.1 in absurd (repeats_or_not s.0 b s.2 (subst (NoRepeat []) same r.2))
file_is_one bytes (Err (BadRule a)) (Ok u) r s m n = absurd (bad_or_read bytes a s.0 r s.1)
file_is_one bytes (Err (BadRule a)) (Err (BadRule b)) r s m n = ap (λ x. Err (BadRule x)) (bad_one bytes a b r s)
file_is_one bytes (Err (BadRule a)) (Err (DuplicateCategory b)) r s m n = absurd (bad_or_read bytes a s.0 r s.1)
file_is_one bytes (Err (DuplicateCategory a)) (Ok u) r s m n =
    let same = are_read_one [] (lines_of bytes) s.0 r.0 s.1 r.1 in absurd (repeats_or_not r.0 a r.2 (subst (NoRepeat []) same s.2))
file_is_one bytes (Err (DuplicateCategory a)) (Err (BadRule b)) r s m n = absurd (bad_or_read bytes b r.0 s r.1)
file_is_one bytes (Err (DuplicateCategory a)) (Err (DuplicateCategory b)) r s m n =
    let same = are_read_one [] (lines_of bytes) s.0 r.0 s.1 r.1 in
    ap (λ x. Err (DuplicateCategory x)) (repeats_one r.0 a b r.2 (subst (λ x. RepeatsAt x b) same s.2))
file_is_one bytes (Err Memory) s r q m n = absurd (m refl)
file_is_one bytes r (Err Memory) q s m n = absurd (n refl)
