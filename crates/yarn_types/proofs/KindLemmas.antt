-- Sets of kinds: what a shared set holds, and tests of kinds.
use Rattle.std.proofs.Common.{◌≡◌, Bool, true, false, ◌||◌, refl, sym, ap, ◌∙◌}
use Rattle.std.proofs.lemmas.Bool.{and_parts, and_from}
use Rattle.yarn_value.specs.declared.value.Kind.{Kind}
use Rattle.yarn_value.specs.declared.value.Kind.TheVariants.{Number, Str, Truth}
use Rattle.yarn_types.specs.declared.kind_set.KindSet.{KindSet}
use Rattle.yarn_types.specs.KindSets.{holds, shared, has_some, only}
use Rattle.yarn_value.specs.Rows.{same_kind}

-- the first kind of a set that holds some
abbrev pub first_by : Bool → Bool → Kind
first_by true string = Number
first_by false true = Str
first_by false false = Truth

abbrev pub first_of : KindSet → Kind
first_of set = first_by set.number set.string

-- the last one
abbrev pub last_by : Bool → Bool → Kind
last_by true string = Truth
last_by false true = Str
last_by false false = Number

abbrev pub last_of : KindSet → Kind
last_of set = last_by set.truth set.string

pub holds_first : (a b : KindSet) (k : Kind) → holds (shared a b) k ≡ true → holds a k ≡ true
holds_first a b Number h = (and_parts a.number b.number h).0
holds_first a b Str h = (and_parts a.string b.string h).0
holds_first a b Truth h = (and_parts a.truth b.truth h).0

pub holds_second : (a b : KindSet) (k : Kind) → holds (shared a b) k ≡ true → holds b k ≡ true
holds_second a b Number h = (and_parts a.number b.number h).1
holds_second a b Str h = (and_parts a.string b.string h).1
holds_second a b Truth h = (and_parts a.truth b.truth h).1

pub holds_both : (a b : KindSet) (k : Kind) → holds a k ≡ true → holds b k ≡ true → holds (shared a b) k ≡ true
holds_both a b Number h g = and_from a.number b.number h g
holds_both a b Str h g = and_from a.string b.string h g
holds_both a b Truth h g = and_from a.truth b.truth h g

pub kind_same : (a b : Kind) → same_kind a b ≡ true → a ≡ b
kind_same Number Number h = refl
kind_same Number Str h = cc
kind_same Number Truth h = cc
kind_same Str Number h = cc
kind_same Str Str h = refl
kind_same Str Truth h = cc
kind_same Truth Number h = cc
kind_same Truth Str h = cc
kind_same Truth Truth h = refl

pub same_kind_self : (k : Kind) → same_kind k k ≡ true
same_kind_self Number = refl
same_kind_self Str = refl
same_kind_self Truth = refl

pub same_kind_from : (a b : Kind) → a ≡ b → same_kind a b ≡ true
same_kind_from a b e = ap (λ k. same_kind a k) (sym e) ∙ same_kind_self a

pub same_kind_comm : (a b : Kind) → same_kind a b ≡ same_kind b a
same_kind_comm Number Number = refl
same_kind_comm Number Str = refl
same_kind_comm Number Truth = refl
same_kind_comm Str Number = refl
same_kind_comm Str Str = refl
same_kind_comm Str Truth = refl
same_kind_comm Truth Number = refl
same_kind_comm Truth Str = refl
same_kind_comm Truth Truth = refl

pub holds_only : (a b : Kind) → holds (only a) b ≡ same_kind a b
holds_only Number Number = refl
holds_only Number Str = refl
holds_only Number Truth = refl
holds_only Str Number = refl
holds_only Str Str = refl
holds_only Str Truth = refl
holds_only Truth Number = refl
holds_only Truth Str = refl
holds_only Truth Truth = refl

-- a set that holds none holds no kind
none_held : (a b c : Bool) (k : Kind) → (a || b || c) ≡ false → holds (record { number = a; string = b; truth = c }) k ≡ false
none_held false false false Number h = refl
none_held false false false Str h = refl
none_held false false false Truth h = refl
none_held false false true k h = cc
none_held false true c k h = cc
none_held true b c k h = cc

pub holds_none : (s : KindSet) (k : Kind) → has_some s ≡ false → holds s k ≡ false
holds_none s k h = none_held s.number s.string s.truth k h

first_held : (a b c : Bool) → (a || b || c) ≡ true → holds (record { number = a; string = b; truth = c }) (first_by a b) ≡ true
first_held true b c h = refl
first_held false true c h = refl
first_held false false c h = h

pub holds_first_of : (s : KindSet) → has_some s ≡ true → holds s (first_of s) ≡ true
holds_first_of s h = first_held s.number s.string s.truth h

last_held : (a b c : Bool) → (a || b || c) ≡ true → holds (record { number = a; string = b; truth = c }) (last_by c b) ≡ true
last_held a b true h = refl
last_held a true false h = refl
last_held true false false h = refl
last_held false false false h = h

pub holds_last_of : (s : KindSet) → has_some s ≡ true → holds s (last_of s) ≡ true
holds_last_of s h = last_held s.number s.string s.truth h
