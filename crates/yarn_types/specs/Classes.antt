-- Which lists of kinds the classes allow, and what narrowing them means, words of private functions.
use Rattle.std.specs.Prelude.{◌≡◌, ℕ, ◌<◌, List, Bool, true, false, Option, Some, is_some, length, replicate}
use Rattle.yarn_value.specs.declared.value.Kind.{Kind}
use Rattle.yarn_types.specs.declared.finding.Found.{Found}
use Rattle.yarn_types.specs.declared.finding.Found.TheVariants.{Known, OfVariable}
use Rattle.yarn_types.specs.declared.class.Classes.{Classes}
use Rattle.yarn_types.specs.KindSets.{holds, has_some, all_kinds}
use Rattle.yarn_types.specs.Sets.{set_at}
use Rattle.yarn_types.specs.Labels.{nth}
use Rattle.yarn_types.specs.Typings.{kind_at}
use Rattle.yarn_types.specs.Founds.{kind_in}

-- how many variables there are
abbrev pub count_of : Classes → ℕ
count_of c = length c.labels

-- the variable that stands for a variable's class
abbrev pub label_of : Classes → ℕ → ℕ
label_of c variable = nth c.labels variable

-- labels stand for themselves, and the set of each class holds some kind
pub record Stands (c : Classes) : Type 0 where
  pub sets : length c.kinds ≡ count_of c
  pub inside : (v : ℕ) → v < count_of c → label_of c v < count_of c
  pub settled : (v : ℕ) → v < count_of c → label_of c (label_of c v) ≡ label_of c v
  pub filled : (v : ℕ) → v < count_of c → has_some (set_at c.kinds v) ≡ true

-- the list gives each variable the kind of its class, and a kind of the class's set
pub record Allows (c : Classes) (typing : List Kind) : Type 0 where
  pub counted : length typing ≡ count_of c
  pub alike : (v : ℕ) → v < count_of c → kind_at typing (label_of c v) ≡ kind_at typing v
  pub within : (v : ℕ) → v < count_of c → holds (set_at c.kinds (label_of c v)) (kind_at typing v) ≡ true

-- each variable stands for itself, and no kind is taken away
pub record IsFresh (c : Classes) (count : ℕ) : Type 0 where
  pub kinds : c.kinds ≡ replicate count all_kinds
  pub counted : count_of c ≡ count
  pub labels : (v : ℕ) → v < count → label_of c v ≡ v

-- one list is allowed, and no other
pub record IsAlone (c : Classes) (typing : List Kind) : Type 0 where
  pub allowed : Allows c typing
  pub only : (other : List Kind) → Allows c other → other ≡ typing

-- the first variable with two kinds in two lists that are allowed
pub record IsOpenAt (c : Classes) (variable : ℕ) : Type 0 where
  pub inside : variable < count_of c
  pub one : List Kind
  pub other : List Kind
  pub one_allowed : Allows c one
  pub other_allowed : Allows c other
  pub apart : kind_at one variable ≡ kind_at other variable → ⊥
  pub earlier : (v : ℕ) → v < variable → (s t : List Kind) → Allows c s → Allows c t → kind_at s v ≡ kind_at t v

-- what was found is no variable beyond the last
abbrev pub IsPlaced : Classes → Found → Type 0
IsPlaced c (Known kind) = Unit {0}
IsPlaced c (OfVariable variable) = variable < count_of c

-- now those lists are allowed that were allowed before and pass the test
pub record Narrows (before after : Classes) (test : List Kind → Bool) : Type 0 where
  pub stands : Stands after
  pub count : count_of after ≡ count_of before
  pub keeps : (typing : List Kind) → Allows after typing → Allows before typing
  pub passes : (typing : List Kind) → Allows after typing → test typing ≡ true
  pub stays : (typing : List Kind) → Allows before typing → test typing ≡ true → Allows after typing

-- no list that is allowed passes the test
abbrev pub Refuses : Classes → (List Kind → Bool) → Type 0
Refuses c test = (typing : List Kind) → Allows c typing → test typing ≡ false

-- the same where a kind is asked for, which is then the one found
pub record Finds (before after : Classes) (asked : List Kind → Option Kind) (found : Found) : Type 0 where
  pub narrows : Narrows before after (λ typing. is_some (asked typing))
  pub placed : IsPlaced after found
  pub gives : (typing : List Kind) → Allows after typing → asked typing ≡ Some (kind_in found typing)

-- a list is asked for a kind, and none that is allowed has one
abbrev pub FindsNone : Classes → (List Kind → Option Kind) → Type 0
FindsNone c asked = Refuses c (λ typing. is_some (asked typing))

-- some of a test is done: what is left of it makes the whole
pub record Halfway (before now : Classes) (whole left : List Kind → Bool) : Type 0 where
  pub stands : Stands now
  pub count : count_of now ≡ count_of before
  pub keeps : (typing : List Kind) → Allows now typing → Allows before typing
  pub goes_on : (typing : List Kind) → Allows before typing → whole typing ≡ true → Allows now typing × (left typing ≡ true)
  pub comes_back : (typing : List Kind) → Allows now typing → left typing ≡ true → whole typing ≡ true
