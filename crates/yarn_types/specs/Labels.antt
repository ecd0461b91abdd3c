-- How the members of each class are linked, a word of private functions. Linking is this project's own.
use Rattle.std.specs.Prelude.{◌≡◌, ℕ, zero, suc, ◌<◌, ◌==◌, nat_lt, List, [], ◌∷◌, Bool, true, if◌then◌else◌, length, get_or, slice_set, sum}
use Rattle.std.specs.List.{list_any, list_all}

-- the number at a place
abbrev pub nth : List ℕ → ℕ → ℕ
nth numbers at = get_or numbers at 0

abbrev pub among : List ℕ → ℕ → Bool
among numbers one = list_any (λ other. other == one) numbers

-- whether each number is below the count
abbrev pub below : ℕ → List ℕ → Bool
below count numbers = list_all (λ one. nat_lt one count) numbers

-- each number stands at its own place
pub record IsEachItsOwn (numbers : List ℕ) (count : ℕ) : Type 0 where
  pub counted : length numbers ≡ count
  pub each : (v : ℕ) → v < count → nth numbers v ≡ v

-- one label in the place of another
abbrev pub renamed : ℕ → ℕ → ℕ → ℕ
renamed gone label one = if one == gone then label else one

-- so many variables, from one of them on by the links
abbrev pub walk : List ℕ → ℕ → ℕ → List ℕ
walk next from zero = []
walk next from (suc n) = from ∷ walk next (nth next from) n

-- the labels after each of these variables was given one
abbrev pub relabelled : List ℕ → ℕ → List ℕ → List ℕ
relabelled labels label [] = labels
relabelled labels label (one ∷ more) = relabelled (slice_set labels one label) label more

-- from a variable the links lead through the others of a class, and then to its label
abbrev pub Links : List ℕ → ℕ → ℕ → List ℕ → Type 0
Links next label from [] = from ≡ label
Links next label from (one ∷ more) = (from ≡ one) × (one ≡ label → ⊥) × Links next label (nth next one) more

-- The variables of each class are linked: from the head of its label through all others to the label itself.
pub record Linked (labels heads next sizes : List ℕ) : Type 0 where
  pub heads_long : length heads ≡ length labels
  pub next_long : length next ≡ length labels
  pub sizes_long : length sizes ≡ length labels
  pub inside : (v : ℕ) → v < length labels → nth labels v < length labels
  pub settled : (v : ℕ) → v < length labels → nth labels (nth labels v) ≡ nth labels v
  pub others : ℕ → List ℕ
  pub linked : (v : ℕ) → v < length labels → nth labels v ≡ v → Links next v (nth heads v) (others v)
  pub sized : (v : ℕ) → v < length labels → nth labels v ≡ v → nth sizes v ≡ suc (length (others v))
  pub reached : (v : ℕ) → v < length labels → (nth labels v ≡ v → ⊥) → among (others (nth labels v)) v ≡ true
  pub owned : (v : ℕ) → v < length labels → nth labels v ≡ v → (m : ℕ) → among (others v) m ≡ true → (m < length labels) × (nth labels m ≡ v)
  pub total : sum sizes ≡ length labels
