-- Lists of sets of kinds, and what narrowing them answers. These are this project's own.
use Rattle.std.specs.Prelude.{ℕ, List, Bool, true, false, ◌&&◌, if◌then◌else◌, get_or}
use Rattle.yarn_types.specs.declared.kind_set.KindSet.{KindSet}
use Rattle.yarn_types.specs.declared.set.Meet.{Meet}
use Rattle.yarn_types.specs.declared.set.Meet.TheVariants.{Same, Narrowed, Empty}
use Rattle.yarn_types.specs.KindSets.{all_kinds, has_some}

-- the set at a place
abbrev pub set_at : List KindSet → ℕ → KindSet
set_at sets one = get_or sets one all_kinds

abbrev pub same_truth : Bool → Bool → Bool
same_truth true b = b
same_truth false true = false
same_truth false false = true

abbrev pub same_set : KindSet → KindSet → Bool
same_set one other = same_truth one.number other.number && same_truth one.string other.string && same_truth one.truth other.truth

-- Empty where no kind is left, Narrowed where the set changed, and else Same
abbrev pub change_of : KindSet → KindSet → Meet
change_of old new = if has_some new then (if same_set old new then Same else Narrowed) else Empty

-- the same of two sets that become one
abbrev pub change_of_two : KindSet → KindSet → KindSet → Meet
change_of_two one other new =
    if has_some new then (if same_set one new && same_set other new then Same else Narrowed) else Empty

abbrev pub leaves_some : Meet → Bool
leaves_some Same = true
leaves_some Narrowed = true
leaves_some Empty = false
