-- Which kinds a set holds. Source: docs/language.md, Typing; sets of kinds are this project's own.
use Rattle.std.specs.Prelude.{Bool, true, false, ◌&&◌, ◌||◌, Option, Some, None}
use Rattle.yarn_value.specs.declared.value.Kind.{Kind}
use Rattle.yarn_value.specs.declared.value.Kind.TheVariants.{Number, Str, Truth}
use Rattle.yarn_value.specs.Rows.{same_kind}
use Rattle.yarn_types.specs.declared.kind_set.KindSet.{KindSet}

abbrev pub holds : KindSet → Kind → Bool
holds set Number = set.number
holds set Str = set.string
holds set Truth = set.truth

-- the kinds that both sets hold
abbrev pub shared : KindSet → KindSet → KindSet
shared one other = record {
  number = one.number && other.number;
  string = one.string && other.string;
  truth = one.truth && other.truth;
}

abbrev pub has_some : KindSet → Bool
has_some set = set.number || set.string || set.truth

abbrev pub only : Kind → KindSet
only kind = record { number = same_kind kind Number; string = same_kind kind Str; truth = same_kind kind Truth }

abbrev pub all_kinds : KindSet
all_kinds = record { number = true; string = true; truth = true }

-- the kind of a set that holds one, by its three tests
abbrev pub lone_of : Bool → Bool → Bool → Option Kind
lone_of true false false = Some Number
lone_of false true false = Some Str
lone_of false false true = Some Truth
lone_of _ _ _ = None

abbrev pub lone : KindSet → Option Kind
lone set = lone_of set.number set.string set.truth
