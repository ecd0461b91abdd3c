use Rattle.std.proofs.Common.{◌≡◌, ◌∙◌, refl}
use Rattle.yarn_value.specs.declared.value.Kind.{Kind}
use Rattle.yarn_value.specs.declared.value.Kind.TheVariants as kind
use Rattle.yarn_value.specs.Rows.{same_kind}
use Rattle.yarn_value.specs.contracts.value.KindPartialEq.TheImpl.{eq-value}
use Rattle.yarn_check.proofs.NameLemmas.{kinds_alike}
use Rattle.yarn_check.proofs.names.same_kinds.Goals as goal

one : (k l : Kind) → eq-value.it k l ≡ same_kind k l
one kind.Number kind.Number = refl
one kind.Number kind.Str = refl
one kind.Number kind.Truth = refl
one kind.Str kind.Number = refl
one kind.Str kind.Str = refl
one kind.Str kind.Truth = refl
one kind.Truth kind.Number = refl
one kind.Truth kind.Str = refl
one kind.Truth kind.Truth = refl

pub returns : goal.returns
returns c = c.eq.ensures ∙ kinds_alike eq-value.it one c.args.a.now c.args.b.now
