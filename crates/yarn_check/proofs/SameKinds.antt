-- When two kinds are the same.
use Rattle.std.proofs.Common.{◌≡◌, true, refl}
use Rattle.yarn_value.specs.declared.value.Kind.{Kind}
use Rattle.yarn_value.specs.declared.value.Kind.TheVariants.{Number, Str, Truth}
use Rattle.yarn_value.specs.Rows.{same_kind}

pub kind_same : (a b : Kind) → same_kind a b ≡ true → a ≡ b
kind_same Number Number h = refl
kind_same Number Str h = cc
kind_same Number Truth h = cc
kind_same Str Number h = cc
kind_same Str Str h = refl
kind_same Str Truth h = cc
kind_same Truth Number h = cc
kind_same Truth Str h = cc
kind_same Truth Truth h = refl

pub same_kind_self : (k : Kind) → same_kind k k ≡ true
same_kind_self Number = refl
same_kind_self Str = refl
same_kind_self Truth = refl
