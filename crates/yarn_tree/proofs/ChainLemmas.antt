-- One refusal after the other.
use Rattle.std.proofs.Common.{◌≡◌, Option, None, sym, ap, ◌∙◌, subst}
use Rattle.yarn_base.specs.declared.Place.{Place}
use Rattle.yarn_tree.specs.declared.refusal.ProjectFault.{ProjectFault}
use Rattle.yarn_tree.specs.declared.refusal.ProjectFault.TheVariants.{Refused, Memory}
use Rattle.yarn_tree.specs.declared.refusal.RefusalKind.{RefusalKind}
use Rattle.yarn_tree.specs.Reading.{Reading, Refuses, unless, IsFault, IsTold}

-- a fault that is told is the fault of what is read
pub told-here : {A : Type 0} (kind : RefusalKind) (place : Option Place) (next : Reading A) (fault : ProjectFault) → IsTold kind place fault →
    IsFault (unless kind place next) fault
told-here kind place next (Refused refusal) is = ap (λ (p : Option Place). unless kind p next) is.1 ∙ ap (λ (k : RefusalKind). Refuses k refusal.place) is.0
told-here kind place next Memory is = tt

-- where the kind has no place, what is read on
pub past-none : {A : Type 0} (kind : RefusalKind) (place : Option Place) (next : Reading A) → place ≡ None → unless kind place next ≡ next
past-none kind place next is = ap (λ (p : Option Place). unless kind p next) is

pub fault-past : {A : Type 0} (kind : RefusalKind) (place : Option Place) (next : Reading A) (fault : ProjectFault) → place ≡ None → IsFault next fault →
    IsFault (unless kind place next) fault
fault-past kind place next fault is at = subst (λ (r : Reading _). IsFault r fault) (sym (past-none kind place next is)) at
