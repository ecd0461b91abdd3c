-- Where a `Boxed` keeps its value, so that a type may lead back to itself through one. It is seen as
-- the value, and its one field is a `Box`, which owns that value behind a pointer.
use mathlib.Core.Path.{refl}
use mathlib.Core.Former.{Former, this, const, pair, via}
use base.Fml.{ftrue}
use base.Stored.{gnil}
use denote.Memory.{part_of}
use denote.RattleType.{RattleType}
use denote.RawPtr.{Ptr}
use denote.Sharing.{nothing}
use denote.HoleLaws.{Alike}
use denote.HolePlaces.{Recodes, struct_places, laid, one_value}
use denote.Hole.Fix.{over}
use denote.Model.Placed.{view_places}
use denote.Param.Weighed.{Weighed}
use Rattle.std.specs.declared.boxed.Box.{Box}
use Rattle.std.specs.contracts.boxed.Box as heap_box
use Rattle.std.specs.declared.alloc.Global.{Global}
use Rattle.std.specs.contracts.alloc.Global as heap
use Rattle.std.specs.contracts.impls.GlobalAllocator.TheImpl.{ghosts}
use Rattle.yarn_base.specs.contracts.boxed.Boxed as seen
use Rattle.yarn_base.specs.contracts.boxed.Boxed.TheInside as stored
use Rattle.yarn_base.specs.declared.boxed.Boxed.TheInside.{Inside}
use Rattle.yarn_base.specs.declared.boxed.Boxed.TheView.{view, invariant}

abbrev pub the_former : Former {0} → Former {0}
the_former value = value

abbrev pub the_weighed : {value : Former {0}} → Weighed value → Weighed (the_former value)
the_weighed weight = weight

abbrev boxed_row : RattleType → RattleType
boxed_row row = heap_box.the_row row heap.the_row ghosts

-- the same box with another value in it
abbrev holding : {T U : Type 0} → Box T Global → U → Box U Global
holding old value = record { ptr = old.ptr; alloc = old.alloc; value = value }

-- the struct is a pointer, its allocator and the value
abbrev parts : Former {0}
parts = via (pair (const (Ptr × Global)) this) Inside
    (λ T it. ((it.inner.ptr, it.inner.alloc), it.inner.value))
    (λ T all. record { inner = record { ptr = all.0.0; alloc = all.0.1; value = all.1 } }) (λ T it. refl) (λ T all. refl)

module _ (From To : RattleType) (along : From.Denot → To.Denot) where
  same_box : Alike From To along → Alike (boxed_row From) (boxed_row To) (λ it. holding it (along it.value))
  unfolding part_of
  same_box alike = record {
    mir_same = λ i. (boxed_row (one_value From (alike.mir_same i) (λ _. ftrue) (λ _ _. nothing) gnil)).mir;
    own_same = λ it i. (boxed_row (one_value From (alike.mir_same i) (alike.own_same it.value i) (alike.shr_same it.value i) gnil)).own_val (holding it tt);
    shr_same = λ it i. (boxed_row (one_value From (alike.mir_same i) (alike.own_same it.value i) (alike.shr_same it.value i) gnil)).shr_at (holding it tt);
  }

  pub the_places : Alike From To along → Alike (seen.the_row From) (seen.the_row To) ((the_former this).map From.Denot To.Denot along)
  the_places alike =
      let inside = struct_places (stored.the_type From) (stored.the_type To) ((λ it. holding it (along it.value)), tt) _ (λ it. refl) refl
      (laid _ _ _ (same_box alike), tt) in
      view_places parts this view (λ T U f it. refl) (λ T it. refl) From.Denot To.Denot along (seen.the_row From).coded (seen.the_row To).coded
      (invariant From.Denot) (invariant To.Denot) (λ it p q. refl) (λ it p q. refl) (λ it holds. tt) (λ it holds. tt)
      (over (stored.the_row From)) (over (stored.the_row To)) inside

  pub the_codes_placed : Recodes From To along → Recodes (seen.the_row From) (seen.the_row To) ((the_former this).map From.Denot To.Denot along)
  the_codes_placed same value = same value
