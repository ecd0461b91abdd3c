-- Where a `List` keeps its items, so that a type may lead back to itself through one. It is seen as
-- a list, and its one field is a `Vec`, whose items are the same ones in the same order.
use mathlib.Core.List.{List as Items, []}
use mathlib.Core.Path.{◌≡◌, refl, sym}
use mathlib.Core.Former.{Former, this, list, via, children}
use base.Stored.{code_map}
use denote.RattleType.{RattleType}
use denote.HoleLaws.{Alike}
use denote.HolePlaces.{Recodes, struct_places, laid}
use denote.Hole.Carrier.{listed, list-listed}
use denote.Hole.Fix.{over}
use denote.Model.Placed.{view_places}
use denote.Param.Weighed.{Weighed, w_list}
use Rattle.std.specs.formers.vec.Vec as vector
use Rattle.std.specs.declared.alloc.Global.{Global}
use Rattle.std.specs.contracts.alloc.Global as heap
use Rattle.std.specs.contracts.impls.GlobalAllocator.TheImpl.{ghosts}
use Rattle.yarn_base.specs.contracts.list.List as seen
use Rattle.yarn_base.specs.contracts.list.List.TheInside as stored
use Rattle.yarn_base.specs.declared.list.List.TheInside.{Inside}
use Rattle.yarn_base.specs.declared.list.List.TheView.{view, invariant}

abbrev pub the_former : Former {0} → Former {0}
the_former item = list item

abbrev pub the_weighed : {item : Former {0}} → Weighed item → Weighed (the_former item)
the_weighed weight = w_list weight

abbrev pub the_empty : Items ⊥
the_empty = []

abbrev pub the_items : (T : Type 0) → Items T → Items T
the_items T all = all

pub the_items_listed : (T : Type 0) (all : Items T) → listed _ (children (the_former this) T all) ≡ the_items T all
the_items_listed T all = list-listed T all

-- the struct is its one field
abbrev field : Former {0}
field = via (vector.the_former this Global) Inside (λ T it. it.items) (λ T items. record { items = items }) (λ T it. refl) (λ T items. refl)

module _ (From To : RattleType) (along : From.Denot → To.Denot) where
  same_vector : Alike From To along → Alike (seen.the_row From) (seen.the_row To) ((the_former this).map From.Denot To.Denot along)
  same_vector alike =
      let inside = struct_places (stored.the_type From) (stored.the_type To) (vector.mapped along, tt) _ (λ it. refl) refl
      (laid _ _ _ (vector.the_places heap.the_row ghosts From To along alike), tt) in
      view_places field (list this) view (λ T U f it. refl) (λ T it. refl) From.Denot To.Denot along (seen.the_row From).coded (seen.the_row To).coded
      (invariant From.Denot) (invariant To.Denot) (λ it p q. refl) (λ it p q. refl) (λ it holds. tt) (λ it holds. tt)
      (over (stored.the_row From)) (over (stored.the_row To)) inside

  pub the_places : Alike From To along → Alike (seen.the_row From) (seen.the_row To) ((the_former this).map From.Denot To.Denot along)
  the_places = same_vector

  pub the_codes_placed : Recodes From To along → Recodes (seen.the_row From) (seen.the_row To) ((the_former this).map From.Denot To.Denot along)
  the_codes_placed same all = sym (code_map From.coded.code To.coded.code along (λ item. sym (same item)) all)
