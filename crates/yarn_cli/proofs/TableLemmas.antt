-- The lines and options of an accepted project are a base for which tables are read.
use Rattle.std.proofs.Common.{◌≡◌, ℕ, List, [], ◌∷◌, Bool, true, false, bytes_eq, refl}
use Rattle.std.specs.List.{All}
use Rattle.std.proofs.lemmas.List.Elements.{All-nil, All-cons, All-head, All-tail}
use Rattle.std.proofs.lemmas.Slice.Eq.{bytes_eq-Decides}
use Rattle.yarn_value.specs.declared.base.BaseLine.{BaseLine}
use Rattle.yarn_code.specs.Fields.{IsNew, AreUnique, ids_of}
use Rattle.yarn_ids.specs.BaseLaws.{HasTemplate}
use Rattle.yarn_table.specs.Tables.{AreDistinct, IsTemplate, has_id}
use Rattle.yarn_table.specs.Written.{WrittenIsRead}
use Rattle.yarn_cli.specs.TableLaws.{IsTaken, IsReadBack}

abbrev differs : List ℕ → List ℕ → Type 0
differs id other = id ≡ other → ⊥

new-absent : (id : List ℕ) (base : List BaseLine) → IsNew id (ids_of base) → has_id base id ≡ false
new-absent id [] new = refl
new-absent id (line ∷ base) new = by_test (new-absent id base (All-tail (differs id) line.id (ids_of base) new)) (bytes_eq id line.id) refl
  where
    by_test : has_id base id ≡ false → (t : Bool) → bytes_eq id line.id ≡ t → has_id (line ∷ base) id ≡ false
    by_test later true is = absurd (All-head (differs id) line.id (ids_of base) new ((bytes_eq-Decides id line.id).0 is))
    by_test later false is = rw is later

unique-distinct : (base : List BaseLine) → AreUnique (ids_of base) → AreDistinct base
unique-distinct [] are = tt
unique-distinct (line ∷ base) are = (new-absent line.id base are.0, unique-distinct base are.1)

texts-templates : (base : List BaseLine) → All HasTemplate base → All IsTemplate base
texts-templates [] are = All-nil IsTemplate
texts-templates (line ∷ base) are =
    All-cons IsTemplate line base (All-head HasTemplate line base are).template (texts-templates base (All-tail HasTemplate line base are))

pub read_back : (base : List BaseLine) → AreUnique (ids_of base) → All HasTemplate base → WrittenIsRead → IsTaken base × IsReadBack base
read_back base unique texts written =
    let distinct = unique-distinct base unique in
    let templates = texts-templates base texts in
    (record { distinct = distinct; templates = templates }, λ names are. written names base are distinct templates)
