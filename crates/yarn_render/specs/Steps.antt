-- Words of private functions.
use Rattle.std.specs.Prelude.{◌≡◌, ℕ, List, ◌++◌, Some}
use Rattle.yarn_value.specs.Templates.{Form, expanded}
use Rattle.yarn_value.specs.declared.value.Value.{Value}
use Rattle.yarn_table.specs.Tables.{Table, template_under}

-- bytes that the relation allows were put behind
pub record Puts (Allows : List ℕ → Type 0) (old new : List ℕ) : Type 0 where
  pub bytes : List ℕ
  pub allowed : Allows bytes
  pub put : new ≡ old ++ bytes

-- the template of the id with the values put in
pub record IsFilled (table : Table) (id : List ℕ) (values : List Value) (text : List ℕ) : Type 0 where
  pub form : Form
  pub found : template_under table id ≡ Some form
  pub filled : text ≡ expanded form.parts values
