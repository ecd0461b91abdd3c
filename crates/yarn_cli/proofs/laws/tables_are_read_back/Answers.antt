use Rattle.yarn_ids.specs.BaseLaws.{rows_of}
use Rattle.yarn_cli.proofs.TableLemmas.{read_back}
use Rattle.yarn_cli.proofs.laws.tables_are_read_back.Goals as goal

pub returns : goal.returns
returns c = λ signatures sources project is.
    read_back (rows_of project) (c.ids_differ.ensures signatures sources project is) (c.texts_are_templates.ensures signatures sources project is) c.written_is_read.ensures
