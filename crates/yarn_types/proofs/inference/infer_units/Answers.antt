use Rattle.std.proofs.Common.{◌∙◌, map}
use Rattle.yarn_types.specs.declared.expression.Scope.{Scope}
use Rattle.yarn_types.specs.Units.{unit_of}
use Rattle.yarn_types.proofs.InferLemmas.{read_ok, read_err, no_typing}
use Rattle.yarn_types.proofs.inference.infer_units.Goals as goal

pub returns-in-Ok-clause-ok : goal.returns-in-Ok-clause-ok
returns-in-Ok-clause-ok g c =
    let scope : Scope = record { names = c.in_ok-names.names; functions = c.in_ok-functions.functions } in
    read_ok scope (map unit_of c.args.units.now) c.in_ok-names.ensures c.args.signatures.now (c.in_ok-functions.ensures ∙ c.as_slice.ensures) c.in_ok-classes.classes c.keep_units.new.classes (rw c.len.ensures at c.in_ok-classes.ensures) c.in-Ok.ensures.ok
    c.as_slice-in-Ok.result.now c.as_slice-in-Ok.ensures c.read_off.result c.read_off.ensures.ok c.read_off.ensures.named

pub returns-in-Ok-clause-err : goal.returns-in-Ok-clause-err
returns-in-Ok-clause-err g c =
    let scope : Scope = record { names = c.in_ok-names.names; functions = c.in_ok-functions.functions } in
    read_err scope (map unit_of c.args.units.now) c.in_ok-names.ensures c.args.signatures.now (c.in_ok-functions.ensures ∙ c.as_slice.ensures) c.in_ok-classes.classes c.keep_units.new.classes (rw c.len.ensures at c.in_ok-classes.ensures) c.in-Ok.ensures.ok
    c.as_slice-in-Ok.result.now c.as_slice-in-Ok.ensures c.read_off.result c.read_off.ensures.err

pub returns-clause-err : goal.returns-clause-err
returns-clause-err g c =
    let scope : Scope = record { names = c.in_ok-names.names; functions = c.in_ok-functions.functions } in
    no_typing scope (map unit_of c.args.units.now) c.in_ok-names.ensures c.args.signatures.now (c.in_ok-functions.ensures ∙ c.as_slice.ensures) c.in_ok-classes.classes c.in_ok-classes.classes (rw c.len.ensures at c.in_ok-classes.ensures) c.in-Err.place c.in-Err.ensures.err
