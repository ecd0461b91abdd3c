use Rattle.std.proofs.Common.{◌≡◌, ◌<◌, ◌≤◌, List, length, None, Some, IfOk, ap, sym, ◌∙◌, subst}
use Rattle.std.specs.Prelude.{slice_get}
use Rattle.std.specs.Option.{option_map}
use Rattle.yarn_code.specs.declared.program.Coded.{Coded}
use Rattle.yarn_code.specs.declared.program.Program.{Program}
use Rattle.yarn_check.specs.Pass.{came_to}
use Rattle.yarn_check.specs.ShapeAt.{shape_of}
use Rattle.yarn_check.proofs.ShapeLemmas.{in_node}
use Rattle.yarn_check.proofs.checked.Checked.shape.Goals as goal

pub returns-in_ok-names-in-Some : goal.returns-in_ok-names-in-Some
returns-in_ok-names-in-Some c =
    let p = c.args.self.now in
    let n = c.in-Some.node.now in
    let at = c.args.at in
    let result = c.shape_in.result in
    let stands : slice_get p.nodes c.args.node ≡ Some n =
    ap (λ (q : Program). slice_get q.nodes c.args.node) (sym c.self.view_is) ∙ sym c.in-Some.ensures.value in
    let names : c.in_ok-names-in-Some.names ≡ p = c.in_ok-names-in-Some.ensures ∙ c.self.view_is in
    let code : c.as_slice.result.now ≡ n.code = c.as_slice.ensures in
    in_node p c.args.node at n result stands
    (subst (λ (q : Program). IfOk result (λ told. at < length n.code → option_map shape_of told ≡ came_to q n.code at)) names
    (subst (λ (l : List Coded). IfOk result (λ told. at < length l → option_map shape_of told ≡ came_to c.in_ok-names-in-Some.names l at)) code c.shape_in.ensures.there))
    (subst (λ (l : List Coded). IfOk result (λ told. length l ≤ at → told ≡ None)) code c.shape_in.ensures.past)
