-- A look at all instructions and a pass over all nodes judge a program.
use Rattle.std.proofs.Common.{◌≡◌, ℕ, ◌+◌, ◌<◌, ◌≤◌, List, [], ◌∷◌, length, take, Bool, true, false, All, Option, Some, None, Result, Ok, Err, refl, sym, ap, ◌∙◌, arith}
use Rattle.std.proofs.lemmas.List.Elements.{All-weaker}
use Rattle.yarn_code.specs.declared.program.CodeNode.{CodeNode}
use Rattle.yarn_code.specs.declared.program.Program.{Program}
use Rattle.yarn_code.specs.Fields.{HasFields, IsNodeField}
use Rattle.yarn_check.specs.Shapes.{Shapes, IsValid}
use Rattle.yarn_check.specs.Faults as spec
use Rattle.yarn_check.specs.Pass.{Walked, Ended, Faulted, pass, walk, beginning, shapes_in, pass_nodes, and_node, and_shapes, behind_look, look_node, first_of, if_none, check}
use Rattle.yarn_check.specs.PassLaws.{IsCheckOf}
use Rattle.yarn_check.specs.declared.fault.CheckFault.{CheckFault}
use Rattle.yarn_check.specs.declared.fault.CheckFault.TheVariants as fault
use Rattle.yarn_check.specs.Told.{Names, Tells, fault_in, pass_node, whole_fault, Refuses, IsRefused, Judges}
use Rattle.yarn_check.specs.Views.{walked_from}
use Rattle.yarn_check.proofs.Alike.{take_all}
use Rattle.yarn_check.proofs.Checks.{check_is_exact}

-- ---- a node

from_any : (at end : ℕ) (w : Walked) → fault_in at (walked_from end w) ≡ fault_in at w
from_any at end (Ended cells) = refl
from_any at end (Faulted f place) = refl

pub walked_fault : (p : Program) (n : CodeNode) (at end : ℕ) (w : Walked) → end ≡ length n.code →
    walked_from end w ≡ walked_from end (walk p (take end n.code) 0 (beginning (length n.code))) → fault_in at w ≡ pass_node p at n
walked_fault p n at end w is walked =
    let whole : take end n.code ≡ n.code = ap (λ m. take m n.code) is ∙ take_all n.code in
    sym (from_any at end w) ∙ ap (fault_in at) walked ∙ from_any at end (walk p (take end n.code) 0 (beginning (length n.code)))
    ∙ ap (λ cs. fault_in at (walk p cs 0 (beginning (length n.code)))) whole

-- ---- the program

abbrev fault_of : Result (List Shapes) spec.CheckFault → Option spec.CheckFault
fault_of (Ok all) = None
fault_of (Err f) = Some f

kept : (shapes : Shapes) (rest : Result (List Shapes) spec.CheckFault) → fault_of (and_shapes shapes rest) ≡ fault_of rest
kept shapes (Ok all) = refl
kept shapes (Err f) = refl

one_node : (node : ℕ) (w : Walked) (rest : Result (List Shapes) spec.CheckFault) → fault_of (and_node node w rest) ≡ if_none (fault_in node w) (fault_of rest)
one_node node (Ended cells) rest = kept (shapes_in cells) rest
one_node node (Faulted f place) rest = refl

all_nodes : (p : Program) (node : ℕ) (ns : List CodeNode) → fault_of (pass_nodes p node ns) ≡ first_of (pass_node p) node ns
all_nodes p node [] = refl
all_nodes p node (n ∷ ns) = one_node node (pass p n) (pass_nodes p (node + 1) ns) ∙ ap (if_none (pass_node p node n)) (all_nodes p (node + 1) ns)

behind : (o : Option spec.CheckFault) (rest : Result (List Shapes) spec.CheckFault) → fault_of (behind_look o rest) ≡ if_none o (fault_of rest)
behind None rest = refl
behind (Some f) rest = refl

whole_is : (p : Program) → fault_of (check p) ≡ whole_fault p
whole_is p = behind (first_of (look_node p) 0 p.nodes) (pass_nodes p 0 p.nodes) ∙ ap (if_none (first_of (look_node p) 0 p.nodes)) (all_nodes p 0 p.nodes)

module _ (p : Program) (fields : HasFields p) where
  exact : IsCheckOf p
  exact = check_is_exact p (All-weaker (IsNodeField p) (λ n. 0 < length n.code) (λ n h. let some = h.some in omega (arith, some)) p.nodes fields.nodes)

  is_valid : whole_fault p ≡ None → IsValid p
  is_valid none = by_result (check p) refl (whole_is p ∙ none)
    where
      by_result : (r : Result (List Shapes) spec.CheckFault) → check p ≡ r → fault_of r ≡ None → IsValid p
      by_result (Ok all) e none = (exact.valid all e).0
      by_result (Err f) e none = absurd cc

  is_refused : (g : spec.CheckFault) → whole_fault p ≡ Some g → Refuses p g
  is_refused g some = by_result (check p) refl (whole_is p ∙ some)
    where
      by_result : (r : Result (List Shapes) spec.CheckFault) → check p ≡ r → fault_of r ≡ Some g → Refuses p g
      by_result (Ok all) e some = absurd cc
      by_result (Err f) e some =
          let same : f ≡ g = cc in
          let at : check p ≡ Err g = e ∙ ap (λ x. Err x) same in
          record { invalid = λ v. let ok = exact.ok v in absurd (cc (at, ok.1)); first = exact.fault g at }

  refused_by : (f : CheckFault) → Names (whole_fault p) f → IsRefused p f
  refused_by (fault.BadLabel a b) e = is_refused (spec.BadLabel a b) e
  refused_by (fault.BackwardJump a b) e = is_refused (spec.BackwardJump a b) e
  refused_by (fault.UnknownVariable name) e = is_refused (spec.UnknownVariable name) e
  refused_by (fault.UnknownFunction name) e = is_refused (spec.UnknownFunction name) e
  refused_by (fault.UnknownLine id) e = is_refused (spec.UnknownLine id) e
  refused_by (fault.NoShape a b) e = is_refused (spec.NoShape a b) e
  refused_by (fault.TooManyDeep a b) e = is_refused (spec.TooManyDeep a b) e
  refused_by fault.Memory e = tt

  pub judged : (r : Result (Unit {0}) CheckFault) → Tells (whole_fault p) r → Judges p r
  judged (Ok done) e = is_valid e
  judged (Err f) e = refused_by f e
