-- Names that are free, one more name, and names that don't come again.
use Rattle.std.proofs.Common.{◌≡◌, ℕ, Bool, true, false, List, [], ◌∷◌, ◌++◌, refl, sym, ap, subst, ◌∙◌, arith, nat_eq, not, ◌&&◌}
use Rattle.std.specs.Str.{bytes_eq}
use Rattle.std.proofs.lemmas.Bool.Decides.{nat_tests}
use Rattle.std.proofs.lemmas.List.Elements.{All-push}
use mathlib.Core.Path.{fun_ext}
use Rattle.yarn_value.specs.declared.base.BaseLine.{BaseLine}
use Rattle.yarn_value.specs.declared.signature.Signature.{Signature}
use Rattle.yarn_code.specs.declared.program.CodeNode.{CodeNode}
use Rattle.yarn_code.specs.declared.program.Variable.{Variable}
use Rattle.yarn_code.specs.Decoding.{all_free, without}
use Rattle.yarn_code.specs.Fields.{AreUnique, names_of, function_names, titles_of, ids_of}
use Rattle.yarn_code.specs.Layout.{is_new, variable, variable_with, function, function_with, node, node_with, base_line, base_line_with}

-- ---- tests

moved : (a b c : Bool) → (a && (b && c)) ≡ (b && (a && c))
moved true b c = refl
moved false true c = refl
moved false false c = refl

is_new-push : (names : List (List ℕ)) (name other : List ℕ) → is_new (names ++ name ∷ []) other ≡ (not (bytes_eq name other) && is_new names other)
is_new-push [] name other = refl
is_new-push (n ∷ names) name other = ap (λ b. not (bytes_eq n other) && b) (is_new-push names name other) ∙ moved (not (bytes_eq n other)) (not (bytes_eq name other)) (is_new names other)

pub none_taken : (free : List ℕ → Bool) → free ≡ all_free → free ≡ is_new []
none_taken free e = e ∙ fun_ext (λ name. refl)

pub one_taken : (names : List (List ℕ)) (name : List ℕ) (free more : List ℕ → Bool) → free ≡ is_new names → more ≡ without name free → more ≡ is_new (names ++ name ∷ [])
one_taken names name free more known e = e ∙ ap (without name) known ∙ fun_ext (λ other. sym (is_new-push names name other))

-- ---- lists of names

pub names-push : (xs : List Variable) (x : Variable) → names_of (xs ++ x ∷ []) ≡ names_of xs ++ x.name ∷ []
names-push [] x = refl
names-push (y ∷ xs) x = ap (λ l. y.name ∷ l) (names-push xs x)

pub functions-push : (xs : List Signature) (x : Signature) → function_names (xs ++ x ∷ []) ≡ function_names xs ++ x.name ∷ []
functions-push [] x = refl
functions-push (y ∷ xs) x = ap (λ l. y.name ∷ l) (functions-push xs x)

pub titles-push : (xs : List CodeNode) (x : CodeNode) → titles_of (xs ++ x ∷ []) ≡ titles_of xs ++ x.title ∷ []
titles-push [] x = refl
titles-push (y ∷ xs) x = ap (λ l. y.title ∷ l) (titles-push xs x)

pub ids-push : (xs : List BaseLine) (x : BaseLine) → ids_of (xs ++ x ∷ []) ≡ ids_of xs ++ x.id ∷ []
ids-push [] x = refl
ids-push (y ∷ xs) x = ap (λ l. y.id ∷ l) (ids-push xs x)

-- ---- names that differ

pub and_true : (a b : Bool) → (a && b) ≡ true → (a ≡ true) × (b ≡ true)
and_true true b e = (refl, e)
and_true false b e = absurd cc

same_nat : (n : ℕ) → nat_eq n n ≡ true
same_nat n = grind (arith, nat_tests)

same_bytes : (l : List ℕ) → bytes_eq l l ≡ true
same_bytes [] = refl
same_bytes (n ∷ l) = rw (same_nat n, same_bytes l) refl

other : (a b : List ℕ) → not (bytes_eq a b) ≡ true → a ≡ b → ⊥
other a b e is = refused (bytes_eq a b) e (subst (λ l. bytes_eq a l ≡ true) is (same_bytes a))
  where
    refused : (t : Bool) → not t ≡ true → t ≡ true → ⊥
    refused true e is = absurd cc
    refused false e is = absurd cc

pub AreUnique-push : (names : List (List ℕ)) (name : List ℕ) → AreUnique names → is_new names name ≡ true → AreUnique (names ++ name ∷ [])
AreUnique-push [] name u new = (λ k d lt. absurd (omega (arith, lt)), tt)
AreUnique-push (n ∷ names) name u new =
    let h = and_true (not (bytes_eq n name)) (is_new names name) new in
    (All-push (λ o. n ≡ o → ⊥) names name u.0 (other n name h.0), AreUnique-push names name u.1 h.1)

-- ---- parts whose name is free

pub variable_as : (before : List Variable) (free : List ℕ → Bool) → free ≡ is_new (names_of before) → variable_with free ≡ variable before
unfolding variable
variable_as before free e = ap variable_with e

pub function_as : (before : List Signature) (free : List ℕ → Bool) → free ≡ is_new (function_names before) → function_with free ≡ function before
unfolding function
function_as before free e = ap function_with e

pub node_as : (files : ℕ) (before : List CodeNode) (free : List ℕ → Bool) → free ≡ is_new (titles_of before) → node_with files free ≡ node files before
unfolding node
node_as files before free e = ap (node_with files) e

pub base_line_as : (files nodes : ℕ) (before : List BaseLine) (free : List ℕ → Bool) → free ≡ is_new (ids_of before) → base_line_with files nodes free ≡ base_line files nodes before
unfolding base_line
base_line_as files nodes before free e = ap (base_line_with files nodes) e
