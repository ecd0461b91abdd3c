-- The program's variables have the kinds of the typing, and counts are numbers.
use Rattle.std.proofs.Common.{◌≡◌, ℕ, suc, List, [], ◌∷◌, ◌++◌, pos, nat_eq, if◌then◌else◌, Option, Some, None, refl, sym, ap, ◌∙◌, Bool, true, false, All}
use Rattle.std.specs.Prelude.{slice_get, unwrap_or}
use Rattle.std.specs.Cmp.Lexicographic.{pointwise}
use Rattle.std.specs.Option.{option_map, option_and_then}
use Rattle.std.proofs.lemmas.Bool.{and_parts, false_from_ne_true}
use Rattle.std.proofs.lemmas.List.Elements.{All-head, All-tail}
use Rattle.std.proofs.lemmas.Slice.Eq.{bytes_eq-Decides}
use Rattle.yarn_value.specs.declared.value.Value.{Value}
use Rattle.yarn_value.specs.declared.value.Value.TheVariants as value
use Rattle.yarn_value.specs.declared.value.Kind.{Kind}
use Rattle.yarn_value.specs.declared.value.Kind.TheVariants.{Number, Str, Truth}
use Rattle.yarn_value.specs.Values.{kind_of}
use Rattle.yarn_blocks.specs.declared.entry.Simple.{Simple}
use Rattle.yarn_blocks.specs.declared.entry.Simple.TheVariants as simple
use Rattle.yarn_blocks.specs.Tree as T
use Rattle.yarn_blocks.specs.Tree.{Leaf, Group, Choice, Nil, Cons, NoOptions, AndOption, NoClauses, AndClause, NoElse, ElseOf}
use Rattle.yarn_tree.specs.Checks.{is_reserved_name}
use Rattle.yarn_tree.specs.Trees.{NodeTree, FileTree}
use Rattle.yarn_types.specs.declared.typed.TypedName.{TypedName}
use Rattle.yarn_types.specs.Names.{place_of}
use Rattle.yarn_types.specs.Typings.{kinds_in}
use Rattle.yarn_types.specs.Units.{agrees}
use Rattle.yarn_types.specs.Fits.{kind_of_variable}
use Rattle.yarn_value.specs.Pairs.{value_under, same_name, Pairs}
use Rattle.yarn_value.specs.Visits.{count_name}
use Rattle.yarn_meaning.specs.Variables.{declared_by, declared_in, declared_in_one, declared_in_options, declared_in_clauses, declared_in_last, declared_in_nodes, declared_in_files, plain_value, first_value, typed_pairs, counts_in, counts_of, variables_of}
use Rattle.yarn_code.specs.Parts.{pairs_of}
use Rattle.yarn_compile.specs.Code.{Terms, kind_of_name, variables_for, program_of}
use Rattle.yarn_kinds.specs.Typed.{variables_in}
use Rattle.yarn_kinds.proofs.Fitting.{FitsSimple, FitsAll, FitsOne, FitsOptions, FitsClauses, FitsLast}
use Rattle.yarn_check.specs.Shapes.{kind_under}
use Rattle.yarn_compile.proofs.Parts.{Each, each_append, each_weaker}
use Rattle.yarn_compile.proofs.Calls.{its_kind_only}
use Rattle.yarn_compile.proofs.ExpressionShapes.{AreVariables}
use Rattle.yarn_compile.proofs.KnownLines.{EachNode}

pub each_from_all : {A : Type 0} (P : A → Type 0) (xs : List A) → All P xs → Each P xs
each_from_all P [] h = tt
each_from_all P (x ∷ xs) h = (All-head P x xs h, each_from_all P xs (All-tail P x xs h))

same_either : (a b : List ℕ) (t : Bool) → pointwise nat_eq a b ≡ t → pointwise nat_eq b a ≡ t
same_either a b true e = (bytes_eq-Decides b a).1 (sym ((bytes_eq-Decides a b).0 e))
same_either a b false e = false_from_ne_true (pointwise nat_eq b a) (λ f. absurd (cc (e, (bytes_eq-Decides a b).1 (sym ((bytes_eq-Decides b a).0 f)))))

-- ---- declarations

module _ (terms : Terms) where
  -- the variable has the kind of its first value
  abbrev IsDeclared : List ℕ × Value → Type 0
  IsDeclared d = kind_of_name terms d.0 ≡ Some (kind_of d.1)

  declared_simple : (s : Simple) → FitsSimple terms.signatures terms.entries s → Each IsDeclared (declared_by s)
  declared_simple (simple.Line text) fits = tt
  declared_simple (simple.Command text) fits = tt
  declared_simple (simple.Set head name op e) fits = tt
  declared_simple (simple.Declare head name v kind) fits = (its_kind_only (kind_of v) (kind_of_name terms name) (and_parts (agrees (kind_of v) kind) _ fits).1, tt)
  declared_simple (simple.Jump head title) fits = tt
  declared_simple (simple.JumpTo head e) fits = tt
  declared_simple (simple.Stop head) fits = tt
  declared_simple (simple.Call head e) fits = tt

  mutual
    declared_all : (b : T.Stmts) → FitsAll terms.signatures terms.entries b → Each IsDeclared (declared_in b)
    declared_all Nil fits = tt
    declared_all (Cons s b) fits = each_append IsDeclared (declared_in_one s) (declared_in b) (declared_one s fits.0) (declared_all b fits.1)

    declared_one : (s : T.Stmt) → FitsOne terms.signatures terms.entries s → Each IsDeclared (declared_in_one s)
    declared_one (Leaf s) fits = declared_simple s fits
    declared_one (Group os) fits = declared_options os fits
    declared_one (Choice cs last e) fits = each_append IsDeclared (declared_in_clauses cs) (declared_in_last last) (declared_clauses cs fits.0) (declared_last last fits.1)

    declared_options : (os : T.Options) → FitsOptions terms.signatures terms.entries os → Each IsDeclared (declared_in_options os)
    declared_options NoOptions fits = tt
    declared_options (AndOption n body os) fits = each_append IsDeclared (declared_in body) (declared_in_options os) (declared_all body fits.1) (declared_options os fits.2)

    declared_clauses : (cs : T.Clauses) → FitsClauses terms.signatures terms.entries cs → Each IsDeclared (declared_in_clauses cs)
    declared_clauses NoClauses fits = tt
    declared_clauses (AndClause n body cs) fits = each_append IsDeclared (declared_in body) (declared_in_clauses cs) (declared_all body fits.1) (declared_clauses cs fits.2)

    declared_last : (last : T.Last) → FitsLast terms.signatures terms.entries last → Each IsDeclared (declared_in_last last)
    declared_last NoElse fits = tt
    declared_last (ElseOf head body) fits = declared_all body fits

  declared_nodes : (ns : List NodeTree) → Each (λ (n : NodeTree). FitsAll terms.signatures terms.entries n.body) ns → Each IsDeclared (declared_in_nodes ns)
  declared_nodes [] fits = tt
  declared_nodes (n ∷ ns) fits = each_append IsDeclared (declared_in n.body) (declared_in_nodes ns) (declared_all n.body fits.0) (declared_nodes ns fits.1)

  declared_files : (fs : List FileTree) → EachNode (λ n. FitsAll terms.signatures terms.entries n.body) fs → Each IsDeclared (declared_in_files fs)
  declared_files [] fits = tt
  declared_files (f ∷ fs) fits = each_append IsDeclared (declared_in_nodes f.nodes) (declared_in_files fs) (declared_nodes f.nodes fits.0) (declared_files fs fits.1)

  value_kind : (ds : Pairs) (name : List ℕ) (v : Value) → Each IsDeclared ds → value_under ds name ≡ Some v → kind_of_name terms name ≡ Some (kind_of v)
  value_kind [] name v h e = absurd cc
  value_kind (d ∷ ds) name v h e = by_name (same_name name d.0) refl e (value_kind ds name v h.1)
    where
      by_name : (b : Bool) → same_name name d.0 ≡ b → (if b then Some d.1 else value_under ds name) ≡ Some v → (value_under ds name ≡ Some v → kind_of_name terms name ≡ Some (kind_of v)) →
          kind_of_name terms name ≡ Some (kind_of v)
      by_name true is f g =
          let same : d.1 ≡ v = cc in
          ap (kind_of_name terms) ((bytes_eq-Decides name d.0).0 is) ∙ h.0 ∙ ap (λ x. Some (kind_of x)) same
      by_name false is f g = g f

-- ---- typed variables

abbrev HasKind : Pairs → List ℕ → Kind → Type 0
HasKind pairs name k = option_map kind_of (value_under pairs name) ≡ Some k

plain_kind : (k : Kind) → kind_of (plain_value k) ≡ k
plain_kind Number = refl
plain_kind Str = refl
plain_kind Truth = refl

first_kind : (declared : Pairs) (entry : TypedName) (k : Kind) → entry.kind ≡ k → ((v : Value) → value_under declared entry.name ≡ Some v → kind_of v ≡ k) → kind_of (first_value declared entry) ≡ k
first_kind declared entry k is own = by_value (value_under declared entry.name) refl
  where
    by_value : (o : Option Value) → value_under declared entry.name ≡ o → kind_of (unwrap_or o (plain_value entry.kind)) ≡ k
    by_value None e = plain_kind entry.kind ∙ is
    by_value (Some v) e = own v e

module _ (declared more : Pairs) (name : List ℕ) (k : Kind) (own : (v : Value) → value_under declared name ≡ Some v → kind_of v ≡ k) where
  typed_kind : (es : List TypedName) → kind_of_variable (variables_in es) (kinds_in es) name ≡ Some k → HasKind (typed_pairs declared es ++ more) name k
  typed_kind [] e = absurd cc
  typed_kind (entry ∷ es) e = by_name (pointwise nat_eq entry.name name) refl e (typed_kind es)
    where
      behind : (o : Option ℕ) → option_and_then (slice_get (entry.kind ∷ kinds_in es)) (option_map suc o) ≡ Some k → option_and_then (slice_get (kinds_in es)) o ≡ Some k
      behind None f = f
      behind (Some m) f = f

      by_name : (b : Bool) → pointwise nat_eq entry.name name ≡ b → option_and_then (slice_get (entry.kind ∷ kinds_in es)) (if b then Some 0 else option_map suc (place_of (variables_in es) name)) ≡ Some k →
          (kind_of_variable (variables_in es) (kinds_in es) name ≡ Some k → HasKind (typed_pairs declared es ++ more) name k) → HasKind (typed_pairs declared (entry ∷ es) ++ more) name k
      by_name true is f g =
          let kept : entry.kind ≡ k = cc in
          let same : entry.name ≡ name = (bytes_eq-Decides entry.name name).0 is in
          ap (λ (b : Bool). option_map kind_of (if b then Some (first_value declared entry) else value_under (typed_pairs declared es ++ more) name)) (same_either entry.name name true is)
          ∙ ap (λ x. Some x) (first_kind declared entry k kept (λ v h. own v (ap (value_under declared) (sym same) ∙ h)))
      by_name false is f g =
          ap (λ (b : Bool). option_map kind_of (if b then Some (first_value declared entry) else value_under (typed_pairs declared es ++ more) name)) (same_either entry.name name false is)
          ∙ g (behind (place_of (variables_in es) name) f)

-- the variables of a program are the pairs that they come from
pairs_back : (terms : Terms) (ps : Pairs) → pairs_of (variables_for terms ps) ≡ ps
pairs_back terms [] = refl
pairs_back terms (v ∷ ps) = ap (λ (l : Pairs). v ∷ l) (pairs_back terms ps)

pub kind_there : (terms : Terms) (files : List FileTree) (name : List ℕ) → kind_under (program_of terms files) name ≡ option_map kind_of (value_under (variables_of terms.entries files) name)
kind_there terms files name = ap (λ (ps : Pairs). option_map kind_of (value_under ps name)) (pairs_back terms (variables_of terms.entries files))

pub variables_known : (terms : Terms) (files : List FileTree) → EachNode (λ n. FitsAll terms.signatures terms.entries n.body) files →
    AreVariables terms (program_of terms files)
variables_known terms files fits name k is =
    let all = declared_files terms files fits in
    let own : (v : Value) → value_under (declared_in_files files) name ≡ Some v → kind_of v ≡ k =
    λ v e. let has = value_kind terms (declared_in_files files) name v all e in cc (has, is) in
    kind_there terms files name ∙ typed_kind (declared_in_files files) (counts_of files) name k own terms.entries is

-- ---- counts

counted_more : (x name : List ℕ) (n : Value) (ps : Pairs) → kind_of n ≡ Number → HasKind ps name Number → HasKind ((x, n) ∷ ps) name Number
counted_more x name n ps is h = by_name (same_name name x)
  where
    by_name : (b : Bool) → option_map kind_of (if b then Some n else value_under ps name) ≡ Some Number
    by_name true = ap (λ k. Some k) is
    by_name false = h

counted_behind : (ns : List NodeTree) (ps : Pairs) (name : List ℕ) → HasKind ps name Number → HasKind (counts_in ns ++ ps) name Number
counted_behind [] ps name h = h
counted_behind (n ∷ ns) ps name h = counted_more (count_name n.title) name (value.Number (pos 0)) (counts_in ns ++ ps) refl (counted_behind ns ps name h)

counted_nodes : (ns : List NodeTree) (ps : Pairs) → Each (λ (n : NodeTree). HasKind (counts_in ns ++ ps) (count_name n.title) Number) ns
counted_nodes [] ps = tt
counted_nodes (n ∷ ns) ps = (
  ap (λ (b : Bool). option_map kind_of (if b then Some (value.Number (pos 0)) else value_under (counts_in ns ++ ps) (count_name n.title))) ((bytes_eq-Decides (count_name n.title) (count_name n.title)).1 refl),
  each_weaker (λ (m : NodeTree). HasKind (counts_in ns ++ ps) (count_name m.title) Number) (λ (m : NodeTree). HasKind (counts_in (n ∷ ns) ++ ps) (count_name m.title) Number)
      (λ m h. counted_more (count_name n.title) (count_name m.title) (value.Number (pos 0)) (counts_in ns ++ ps) refl h) ns (counted_nodes ns ps),
)

counted_files : (fs : List FileTree) → EachNode (λ n. HasKind (counts_of fs) (count_name n.title) Number) fs
counted_files [] = tt
counted_files (f ∷ fs) = (
  counted_nodes f.nodes (counts_of fs),
  each_weaker (λ (g : FileTree). Each (λ (n : NodeTree). HasKind (counts_of fs) (count_name n.title) Number) g.nodes) (λ (g : FileTree). Each (λ (n : NodeTree). HasKind (counts_of (f ∷ fs)) (count_name n.title) Number) g.nodes)
      (λ g h. each_weaker (λ (n : NodeTree). HasKind (counts_of fs) (count_name n.title) Number) (λ (n : NodeTree). HasKind (counts_of (f ∷ fs)) (count_name n.title) Number)
      (λ n r. counted_behind f.nodes (counts_of fs) (count_name n.title) r) g.nodes h) fs (counted_files fs),
)

reserved : (title : List ℕ) → is_reserved_name (count_name title) ≡ true
unfolding count_name
reserved title = refl

past_typed : (declared more : Pairs) (name : List ℕ) → is_reserved_name name ≡ true → (es : List TypedName) → Each (λ (e : TypedName). is_reserved_name e.name ≡ false) es →
    value_under (typed_pairs declared es ++ more) name ≡ value_under more name
past_typed declared more name is [] h = refl
past_typed declared more name is (e ∷ es) h =
    let differ = false_from_ne_true (same_name name e.name) (λ f. absurd (cc (ap is_reserved_name ((bytes_eq-Decides name e.name).0 f), is, h.0))) in
    ap (λ (b : Bool). if b then Some (first_value declared e) else value_under (typed_pairs declared es ++ more) name) differ ∙ past_typed declared more name is es h.1

pub counts_known : (terms : Terms) (files : List FileTree) → Each (λ (e : TypedName). is_reserved_name e.name ≡ false) terms.entries →
    EachNode (λ n. kind_under (program_of terms files) (count_name n.title) ≡ Some Number) files
counts_known terms files unreserved =
    each_weaker (λ (f : FileTree). Each (λ (n : NodeTree). HasKind (counts_of files) (count_name n.title) Number) f.nodes)
    (λ (f : FileTree). Each (λ (n : NodeTree). kind_under (program_of terms files) (count_name n.title) ≡ Some Number) f.nodes)
    (λ f h. each_weaker (λ (n : NodeTree). HasKind (counts_of files) (count_name n.title) Number) (λ (n : NodeTree). kind_under (program_of terms files) (count_name n.title) ≡ Some Number)
    (λ n r. kind_there terms files (count_name n.title)
    ∙ (ap (option_map kind_of) (past_typed (declared_in_files files) (counts_of files) (count_name n.title) (reserved n.title) terms.entries unreserved) ∙ r)) f.nodes h)
    files (counted_files files)
