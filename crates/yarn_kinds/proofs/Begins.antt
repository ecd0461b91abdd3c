-- A store that holds the variables of a project is sound.
use Rattle.std.proofs.Common.{◌≡◌, ℕ, suc, pos, List, [], ◌∷◌, ◌++◌, nat_eq, Bool, true, false, if◌then◌else◌, Option, Some, None, unwrap_or, All, refl, sym, ap, ◌∙◌, subst}
use Rattle.std.specs.Cmp.Lexicographic.{pointwise}
use Rattle.std.specs.Option.{option_map, option_and_then}
use Rattle.std.specs.Prelude.{slice_get}
use Rattle.std.proofs.lemmas.Bool.{and_parts}
use Rattle.std.proofs.lemmas.List.Elements.{All-nil, All-cons, All-head, All-tail, All-append}
use Rattle.yarn_value.specs.declared.value.Value.{Value}
use Rattle.yarn_value.specs.declared.value.Value.TheVariants.{Number, Str, Truth}
use Rattle.yarn_value.specs.declared.value.Kind.{Kind}
use Rattle.yarn_value.specs.declared.value.Kind.TheVariants as kind
use Rattle.yarn_value.specs.declared.signature.Signature.{Signature}
use Rattle.yarn_value.specs.Values.{kind_of}
use Rattle.yarn_blocks.specs.declared.entry.Simple.{Simple}
use Rattle.yarn_blocks.specs.declared.entry.Simple.TheVariants as simple
use Rattle.yarn_blocks.specs.Tree as T
use Rattle.yarn_blocks.specs.Tree.{Leaf, Group, Nil, Cons, NoOptions, AndOption, NoClauses, AndClause, NoElse, ElseOf}
use Rattle.yarn_tree.specs.Trees.{NodeTree, FileTree}
use Rattle.yarn_value.specs.Pairs.{Pair, same_name, value_under, Pairs}
use Rattle.yarn_types.specs.declared.typed.TypedName.{TypedName}
use Rattle.yarn_types.specs.KindSets.{only}
use Rattle.yarn_types.specs.Names.{place_of}
use Rattle.yarn_types.specs.Fits.{kind_of_variable, is_in}
use Rattle.yarn_types.specs.Typings.{kinds_in}
use Rattle.yarn_types.specs.Units.{agrees}
use Rattle.yarn_value.specs.Visits.{count_name, number_in}
use Rattle.yarn_meaning.specs.Variables.{declared_by, declared_in, declared_in_one, declared_in_options, declared_in_clauses, declared_in_last, declared_in_nodes, declared_in_files, plain_value, first_value, typed_pairs, counts_in, counts_of}
use Rattle.yarn_kinds.specs.Typed.{variables_in}
use Rattle.yarn_kinds.proofs.Fitting.{FitsSimple, FitsAll, FitsOne, FitsOptions, FitsClauses, FitsLast}
use Rattle.yarn_code.specs.Kinds.{HasKind}
use Rattle.yarn_kinds.specs.Kept.{titles_within, titles_of, HeldIsSound, CountIsStored}
use Rattle.yarn_kinds.proofs.Asked.{in_kind}
use Rattle.yarn_kinds.proofs.Typed.{files_fit as trees_fit}
use Rattle.yarn_kinds.proofs.Stores.{names_same}

-- ---- what is declared has the kind of its variable

module _ (signatures : List Signature) (entries : List TypedName) where
  abbrev kind_in : List ℕ → Option Kind
  kind_in = kind_of_variable (variables_in entries) (kinds_in entries)

  abbrev IsFit : Pair → Type 0
  IsFit p = kind_in p.0 ≡ Some (kind_of p.1)

  simple_fit : (s : Simple) → FitsSimple signatures entries s → All IsFit (declared_by s)
  simple_fit (simple.Declare head name value word) fits =
      All-cons IsFit (name, value) [] (in_kind (kind_of value) (kind_in name) (and_parts (agrees (kind_of value) word) (is_in (only (kind_of value)) (kind_in name)) fits).1) (All-nil IsFit)
  simple_fit (simple.Line text) fits = All-nil IsFit
  simple_fit (simple.Set head name op e) fits = All-nil IsFit
  simple_fit (simple.Jump head title) fits = All-nil IsFit
  simple_fit (simple.JumpTo head e) fits = All-nil IsFit
  simple_fit (simple.Stop head) fits = All-nil IsFit
  simple_fit (simple.Call head e) fits = All-nil IsFit
  simple_fit (simple.Command text) fits = All-nil IsFit

  mutual
    all_fit : (b : T.Stmts) → FitsAll signatures entries b → All IsFit (declared_in b)
    all_fit Nil fits = All-nil IsFit
    all_fit (Cons s b) fits = All-append IsFit (declared_in_one s) (declared_in b) (one_fit s fits.0) (all_fit b fits.1)

    one_fit : (s : T.Stmt) → FitsOne signatures entries s → All IsFit (declared_in_one s)
    one_fit (Leaf s) fits = simple_fit s fits
    one_fit (Group os) fits = options_fit os fits
    one_fit (T.Choice cs last e) fits = All-append IsFit (declared_in_clauses cs) (declared_in_last last) (clauses_fit cs fits.0) (last_fit last fits.1)

    options_fit : (os : T.Options) → FitsOptions signatures entries os → All IsFit (declared_in_options os)
    options_fit NoOptions fits = All-nil IsFit
    options_fit (AndOption n body os) fits = All-append IsFit (declared_in body) (declared_in_options os) (all_fit body fits.1) (options_fit os fits.2)

    clauses_fit : (cs : T.Clauses) → FitsClauses signatures entries cs → All IsFit (declared_in_clauses cs)
    clauses_fit NoClauses fits = All-nil IsFit
    clauses_fit (AndClause n body cs) fits = All-append IsFit (declared_in body) (declared_in_clauses cs) (all_fit body fits.1) (clauses_fit cs fits.2)

    last_fit : (last : T.Last) → FitsLast signatures entries last → All IsFit (declared_in_last last)
    last_fit NoElse fits = All-nil IsFit
    last_fit (ElseOf head body) fits = all_fit body fits

  abbrev NodeFits : NodeTree → Type 0
  NodeFits n = FitsAll signatures entries n.body

  abbrev FileFits : FileTree → Type 0
  FileFits f = All NodeFits f.nodes

  nodes_fit : (ns : List NodeTree) → All NodeFits ns → All IsFit (declared_in_nodes ns)
  nodes_fit [] all = All-nil IsFit
  nodes_fit (n ∷ ns) all = All-append IsFit (declared_in n.body) (declared_in_nodes ns) (all_fit n.body (All-head NodeFits n ns all)) (nodes_fit ns (All-tail NodeFits n ns all))

  declared_fit : (fs : List FileTree) → All FileFits fs → All IsFit (declared_in_files fs)
  declared_fit [] all = All-nil IsFit
  declared_fit (f ∷ fs) all = All-append IsFit (declared_in_nodes f.nodes) (declared_in_files fs) (nodes_fit f.nodes (All-head FileFits f fs all)) (declared_fit fs (All-tail FileFits f fs all))

  -- the value that is declared of a variable
  declared_kind : (ps : Pairs) (name : List ℕ) (value : Value) → All IsFit ps → value_under ps name ≡ Some value → kind_in name ≡ Some (kind_of value)
  declared_kind [] name value all is = absurd cc
  declared_kind (p ∷ ps) name value all is = by_test (declared_kind ps name value (All-tail IsFit p ps all)) (same_name name p.0) refl is
    where
      one_value : Some p.1 ≡ Some value → p.1 ≡ value
      one_value h = cc

      by_test : (value_under ps name ≡ Some value → kind_in name ≡ Some (kind_of value)) → (b : Bool) → same_name name p.0 ≡ b → (if b then Some p.1 else value_under ps name) ≡ Some value → kind_in name ≡ Some (kind_of value)
      by_test later true same h = ap kind_in (names_same name p.0 same) ∙ All-head IsFit p ps all ∙ ap (λ v. Some (kind_of v)) (one_value h)
      by_test later false same h = later h

-- ---- the variables

abbrev pub HasOwn : Pairs → Pair → Type 0
HasOwn store p = HasKind store p.0 (kind_of p.1)

plain_kind : (k : Kind) → kind_of (plain_value k) ≡ k
plain_kind kind.Number = refl
plain_kind kind.Str = refl
plain_kind kind.Truth = refl

first_kind : (found : Option Value) (own k : Kind) → ((value : Value) → found ≡ Some value → kind_of value ≡ k) → own ≡ k → kind_of (unwrap_or found (plain_value own)) ≡ k
first_kind (Some value) own k declared is = declared value refl
first_kind None own k declared is = plain_kind own ∙ is

later_kind : (first : Kind) (kinds : List Kind) (o : Option ℕ) → option_and_then (slice_get (first ∷ kinds)) (option_map suc o) ≡ option_and_then (slice_get kinds) o
later_kind first kinds (Some i) = refl
later_kind first kinds None = refl

module _ (store : Pairs) (declared : Pairs) (name : List ℕ) (k : Kind) (fits : (value : Value) → value_under declared name ≡ Some value → kind_of value ≡ k) where
  variable_held : (entries : List TypedName) → kind_of_variable (variables_in entries) (kinds_in entries) name ≡ Some k → All (HasOwn store) (typed_pairs declared entries) → HasKind store name k
  variable_held [] is all = absurd cc
  variable_held (entry ∷ entries) is all =
      by_test (λ h. variable_held entries h (All-tail (HasOwn store) (entry.name, first_value declared entry) (typed_pairs declared entries) all)) (pointwise nat_eq entry.name name) refl is
    where
      one_kind : Some entry.kind ≡ Some k → entry.kind ≡ k
      one_kind h = cc

      by_test : (kind_of_variable (variables_in entries) (kinds_in entries) name ≡ Some k → HasKind store name k) → (b : Bool) → pointwise nat_eq entry.name name ≡ b →
          option_and_then (slice_get (entry.kind ∷ kinds_in entries)) (if b then Some 0 else option_map suc (place_of (variables_in entries) name)) ≡ Some k → HasKind store name k
      by_test later true same h =
          let e = names_same entry.name name same in
          let own : kind_of (first_value declared entry) ≡ k =
          first_kind (value_under declared entry.name) entry.kind k (λ value there. fits value (ap (value_under declared) (sym e) ∙ there)) (one_kind h) in
          subst (λ n. HasKind store n k) e
          (All-head (HasOwn store) (entry.name, first_value declared entry) (typed_pairs declared entries) all ∙ ap (λ j. Some j) own)
      by_test later false same h = later (sym (later_kind entry.kind (kinds_in entries) (place_of (variables_in entries) name)) ∙ h)

-- ---- the counts

front : {X : Type 0} (P : X → Type 0) (xs ys : List X) → All P (xs ++ ys) → All P xs
front P [] ys all = All-nil P
front P (x ∷ xs) ys all = All-cons P x xs (All-head P x (xs ++ ys) all) (front P xs ys (All-tail P x (xs ++ ys) all))

behind : {X : Type 0} (P : X → Type 0) (xs ys : List X) → All P (xs ++ ys) → All P ys
behind P [] ys all = all
behind P (x ∷ xs) ys all = behind P xs ys (All-tail P x (xs ++ ys) all)

abbrev IsCounted : Pairs → List ℕ → Type 0
IsCounted store title = HasKind store (count_name title) kind.Number

node_counts : (store : Pairs) (ns : List NodeTree) → All (HasOwn store) (counts_in ns) → All (IsCounted store) (titles_within ns)
node_counts store [] all = All-nil (IsCounted store)
node_counts store (n ∷ ns) all =
    All-cons (IsCounted store) n.title (titles_within ns) (All-head (HasOwn store) (count_name n.title, Number (pos 0)) (counts_in ns) all)
    (node_counts store ns (All-tail (HasOwn store) (count_name n.title, Number (pos 0)) (counts_in ns) all))

file_counts : (store : Pairs) (fs : List FileTree) → All (HasOwn store) (counts_of fs) → All (IsCounted store) (titles_of fs)
file_counts store [] all = All-nil (IsCounted store)
file_counts store (f ∷ fs) all =
    All-append (IsCounted store) (titles_within f.nodes) (titles_of fs) (node_counts store f.nodes (front (HasOwn store) (counts_in f.nodes) (counts_of fs) all))
    (file_counts store fs (behind (HasOwn store) (counts_in f.nodes) (counts_of fs) all))

same_kinds : (value : Value) (k : Kind) → Some k ≡ Some (kind_of value) → kind_of value ≡ k
same_kinds value k h = cc

pub held_is_sound : HeldIsSound
held_is_sound signatures entries files store typed holds =
    let declared = declared_in_files files in
    record {
      keeps = λ name k is. variable_held store declared name k
          (λ value there. same_kinds value k (sym is ∙ declared_kind signatures entries declared name value (declared_fit signatures entries files (trees_fit signatures entries 0 files typed.fits)) there))
          entries is (front (HasOwn store) (typed_pairs declared entries) (counts_of files) holds);
      counts = file_counts store files (behind (HasOwn store) (typed_pairs declared entries) (counts_of files) holds);
    }

pub count_is_stored : CountIsStored
count_is_stored store title has = by_value (value_under store (count_name title)) has
  where
    by_value : (o : Option Value) → option_map kind_of o ≡ Some kind.Number → unwrap_or o (Number (pos 0)) ≡ Number (number_in o)
    by_value (Some (Number n)) h = refl
    by_value (Some (Str text)) h = absurd cc
    by_value (Some (Truth b)) h = absurd cc
    by_value None h = absurd cc
