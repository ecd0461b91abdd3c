-- The one typing of an accepted project fits its trees.
use Rattle.std.proofs.Common.{◌≡◌, ℕ, suc, List, [], ◌∷◌, ◌++◌, length, map, nat_eq, Bool, true, false, ◌&&◌, if◌then◌else◌, Option, Some, None, is_some, refl, sym, ap, ◌∙◌, subst, All}
use mathlib.Core.Path.{ap₂}
use Rattle.std.specs.Prelude.{slice_get}
use Rattle.std.specs.Cmp.Lexicographic.{pointwise}
use Rattle.std.specs.List.{list_all}
use Rattle.std.specs.Option.{option_map, option_and_then}
use Rattle.std.proofs.lemmas.Bool.{and_parts}
use Rattle.std.proofs.lemmas.List.Elements.{All-nil, All-cons}
use Rattle.std.proofs.lemmas.List.Folds.{list_all-append}
use Rattle.yarn_base.specs.declared.SourceFile.{SourceFile}
use Rattle.yarn_value.specs.declared.value.Kind.{Kind}
use Rattle.yarn_value.specs.declared.signature.Signature.{Signature}
use Rattle.yarn_value.specs.Values.{kind_of as value_kind}
use Rattle.yarn_expr.specs.declared.tree.Expr.{Expr}
use Rattle.yarn_expr.specs.declared.tree.Expr.TheOpen.{Expr-F}
use Rattle.yarn_expr.specs.declared.tree.BinaryOp.{BinaryOp}
use Rattle.yarn_expr.specs.declared.tree.BinaryOp.TheVariants.{Eq}
use Rattle.yarn_expr.proofs.Layers.{at_number, at_string, at_truth, at_variable, at_group, at_unary, at_binary, at_call}
use Rattle.yarn_blocks.specs.declared.entry.Simple.{Simple}
use Rattle.yarn_blocks.specs.declared.entry.Simple.TheVariants as simple
use Rattle.yarn_blocks.specs.Tree as T
use Rattle.yarn_blocks.specs.Tree.{Leaf, Group, Choice, Nil, Cons, NoOptions, AndOption, NoClauses, AndClause, NoElse, ElseOf}
use Rattle.yarn_nodes.specs.declared.node.FileLines.{FileLines}
use Rattle.yarn_tree.specs.Checks.{is_reserved_name, is_reserved}
use Rattle.yarn_tree.specs.Trees.{NodeTree, FileTree, grown}
use Rattle.yarn_tree.specs.Uses.{UseAt}
use Rattle.yarn_tree.specs.Laws.{ReadExactly, uses_from}
use Rattle.yarn_types.specs.declared.typed.TypedName.{TypedName}
use Rattle.yarn_types.specs.Names.{Appearance, appearance, place_of}
use Rattle.yarn_types.specs.Fits.{kind_of_variable, kind_step, kind_of, joined, is_in}
use Rattle.yarn_types.specs.KindSets.{only}
use Rattle.yarn_types.specs.Typings.{kinds_in, names_in_entries, Fits}
use Rattle.yarn_types.specs.Units.{Asked, Values, ValuesIf, Value, Condition, Title, Set, Declare, UnitAt, agrees, variables_of, has_kind, is_truth, kind_set, fits_asked, fits_all}
use Rattle.yarn_infer.specs.Typings.{Typed, typed_names, kinding_of}
use Rattle.yarn_infer.specs.Units.{unit_at, values_unit, simple_units, offer_units, stmts_units, stmt_units, options_units, clauses_units, last_units, nodes_units, files_units, units_of}
use Rattle.yarn_infer.proofs.CountLemmas.{IsFound, found, kinds_back, names_back}
use Rattle.yarn_kinds.specs.Typed.{variables_in, FitsUnits, IsTyped, AreAccepted, AcceptedIsTyped}
use Rattle.yarn_kinds.proofs.Parts.{OfEach, of_all}
use Rattle.yarn_kinds.proofs.Fitting.{offer_asks, FitsLine, FitsSimple, FitsAll, FitsOne, FitsOptions, FitsClauses, FitsLast, FitsFiles}
use Rattle.yarn_kinds.proofs.Names.{Each, each_all, from_all, FreeName, FreeAt, files_free, variables_free, NamesDiffer, variables_apart}

-- ---- kinds go by names alone

-- two lists of variables have their names at the same places
abbrev SamePlaces : List Appearance → List Appearance → Type 0
SamePlaces xs ys = (name : List ℕ) → place_of xs name ≡ place_of ys name

abbrev names_of : List Appearance → List (List ℕ)
names_of = map (λ a. a.name)

abbrev first_of : List (List ℕ) → List ℕ
first_of [] = []
first_of (n ∷ ns) = n

abbrev rest_of : List (List ℕ) → List (List ℕ)
rest_of [] = []
rest_of (n ∷ ns) = ns

same_places : (xs ys : List Appearance) → names_of xs ≡ names_of ys → SamePlaces xs ys
same_places [] [] e name = refl
same_places [] (b ∷ ys) e name = absurd cc
same_places (a ∷ xs) [] e name = absurd cc
same_places (a ∷ xs) (b ∷ ys) e name =
    ap₂ (λ (own : List ℕ) (o : Option ℕ). if pointwise nat_eq own name then Some 0 else option_map suc o) (ap first_of e) (same_places xs ys (ap rest_of e) name)

module _ (signatures : List Signature) (xs ys : List Appearance) (kinds : List Kind) (same : SamePlaces xs ys) where
  same_variable : (name : List ℕ) → kind_of_variable xs kinds name ≡ kind_of_variable ys kinds name
  same_variable name = ap (option_and_then (slice_get kinds)) (same name)

  abbrev Alike : Expr → Type 0
  Alike e = kind_of signatures xs kinds e ≡ kind_of signatures ys kinds e

  abbrev a_step : Expr-F (Option Kind) → Option Kind
  a_step = kind_step signatures xs kinds

  abbrev b_step : Expr-F (Option Kind) → Option Kind
  b_step = kind_step signatures ys kinds

  args_alike : (args : List ((e : Expr) × Alike e)) → map (kind_of signatures xs kinds) (map (λ e. e.0) args) ≡ map (kind_of signatures ys kinds) (map (λ e. e.0) args)
  args_alike [] = refl
  args_alike (e ∷ args) = ap₂ (λ (k : Option Kind) (ks : List (Option Kind)). k ∷ ks) e.1 (args_alike args)

  alike_parts : OfEach Alike
  alike_parts = record {
    number = λ n. at_number (Option Kind) a_step n ∙ sym (at_number (Option Kind) b_step n);
    str = λ text. at_string (Option Kind) a_step text ∙ sym (at_string (Option Kind) b_step text);
    truth = λ b. at_truth (Option Kind) a_step b ∙ sym (at_truth (Option Kind) b_step b);
    variable = λ name. at_variable (Option Kind) a_step name ∙ (same_variable name ∙ sym (at_variable (Option Kind) b_step name));
    group = λ e inner. at_group (Option Kind) a_step e ∙ (inner ∙ sym (at_group (Option Kind) b_step e));
    unary = λ op e inner.
        at_unary (Option Kind) a_step op e ∙ (ap (λ (k : Option Kind). a_step (Expr-F.Unary op k)) inner ∙ sym (at_unary (Option Kind) b_step op e));
    binary = λ op l r left right. at_binary (Option Kind) a_step op l r ∙ (ap₂ (joined op) left right ∙ sym (at_binary (Option Kind) b_step op l r));
    call = λ name args.
        at_call (Option Kind) a_step name (map (λ e. e.0) args)
        ∙ (ap (λ (ks : List (Option Kind)). a_step (Expr-F.Call name ks)) (args_alike args) ∙ sym (at_call (Option Kind) b_step name (map (λ e. e.0) args)));
  }

  alike : (e : Expr) → Alike e
  alike = of_all Alike alike_parts

  some_alike : (e : Expr) → has_kind signatures xs kinds e ≡ has_kind signatures ys kinds e
  some_alike e = ap is_some (alike e)

  all_alike : (es : List Expr) → list_all (has_kind signatures xs kinds) es ≡ list_all (has_kind signatures ys kinds) es
  all_alike [] = refl
  all_alike (e ∷ es) = ap₂ (λ (x y : Bool). x && y) (some_alike e) (all_alike es)

  set_alike : (name : List ℕ) (o : Option BinaryOp) (e : Expr) → kind_set signatures xs kinds name o e ≡ kind_set signatures ys kinds name o e
  set_alike name None e = alike e
  set_alike name (Some op) e = ap₂ (joined op) (same_variable name) (alike e)

  asked_alike : (asked : Asked) → fits_asked signatures xs kinds asked ≡ fits_asked signatures ys kinds asked
  asked_alike (Values es) = all_alike es
  asked_alike (ValuesIf es e) = ap₂ (λ (x y : Bool). x && y) (all_alike es) (ap (is_in _) (alike e))
  asked_alike (Value e) = some_alike e
  asked_alike (Condition e) = ap (is_in _) (alike e)
  asked_alike (Title e) = ap (is_in _) (alike e)
  asked_alike (Set name o e) = ap₂ (λ (k l : Option Kind). is_some (joined Eq k l)) (same_variable name) (set_alike name o e)
  asked_alike (Declare name kind word) = ap (λ (k : Option Kind). agrees kind word && is_in (only kind) k) (same_variable name)

  pub units_alike : (us : List UnitAt) → fits_all signatures xs kinds us ≡ fits_all signatures ys kinds us
  units_alike [] = refl
  units_alike (u ∷ us) = ap₂ (λ (x y : Bool). x && y) (asked_alike u.asked) (units_alike us)

-- ---- from lines to trees

module _ (signatures : List Signature) (entries : List TypedName) where
  abbrev Fit : List UnitAt → Type 0
  Fit = FitsUnits signatures entries

  fit_parts : (a b : List UnitAt) → Fit (a ++ b) → Fit a × Fit b
  fit_parts a b h =
      and_parts (fits_all signatures (variables_in entries) (kinds_in entries) a) (fits_all signatures (variables_in entries) (kinds_in entries) b)
      (sym (list_all-append (λ (u : UnitAt). fits_asked signatures (variables_in entries) (kinds_in entries) u.asked) a b) ∙ h)

  fit_one : (u : UnitAt) (us : List UnitAt) → Fit (u ∷ us) → FitsLine signatures entries u.asked × Fit us
  fit_one u us h =
      and_parts (fits_asked signatures (variables_in entries) (kinds_in entries) u.asked) (fits_all signatures (variables_in entries) (kinds_in entries) us) h

  only_fits : (file line : ℕ) (asked : Asked) → Fit (unit_at file line asked ∷ []) → FitsLine signatures entries asked
  only_fits file line asked h = (fit_one (unit_at file line asked) [] h).0

  values_fit : (file line : ℕ) (es : List Expr) → Fit (values_unit file line es) → FitsLine signatures entries (Values es)
  values_fit file line [] h = refl
  values_fit file line (e ∷ es) h = only_fits file line (Values (e ∷ es)) h

  simple_fits : (file : ℕ) (s : Simple) → Fit (simple_units file s) → FitsSimple signatures entries s
  simple_fits file (simple.Line text) h = values_fit file text.line text.holes h
  simple_fits file (simple.Command text) h = values_fit file text.line text.holes h
  simple_fits file (simple.Set head name op e) h = only_fits file head.line (Set name op e) h
  simple_fits file (simple.Declare head name value kind) h = only_fits file head.line (Declare name (value_kind value) kind) h
  simple_fits file (simple.Jump head title) h = tt
  simple_fits file (simple.JumpTo head e) h = only_fits file head.line (Title e) h
  simple_fits file (simple.Stop head) h = tt
  simple_fits file (simple.Call head e) h = only_fits file head.line (Value e) h

  offer_fits : (file line : ℕ) (es : List Expr) (o : Option Expr) → Fit (offer_units file line es o) → FitsLine signatures entries (offer_asks es o)
  offer_fits file line es None h = values_fit file line es h
  offer_fits file line es (Some e) h = only_fits file line (ValuesIf es e) h

  mutual
    pub stmts_fit : (file : ℕ) (b : T.Stmts) → Fit (stmts_units file b) → FitsAll signatures entries b
    stmts_fit file Nil h = tt
    stmts_fit file (Cons s b) h = let both = fit_parts (stmt_units file s) (stmts_units file b) h in (stmt_fits file s both.0, stmts_fit file b both.1)

    stmt_fits : (file : ℕ) (s : T.Stmt) → Fit (stmt_units file s) → FitsOne signatures entries s
    stmt_fits file (Leaf s) h = simple_fits file s h
    stmt_fits file (Group os) h = options_fit file os h
    stmt_fits file (Choice cs last e) h = let both = fit_parts (clauses_units file cs) (last_units file last) h in (clauses_fit file cs both.0, last_fits file last both.1)

    options_fit : (file : ℕ) (os : T.Options) → Fit (options_units file os) → FitsOptions signatures entries os
    options_fit file NoOptions h = tt
    options_fit file (AndOption n body os) h =
        let both = fit_parts (offer_units file n.text.line n.text.holes n.condition) (stmts_units file body ++ options_units file os) h in
        let more = fit_parts (stmts_units file body) (options_units file os) both.1 in
        (offer_fits file n.text.line n.text.holes n.condition both.0, stmts_fit file body more.0, options_fit file os more.1)

    clauses_fit : (file : ℕ) (cs : T.Clauses) → Fit (clauses_units file cs) → FitsClauses signatures entries cs
    clauses_fit file NoClauses h = tt
    clauses_fit file (AndClause n body cs) h =
        let both = fit_one (unit_at file n.head.line (Condition n.condition)) (stmts_units file body ++ clauses_units file cs) h in
        let more = fit_parts (stmts_units file body) (clauses_units file cs) both.1 in
        (both.0, stmts_fit file body more.0, clauses_fit file cs more.1)

    last_fits : (file : ℕ) (last : T.Last) → Fit (last_units file last) → FitsLast signatures entries last
    last_fits file NoElse h = tt
    last_fits file (ElseOf head body) h = stmts_fit file body h

  nodes_fit : (file : ℕ) (ns : List NodeTree) → Fit (nodes_units file ns) → All (λ n. FitsAll signatures entries n.body) ns
  nodes_fit file [] h = All-nil (λ (n : NodeTree). FitsAll signatures entries n.body)
  nodes_fit file (n ∷ ns) h =
      let both = fit_parts (stmts_units file n.body) (nodes_units file ns) h in
      All-cons (λ (n : NodeTree). FitsAll signatures entries n.body) n ns (stmts_fit file n.body both.0) (nodes_fit file ns both.1)

  pub files_fit : (file : ℕ) (files : List FileTree) → Fit (files_units file files) → FitsFiles signatures entries files
  files_fit file [] h = All-nil (λ (f : FileTree). All (λ n. FitsAll signatures entries n.body) f.nodes)
  files_fit file (f ∷ files) h =
      let both = fit_parts (nodes_units file f.nodes) (files_units (suc file) files) h in
      All-cons (λ (f : FileTree). All (λ n. FitsAll signatures entries n.body) f.nodes) f files (nodes_fit file f.nodes both.0) (files_fit (suc file) files both.1)

-- ---- the entries of a typing

names_same : (entries : List TypedName) → names_of (variables_in entries) ≡ names_in_entries entries
names_same [] = refl
names_same (entry ∷ entries) = ap (λ ns. entry.name ∷ ns) (names_same entries)

-- no name stands twice
abbrev pub AreApart : List TypedName → Type 0
AreApart [] = Unit {0}
AreApart (entry ∷ entries) = All (λ other. entry.name ≡ other.name → ⊥) entries × AreApart entries

free_entries : (entries : List TypedName) (xs : List Appearance) → names_in_entries entries ≡ names_of xs → Each FreeName xs → All (λ entry. is_reserved_name entry.name ≡ false) entries
free_entries [] xs e h = All-nil (λ (entry : TypedName). is_reserved_name entry.name ≡ false)
free_entries (entry ∷ entries) [] e h = absurd cc
free_entries (entry ∷ entries) (a ∷ xs) e h =
    All-cons (λ (entry : TypedName). is_reserved_name entry.name ≡ false) entry entries (ap is_reserved_name (ap first_of e) ∙ h.0) (free_entries entries xs (ap rest_of e) h.1)

apart_entries : (entries : List TypedName) (xs : List Appearance) → names_in_entries entries ≡ names_of xs → NamesDiffer xs → AreApart entries
apart_entries [] xs e h = tt
apart_entries (entry ∷ entries) [] e h = absurd cc
apart_entries (entry ∷ entries) (a ∷ xs) e h = (others entries xs (ap rest_of e) h.0, apart_entries entries xs (ap rest_of e) h.1)
  where
    others : (more : List TypedName) (ys : List Appearance) → names_in_entries more ≡ names_of ys → Each (λ b. a.name ≡ b.name → ⊥) ys → All (λ other. entry.name ≡ other.name → ⊥) more
    others [] ys f g = All-nil (λ (other : TypedName). entry.name ≡ other.name → ⊥)
    others (one ∷ more) [] f g = absurd cc
    others (one ∷ more) (b ∷ ys) f g =
        All-cons (λ (other : TypedName). entry.name ≡ other.name → ⊥) one more (λ is. g.0 (sym (ap first_of e) ∙ (is ∙ ap first_of f))) (others more ys (ap rest_of f) g.1)

-- ---- accepted projects

-- what an accepted project's typing is known to be
pub record IsFitting (signatures : List Signature) (entries : List TypedName) (files : List FileTree) : Type 0 where
  pub lines : FitsUnits signatures entries (units_of files)
  pub fits : FitsFiles signatures entries files
  pub unreserved : All (λ entry. is_reserved_name entry.name ≡ false) entries
  pub apart : AreApart entries

module _ (exactly : ReadExactly) (signatures : List Signature) (sources : List SourceFile) (lines : List FileLines) (entries : List TypedName) (accepted : AreAccepted signatures sources lines entries) where
  abbrev trees : List FileTree
  trees = map grown lines

  typing : IsFound signatures (units_of trees) entries
  typing = found signatures (units_of trees) entries accepted.typed

  entries_named : names_in_entries entries ≡ names_of (variables_of (units_of trees))
  entries_named = ap names_in_entries typing.is ∙ names_back (variables_of (units_of trees)) typing.kinds typing.fits.counted

  entries_fit : FitsUnits signatures entries (units_of trees)
  entries_fit =
      units_alike signatures (variables_in entries) (variables_of (units_of trees)) (kinds_in entries)
      (same_places (variables_in entries) (variables_of (units_of trees)) (names_same entries ∙ entries_named)) (units_of trees)
      ∙ (ap (λ ks. fits_all signatures (variables_of (units_of trees)) ks (units_of trees)) (ap kinds_in typing.is ∙ kinds_back (variables_of (units_of trees)) typing.kinds typing.fits.counted)
      ∙ typing.fits.fits)

  pub accepted_typed : IsFitting signatures entries trees
  accepted_typed = record {
    lines = entries_fit;
    fits = files_fit signatures entries 0 trees entries_fit;
    unreserved = free_entries entries (variables_of (units_of trees)) entries_named
        (variables_free (units_of trees) (files_free 0 0 lines (from_all FreeAt (uses_from 0 lines) ((exactly signatures sources lines).0 accepted.read).named.unreserved)));
    apart = apart_entries entries (variables_of (units_of trees)) entries_named (variables_apart (units_of trees));
  }

pub accepted_is_typed : ReadExactly → AcceptedIsTyped
accepted_is_typed exactly signatures sources lines entries accepted =
    let known = accepted_typed exactly signatures sources lines entries accepted in
    record { fits = known.lines; unreserved = known.unreserved }
