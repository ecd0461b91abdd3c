-- The variables of an accepted project's code: each is a name behind a `$` with a value that fits, and none comes again.
use Rattle.std.proofs.Common.{◌≡◌, ℕ, suc, ◌<◌, ◌≤◌, List, [], ◌∷◌, ◌++◌, length, map, pos, Option, Some, None, is_some, refl, sym, ap, ◌∙◌, subst, arith, Bool, true, false, ◌||◌, ◌&&◌, ◌==◌, if◌then◌else◌, All}
use Rattle.std.specs.Prelude.{codes, drop, nat_lt, unwrap_or, IsUtf8}
use Rattle.std.specs.List.{list_all, flat_map}
use Rattle.std.specs.Str.{chars}
use Rattle.std.specs.Char.{is_ascii_alphanumeric}
use Rattle.std.proofs.lemmas.Bool.{and_parts, and_from, false≢true}
use Rattle.std.proofs.lemmas.Bool.Decides.{nat_tests}
use Rattle.std.proofs.lemmas.List.Elements.{All-nil, All-cons, All-head, All-tail}
use Rattle.std.proofs.lemmas.List.Folds.{list_all-append}
use Rattle.std.proofs.lemmas.Str.{chars-append}
use Rattle.unicode_ident.specs.Ident.{is_xid_start, is_xid_continue}
use Rattle.unicode_ident.proofs.IdentLemmas.{is_xid_start-ascii, is_xid_continue-ascii, is_xid_start-is_xid_continue}
use Rattle.yarn_base.specs.declared.Place.{Place}
use Rattle.yarn_base.specs.Name.{starts_name, continues_name, is_name_of, is_variable_of}
use Rattle.yarn_value.specs.declared.value.Value.{Value}
use Rattle.yarn_value.specs.declared.value.Value.TheVariants as value
use Rattle.yarn_value.specs.declared.value.Kind.{Kind}
use Rattle.yarn_value.specs.declared.value.Kind.TheVariants as kind
use Rattle.yarn_value.specs.declared.signature.Signature.{Signature}
use Rattle.yarn_value.specs.Pairs.{Pairs, same_name, value_under}
use Rattle.yarn_value.specs.Visits.{count_name}
use Rattle.yarn_expr.specs.declared.tree.Expr.{Expr}
use Rattle.yarn_expr.proofs.Shown.{ascii-spelt, ascii-scalar}
use Rattle.yarn_blocks.specs.declared.entry.Simple.{Simple}
use Rattle.yarn_blocks.specs.declared.entry.Simple.TheVariants as simple
use Rattle.yarn_blocks.specs.Tree as T
use Rattle.yarn_blocks.specs.Tree.{Leaf, Group, Choice, Nil, Cons, NoOptions, AndOption, NoClauses, AndClause, NoElse, ElseOf}
use Rattle.yarn_nodes.specs.declared.node.FileLines.{FileLines}
use Rattle.yarn_nodes.specs.declared.node.NodeLines.{NodeLines}
use Rattle.yarn_tree.specs.Checks.{is_reserved_name}
use Rattle.yarn_tree.specs.Laws.{nodes_of, titles, AreDistinct}
use Rattle.yarn_tree.specs.Trees.{NodeTree, FileTree, grown_node, grown}
use Rattle.yarn_types.specs.declared.typed.TypedName.{TypedName}
use Rattle.yarn_types.specs.Names.{Appearance, appearance, place_of, with_one, with_all}
use Rattle.yarn_types.specs.Fits.{names_in}
use Rattle.yarn_types.specs.Typings.{names_in_entries}
use Rattle.yarn_types.specs.Units as units
use Rattle.yarn_types.specs.Units.{Asked, UnitAt, names_in_all, names_asked, appearances_in}
use Rattle.yarn_infer.specs.Units.{unit_at, values_unit, simple_units, offer_units, stmts_units, stmt_units, options_units, clauses_units, last_units, nodes_units, files_units, units_of}
use Rattle.yarn_infer.specs.Typings.{Typed, kinding_of}
use Rattle.yarn_infer.proofs.CountLemmas.{IsFound, found, names_back}
use Rattle.yarn_kinds.proofs.Typed.{AreApart}
use Rattle.yarn_code.specs.declared.program.Variable.{Variable}
use Rattle.yarn_code.specs.Fields.{IsFitting, IsName, IsNew, AreUnique, IsVariableField, names_of}
use Rattle.yarn_meaning.specs.Variables.{declared_by, declared_in, declared_in_one, declared_in_options, declared_in_clauses, declared_in_last, declared_in_nodes, declared_in_files, plain_value, first_value, typed_pairs, counts_in, counts_of, variables_of}
use Rattle.yarn_compile.specs.Code.{Terms, variables_for}
use Rattle.yarn_compile.proofs.Parts.{Each, each_append}
use Rattle.yarn_compile.proofs.KnownLines.{EachNode}
use Rattle.yarn_compile.proofs.FieldCharacters.{IsVariableName}
use Rattle.yarn_compile.proofs.FieldExpressions.{FineExpr}
use Rattle.yarn_compile.proofs.FieldItems.{FineIf}
use Rattle.yarn_compile.proofs.FieldTrees.{FineSimple, FineAll, FineOne, FineOptions, FineClauses, FineLast}
use Rattle.yarn_compile.proofs.FieldNodes.{distinct_unique}

-- ---- the names in lines

abbrev AreNamed : List (List ℕ) → Type 0
AreNamed = Each IsVariableName

abbrev NamedUnit : UnitAt → Type 0
NamedUnit u = AreNamed (names_asked u.asked)

names_all : (es : List Expr) → Each FineExpr es → AreNamed (names_in_all es)
names_all [] h = tt
names_all (e ∷ es) h = each_append IsVariableName (names_in e) (names_in_all es) h.0.names (names_all es h.1)

values_named : (file line : ℕ) (es : List Expr) → Each FineExpr es → Each NamedUnit (values_unit file line es)
values_named file line [] h = tt
values_named file line (e ∷ es) h = (names_all (e ∷ es) h, tt)

simple_named : (file : ℕ) (s : Simple) → FineSimple s → Each NamedUnit (simple_units file s)
simple_named file (simple.Line text) h = values_named file text.line text.holes h
simple_named file (simple.Command text) h = values_named file text.line text.holes h
simple_named file (simple.Set head name op e) h = ((h.0, h.1.names), tt)
simple_named file (simple.Declare head name v k) h = ((h.0, tt), tt)
simple_named file (simple.Jump head title) h = tt
simple_named file (simple.JumpTo head e) h = (h.names, tt)
simple_named file (simple.Stop head) h = tt
simple_named file (simple.Call head e) h = (h.names, tt)

offer_named : (file line : ℕ) (es : List Expr) (o : Option Expr) → Each FineExpr es → FineIf o → Each NamedUnit (offer_units file line es o)
offer_named file line es None h g = values_named file line es h
offer_named file line es (Some e) h g = (each_append IsVariableName (names_in_all es) (names_in e) (names_all es h) g.names, tt)

module _ (file : ℕ) where
  mutual
    all_named : (b : T.Stmts) → FineAll b → Each NamedUnit (stmts_units file b)
    all_named Nil h = tt
    all_named (Cons s b) h = each_append NamedUnit (stmt_units file s) (stmts_units file b) (one_named s h.0) (all_named b h.1)

    one_named : (s : T.Stmt) → FineOne s → Each NamedUnit (stmt_units file s)
    one_named (Leaf s) h = simple_named file s h
    one_named (Group os) h = options_named os h
    one_named (Choice cs last e) h = each_append NamedUnit (clauses_units file cs) (last_units file last) (clauses_named cs h.0) (last_named last h.1)

    options_named : (os : T.Options) → FineOptions os → Each NamedUnit (options_units file os)
    options_named NoOptions h = tt
    options_named (AndOption n body os) h =
        each_append NamedUnit (offer_units file n.text.line n.text.holes n.condition) (stmts_units file body ++ options_units file os)
        (offer_named file n.text.line n.text.holes n.condition h.0.0 h.0.1)
        (each_append NamedUnit (stmts_units file body) (options_units file os) (all_named body h.1) (options_named os h.2))

    clauses_named : (cs : T.Clauses) → FineClauses cs → Each NamedUnit (clauses_units file cs)
    clauses_named NoClauses h = tt
    clauses_named (AndClause n body cs) h =
        (h.0.names, each_append NamedUnit (stmts_units file body) (clauses_units file cs) (all_named body h.1) (clauses_named cs h.2))

    last_named : (last : T.Last) → FineLast last → Each NamedUnit (last_units file last)
    last_named NoElse h = tt
    last_named (ElseOf head body) h = all_named body h

  nodes_named : (ns : List NodeTree) → Each (λ (n : NodeTree). FineAll n.body) ns → Each NamedUnit (nodes_units file ns)
  nodes_named [] h = tt
  nodes_named (n ∷ ns) h = each_append NamedUnit (stmts_units file n.body) (nodes_units file ns) (all_named n.body h.0) (nodes_named ns h.1)

files_named : (file : ℕ) (files : List FileTree) → EachNode (λ n. FineAll n.body) files → Each NamedUnit (files_units file files)
files_named file [] h = tt
files_named file (f ∷ files) h = each_append NamedUnit (nodes_units file f.nodes) (files_units (suc file) files) (nodes_named file f.nodes h.0) (files_named (suc file) files h.1)

-- ---- the variables of lines

abbrev NamedHere : Appearance → Type 0
NamedHere a = IsVariableName a.name

put_named : (known : List Appearance) (one : Appearance) (there : Bool) → Each NamedHere known → NamedHere one →
    Each NamedHere (if there then known else known ++ one ∷ [])
put_named known one true h g = h
put_named known one false h g = each_append NamedHere known (one ∷ []) h (g, tt)

with_named : (known xs : List Appearance) → Each NamedHere known → Each NamedHere xs → Each NamedHere (with_all known xs)
with_named known [] h g = h
with_named known (x ∷ xs) h g = with_named (with_one known x) xs (put_named known x (is_some (place_of known x.name)) h g.0) g.1

placed_named : (place : Place) (names : List (List ℕ)) → AreNamed names → Each NamedHere (units.at_place place names)
placed_named place [] h = tt
placed_named place (name ∷ names) h = (h.0, placed_named place names h.1)

appearing_named : (us : List UnitAt) → Each NamedUnit us → Each NamedHere (flat_map appearances_in us)
appearing_named [] h = tt
appearing_named (u ∷ us) h =
    each_append NamedHere (appearances_in u) (flat_map appearances_in us) (placed_named u.place (names_asked u.asked) h.0) (appearing_named us h.1)

variables_named : (us : List UnitAt) → Each NamedUnit us → Each NamedHere (units.variables_of us)
variables_named us h = with_named [] (flat_map appearances_in us) tt (appearing_named us h)

-- ---- the entries of a typing

abbrev NamedEntry : TypedName → Type 0
NamedEntry entry = IsVariableName entry.name

abbrev first_of : List (List ℕ) → List ℕ
first_of [] = []
first_of (n ∷ ns) = n

abbrev rest_of : List (List ℕ) → List (List ℕ)
rest_of [] = []
rest_of (n ∷ ns) = ns

entries_from : (entries : List TypedName) (xs : List Appearance) → names_in_entries entries ≡ map (λ a. a.name) xs → Each NamedHere xs →
    Each NamedEntry entries
entries_from [] xs e h = tt
entries_from (entry ∷ entries) [] e h = absurd cc
entries_from (entry ∷ entries) (a ∷ xs) e h = (subst IsVariableName (sym (ap first_of e)) h.0, entries_from entries xs (ap rest_of e) h.1)

entries_named : (signatures : List Signature) (files : List FileTree) (entries : List TypedName) →
    kinding_of signatures (units_of files) ≡ Typed entries →
    EachNode (λ n. FineAll n.body) files → Each NamedEntry entries
entries_named signatures files entries typed h =
    let is = found signatures (units_of files) entries typed in
    entries_from entries (units.variables_of (units_of files)) (ap names_in_entries is.is ∙ names_back (units.variables_of (units_of files)) is.kinds is.fits.counted)
    (variables_named (units_of files) (files_named 0 files h))

-- ---- declared values

abbrev FitsPair : List ℕ × Value → Type 0
FitsPair d = IsFitting d.1

declares_fitting : (s : Simple) → FineSimple s → Each FitsPair (declared_by s)
declares_fitting (simple.Line text) h = tt
declares_fitting (simple.Command text) h = tt
declares_fitting (simple.Set head name op e) h = tt
declares_fitting (simple.Declare head name v kind) h = (h.1, tt)
declares_fitting (simple.Jump head title) h = tt
declares_fitting (simple.JumpTo head e) h = tt
declares_fitting (simple.Stop head) h = tt
declares_fitting (simple.Call head e) h = tt

mutual
  all_fitting : (b : T.Stmts) → FineAll b → Each FitsPair (declared_in b)
  all_fitting Nil h = tt
  all_fitting (Cons s b) h = each_append FitsPair (declared_in_one s) (declared_in b) (one_fitting s h.0) (all_fitting b h.1)

  one_fitting : (s : T.Stmt) → FineOne s → Each FitsPair (declared_in_one s)
  one_fitting (Leaf s) h = declares_fitting s h
  one_fitting (Group os) h = options_fitting os h
  one_fitting (Choice cs last e) h = each_append FitsPair (declared_in_clauses cs) (declared_in_last last) (clauses_fitting cs h.0) (last_fitting last h.1)

  options_fitting : (os : T.Options) → FineOptions os → Each FitsPair (declared_in_options os)
  options_fitting NoOptions h = tt
  options_fitting (AndOption n body os) h = each_append FitsPair (declared_in body) (declared_in_options os) (all_fitting body h.1) (options_fitting os h.2)

  clauses_fitting : (cs : T.Clauses) → FineClauses cs → Each FitsPair (declared_in_clauses cs)
  clauses_fitting NoClauses h = tt
  clauses_fitting (AndClause n body cs) h = each_append FitsPair (declared_in body) (declared_in_clauses cs) (all_fitting body h.1) (clauses_fitting cs h.2)

  last_fitting : (last : T.Last) → FineLast last → Each FitsPair (declared_in_last last)
  last_fitting NoElse h = tt
  last_fitting (ElseOf head body) h = all_fitting body h

nodes_fitting : (ns : List NodeTree) → Each (λ (n : NodeTree). FineAll n.body) ns → Each FitsPair (declared_in_nodes ns)
nodes_fitting [] h = tt
nodes_fitting (n ∷ ns) h = each_append FitsPair (declared_in n.body) (declared_in_nodes ns) (all_fitting n.body h.0) (nodes_fitting ns h.1)

files_fitting : (fs : List FileTree) → EachNode (λ n. FineAll n.body) fs → Each FitsPair (declared_in_files fs)
files_fitting [] h = tt
files_fitting (f ∷ fs) h = each_append FitsPair (declared_in_nodes f.nodes) (declared_in_files fs) (nodes_fitting f.nodes h.0) (files_fitting fs h.1)

under_fitting : (ps : Pairs) (name : List ℕ) (v : Value) → Each FitsPair ps → value_under ps name ≡ Some v → IsFitting v
under_fitting [] name v h e = absurd cc
under_fitting (p ∷ ps) name v h e = by_name (same_name name p.0) e (under_fitting ps name v h.1)
  where
    by_name : (b : Bool) → (if b then Some p.1 else value_under ps name) ≡ Some v → (value_under ps name ≡ Some v → IsFitting v) → IsFitting v
    by_name true f g = let same : p.1 ≡ v = cc in subst IsFitting same h.0
    by_name false f g = g f

plain_fitting : (k : Kind) → IsFitting (plain_value k)
plain_fitting kind.Number = refl
plain_fitting kind.Str = omega arith
plain_fitting kind.Truth = tt

first_fitting : (declared : Pairs) (entry : TypedName) → Each FitsPair declared → IsFitting (first_value declared entry)
first_fitting declared entry h = by_value (value_under declared entry.name) refl
  where
    by_value : (o : Option Value) → value_under declared entry.name ≡ o → IsFitting (unwrap_or o (plain_value entry.kind))
    by_value None e = plain_fitting entry.kind
    by_value (Some v) e = under_fitting declared entry.name v h e

-- ---- counts

-- a character of ASCII that may stand in a name
abbrev continues_ascii : ℕ → Bool
continues_ascii c = nat_lt c 128 && ((is_ascii_alphanumeric c || (c == 95)) || (c == 46))

ascii_continues : (c : ℕ) → continues_ascii c ≡ true → continues_name c ≡ true
ascii_continues c h =
    let both = and_parts (nat_lt c 128) ((is_ascii_alphanumeric c || (c == 95)) || (c == 46)) h in
    ap (λ (b : Bool). b || (c == 46)) (is_xid_continue-ascii c (below c both.0)) ∙ both.1
  where
    below : (c : ℕ) → nat_lt c 128 ≡ true → c < 128
    below c h = grind (arith, nat_tests)

ascii_all : (cs : List ℕ) → list_all continues_ascii cs ≡ true → list_all continues_name cs ≡ true
ascii_all [] h = refl
ascii_all (c ∷ cs) h =
    let both = and_parts (continues_ascii c) (list_all continues_ascii cs) h in
    and_from (continues_name c) (list_all continues_name cs) (ascii_continues c both.0) (ascii_all cs both.1)

starts_continues : (c : ℕ) → starts_name c ≡ true → continues_name c ≡ true
starts_continues c h = by_start (is_xid_start c) refl
  where
    by_low : is_xid_start c ≡ false → (b : Bool) → (c == 95) ≡ b → continues_name c ≡ true
    by_low other true is = subst (λ x. continues_name x ≡ true) (sym (low c is)) (ascii_continues 95 refl)
      where
        low : (c : ℕ) → (c == 95) ≡ true → c ≡ 95
        low c e = grind (arith, nat_tests)
    by_low other false is = let f = rw (other, is) at h in absurd cc

    by_start : (b : Bool) → is_xid_start c ≡ b → continues_name c ≡ true
    by_start true is = let continues = is_xid_start-is_xid_continue c is in rw continues refl
    by_start false is = by_low is (c == 95) refl

name_continues : (cs : List ℕ) → is_name_of cs ≡ true → list_all continues_name cs ≡ true
name_continues [] h = absurd cc
name_continues (c ∷ cs) h =
    let both = and_parts (starts_name c) (list_all continues_name cs) h in
    and_from (continues_name c) (list_all continues_name cs) (starts_continues c both.0) both.1

abbrev front : List ℕ
front = codes "$Yarn.Internal.Visiting."

abbrev behind : List ℕ
behind = codes "arn.Internal.Visiting."

front_utf8 : IsUtf8 front
front_utf8 = (front, (ascii-scalar front refl, sym (ascii-spelt front refl)))

front_chars : chars front ≡ front
unfolding chars
front_chars = refl

starts_front : starts_name 89 ≡ true
starts_front = let e = is_xid_start-ascii 89 (omega arith) in rw e refl

front_named : (cs : List ℕ) → list_all continues_name cs ≡ true → is_variable_of (front ++ cs) ≡ true
front_named cs h =
    and_from (starts_name 89) (list_all continues_name (behind ++ cs)) starts_front
    (list_all-append continues_name behind cs ∙ and_from (list_all continues_name behind) (list_all continues_name cs) (ascii_all behind refl) h)

count_named : (title : List ℕ) → IsName title → IsVariableName (count_name title)
unfolding count_name
count_named title h =
    let same : chars (front ++ title) ≡ front ++ chars title = chars-append front title front_utf8 ∙ ap (λ (l : List ℕ). l ++ chars title) front_chars in
    ap is_variable_of same ∙ front_named (chars title) (name_continues (chars title) h)

count_reserved : (title : List ℕ) → is_reserved_name (count_name title) ≡ true
unfolding count_name
count_reserved title = refl

count_same : (a b : List ℕ) → count_name a ≡ count_name b → a ≡ b
unfolding count_name
count_same a b e = ap (drop 24) e

-- ---- fields

abbrev PairField : List ℕ × Value → Type 0
PairField d = IsVariableName d.0 × IsFitting d.1

counts_fields : (ns : List NodeTree) → Each (λ (n : NodeTree). IsName n.title) ns → Each PairField (counts_in ns)
counts_fields [] h = tt
counts_fields (n ∷ ns) h = ((count_named n.title h.0, refl), counts_fields ns h.1)

all_counts_fields : (fs : List FileTree) → EachNode (λ n. IsName n.title) fs → Each PairField (counts_of fs)
all_counts_fields [] h = tt
all_counts_fields (f ∷ fs) h = each_append PairField (counts_in f.nodes) (counts_of fs) (counts_fields f.nodes h.0) (all_counts_fields fs h.1)

typed_fields : (declared : Pairs) (entries : List TypedName) → Each FitsPair declared → Each NamedEntry entries →
    Each PairField (typed_pairs declared entries)
typed_fields declared [] h g = tt
typed_fields declared (entry ∷ entries) h g = ((g.0, first_fitting declared entry h), typed_fields declared entries h g.1)

for_fields : (terms : Terms) (ps : Pairs) → Each PairField ps → Each IsVariableField (variables_for terms ps)
for_fields terms [] h = tt
for_fields terms (p ∷ ps) h = (record { named = h.0.0; fits = h.0.1 }, for_fields terms ps h.1)

-- the variables of code are fields
pub variables_fields : (terms : Terms) (signatures : List Signature) (files : List FileTree) (entries : List TypedName) →
    kinding_of signatures (units_of files) ≡ Typed entries →
    EachNode (λ n. FineAll n.body) files → EachNode (λ n. IsName n.title) files → Each IsVariableField (variables_for terms (variables_of entries files))
variables_fields terms signatures files entries typed fine named =
    for_fields terms (variables_of entries files)
    (each_append PairField (typed_pairs (declared_in_files files) entries) (counts_of files)
    (typed_fields (declared_in_files files) entries (files_fitting files fine) (entries_named signatures files entries typed fine)) (all_counts_fields files named))

-- ---- no name comes again

module _ (terms : Terms) where
  abbrev names_for : Pairs → List (List ℕ)
  names_for ps = names_of (variables_for terms ps)

  counts_at : (ns more : List NodeLines) (ps : Pairs) → names_for ps ≡ map count_name (titles more) →
      names_for (counts_in (map grown_node ns) ++ ps) ≡ map count_name (titles (ns ++ more))
  counts_at [] more ps e = e
  counts_at (n ∷ ns) more ps e = ap (λ (l : List (List ℕ)). count_name n.title ∷ l) (counts_at ns more ps e)

  counts_are : (files : List FileLines) → names_for (counts_of (map grown files)) ≡ map count_name (titles (nodes_of files))
  counts_are [] = refl
  counts_are (f ∷ files) = counts_at f.nodes (nodes_of files) (counts_of (map grown files)) (counts_are files)

  new_count : (title : List ℕ) (xs : List (List ℕ)) → IsNew title xs → IsNew (count_name title) (map count_name xs)
  new_count title [] h = All-nil (λ other. count_name title ≡ other → ⊥)
  new_count title (x ∷ xs) h =
      All-cons (λ other. count_name title ≡ other → ⊥) (count_name x) (map count_name xs) (λ e. All-head (λ other. title ≡ other → ⊥) x xs h (count_same title x e))
      (new_count title xs (All-tail (λ other. title ≡ other → ⊥) x xs h))

  counts_unique : (xs : List (List ℕ)) → AreUnique xs → AreUnique (map count_name xs)
  counts_unique [] h = tt
  counts_unique (x ∷ xs) h = (new_count x xs h.0, counts_unique xs h.1)

  -- a name that isn't reserved is no count
  no_count : (name : List ℕ) (xs : List (List ℕ)) → is_reserved_name name ≡ false → IsNew name (map count_name xs)
  no_count name [] h = All-nil (λ other. name ≡ other → ⊥)
  no_count name (x ∷ xs) h =
      All-cons (λ other. name ≡ other → ⊥) (count_name x) (map count_name xs) (λ e. false≢true (sym h ∙ ap is_reserved_name e ∙ count_reserved x)) (no_count name xs h)

  new_typed : (declared ps : Pairs) (name : List ℕ) (entries : List TypedName) → All (λ (other : TypedName). name ≡ other.name → ⊥) entries →
      IsNew name (names_for ps) →
      IsNew name (names_for (typed_pairs declared entries ++ ps))
  new_typed declared ps name [] h g = g
  new_typed declared ps name (entry ∷ entries) h g =
      All-cons (λ other. name ≡ other → ⊥) entry.name (names_for (typed_pairs declared entries ++ ps)) (All-head (λ (other : TypedName). name ≡ other.name → ⊥) entry entries h)
      (new_typed declared ps name entries (All-tail (λ (other : TypedName). name ≡ other.name → ⊥) entry entries h) g)

  typed_unique : (declared ps : Pairs) (xs : List (List ℕ)) (entries : List TypedName) → names_for ps ≡ map count_name xs → AreUnique (names_for ps) →
      AreApart entries → All (λ (entry : TypedName). is_reserved_name entry.name ≡ false) entries → AreUnique (names_for (typed_pairs declared entries ++ ps))
  typed_unique declared ps xs [] are unique apart free = unique
  typed_unique declared ps xs (entry ∷ entries) are unique apart free = (
    new_typed declared ps entry.name entries apart.0
        (subst (IsNew entry.name) (sym are) (no_count entry.name xs (All-head (λ (entry : TypedName). is_reserved_name entry.name ≡ false) entry entries free))),
    typed_unique declared ps xs entries are unique apart.1 (All-tail (λ (entry : TypedName). is_reserved_name entry.name ≡ false) entry entries free),
  )

  -- no variable of code comes again
  pub variables_unique : (files : List FileLines) (entries : List TypedName) → AreDistinct (titles (nodes_of files)) → AreApart entries →
      All (λ (entry : TypedName). is_reserved_name entry.name ≡ false) entries → AreUnique (names_of (variables_for terms (variables_of entries (map grown files))))
  variables_unique files entries differ apart free =
      let are = counts_are files in
      typed_unique (declared_in_files (map grown files)) (counts_of (map grown files)) (titles (nodes_of files)) entries are
      (subst AreUnique (sym are) (counts_unique (titles (nodes_of files)) (distinct_unique (titles (nodes_of files)) differ))) apart free
