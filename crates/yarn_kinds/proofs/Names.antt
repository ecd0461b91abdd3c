-- The names of a project's variables: none is reserved, and none comes again.
use Rattle.std.proofs.Common.{◌≡◌, ℕ, suc, ◌+◌, List, [], ◌∷◌, ◌++◌, map, nat_eq, Bool, true, false, if◌then◌else◌, Option, Some, None, is_some, refl, sym, ap, ◌∙◌, subst, All}
use Rattle.std.specs.Cmp.Lexicographic.{pointwise}
use Rattle.std.specs.List.{flat_map}
use Rattle.std.specs.Option.{option_map}
use Rattle.std.proofs.lemmas.Bool.{false≢true}
use Rattle.std.proofs.lemmas.List.Elements.{All-nil, All-cons, All-head, All-tail, All-append}
use Rattle.std.proofs.lemmas.Slice.Eq.{bytes_eq-Decides}
use Rattle.yarn_base.specs.declared.Place.{Place}
use Rattle.yarn_expr.specs.declared.tree.Expr.{Expr}
use Rattle.yarn_expr.proofs.Layers.{at_number, at_string, at_truth, at_variable, at_group, at_unary, at_binary, at_call}
use Rattle.yarn_blocks.specs.declared.entry.Entry.{Entry}
use Rattle.yarn_blocks.specs.declared.entry.Simple.{Simple}
use Rattle.yarn_blocks.specs.declared.entry.Simple.TheVariants as simple
use Rattle.yarn_blocks.specs.declared.entry.What.{What}
use Rattle.yarn_blocks.specs.declared.entry.What.TheVariants as what
use Rattle.yarn_blocks.specs.declared.tree.Head.{Head}
use Rattle.yarn_blocks.specs.Block.{Block, empty, statement, option, choice, Tail, ends, otherwise, next}
use Rattle.yarn_blocks.specs.Reading.{read}
use Rattle.yarn_blocks.specs.Tree as T
use Rattle.yarn_blocks.specs.Tree.{Leaf, Group, Choice, Nil, Cons, NoOptions, AndOption, NoClauses, AndClause, NoElse, ElseOf, Offered, and_option}
use Rattle.yarn_blocks.proofs.Viable.{read-block}
use Rattle.yarn_nodes.specs.declared.node.FileLines.{FileLines}
use Rattle.yarn_nodes.specs.declared.node.NodeLines.{NodeLines}
use Rattle.yarn_tree.specs.Checks.{is_reserved_name, is_reserved}
use Rattle.yarn_tree.specs.Trees.{NodeTree, FileTree, stmts_or_none, grown_node, grown}
use Rattle.yarn_tree.specs.Uses.{Use, Variable, Declaration, Title, Function, UseAt, joined, uses_step, uses_of, uses_of_all, uses_of_asked, uses_of_simple, uses_of_what, at_place, uses_in_body, uses_within}
use Rattle.yarn_tree.specs.Laws.{uses_from}
use Rattle.yarn_types.specs.Names.{Appearance, appearance, place_of, with_one, with_all}
use Rattle.yarn_types.specs.Fits.{names_step, names_in}
use Rattle.yarn_types.specs.Units as units
use Rattle.yarn_types.specs.Units.{Asked, UnitAt, names_in_all, names_asked, appearances_in, variables_of}
use Rattle.yarn_infer.specs.Units.{unit_at, values_unit, simple_units, offer_units, stmts_units, stmt_units, options_units, clauses_units, last_units, nodes_units, files_units}
use Rattle.yarn_kinds.proofs.Parts.{OfEach, of_all}

-- ---- a fact of each item of a list

abbrev pub Each : {A : Type 0} → (A → Type 0) → List A → Type 0
Each P [] = Unit {0}
Each P (x ∷ xs) = P x × Each P xs

module _ {A : Type 0} (P : A → Type 0) where
  pub each_append : (a b : List A) → Each P a → Each P b → Each P (a ++ b)
  each_append [] b h g = g
  each_append (x ∷ a) b h g = (h.0, each_append a b h.1 g)

  pub each_front : (a b : List A) → Each P (a ++ b) → Each P a
  each_front [] b h = tt
  each_front (x ∷ a) b h = (h.0, each_front a b h.1)

  pub each_back : (a b : List A) → Each P (a ++ b) → Each P b
  each_back [] b h = h
  each_back (x ∷ a) b h = each_back a b h.1

  pub each_all : (xs : List A) → Each P xs → All P xs
  each_all [] h = All-nil P
  each_all (x ∷ xs) h = All-cons P x xs h.0 (each_all xs h.1)

  pub from_all : (xs : List A) → All P xs → Each P xs
  from_all [] h = tt
  from_all (x ∷ xs) h = (All-head P x xs h, from_all xs (All-tail P x xs h))

-- ---- names that aren't reserved

abbrev Free : List ℕ → Type 0
Free name = is_reserved_name name ≡ false

abbrev FreeUse : Use → Type 0
FreeUse u = is_reserved u ≡ false

abbrev AreFree : Expr → Type 0
AreFree e = Each FreeUse (uses_of e) → Each Free (names_in e)

args_free : (args : List ((e : Expr) × AreFree e)) → Each FreeUse (joined (map uses_of (map (λ e. e.0) args))) → Each Free (flat_map (λ arg. arg) (map names_in (map (λ e. e.0) args)))
args_free [] h = tt
args_free (e ∷ args) h =
    each_append Free (names_in e.0) (flat_map (λ arg. arg) (map names_in (map (λ e. e.0) args)))
    (e.1 (each_front FreeUse (uses_of e.0) (joined (map uses_of (map (λ e. e.0) args))) h))
    (args_free args (each_back FreeUse (uses_of e.0) (joined (map uses_of (map (λ e. e.0) args))) h))

free_parts : OfEach AreFree
free_parts = record {
  number = λ n h. subst (Each Free) (sym (at_number (List (List ℕ)) names_step n)) tt;
  str = λ text h. subst (Each Free) (sym (at_string (List (List ℕ)) names_step text)) tt;
  truth = λ b h. subst (Each Free) (sym (at_truth (List (List ℕ)) names_step b)) tt;
  variable = λ name h. subst (Each Free) (sym (at_variable (List (List ℕ)) names_step name)) ((subst (Each FreeUse) (at_variable (List Use) uses_step name) h).0, tt);
  group = λ e inner h. subst (Each Free) (sym (at_group (List (List ℕ)) names_step e)) (inner (subst (Each FreeUse) (at_group (List Use) uses_step e) h));
  unary = λ op e inner h. subst (Each Free) (sym (at_unary (List (List ℕ)) names_step op e)) (inner (subst (Each FreeUse) (at_unary (List Use) uses_step op e) h));
  binary = λ op l r left right h.
      let both = subst (Each FreeUse) (at_binary (List Use) uses_step op l r) h in
      subst (Each Free) (sym (at_binary (List (List ℕ)) names_step op l r))
      (each_append Free (names_in l) (names_in r) (left (each_front FreeUse (uses_of l) (uses_of r) both)) (right (each_back FreeUse (uses_of l) (uses_of r) both)));
  call = λ name args h.
      subst (Each Free) (sym (at_call (List (List ℕ)) names_step name (map (λ e. e.0) args)))
      (args_free args (subst (Each FreeUse) (at_call (List Use) uses_step name (map (λ e. e.0) args)) h).1);
}

free_in : (e : Expr) → AreFree e
free_in = of_all AreFree free_parts

free_in_all : (es : List Expr) → Each FreeUse (uses_of_all es) → Each Free (names_in_all es)
free_in_all [] h = tt
free_in_all (e ∷ es) h =
    each_append Free (names_in e) (names_in_all es) (free_in e (each_front FreeUse (uses_of e) (uses_of_all es) h))
    (free_in_all es (each_back FreeUse (uses_of e) (uses_of_all es) h))

-- ---- lines

abbrev FreeUnit : UnitAt → Type 0
FreeUnit u = Each Free (names_asked u.asked)

free_values : (file line : ℕ) (es : List Expr) → Each FreeUse (uses_of_all es) → Each FreeUnit (values_unit file line es)
free_values file line [] h = tt
free_values file line (e ∷ es) h = (free_in_all (e ∷ es) h, tt)

free_simple : (file : ℕ) (s : Simple) → Each FreeUse (uses_of_simple s) → Each FreeUnit (simple_units file s)
free_simple file (simple.Line text) h = free_values file text.line text.holes h
free_simple file (simple.Command text) h = free_values file text.line text.holes h
free_simple file (simple.Set head name op e) h = ((h.0, free_in e h.1), tt)
free_simple file (simple.Declare head name value kind) h = ((h.0, tt), tt)
free_simple file (simple.Jump head title) h = tt
free_simple file (simple.JumpTo head e) h = (free_in e h, tt)
free_simple file (simple.Stop head) h = tt
free_simple file (simple.Call head e) h = (free_in e h, tt)

free_offer : (file line : ℕ) (es : List Expr) (o : Option Expr) → Each FreeUse (uses_of_all es ++ uses_of_asked o) → Each FreeUnit (offer_units file line es o)
free_offer file line es None h = free_values file line es (each_front FreeUse (uses_of_all es) [] h)
free_offer file line es (Some e) h = (
  each_append Free (names_in_all es) (names_in e) (free_in_all es (each_front FreeUse (uses_of_all es) (uses_of e) h))
      (free_in e (each_back FreeUse (uses_of_all es) (uses_of e) h)),
  tt,
)

-- ---- blocks

abbrev FreeWhat : What → Type 0
FreeWhat w = Each FreeUse (uses_of_what w)

abbrev FreeEntry : Entry → Type 0
FreeEntry x = FreeWhat x.what

and_free : (file : ℕ) (n : Offered) (body b : T.Stmts) → Each FreeUnit (offer_units file n.text.line n.text.holes n.condition) → Each FreeUnit (stmts_units file body) →
    Each FreeUnit (stmts_units file b) → Each FreeUnit (stmts_units file (and_option n body b))
and_free file n body Nil own inner rest =
    each_append FreeUnit (options_units file (AndOption n body NoOptions)) []
    (each_append FreeUnit (offer_units file n.text.line n.text.holes n.condition) (stmts_units file body ++ []) own (each_append FreeUnit (stmts_units file body) [] inner tt)) tt
and_free file n body (Cons (Leaf m) b) own inner rest =
    each_append FreeUnit (options_units file (AndOption n body NoOptions)) (stmts_units file (Cons (Leaf m) b))
    (each_append FreeUnit (offer_units file n.text.line n.text.holes n.condition) (stmts_units file body ++ []) own (each_append FreeUnit (stmts_units file body) [] inner tt)) rest
and_free file n body (Cons (Group os) b) own inner rest =
    each_append FreeUnit (options_units file (AndOption n body os)) (stmts_units file b)
    (each_append FreeUnit (offer_units file n.text.line n.text.holes n.condition) (stmts_units file body ++ options_units file os) own
    (each_append FreeUnit (stmts_units file body) (options_units file os) inner (each_front FreeUnit (options_units file os) (stmts_units file b) rest)))
    (each_back FreeUnit (options_units file os) (stmts_units file b) rest)
and_free file n body (Cons (Choice cs last e) b) own inner rest =
    each_append FreeUnit (options_units file (AndOption n body NoOptions)) (stmts_units file (Cons (Choice cs last e) b))
    (each_append FreeUnit (offer_units file n.text.line n.text.holes n.condition) (stmts_units file body ++ []) own (each_append FreeUnit (stmts_units file body) [] inner tt)) rest

module _ (file : ℕ) where
  mutual
    block_free : {xs behind : List Entry} {b : T.Stmts} → Block xs behind b → Each FreeEntry xs → Each FreeUnit (stmts_units file b)
    block_free empty h = tt
    block_free (statement {x = x} {n = n} {xs = xs} {b = b} w r) h =
        each_append FreeUnit (simple_units file n) (stmts_units file b) (free_simple file n (subst FreeWhat w h.0)) (block_free r h.1)
    block_free (option {x = x} {n = n} {run = run} {xs = xs} {body = body} {b = b} w e first r) h =
        and_free file n body b (free_offer file n.text.line n.text.holes n.condition (subst FreeWhat w h.0))
        (block_free first (each_front FreeEntry run xs h.1)) (block_free r (each_back FreeEntry run xs h.1))
    block_free (choice {x = x} {n = n} {e = e} {xs = xs} {rest = rest} {ys = ys} {b = b} {c = c} {cs = cs} {last = last} w first more r) h =
        let tail = tail_free more (each_front FreeEntry rest ys (each_back FreeEntry xs (rest ++ ys) h.1)) in
        each_append FreeUnit (clauses_units file (AndClause n b cs) ++ last_units file last) (stmts_units file c)
        (each_append FreeUnit (clauses_units file (AndClause n b cs)) (last_units file last)
        (free_in n.condition (subst FreeWhat w h.0), each_append FreeUnit (stmts_units file b) (clauses_units file cs) (block_free first (each_front FreeEntry xs (rest ++ ys) h.1)) tail.0) tail.1)
        (block_free r (each_back FreeEntry rest ys (each_back FreeEntry xs (rest ++ ys) h.1)))

    tail_free : {xs behind : List Entry} {cs : T.Clauses} {last : T.Last} {e : Head} → Tail xs behind cs last e → Each FreeEntry xs →
        Each FreeUnit (clauses_units file cs) × Each FreeUnit (last_units file last)
    tail_free (ends {x = x} {e = e} w) h = (tt, tt)
    tail_free (otherwise {x = x} {y = y} {n = n} {e = e} {xs = xs} {b = b} w first v) h = (tt, block_free first (each_front FreeEntry xs (y ∷ []) h.1))
    tail_free (next {x = x} {n = n} {xs = xs} {rest = rest} {b = b} {cs = cs} {last = last} w first more) h =
        let tail = tail_free more (each_back FreeEntry xs rest h.1) in
        ((free_in n.condition (subst FreeWhat w h.0), each_append FreeUnit (stmts_units file b) (clauses_units file cs) (block_free first (each_front FreeEntry xs rest h.1)) tail.0), tail.1)

-- ---- files

at_free : (place : Place) (uses : List Use) → Each (λ (u : UseAt). FreeUse u.is) (at_place place uses) → Each FreeUse uses
at_free place [] h = tt
at_free place (u ∷ uses) h = (h.0, at_free place uses h.1)

abbrev pub FreeAt : UseAt → Type 0
FreeAt u = FreeUse u.is

body_free : (file : ℕ) (xs : List Entry) → Each FreeAt (uses_in_body file xs) → Each FreeEntry xs
body_free file [] h = tt
body_free file (x ∷ xs) h =
    let front = at_place (record { file = file; line = x.line }) (uses_of_what x.what) in
    (at_free (record { file = file; line = x.line }) (uses_of_what x.what) (each_front FreeAt front (uses_in_body file xs) h), body_free file xs (each_back FreeAt front (uses_in_body file xs) h))

node_free : (file : ℕ) (n : NodeLines) (o : Option T.Stmts) → read n.body ≡ o → Each FreeEntry n.body → Each FreeUnit (stmts_units file (stmts_or_none o))
node_free file n None is h = tt
node_free file n (Some b) is h = block_free file (read-block n.body b is) h

nodes_free : (file number : ℕ) (ns : List NodeLines) → Each FreeAt (uses_within number ns) → Each FreeUnit (nodes_units file (map grown_node ns))
nodes_free file number [] h = tt
nodes_free file number (n ∷ ns) h =
    each_append FreeUnit (stmts_units file (grown_node n).body) (nodes_units file (map grown_node ns))
    (node_free file n (read n.body) refl (body_free number n.body (each_front FreeAt (uses_in_body number n.body) (uses_within number ns) h)))
    (nodes_free file number ns (each_back FreeAt (uses_in_body number n.body) (uses_within number ns) h))

pub files_free : (file number : ℕ) (files : List FileLines) → Each FreeAt (uses_from number files) → Each FreeUnit (files_units file (map grown files))
files_free file number [] h = tt
files_free file number (f ∷ files) h =
    each_append FreeUnit (nodes_units file (map grown_node f.nodes)) (files_units (suc file) (map grown files))
    (nodes_free file number f.nodes (each_front FreeAt (uses_within number f.nodes) (uses_from (number + 1) files) h))
    (files_free (suc file) (number + 1) files (each_back FreeAt (uses_within number f.nodes) (uses_from (number + 1) files) h))

-- ---- the variables of lines

abbrev pub FreeName : Appearance → Type 0
FreeName a = Free a.name

put_free : (known : List Appearance) (one : Appearance) (there : Bool) → Each FreeName known → FreeName one → Each FreeName (if there then known else known ++ one ∷ [])
put_free known one true h g = h
put_free known one false h g = each_append FreeName known (one ∷ []) h (g, tt)

all_free : (known xs : List Appearance) → Each FreeName known → Each FreeName xs → Each FreeName (with_all known xs)
all_free known [] h g = h
all_free known (x ∷ xs) h g = all_free (with_one known x) xs (put_free known x (is_some (place_of known x.name)) h g.0) g.1

placed_free : (place : Place) (names : List (List ℕ)) → Each Free names → Each FreeName (units.at_place place names)
placed_free place [] h = tt
placed_free place (name ∷ names) h = (h.0, placed_free place names h.1)

apart_free : (us : List UnitAt) → Each FreeUnit us → Each FreeName (flat_map appearances_in us)
apart_free [] h = tt
apart_free (u ∷ us) h =
    each_append FreeName (appearances_in u) (flat_map appearances_in us) (placed_free u.place (names_asked u.asked) h.0) (apart_free us h.1)

-- no variable of lines is reserved, where no name in them is
pub variables_free : (us : List UnitAt) → Each FreeUnit us → Each FreeName (variables_of us)
variables_free us h = all_free [] (flat_map appearances_in us) tt (apart_free us h)

-- ---- no name comes again

abbrev IsOther : List ℕ → Appearance → Type 0
IsOther name a = name ≡ a.name → ⊥

abbrev pub NamesDiffer : List Appearance → Type 0
NamesDiffer [] = Unit {0}
NamesDiffer (a ∷ more) = Each (IsOther a.name) more × NamesDiffer more

map_none : (o : Option ℕ) → option_map suc o ≡ None → o ≡ None
map_none None e = refl
map_none (Some n) e = absurd cc

not_there : (known : List Appearance) (name : List ℕ) → place_of known name ≡ None → Each (λ a. a.name ≡ name → ⊥) known
not_there [] name is = tt
not_there (a ∷ known) name is = by_test (not_there known name) (pointwise nat_eq a.name name) refl is
  where
    by_test : (place_of known name ≡ None → Each (λ a. a.name ≡ name → ⊥) known) → (b : Bool) → pointwise nat_eq a.name name ≡ b →
        (if b then Some 0 else option_map suc (place_of known name)) ≡ None → Each (λ a. a.name ≡ name → ⊥) (a ∷ known)
    by_test later true same e = absurd cc
    by_test later false same e = (λ is. false≢true (sym same ∙ (bytes_eq-Decides a.name name).1 is), later (map_none (place_of known name) e))

differ_behind : (known : List Appearance) (one : Appearance) → NamesDiffer known → Each (λ a. a.name ≡ one.name → ⊥) known → NamesDiffer (known ++ one ∷ [])
differ_behind [] one h g = (tt, tt)
differ_behind (a ∷ known) one h g = (each_append (IsOther a.name) known (one ∷ []) h.0 (g.0, tt), differ_behind known one h.1 g.1)

put_apart : (known : List Appearance) (one : Appearance) (o : Option ℕ) → place_of known one.name ≡ o → NamesDiffer known → NamesDiffer (if is_some o then known else known ++ one ∷ [])
put_apart known one (Some n) is h = h
put_apart known one None is h = differ_behind known one h (not_there known one.name is)

all_apart : (known xs : List Appearance) → NamesDiffer known → NamesDiffer (with_all known xs)
all_apart known [] h = h
all_apart known (x ∷ xs) h = all_apart (with_one known x) xs (put_apart known x (place_of known x.name) refl h)

pub variables_apart : (us : List UnitAt) → NamesDiffer (variables_of us)
variables_apart us = all_apart [] (flat_map appearances_in us) tt
