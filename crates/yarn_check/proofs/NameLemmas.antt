-- A map from names that has one more item at the front, and what is read of an item.
use Rattle.std.proofs.Common.{◌≡◌, ℕ, Bool, true, false, cond, List, [], ◌∷◌, ◌++◌, length, append_assoc, arith, sym, Option, Some, None, refl, ap, ◌∙◌, Bor, if◌then◌else◌, ◌&&◌}
use Rattle.std.specs.BTreeMap.{BTreeMap, UpdatesBy, get_by}
use Rattle.std.specs.Bool.{nat_eq}
use Rattle.std.specs.Cmp.Lexicographic.{slice_cmp, pointwise}
use Rattle.std.specs.List.{push}
use Rattle.std.specs.Option.{option_copied, option_map}
use Rattle.std.specs.Ordering.{nat_cmp}
use Rattle.std.specs.Str.{bytes_eq}
use Rattle.std.proofs.lemmas.Map.Text.{btree_map_updates_str}
use Rattle.yarn_value.specs.declared.base.BaseLine.{BaseLine}
use Rattle.yarn_value.specs.declared.signature.Signature.{Signature}
use Rattle.yarn_value.specs.Values.{kind_of}
use Rattle.yarn_value.specs.Pairs.{value_under, same_name}
use Rattle.yarn_value.specs.Builtins.{Row, row_named, builtin_rows, builtin_named}
use Rattle.yarn_value.specs.Signatures.{signature_named, declared_arity, builtin_or, row_arity, arity_of}
use Rattle.yarn_code.specs.Parts.{pairs_of}
use Rattle.yarn_code.specs.declared.program.Variable.{Variable}
use Rattle.yarn_code.specs.declared.program.Program.{Program}
use Rattle.yarn_value.specs.declared.value.Kind.{Kind}
use Rattle.yarn_value.specs.Rows.{takes, same_kind}
use Rattle.yarn_value.specs.Calls.{kind_of_call, same_kinds}
use Rattle.yarn_check.specs.Shapes.{holes_under, kind_called}
use Rattle.yarn_check.specs.NameMaps.{first_named, Finds, host_kind, variable_name, function_name, line_name}

module _ {X : Type 0} (name : X → List ℕ) where
  one_more : (is : Bool) (one : Bor X) (o : Option (Bor X)) (p : Option X) → option_copied o ≡ p →
      option_copied (cond is (Some one) o) ≡ cond is (Some one.now) p
  one_more true one o p e = refl
  one_more false one o p e = e

  finds_more : (m n : BTreeMap (Bor (List ℕ)) (Bor X)) (key : Bor (List ℕ)) (one : Bor X) (later : List X) → key.now ≡ name one.now →
      UpdatesBy (λ x y. slice_cmp nat_cmp x.now y.now) (λ k. slice_cmp nat_cmp key.now k.now) m n (Some one) →
      Finds name m later → Finds name n (one.now ∷ later)
  finds_more m n key one later is updates finds q =
      ap option_copied (btree_map_updates_str key.now m n (Some one) updates q)
      ∙ one_more (pointwise nat_eq key.now q) one (get_by (λ k. slice_cmp nat_cmp q k.now) m) (first_named name later q) (finds q)
      ∙ ap (λ l. cond (pointwise nat_eq l q) (Some one.now) (first_named name later q)) is

  -- the items behind a place, in a map
  abbrev pub FindsRest : BTreeMap (Bor (List ℕ)) (Bor X) → List X → List X → Type 0
  FindsRest m all before = (later : List X) × (before ++ later ≡ all) × Finds name m later

  -- the last item of those before the place is put into the map
  pub rest_step : (m n : BTreeMap (Bor (List ℕ)) (Bor X)) (key : Bor (List ℕ)) (one : Bor X) (all before fewer : List X) →
      FindsRest m all before → before ≡ push fewer one.now → key.now ≡ name one.now →
      UpdatesBy (λ x y. slice_cmp nat_cmp x.now y.now) (λ k. slice_cmp nat_cmp key.now k.now) m n (Some one) → FindsRest n all fewer
  rest_step m n key one all before fewer so_far e is updates =
      (one.now ∷ so_far.0, sym (append_assoc fewer (one.now ∷ []) so_far.0) ∙ ap (λ l. l ++ so_far.0) (sym e) ∙ so_far.1, finds_more m n key one so_far.0 is updates so_far.2)

  pub rest_all : (m : BTreeMap (Bor (List ℕ)) (Bor X)) (all before : List X) → FindsRest m all before → length before ≡ 0 → Finds name m all
  rest_all m all [] so_far e q = so_far.2 q ∙ ap (λ l. first_named name l q) so_far.1
  rest_all m all (one ∷ before) so_far e q = absurd (omega arith)

-- ---- what is read of the item

swapped : (a b : List ℕ) → pointwise nat_eq a b ≡ pointwise nat_eq b a
swapped [] [] = refl
swapped [] (y ∷ b) = refl
swapped (x ∷ a) [] = refl
swapped (x ∷ a) (y ∷ b) = rw (swapped a b) (ap (λ t. t && pointwise nat_eq b a) (one_swapped x y))
  where
    one_swapped : (x y : ℕ) → nat_eq x y ≡ nat_eq y x
    one_swapped x y = grind arith

pub kind_first : (vs : List Variable) (q : List ℕ) → option_map (λ (v : Variable). kind_of v.initial) (first_named variable_name vs q) ≡ option_map kind_of (value_under (pairs_of vs) q)
kind_first [] q = refl
kind_first (v ∷ vs) q = by_test (pointwise nat_eq v.name q) (same_name q v.name) (swapped v.name q) (kind_first vs q)
  where
    by_test : (is also : Bool) → is ≡ also → option_map (λ (v : Variable). kind_of v.initial) (first_named variable_name vs q) ≡ option_map kind_of (value_under (pairs_of vs) q) →
        option_map (λ (v : Variable). kind_of v.initial) (cond is (Some v) (first_named variable_name vs q)) ≡ option_map kind_of (cond also (Some v.initial) (value_under (pairs_of vs) q))
    by_test true true e more = refl
    by_test false false e more = more
    by_test true false e more = absurd cc
    by_test false true e more = absurd cc

pub signature_first : (ss : List Signature) (q : List ℕ) → first_named function_name ss q ≡ signature_named ss q
signature_first [] q = refl
signature_first (s ∷ ss) q = ap (λ o. cond (pointwise nat_eq s.name q) (Some s) o) (signature_first ss q)

pub holes_first : (ls : List BaseLine) (q : List ℕ) → option_map (λ (l : BaseLine). l.holes) (first_named line_name ls q) ≡ holes_under ls q
holes_first [] q = refl
holes_first (l ∷ ls) q = by_test (pointwise nat_eq l.id q) (holes_first ls q)
  where
    by_test : (is : Bool) → option_map (λ (l : BaseLine). l.holes) (first_named line_name ls q) ≡ holes_under ls q →
        option_map (λ (l : BaseLine). l.holes) (cond is (Some l) (first_named line_name ls q)) ≡ cond is (Some l.holes) (holes_under ls q)
    by_test true more = refl
    by_test false more = more

pub arity_first : (ss : List Signature) (q : List ℕ) → option_map (λ (s : Signature). length s.params) (first_named function_name ss q) ≡ declared_arity ss q
arity_first [] q = refl
arity_first (s ∷ ss) q = by_test (bytes_eq s.name q) (arity_first ss q)
  where
    by_test : (is : Bool) → option_map (λ (s : Signature). length s.params) (first_named function_name ss q) ≡ declared_arity ss q →
        option_map (λ (s : Signature). length s.params) (cond is (Some s) (first_named function_name ss q)) ≡ cond is (Some (length s.params)) (declared_arity ss q)
    by_test true more = refl
    by_test false more = more

pub arity-builtin : (signatures : List Signature) (name : List ℕ) (row : Row) → Some row ≡ row_named builtin_rows name → Some (row_arity row) ≡ arity_of signatures name
unfolding arity_of
arity-builtin signatures name row is = ap (λ (o : Option Row). builtin_or o (declared_arity signatures name)) is

pub arity-declared : (signatures : List Signature) (name : List ℕ) → None ≡ row_named builtin_rows name → declared_arity signatures name ≡ arity_of signatures name
unfolding arity_of
arity-declared signatures name is = ap (λ (o : Option Row). builtin_or o (declared_arity signatures name)) is

-- ---- calls

pub call-builtin : (p : Program) (name : List ℕ) (kinds : List Kind) (row : Row) (taken : Bool) → Some row ≡ row_named builtin_rows name → taken ≡ takes row.first row.second kinds →
    (if taken then Some row.result else None) ≡ kind_called p name kinds
unfolding builtin_named
call-builtin p name kinds row taken is are =
    ap (λ b. if b then Some row.result else None) are ∙ ap (λ (o : Option Row). kind_of_call o (signature_named p.functions name) kinds) is

pub call-host : (p : Program) (name : List ℕ) (kinds : List Kind) → None ≡ row_named builtin_rows name → host_kind (first_named function_name p.functions name) kinds ≡ kind_called p name kinds
unfolding builtin_named
call-host p name kinds is =
    by_signature (first_named function_name p.functions name) (signature_named p.functions name) (signature_first p.functions name)
    ∙ ap (λ (o : Option Row). kind_of_call o (signature_named p.functions name) kinds) is
  where
    by_signature : (o q : Option Signature) → o ≡ q → host_kind o kinds ≡ kind_of_call None q kinds
    by_signature o None e = ap (λ x. host_kind x kinds) e
    by_signature o (Some s) e = ap (λ x. host_kind x kinds) e

-- ---- lists of kinds

module _ (E : Kind → Kind → Bool) (is : (k l : Kind) → E k l ≡ same_kind k l) where
  pub kinds_alike : (ks ls : List Kind) → pointwise E ks ls ≡ same_kinds ks ls
  kinds_alike [] [] = refl
  kinds_alike [] (l ∷ ls) = refl
  kinds_alike (k ∷ ks) [] = refl
  kinds_alike (k ∷ ks) (l ∷ ls) = rw (kinds_alike ks ls, is k l) refl
