-- A map from names that has one more signature at the front.
use Rattle.std.proofs.Common.{◌≡◌, ℕ, cond, List, [], ◌∷◌, ◌++◌, length, append_assoc, arith, sym, Option, Some, None, ap, ◌∙◌, Bor}
use Rattle.std.specs.BTreeMap.{BTreeMap, UpdatesBy}
use Rattle.std.specs.Cmp.Lexicographic.{slice_cmp}
use Rattle.std.specs.Str.{bytes_eq}
use Rattle.std.specs.List.{push}
use Rattle.std.specs.Ordering.{nat_cmp}
use Rattle.std.proofs.lemmas.Map.Text.{btree_map_updates_str}
use Rattle.yarn_value.specs.declared.signature.Signature.{Signature}
use Rattle.yarn_tree.specs.Arities.{HasArities}
use Rattle.yarn_value.specs.Builtins.{Row, row_named, builtin_rows}
use Rattle.yarn_value.specs.Signatures.{row_arity, declared_arity, builtin_or, arity_of}

arities_more : (m n : BTreeMap (Bor (List ℕ)) ℕ) (key : Bor (List ℕ)) (arity : ℕ) (one : Signature) (later : List Signature) → key.now ≡ one.name →
    arity ≡ length one.params →
    UpdatesBy (λ x y. slice_cmp nat_cmp x.now y.now) (λ k. slice_cmp nat_cmp key.now k.now) m n (Some arity) →
    HasArities m later → HasArities n (one ∷ later)
arities_more m n key arity one later is counted updates has q =
    btree_map_updates_str key.now m n (Some arity) updates q
    ∙ ap (cond (bytes_eq key.now q) (Some arity)) (has q)
    ∙ ap (λ name. cond (bytes_eq name q) (Some arity) (declared_arity later q)) is
    ∙ ap (λ v. cond (bytes_eq one.name q) (Some v) (declared_arity later q)) counted

-- the signatures behind a place, in a map
abbrev pub ArityRest : BTreeMap (Bor (List ℕ)) ℕ → List Signature → List Signature → Type 0
ArityRest m all before = (later : List Signature) × (before ++ later ≡ all) × HasArities m later

-- the last signature of those before the place is put into the map
pub arity_step : (m n : BTreeMap (Bor (List ℕ)) ℕ) (key : Bor (List ℕ)) (arity : ℕ) (one : Bor Signature) (all before fewer : List Signature) →
    ArityRest m all before → before ≡ push fewer one.now → key.now ≡ one.now.name → arity ≡ length one.now.params →
    UpdatesBy (λ x y. slice_cmp nat_cmp x.now y.now) (λ k. slice_cmp nat_cmp key.now k.now) m n (Some arity) → ArityRest n all fewer
arity_step m n key arity one all before fewer so_far e is counted updates = (
  one.now ∷ so_far.0,
  sym (append_assoc fewer (one.now ∷ []) so_far.0) ∙ ap (λ l. l ++ so_far.0) (sym e) ∙ so_far.1,
  arities_more m n key arity one.now so_far.0 is counted updates so_far.2,
)

pub arity_all : (m : BTreeMap (Bor (List ℕ)) ℕ) (all before : List Signature) → ArityRest m all before → length before ≡ 0 → HasArities m all
arity_all m all [] so_far e q = so_far.2 q ∙ ap (λ l. declared_arity l q) so_far.1
arity_all m all (one ∷ before) so_far e q = absurd (omega arith)

pub arity-builtin : (signatures : List Signature) (name : List ℕ) (row : Row) → Some row ≡ row_named builtin_rows name → Some (row_arity row) ≡ arity_of signatures name
unfolding arity_of
arity-builtin signatures name row is = ap (λ (o : Option Row). builtin_or o (declared_arity signatures name)) is

pub arity-declared : (signatures : List Signature) (name : List ℕ) → None ≡ row_named builtin_rows name → declared_arity signatures name ≡ arity_of signatures name
unfolding arity_of
arity-declared signatures name is = ap (λ (o : Option Row). builtin_or o (declared_arity signatures name)) is
