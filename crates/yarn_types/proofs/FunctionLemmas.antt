-- A map from names that has one more signature at the front.
use Rattle.std.proofs.Common.{◌≡◌, ℕ, Bool, true, false, cond, List, [], ◌∷◌, ◌++◌, length, append_assoc, arith, sym, Option, Some, refl, ap, ◌∙◌, Bor}
use Rattle.std.specs.BTreeMap.{BTreeMap, UpdatesBy, get_by}
use Rattle.std.specs.Bool.{nat_eq}
use Rattle.std.specs.Cmp.Lexicographic.{slice_cmp, pointwise}
use Rattle.std.specs.List.{push}
use Rattle.std.specs.Option.{option_copied}
use Rattle.std.specs.Ordering.{nat_cmp}
use Rattle.std.proofs.lemmas.Map.Text.{btree_map_updates_str}
use Rattle.yarn_value.specs.declared.signature.Signature.{Signature}
use Rattle.yarn_value.specs.Signatures.{signature_named}
use Rattle.yarn_types.specs.FunctionMaps.{Finds}

one_more : (is : Bool) (one : Bor Signature) (o : Option (Bor Signature)) (p : Option Signature) → option_copied o ≡ p →
    option_copied (cond is (Some one) o) ≡ cond is (Some one.now) p
one_more true one o p e = refl
one_more false one o p e = e

finds_more : (m n : BTreeMap (Bor (List ℕ)) (Bor Signature)) (key : Bor (List ℕ)) (one : Bor Signature) (later : List Signature) → key.now ≡ one.now.name →
    UpdatesBy (λ x y. slice_cmp nat_cmp x.now y.now) (λ k. slice_cmp nat_cmp key.now k.now) m n (Some one) →
    Finds m later → Finds n (one.now ∷ later)
finds_more m n key one later is updates finds q =
    ap option_copied (btree_map_updates_str key.now m n (Some one) updates q)
    ∙ one_more (pointwise nat_eq key.now q) one (get_by (λ k. slice_cmp nat_cmp q k.now) m) (signature_named later q) (finds q)
    ∙ ap (λ name. cond (pointwise nat_eq name q) (Some one.now) (signature_named later q)) is

-- the signatures behind a place, in a map
abbrev pub FindsRest : BTreeMap (Bor (List ℕ)) (Bor Signature) → List Signature → List Signature → Type 0
FindsRest m all before = (later : List Signature) × (before ++ later ≡ all) × Finds m later

-- the last signature of those before the place is put into the map
pub rest_step : (m n : BTreeMap (Bor (List ℕ)) (Bor Signature)) (key : Bor (List ℕ)) (one : Bor Signature) (all before fewer : List Signature) →
    FindsRest m all before → before ≡ push fewer one.now → key.now ≡ one.now.name →
    UpdatesBy (λ x y. slice_cmp nat_cmp x.now y.now) (λ k. slice_cmp nat_cmp key.now k.now) m n (Some one) → FindsRest n all fewer
rest_step m n key one all before fewer so_far e is updates =
    (one.now ∷ so_far.0, sym (append_assoc fewer (one.now ∷ []) so_far.0) ∙ ap (λ l. l ++ so_far.0) (sym e) ∙ so_far.1, finds_more m n key one so_far.0 is updates so_far.2)

pub rest_all : (m : BTreeMap (Bor (List ℕ)) (Bor Signature)) (all before : List Signature) → FindsRest m all before → length before ≡ 0 → Finds m all
rest_all m all [] so_far e q = so_far.2 q ∙ ap (λ l. signature_named l q) so_far.1
rest_all m all (one ∷ before) so_far e q = absurd (omega arith)
