-- What is read is spelled so.
use Rattle.std.proofs.Common.{◌≡◌, ℕ, zero, suc, max, ◌≤◌, List, [], ◌∷◌, ◌++◌, length, Bool, true, false, nat_lt, Option, Some, None, refl, sym, ap, ◌∙◌, arith, append_assoc, append-nil, subst}
use Rattle.std.proofs.lemmas.Bool.Decides.{nat_tests}
use Rattle.yarn_expr.specs.declared.token.Token.{Token}
use Rattle.yarn_expr.specs.declared.token.Token.TheVariants as token
use Rattle.yarn_expr.specs.declared.token.Sign.TheVariants as sign
use Rattle.yarn_expr.specs.declared.word.WordMeaning.{WordMeaning}
use Rattle.yarn_expr.specs.declared.word.WordMeaning.TheVariants as word
use Rattle.yarn_expr.specs.declared.tree.UnaryOp.{UnaryOp}
use Rattle.yarn_expr.specs.declared.tree.BinaryOp.{BinaryOp}
use Rattle.yarn_expr.specs.declared.tree.Expr.{Expr}
use Rattle.yarn_expr.specs.declared.tree.Expr.TheVariants as expr
use Rattle.yarn_expr.specs.Word.{meaning_of}
use Rattle.yarn_expr.specs.Plain.{Tree, Leaf, Group, Call, Unary, Binary, Trees, NoTrees, AndTree, operator_level, level, depth, depth_all, leaf_of, expr_at, expr_of, exprs_of}
use Rattle.yarn_expr.specs.Expression.{Spells, SpellsAll, binary_of, unary_of, Expression}
use Rattle.yarn_expr.specs.Reading.{Found, FoundAll, Reader, operator_at, joined, chain_at, chain, at_level, reads, prefix_at, prefix, operand, operand_at, word_operand, sign_operand, call, group, arguments_or, arguments, after_argument, some_arguments, with_first, last_one, no_arguments, behind, is_open, is_close, is_comma, leaf, all_read, read_all}
use Rattle.yarn_expr.proofs.Steps.{bind_some, found, operator_at-some}
use Rattle.yarn_expr.proofs.Only.{opening, closing, comma}

-- the expression is a tree that the tokens spell, without its digits
pub record IsExpression (tokens : List Token) (e : Expr) : Type 0 where
  pub tree : Tree
  pub expression : Expression tokens tree
  pub is : e ≡ expr_of tree

-- what was found is a tree of the level at most and of the depth at most, which the tokens before the rest spell
pub record Taken (n most : ℕ) (ts : List Token) (f : Found) : Type 0 where
  pub tree : Tree
  pub front : List Token
  pub spelled : Spells tree front
  pub split : ts ≡ front ++ f.rest
  pub is : f ≡ found tree f.rest
  pub low : level tree ≤ n
  pub shallow : depth tree ≤ most

pub record TakenAll (most : ℕ) (ts : List Token) (all : FoundAll) : Type 0 where
  pub trees : Trees
  pub front : List Token
  pub spelled : SpellsAll trees front
  pub split : ts ≡ front ++ closing ∷ all.rest
  pub is : all ≡ record { exprs = exprs_of trees; depth = depth_all trees; rest = all.rest }
  pub shallow : depth_all trees ≤ most

-- there are arguments
abbrev pub TakesSome : Trees → Type 0
TakesSome NoTrees = ⊥
TakesSome (AndTree e es) = Unit {0}

-- a reader finds only such trees
abbrev pub IsSound : ℕ → ℕ → Reader → Type 0
IsSound n most r = (ts : List Token) (f : Found) → r ts ≡ Some f → Taken n most ts f

-- a test for one sign, and the token that passes it
is_open-opening : (t : Token) → is_open t ≡ true → t ≡ opening
is_open-opening (token.Sign sign.Open) h = refl
is_open-opening _ h = cc

is_close-closing : (t : Token) → is_close t ≡ true → t ≡ closing
is_close-closing (token.Sign sign.Close) h = refl
is_close-closing _ h = cc

pub is_comma-comma : (t : Token) → is_comma t ≡ true → t ≡ comma
is_comma-comma (token.Sign sign.Comma) h = refl
is_comma-comma _ h = cc

pub behind-some : (is : Token → Bool) (sign : Token) → ((t : Token) → is t ≡ true → t ≡ sign) → (ts rest : List Token) → behind is ts ≡ Some rest → ts ≡ sign ∷ rest
behind-some is sign only [] rest e = cc
behind-some is sign only (t ∷ ts) rest e = by_test (is t) refl e
  where
    by_test : (b : Bool) → is t ≡ b → behind is (t ∷ ts) ≡ Some rest → t ∷ ts ≡ sign ∷ rest
    by_test true same e = let f = rw same at e in let head = only t same in cc
    by_test false other e = let f = rw other at e in cc

-- each kind of tree, taken from its parts
taken_group : (most : ℕ) (ts rest : List Token) (x : Found) → Taken 6 most ts x → x.rest ≡ closing ∷ rest →
    Taken 0 (suc most) (opening ∷ ts) (record { expr = expr.Group x.expr; depth = suc x.depth; rest = rest })
taken_group most ts rest x t closed = record {
  tree = Group t.tree;
  front = opening ∷ (t.front ++ closing ∷ []);
  spelled = record { inner = t.front; spelled = t.spelled; split = refl };
  split = ap (λ l. opening ∷ l) (t.split ∙ ap (λ l. t.front ++ l) closed ∙ sym (append_assoc t.front (closing ∷ []) rest));
  is = ap (λ (g : Found). record { expr = expr.Group g.expr; depth = suc g.depth; rest = rest }) t.is;
  low = omega arith;
  shallow = let h = t.shallow in omega arith;
}

taken_call : (most : ℕ) (name : List ℕ) (ts : List Token) (all : FoundAll) → meaning_of name ≡ word.Name → TakenAll most ts all →
    Taken 0 (suc most) (token.Word name ∷ opening ∷ ts) (record { expr = expr.Call name all.exprs; depth = suc all.depth; rest = all.rest })
taken_call most name ts all meaning t = record {
  tree = Call name t.trees;
  front = token.Word name ∷ opening ∷ (t.front ++ closing ∷ []);
  spelled = record { meaning = meaning; bracketed = opening ∷ (t.front ++ closing ∷ []); arguments = record { inner = t.front; spelled = t.spelled; split = refl }; split = refl };
  split = ap (λ l. token.Word name ∷ opening ∷ l) (t.split ∙ sym (append_assoc t.front (closing ∷ []) all.rest));
  is = ap (λ (g : FoundAll). record { expr = expr.Call name g.exprs; depth = suc g.depth; rest = all.rest }) t.is;
  low = omega arith;
  shallow = let h = t.shallow in omega arith;
}

taken_unary : (most : ℕ) (op : UnaryOp) (first : Token) (ts : List Token) (x : Found) → unary_of first ≡ Some op → Taken 1 most ts x →
    Taken 1 (suc most) (first ∷ ts) (record { expr = expr.Unary op x.expr; depth = suc x.depth; rest = x.rest })
taken_unary most op first ts x is t = record {
  tree = Unary op t.tree;
  front = first ∷ t.front;
  spelled = (t.low, record { first = first; operator = is; operand = t.front; spelled = t.spelled; split = refl });
  split = ap (λ l. first ∷ l) t.split;
  is = ap (λ (g : Found). record { expr = expr.Unary op g.expr; depth = suc g.depth; rest = x.rest }) t.is;
  low = omega arith;
  shallow = let h = t.shallow in omega arith;
}

taken_binary : (n most : ℕ) (op : BinaryOp) (middle : Token) (ts after : List Token) (left right : Found) → binary_of middle ≡ Some op → operator_level op ≡ suc n →
    Taken (suc n) (suc most) ts left → left.depth ≤ most → left.rest ≡ middle ∷ after → Taken n most after right → Taken (suc n) (suc most) ts (joined op left right)
taken_binary n most op middle ts after left right is at l le stands r = record {
  tree = Binary op l.tree r.tree;
  front = l.front ++ middle ∷ r.front;
  spelled = (let h = l.low in omega arith, let h = r.low in omega arith, record { left = l.front; left_spelled = l.spelled; middle = middle; operator = is; right = r.front; right_spelled = r.spelled; split = refl });
  split = l.split ∙ ap (λ rest. l.front ++ rest) (stands ∙ ap (λ rest. middle ∷ rest) r.split) ∙ sym (append_assoc l.front (middle ∷ r.front) right.rest);
  is = ap (λ (g : Found). joined op g right) l.is ∙ ap (λ (g : Found). record { expr = expr.Binary op (expr_of l.tree) g.expr; depth = suc (max (depth l.tree) g.depth); rest = right.rest }) r.is;
  low = omega arith;
  shallow = let d : left.depth ≡ depth l.tree = ap (λ (g : Found). g.depth) l.is in let h = r.shallow in omega arith;
}

taken_leaf : (n most : ℕ) (t : Token) (ts : List Token) → leaf_of t ≡ Some (expr_at (leaf_of t)) → Taken n (suc most) (t ∷ ts) (leaf (expr_at (leaf_of t)) ts)
taken_leaf n most t ts is = record {
  tree = Leaf t;
  front = t ∷ [];
  spelled = record { operand = is; alone = refl };
  split = refl;
  is = refl;
  low = omega arith;
  shallow = omega arith;
}

taken_higher : (n m most : ℕ) (ts : List Token) (f : Found) → n ≤ m → Taken n most ts f → Taken m most ts f
taken_higher n m most ts f le t = record { tree = t.tree; front = t.front; spelled = t.spelled; split = t.split; is = t.is; low = (let h = t.low in omega arith); shallow = t.shallow }

taken-as : (most : ℕ) (t : Token) (ts : List Token) (f : Found) → leaf_of t ≡ Some (expr_at (leaf_of t)) → ◌≡◌ {A = Option Found} (Some (leaf (expr_at (leaf_of t)) ts)) (Some f) → Taken 0 (suc most) (t ∷ ts) f
taken-as most t ts f is e = let same : leaf (expr_at (leaf_of t)) ts ≡ f = cc in let P : Found → Type 0 = λ g. Taken 0 (suc most) (t ∷ ts) g in subst P same (taken_leaf 0 most t ts is)

group-sound : (most : ℕ) (inner : Reader) → IsSound 6 most inner → (ts : List Token) (f : Found) → group inner ts ≡ Some f → Taken 0 (suc most) (opening ∷ ts) f
unfolding group
group-sound most inner sound ts f e =
    let first = bind_some (inner ts) _ f e in
    let x = first.0 in
    let second = bind_some (behind is_close x.rest) _ f first.2 in
    let result : record { expr = expr.Group x.expr; depth = suc x.depth; rest = second.0 } ≡ f = cc in
    let P : Found → Type 0 = λ g. Taken 0 (suc most) (opening ∷ ts) g in
    subst P result (taken_group most ts second.0 x (sound ts x first.1) (behind-some is_close closing is_close-closing x.rest second.0 second.1))

-- arguments
last-taken : (most : ℕ) (ts rest : List Token) (x : Found) → Taken 6 most ts x → x.rest ≡ closing ∷ rest → TakenAll most ts (last_one x rest)
last-taken most ts rest x t closed = record {
  trees = AndTree t.tree NoTrees;
  front = t.front;
  spelled = t.spelled;
  split = t.split ∙ ap (λ l. t.front ++ l) closed;
  is = let zero_least : max (depth t.tree) 0 ≡ depth t.tree = omega arith in rw zero_least (ap (λ (g : Found). last_one g rest) t.is);
  shallow = let h = t.shallow in omega arith;
}

next-taken : (most : ℕ) (ts after : List Token) (x : Found) (all : FoundAll) → Taken 6 most ts x → x.rest ≡ comma ∷ after → (a : TakenAll most after all) → TakesSome a.trees → TakenAll most ts (with_first x all)
next-taken most ts after x all t stands a some = record {
  trees = AndTree t.tree a.trees;
  front = t.front ++ comma ∷ a.front;
  spelled = listed t.tree a.trees some t.front a.front t.spelled a.spelled;
  split = t.split ∙ ap (λ l. t.front ++ l) (stands ∙ ap (λ l. comma ∷ l) a.split) ∙ sym (append_assoc t.front (comma ∷ a.front) (closing ∷ all.rest));
  is = ap (λ (g : Found). with_first g all) t.is ∙ ap (λ (g : FoundAll). record { exprs = expr_of t.tree ∷ g.exprs; depth = max (depth t.tree) g.depth; rest = all.rest }) a.is;
  shallow = let h = t.shallow in let k = a.shallow in omega arith;
}
  where
    listed : (e : Tree) (es : Trees) → TakesSome es → (first others : List Token) → Spells e first → SpellsAll es others → SpellsAll (AndTree e es) (first ++ comma ∷ others)
    listed e NoTrees some first others s a = absurd some
    listed e (AndTree f es) some first others s a = record { first = first; first_spelled = s; others = others; others_spelled = a; split = refl }

-- some arguments were read
pub record SomeTaken (most : ℕ) (ts : List Token) (all : FoundAll) : Type 0 where
  pub taken : TakenAll most ts all
  pub some : TakesSome taken.trees

-- a reader of arguments finds only such lists
abbrev IsSoundAll : ℕ → (List Token → Option FoundAll) → Type 0
IsSoundAll most r = (ts : List Token) (all : FoundAll) → r ts ≡ Some all → SomeTaken most ts all

after_argument-sound : (most : ℕ) (more : List Token → Option FoundAll) → IsSoundAll most more → (ts : List Token) (all : FoundAll) (x : Found) → Taken 6 most ts x →
    (o : Option (List Token)) → behind is_close x.rest ≡ o → after_argument more x o ≡ Some all → SomeTaken most ts all
unfolding next-taken last-taken
after_argument-sound most more sound ts all x t (Some rest) closed e =
    let result : last_one x rest ≡ all = cc in
    let P : FoundAll → Type 0 = λ g. SomeTaken most ts g in
    subst P result (record { taken = last-taken most ts rest x t (behind-some is_close closing is_close-closing x.rest rest closed); some = tt })
after_argument-sound most more sound ts all x t None closed e =
    let second = bind_some (behind is_comma x.rest) _ all e in
    let third = bind_some (more second.0) _ all second.2 in
    let result : with_first x third.0 ≡ all = (let h = third.2 in cc) in
    let others = sound second.0 third.0 third.1 in
    let P : FoundAll → Type 0 = λ g. SomeTaken most ts g in
    subst P result (record { taken = next-taken most ts second.0 x third.0 t (behind-some is_comma comma is_comma-comma x.rest second.0 second.1) others.taken others.some; some = tt })

some_arguments-sound : (most k : ℕ) (inner : Reader) → IsSound 6 most inner → IsSoundAll most (some_arguments k inner)
unfolding some_arguments
some_arguments-sound most zero inner sound ts all e = cc
some_arguments-sound most (suc k) inner sound ts all e =
    let first = bind_some (inner ts) _ all e in
    after_argument-sound most (some_arguments k inner) (some_arguments-sound most k inner sound) ts all first.0 (sound ts first.0 first.1) (behind is_close first.0.rest) refl first.2

arguments-sound : (most : ℕ) (inner : Reader) → IsSound 6 most inner → (ts : List Token) (all : FoundAll) → arguments inner ts ≡ Some all → TakenAll most ts all
unfolding arguments
arguments-sound most inner sound ts all e = by_close (behind is_close ts) refl e
  where
    by_close : (o : Option (List Token)) → behind is_close ts ≡ o → arguments_or inner ts o ≡ Some all → TakenAll most ts all
    by_close (Some rest) closed e =
        let result : no_arguments rest ≡ all = cc in
        let P : FoundAll → Type 0 = λ g. TakenAll most ts g in
        subst P result (record { trees = NoTrees; front = []; spelled = refl; split = behind-some is_close closing is_close-closing ts rest closed; is = refl; shallow = omega arith })
    by_close None closed e = (some_arguments-sound most (suc (length ts)) inner sound ts all e).taken

call-sound : (most : ℕ) (inner : Reader) → IsSound 6 most inner → (name : List ℕ) → meaning_of name ≡ word.Name → (ts : List Token) (f : Found) → call inner name ts ≡ Some f →
    Taken 0 (suc most) (token.Word name ∷ ts) f
unfolding call
call-sound most inner sound name meaning ts f e =
    let first = bind_some (behind is_open ts) _ f e in
    let second = bind_some (arguments inner first.0) _ f first.2 in
    let all = second.0 in
    let result : record { expr = expr.Call name all.exprs; depth = suc all.depth; rest = all.rest } ≡ f = (let h = second.2 in cc) in
    let opened = behind-some is_open opening is_open-opening ts first.0 first.1 in
    let P : Found → Type 0 = λ g. Taken 0 (suc most) (token.Word name ∷ ts) g in
    let Q : List Token → Type 0 = λ l. Taken 0 (suc most) (token.Word name ∷ l) (record { expr = expr.Call name all.exprs; depth = suc all.depth; rest = all.rest }) in
    subst P result (subst Q (sym opened) (taken_call most name first.0 all meaning (arguments-sound most inner sound first.0 all second.1)))

operand_at-sound : (most : ℕ) (inner : Reader) → IsSound 6 most inner → (t : Token) (ts : List Token) (f : Found) → operand_at inner t ts ≡ Some f → Taken 0 (suc most) (t ∷ ts) f
operand_at-sound most inner sound (token.Number digits) ts f e = taken-as most (token.Number digits) ts f refl e
operand_at-sound most inner sound (token.Fraction digits) ts f e = taken-as most (token.Fraction digits) ts f refl e
operand_at-sound most inner sound (token.Str text) ts f e = taken-as most (token.Str text) ts f refl e
operand_at-sound most inner sound (token.Variable name) ts f e = taken-as most (token.Variable name) ts f refl e
operand_at-sound most inner sound (token.Word w) ts f e = by_meaning (meaning_of w) refl e
  where
    by_meaning : (m : WordMeaning) → meaning_of w ≡ m → word_operand inner w m ts ≡ Some f → Taken 0 (suc most) (token.Word w ∷ ts) f
    by_meaning (word.Literal b) is e =
        let known : leaf_of (token.Word w) ≡ Some (expr.Truth b) = rw is refl in
        let same : expr_at (leaf_of (token.Word w)) ≡ expr.Truth b = ap expr_at known in
        taken-as most (token.Word w) ts f (known ∙ ap Some (sym same)) (ap (λ x. Some (leaf x ts)) same ∙ e)
    by_meaning word.Name is e = call-sound most inner sound w is ts f e
    by_meaning word.Negation is e = cc
    by_meaning (word.Operator op) is e = cc
operand_at-sound most inner sound (token.Sign s) ts f e = by_open (is_open (token.Sign s)) refl e
  where
    by_open : (b : Bool) → is_open (token.Sign s) ≡ b → sign_operand inner b ts ≡ Some f → Taken 0 (suc most) (token.Sign s ∷ ts) f
    by_open true is e = let P : Token → Type 0 = λ t. Taken 0 (suc most) (t ∷ ts) f in subst P (sym (is_open-opening (token.Sign s) is)) (group-sound most inner sound ts f e)
    by_open false is e = cc

operand-sound : (most : ℕ) (inner : Reader) → IsSound 6 most inner → IsSound 0 (suc most) (operand inner)
unfolding operand
operand-sound most inner sound [] f e = cc
operand-sound most inner sound (t ∷ ts) f e = operand_at-sound most inner sound t ts f e

prefix-sound : (most : ℕ) (next inner : Reader) → IsSound 1 most next → IsSound 6 most inner → IsSound 1 (suc most) (prefix next inner)
unfolding prefix
prefix-sound most next inner sound_next sound [] f e = cc
prefix-sound most next inner sound_next sound (t ∷ ts) f e = by_prefix (unary_of t) refl e
  where
    by_prefix : (o : Option UnaryOp) → unary_of t ≡ o → prefix_at next inner (t ∷ ts) o ts ≡ Some f → Taken 1 (suc most) (t ∷ ts) f
    by_prefix (Some op) is e =
        let first = bind_some (next ts) _ f e in
        let x = first.0 in
        let result : record { expr = expr.Unary op x.expr; depth = suc x.depth; rest = x.rest } ≡ f = (let h = first.2 in cc) in
        let P : Found → Type 0 = λ g. Taken 1 (suc most) (t ∷ ts) g in
        subst P result (taken_unary most op t ts x is (sound_next ts x first.1))
    by_prefix None is e = taken_higher 0 1 (suc most) (t ∷ ts) f (omega arith) (operand-sound most inner sound (t ∷ ts) f e)

-- what goes on with a tree keeps it sound
abbrev GoesOn : ℕ → ℕ → (Found → Option Found) → Type 0
GoesOn n most more = (ts : List Token) (left f : Found) → Taken (suc n) (suc most) ts left → more left ≡ Some f → Taken (suc n) (suc most) ts f

chain_at-sound : (n most : ℕ) (more : Found → Option Found) (right : Reader) → GoesOn n most more → IsSound n most right → (ts : List Token) (left f : Found) → Taken (suc n) (suc most) ts left →
    chain_at more most right left (operator_at (suc n) left.rest) ≡ Some f → Taken (suc n) (suc most) ts f
chain_at-sound n most more right on sound ts left f t e = by_operator (operator_at (suc n) left.rest) refl e
  where
    shallow : (found : BinaryOp × List Token) → operator_at (suc n) left.rest ≡ Some found → (b : Bool) → nat_lt most left.depth ≡ b → chain_at more most right left (Some found) ≡ Some f → Taken (suc n) (suc most) ts f
    shallow found at true deep e = let h = rw deep at e in cc
    shallow found at false deep e =
        let h = rw deep at e in
        let r = bind_some (right found.1) _ f h in
        let stands = operator_at-some (suc n) left.rest found at in
        let le : left.depth ≤ most = grind (arith, nat_tests) in
        on ts (joined found.0 left r.0) f (taken_binary n most found.0 stands.0 ts found.1 left r.0 stands.1 stands.3 t le stands.2 (sound found.1 r.0 r.1)) r.2

    by_operator : (o : Option (BinaryOp × List Token)) → operator_at (suc n) left.rest ≡ o → chain_at more most right left o ≡ Some f → Taken (suc n) (suc most) ts f
    by_operator None at e = let same : left ≡ f = cc in let P : Found → Type 0 = λ g. Taken (suc n) (suc most) ts g in subst P same t
    by_operator (Some found) at e = shallow found at (nat_lt most left.depth) refl e

chain-sound : (k n most : ℕ) (right : Reader) → IsSound n most right → GoesOn n most (chain k most right (suc n))
unfolding chain
chain-sound zero n most right sound ts left f t e = chain_at-sound n most (λ _. None) right (λ _ _ _ _ h. cc) sound ts left f t e
chain-sound (suc k) n most right sound ts left f t e = chain_at-sound n most (chain k most right (suc n)) right (chain-sound k n most right sound) sound ts left f t e

at_level-sound : (most : ℕ) (below : ℕ → Reader) → ((m : ℕ) → IsSound m most (below m)) → (n : ℕ) → IsSound n (suc most) (at_level most below n)
unfolding at_level
at_level-sound most below sound zero ts f e = operand-sound most (below 6) (sound 6) ts f e
at_level-sound most below sound (suc zero) ts f e = prefix-sound most (below 1) (below 6) (sound 1) (sound 6) ts f e
at_level-sound most below sound (suc (suc n)) ts f e =
    let first = bind_some (at_level most below (suc n) ts) _ f e in
    let left = taken_higher (suc n) (suc (suc n)) (suc most) ts first.0 (omega arith) (at_level-sound most below sound (suc n) ts first.0 first.1) in
    chain-sound (suc most) (suc n) most (below (suc n)) (sound (suc n)) ts first.0 f left first.2

pub reads-sound : (most n : ℕ) → IsSound n most (reads most n)
unfolding reads
reads-sound zero n ts f e = cc
reads-sound (suc most) n ts f e = at_level-sound most (reads most) (reads-sound most) n ts f e

pub read_all-sound : (ts : List Token) (e : Expr) → read_all ts ≡ Some e → IsExpression ts e
unfolding read_all
read_all-sound ts e h =
    let first = bind_some (reads 64 6 ts) _ e h in
    at_end first.0 (reads-sound 64 6 ts first.0 first.1) first.0.rest refl first.2
  where
    at_end : (f : Found) → Taken 6 64 ts f → (rest : List Token) → f.rest ≡ rest → all_read f.expr rest ≡ Some e → IsExpression ts e
    at_end f t [] none e' =
        let split : ts ≡ t.front = t.split ∙ ap (λ l. t.front ++ l) none ∙ append-nil t.front in
        let P : List Token → Type 0 = λ l. Spells t.tree l in
        record {
          tree = t.tree;
          expression = record { spelled = subst P (sym split) t.spelled; shallow = t.shallow };
          is = (let same : f.expr ≡ e = cc in sym same) ∙ ap (λ (g : Found). g.expr) t.is;
        }
    at_end f t (x ∷ xs) more e' = cc
