-- Expressions: the value is pushed, and has the kind of the typing.
use Rattle.std.proofs.Common.{◌≡◌, ℕ, suc, ◌+◌, ◌<◌, ◌≤◌, max, List, [], ◌∷◌, ◌++◌, length, map, if◌then◌else◌, Option, Some, None, refl, sym, ap, ◌∙◌, subst, arith, append-nil}
use Rattle.yarn_value.specs.declared.value.Kind.{Kind}
use Rattle.yarn_value.specs.declared.value.Kind.TheVariants as kind
use Rattle.yarn_value.specs.declared.signature.Signature.{Signature}
use Rattle.yarn_expr.specs.declared.tree.UnaryOp.{UnaryOp}
use Rattle.yarn_expr.specs.declared.tree.BinaryOp.{BinaryOp}
use Rattle.yarn_expr.specs.declared.tree.Expr.{Expr, roll-Expr, map-Expr}
use Rattle.yarn_expr.specs.declared.tree.Expr.TheOpen.{Expr-F}
use Rattle.yarn_expr.specs.declared.tree.Expr.TheFolds.{fold-Expr, fold-roll-Expr, ind-Expr}
use Rattle.yarn_types.specs.KindSets.{only}
use Rattle.yarn_types.specs.Typings.{kinds_in}
use Rattle.yarn_value.specs.Builtins.{builtin_named}
use Rattle.yarn_value.specs.Signatures.{signature_named}
use Rattle.yarn_types.specs.Fits.{joined, is_in, unary_kind, called, kind_of, kind_step}
use Rattle.yarn_code.specs.declared.program.Instr.TheVariants as code
use Rattle.yarn_code.specs.declared.program.Instr.{Instr}
use Rattle.yarn_code.specs.declared.program.Coded.{Coded}
use Rattle.yarn_code.specs.Parts.{coded}
use Rattle.yarn_code.specs.declared.program.CodeNode.{CodeNode}
use Rattle.yarn_code.specs.declared.program.Program.{Program}
use Rattle.yarn_compile.specs.Code.{Terms, TypedCode, typed_code, kinds_of_all, code_of_all, code_step, typed_expr, expr_code, kind_of_name, unary_name, binary_name}
use Rattle.yarn_kinds.specs.Typed.{variables_in}
use Rattle.yarn_check.specs.Shapes.{ShapeEntry, Of, shape, Flow, flow, take_kinds, on_known, goes_on, kind_under, kind_called, PassesFirstLook}
use Rattle.yarn_compile.proofs.Parts.{Each, each_front, each_back, Part, plain, then_plain, nothing}
use Rattle.yarn_compile.proofs.Calls.{IsCall, IsHost, called_kinds, operator_call, unary_call, function_call}

-- ---- how much room an expression takes

abbrev pub needs : List ℕ → ℕ
needs [] = 1
needs (n ∷ ns) = max n (suc (needs ns))

abbrev pub need_step : Expr-F ℕ → ℕ
need_step (Expr-F.Number n) = 1
need_step (Expr-F.Str text) = 1
need_step (Expr-F.Truth b) = 1
need_step (Expr-F.Variable name) = 1
need_step (Expr-F.Group inner) = inner
need_step (Expr-F.Unary op inner) = inner
need_step (Expr-F.Binary op left right) = max left (suc right)
need_step (Expr-F.Call name args) = needs args

abbrev pub need : Expr → ℕ
need = fold-Expr ℕ need_step

-- ---- values on the stack

-- values of these kinds, the last on top
abbrev pub pushed : List Kind → List ShapeEntry → List ShapeEntry
pushed [] entries = entries
pushed (k ∷ ks) entries = pushed ks (Of k ∷ entries)

take_more : (ks : List Kind) (m : ℕ) (kinds : List Kind) (entries : List ShapeEntry) (go : List Kind → List ShapeEntry → Flow) → take_kinds (length ks + m) kinds (pushed ks entries) go ≡ take_kinds m (ks ++ kinds) entries go
take_more [] m kinds entries go = let e : 0 + m ≡ m = omega arith in ap (λ x. take_kinds x kinds entries go) e
take_more (k ∷ ks) m kinds entries go =
    let e : suc (length ks) + m ≡ length ks + suc m = omega arith in
    ap (λ x. take_kinds x kinds (pushed ks (Of k ∷ entries)) go) e ∙ take_more ks (suc m) kinds (Of k ∷ entries) go

pub take_pushed : (ks : List Kind) (count : ℕ) (entries : List ShapeEntry) (go : List Kind → List ShapeEntry → Flow) → length ks ≡ count → take_kinds count [] (pushed ks entries) go ≡ go ks entries
take_pushed ks count entries go e =
    let f : count ≡ length ks + 0 = omega (arith, e) in
    ap (λ x. take_kinds x [] (pushed ks entries) go) f ∙ take_more ks 0 [] entries go ∙ ap (λ l. go l entries) (append-nil ks)

pub pushed-length : (ks : List Kind) (entries : List ShapeEntry) → length (pushed ks entries) ≡ length ks + length entries
pushed-length [] entries = omega arith
pushed-length (k ∷ ks) entries = pushed-length ks (Of k ∷ entries) ∙ omega arith

module _ (p : Program) (n : CodeNode) where
  -- a call on values of those kinds
  pub call_part : {at line : ℕ} (name : List ℕ) (count : ℕ) (ks : List Kind) (k : Kind) (entries : List ShapeEntry) (pending : List ℕ) → length ks ≡ count → IsCall p name ks k →
      length (pushed ks entries) ≤ 2048 → length pending ≤ 64 →
      Part p n at (coded line (code.CallFunc count name) ∷ []) (Some (shape (pushed ks entries) pending)) (Some (shape (Of k ∷ entries) pending)) []
  call_part {at = at} {line = line} name count ks k entries pending e call room few =
      plain p n (coded line (code.CallFunc count name)) (call.counted ∙ ap (λ x. Some x) e) (record { entries = room; pending = few })
      (take_pushed ks count entries (λ kinds rest. on_known (kind_called p name kinds) (λ x. goes_on at (Of x ∷ rest) pending)) e
      ∙ ap (λ o. on_known o (λ x. goes_on at (Of x ∷ entries) pending)) call.kind)

-- the kind that the code has is that of the typing
module _ (terms : Terms) (line : ℕ) where
  abbrev the_kind : Expr → Option Kind
  the_kind = kind_of terms.signatures (variables_in terms.entries) (kinds_in terms.entries)

  abbrev typed : Expr → TypedCode
  typed = typed_expr terms line

  abbrev HasItsKind : Expr → Type 0
  HasItsKind e = (typed e).kind ≡ the_kind e

  args_map : (es : List Expr) → kinds_of_all (map typed es) ≡ map (λ a. (typed a).kind) es
  args_map [] = refl
  args_map (a ∷ es) = ap (λ l. (typed a).kind ∷ l) (args_map es)

  args_same : (es : List ((e : Expr) × HasItsKind e)) → map (λ a. (typed a).kind) (map (λ e. e.0) es) ≡ map the_kind (map (λ e. e.0) es)
  args_same [] = refl
  args_same (e ∷ es) = ap (λ o. o ∷ map (λ a. (typed a).kind) (map (λ x. x.0) es)) e.1 ∙ ap (λ l. the_kind e.0 ∷ l) (args_same es)

  abbrev own_step : Expr-F (Option Kind) → Option Kind
  own_step = kind_step terms.signatures (variables_in terms.entries) (kinds_in terms.entries)

  layer_same : (x : Expr-F Expr) → (code_step terms line (map-Expr Expr TypedCode typed x)).kind ≡ own_step (map-Expr Expr (Option Kind) the_kind x) → HasItsKind (roll-Expr x)
  layer_same x e = ap (λ t. t.kind) (fold-roll-Expr TypedCode (code_step terms line) x) ∙ e ∙ sym (fold-roll-Expr (Option Kind) own_step x)

  by_layer : (y : Expr-F ((e : Expr) × HasItsKind e)) → HasItsKind (roll-Expr (map-Expr ((e : Expr) × HasItsKind e) Expr (λ e. e.0) y))
  by_layer (Expr-F.Number m) = layer_same (Expr-F.Number m) refl
  by_layer (Expr-F.Str text) = layer_same (Expr-F.Str text) refl
  by_layer (Expr-F.Truth b) = layer_same (Expr-F.Truth b) refl
  by_layer (Expr-F.Variable name) = layer_same (Expr-F.Variable name) refl
  by_layer (Expr-F.Group e) = layer_same (Expr-F.Group e.0) e.1
  by_layer (Expr-F.Unary op e) = layer_same (Expr-F.Unary op e.0) (ap (λ o. own_step (Expr-F.Unary op o)) e.1)
  by_layer (Expr-F.Binary op l r) =
      layer_same (Expr-F.Binary op l.0 r.0) (ap (λ o. own_step (Expr-F.Binary op o (typed r.0).kind)) l.1 ∙ ap (λ o. own_step (Expr-F.Binary op (the_kind l.0) o)) r.1)
  by_layer (Expr-F.Call name es) =
      layer_same (Expr-F.Call name (map (λ e. e.0) es)) (ap (λ l. own_step (Expr-F.Call name l)) (args_map (map (λ e. e.0) es) ∙ args_same es))

  pub kind_same : (e : Expr) → (typed e).kind ≡ the_kind e
  kind_same = ind-Expr HasItsKind (λ x y is. subst (λ z. HasItsKind (roll-Expr z)) is (by_layer y))

-- ---- instructions whose functions are known

-- a call is one of a builtin, or of a host function of the program
abbrev pub IsKnown : List Signature → Program → Instr → Type 0
IsKnown signatures p (code.CallFunc count name) = IsHost signatures p name
IsKnown signatures p _ = Unit {0}

abbrev pub AreKnown : List Signature → Program → List Coded → Type 0
AreKnown signatures p = Each (λ c. IsKnown signatures p c.instr)

-- ---- what is shown of the code of an expression

-- the variables of the typing are the program's
abbrev pub AreVariables : Terms → Program → Type 0
AreVariables terms p = (name : List ℕ) (k : Kind) → kind_of_name terms name ≡ Some k → kind_under p name ≡ Some k

module _ (p : Program) (n : CodeNode) (terms : Terms) (variables : AreVariables terms p) (line : ℕ) where
  -- code that pushes a value, with that much room
  abbrev Pushes : TypedCode → ℕ → Type 0
  Pushes t m =
      (at : ℕ) (k : Kind) (stack : List ShapeEntry) (pending : List ℕ) → t.kind ≡ Some k → AreKnown terms.signatures p t.code → length stack + m ≤ 2048 → length pending ≤ 64 →
      Part p n at t.code (Some (shape stack pending)) (Some (shape (Of k ∷ stack) pending)) []

  abbrev PushesAll : List TypedCode → List ℕ → Type 0
  PushesAll ts ms =
      (at : ℕ) (ks : List Kind) (stack : List ShapeEntry) (pending : List ℕ) → kinds_of_all ts ≡ map (λ k. Some k) ks → AreKnown terms.signatures p (code_of_all ts) →
      length stack + needs ms ≤ 2048 → length pending ≤ 64 →
      Part p n at (code_of_all ts) (Some (shape stack pending)) (Some (shape (pushed ks stack) pending)) []

  pub record IsPushing (t : TypedCode) (m : ℕ) : Type 0 where
    pub positive : 1 ≤ m
    pub part : Pushes t m

  pub record ArePushing (ts : List TypedCode) (ms : List ℕ) : Type 0 where
    pub many : length ts < suc (needs ms)
    pub positive : 1 ≤ needs ms
    pub part : PushesAll ts ms

  -- one instruction that pushes a value of that kind
  push_one : {at : ℕ} {stack : List ShapeEntry} {pending : List ℕ} (c : Coded) (k l : Kind) → PassesFirstLook p n at c.instr → length stack + 1 ≤ 2048 → length pending ≤ 64 →
      Some l ≡ Some k → flow p c.instr at stack pending ≡ goes_on at (Of l ∷ stack) pending → Part p n at (c ∷ []) (Some (shape stack pending)) (Some (shape (Of k ∷ stack) pending)) []
  push_one {at = at} {stack = stack} {pending = pending} c k l fine room few is e =
      let same : l ≡ k = cc in
      plain p n c fine (record { entries = omega (arith, room); pending = few }) (e ∙ ap (λ x. goes_on at (Of x ∷ stack) pending) same)

  pushes_variable : (name : List ℕ) → IsPushing (typed_code (kind_of_name terms name) (coded line (code.PushVariable name) ∷ [])) 1
  pushes_variable name = record {
    positive = omega arith;
    part = λ at k stack pending e known room few.
        let is = variables name k e in
        push_one (coded line (code.PushVariable name)) k k (record { kind = k; known = is }) room few refl (ap (λ o. on_known o (λ x. goes_on at (Of x ∷ stack) pending)) is);
  }

  pushes_unary : (op : UnaryOp) (o : Option Kind) (cs : List Coded) (m : ℕ) → IsPushing (typed_code o cs) m →
      IsPushing (typed_code (if is_in (only (unary_kind op)) o then Some (unary_kind op) else None) (cs ++ coded line (code.CallFunc 1 (unary_name op)) ∷ [])) m
  pushes_unary op None cs m h = record { positive = h.positive; part = λ at k stack pending e known room few. absurd cc }
  pushes_unary op (Some a) cs m h = record {
    positive = h.positive;
    part = λ at k stack pending e known room few.
        let call = coded line (code.CallFunc 1 (unary_name op)) in
        let fits : length (pushed (a ∷ []) stack) ≤ 2048 = omega (arith, h.positive, room) in
        then_plain p n at cs (call ∷ []) (h.part at a stack pending refl (each_front (λ c. IsKnown terms.signatures p c.instr) cs (call ∷ []) known) room few)
        (call_part p n (unary_name op) 1 (a ∷ []) k stack pending refl (unary_call p op a k e) fits few);
  }

  pushes_binary : (op : BinaryOp) (o r : Option Kind) (cs ds : List Coded) (l m : ℕ) → IsPushing (typed_code o cs) l → IsPushing (typed_code r ds) m →
      IsPushing (typed_code (joined op o r) (cs ++ (ds ++ coded line (code.CallFunc 2 (binary_name op o)) ∷ []))) (max l (suc m))
  pushes_binary op None r cs ds l m h g = record { positive = omega (arith, g.positive); part = λ at k stack pending e known room few. absurd cc }
  pushes_binary op (Some a) None cs ds l m h g = record { positive = omega (arith, g.positive); part = λ at k stack pending e known room few. absurd cc }
  pushes_binary op (Some a) (Some b) cs ds l m h g = record {
    positive = omega (arith, g.positive);
    part = λ at k stack pending e known room few.
        let call = coded line (code.CallFunc 2 (binary_name op (Some a))) in
        let known2 = each_back (λ c. IsKnown terms.signatures p c.instr) cs (ds ++ call ∷ []) known in
        let room1 : length stack + l ≤ 2048 = omega (arith, room) in
        let room2 : length (Of a ∷ stack) + m ≤ 2048 = omega (arith, room) in
        let fits : length (pushed (a ∷ b ∷ []) stack) ≤ 2048 = omega (arith, g.positive, room) in
        then_plain p n at cs (ds ++ call ∷ []) (h.part at a stack pending refl (each_front (λ c. IsKnown terms.signatures p c.instr) cs (ds ++ call ∷ []) known) room1 few)
        (then_plain p n (at + length cs) ds (call ∷ [])
        (g.part (at + length cs) b (Of a ∷ stack) pending refl (each_front (λ c. IsKnown terms.signatures p c.instr) ds (call ∷ []) known2) room2 few)
        (call_part p n (binary_name op (Some a)) 2 (a ∷ b ∷ []) k stack pending refl (operator_call p op a b k e) fits few));
  }

  pushes_none : ArePushing [] []
  pushes_none = record {
    many = omega arith;
    positive = omega arith;
    part = λ at ks stack pending e known room few. by_kinds at ks stack pending e;
  }
    where
      by_kinds : (at : ℕ) (ks : List Kind) (stack : List ShapeEntry) (pending : List ℕ) → [] ≡ map (λ (k : Kind). Some k) ks → Part p n at [] (Some (shape stack pending)) (Some (shape (pushed ks stack) pending)) []
      by_kinds at [] stack pending e = nothing p n (Some (shape stack pending))
      by_kinds at (k ∷ ks) stack pending e = absurd cc

  pushes_more : (o : Option Kind) (cs : List Coded) (m : ℕ) (ts : List TypedCode) (ms : List ℕ) → IsPushing (typed_code o cs) m → ArePushing ts ms → ArePushing (typed_code o cs ∷ ts) (m ∷ ms)
  pushes_more o cs m ts ms h g = record {
    many = omega (arith, g.many);
    positive = omega (arith, g.positive);
    part = λ at ks stack pending e known room few. by_kinds at ks stack pending e known room few;
  }
    where
      by_kinds : (at : ℕ) (ks : List Kind) (stack : List ShapeEntry) (pending : List ℕ) → o ∷ kinds_of_all ts ≡ map (λ k. Some k) ks → AreKnown terms.signatures p (cs ++ code_of_all ts) →
          length stack + max m (suc (needs ms)) ≤ 2048 → length pending ≤ 64 →
          Part p n at (cs ++ code_of_all ts) (Some (shape stack pending)) (Some (shape (pushed ks stack) pending)) []
      by_kinds at [] stack pending e known room few = absurd cc
      by_kinds at (k ∷ ks) stack pending e known room few =
          let head : o ≡ Some k = cc in
          let tail : kinds_of_all ts ≡ map (λ (x : Kind). Some x) ks = cc in
          let room1 : length stack + m ≤ 2048 = omega (arith, room) in
          let room2 : length (Of k ∷ stack) + needs ms ≤ 2048 = omega (arith, room) in
          then_plain p n at cs (code_of_all ts) (h.part at k stack pending head (each_front (λ c. IsKnown terms.signatures p c.instr) cs (code_of_all ts) known) room1 few)
          (g.part (at + length cs) ks (Of k ∷ stack) pending tail (each_back (λ c. IsKnown terms.signatures p c.instr) cs (code_of_all ts) known) room2 few)

  some-length : (ts : List TypedCode) (ks : List Kind) → kinds_of_all ts ≡ map (λ k. Some k) ks → length ks ≡ length ts
  some-length [] [] e = refl
  some-length [] (k ∷ ks) e = absurd cc
  some-length (t ∷ ts) [] e = absurd cc
  some-length (t ∷ ts) (k ∷ ks) e = let tail : kinds_of_all ts ≡ map (λ (x : Kind). Some x) ks = cc in ap suc (some-length ts ks tail)

  pushes_call : (name : List ℕ) (ts : List TypedCode) (ms : List ℕ) → ArePushing ts ms →
      IsPushing (typed_code (called (builtin_named name) (signature_named terms.signatures name) (kinds_of_all ts)) (code_of_all ts ++ coded line (code.CallFunc (length ts) name) ∷ [])) (needs ms)
  pushes_call name ts ms h = record {
    positive = h.positive;
    part = λ at k stack pending e known room few.
        let call = coded line (code.CallFunc (length ts) name) in
        let args = called_kinds (builtin_named name) (signature_named terms.signatures name) (kinds_of_all ts) k e in
        let ks = args.kinds in
        let long = some-length ts ks args.are in
        let host : IsHost terms.signatures p name = (each_back (λ c. IsKnown terms.signatures p c.instr) (code_of_all ts) (call ∷ []) known).0 in
        let is = ap (λ (l : List (Option Kind)). called (builtin_named name) (signature_named terms.signatures name) l) (sym args.are) ∙ e in
        let fits : length (pushed ks stack) ≤ 2048 = omega (arith, pushed-length ks stack, long, h.many, room) in
        then_plain p n at (code_of_all ts) (call ∷ [])
        (h.part at ks stack pending args.are (each_front (λ c. IsKnown terms.signatures p c.instr) (code_of_all ts) (call ∷ []) known) room few)
        (call_part p n name (length ts) ks k stack pending long (function_call p terms.signatures name ks k host is) fits few);
  }

  -- ---- all expressions

  abbrev the_typed : Expr → TypedCode
  the_typed = typed_expr terms line

  abbrev IsPushed : Expr → Type 0
  IsPushed e = IsPushing (the_typed e) (need e)

  all_pushed : (es : List ((e : Expr) × IsPushed e)) → ArePushing (map the_typed (map (λ e. e.0) es)) (map need (map (λ e. e.0) es))
  all_pushed [] = pushes_none
  all_pushed (e ∷ es) = pushes_more (the_typed e.0).kind (the_typed e.0).code (need e.0) (map the_typed (map (λ x. x.0) es)) (map need (map (λ x. x.0) es)) e.1 (all_pushed es)

  layer_pushed : (x : Expr-F Expr) → IsPushing (code_step terms line (map-Expr Expr TypedCode the_typed x)) (need_step (map-Expr Expr ℕ need x)) → IsPushed (roll-Expr x)
  layer_pushed x h =
      subst (λ t. IsPushing t (need (roll-Expr x))) (sym (fold-roll-Expr TypedCode (code_step terms line) x))
      (subst (λ m. IsPushing (code_step terms line (map-Expr Expr TypedCode the_typed x)) m) (sym (fold-roll-Expr ℕ need_step x)) h)

  pushed_layer : (y : Expr-F ((e : Expr) × IsPushed e)) → IsPushed (roll-Expr (map-Expr ((e : Expr) × IsPushed e) Expr (λ e. e.0) y))
  pushed_layer (Expr-F.Number m) = layer_pushed (Expr-F.Number m) (record {
    positive = omega arith;
    part = λ at k stack pending e known room few. push_one (coded line (code.PushFloat m)) k kind.Number tt room few e refl;
  })
  pushed_layer (Expr-F.Str text) = layer_pushed (Expr-F.Str text) (record {
    positive = omega arith;
    part = λ at k stack pending e known room few. push_one (coded line (code.PushString text)) k kind.Str tt room few e refl;
  })
  pushed_layer (Expr-F.Truth b) = layer_pushed (Expr-F.Truth b) (record {
    positive = omega arith;
    part = λ at k stack pending e known room few. push_one (coded line (code.PushBool b)) k kind.Truth tt room few e refl;
  })
  pushed_layer (Expr-F.Variable name) = layer_pushed (Expr-F.Variable name) (pushes_variable name)
  pushed_layer (Expr-F.Group e) = layer_pushed (Expr-F.Group e.0) e.1
  pushed_layer (Expr-F.Unary op e) = layer_pushed (Expr-F.Unary op e.0) (pushes_unary op (the_typed e.0).kind (the_typed e.0).code (need e.0) e.1)
  pushed_layer (Expr-F.Binary op l r) = layer_pushed (Expr-F.Binary op l.0 r.0)
      (pushes_binary op (the_typed l.0).kind (the_typed r.0).kind (the_typed l.0).code (the_typed r.0).code (need l.0) (need r.0) l.1 r.1)
  pushed_layer (Expr-F.Call name es) = layer_pushed (Expr-F.Call name (map (λ e. e.0) es))
      (pushes_call name (map the_typed (map (λ e. e.0) es)) (map need (map (λ e. e.0) es)) (all_pushed es))

  is_pushed : (e : Expr) → IsPushed e
  is_pushed = ind-Expr IsPushed (λ x y is. subst (λ z. IsPushed (roll-Expr z)) is (pushed_layer y))

  -- an expression of a kind pushes a value of it
  pub expr_part : (e : Expr) (at : ℕ) (k : Kind) (stack : List ShapeEntry) (pending : List ℕ) → kind_of terms.signatures (variables_in terms.entries) (kinds_in terms.entries) e ≡ Some k →
      AreKnown terms.signatures p (expr_code terms line e) → length stack + need e ≤ 2048 → length pending ≤ 64 →
      Part p n at (expr_code terms line e) (Some (shape stack pending)) (Some (shape (Of k ∷ stack) pending)) []
  expr_part e at k stack pending is known room few = (is_pushed e).part at k stack pending (kind_same terms line e ∙ is) known room few
