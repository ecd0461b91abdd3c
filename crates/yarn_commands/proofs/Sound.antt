-- What is read of a content is what it means.
use Rattle.std.proofs.Common.{◌≡◌, ℕ, List, [], ◌∷◌, ◌++◌, Bool, true, false, ◌==◌, nat_eq, Option, Some, None, ◌⊎◌, inl, inr, refl, sym, ap, ◌∙◌, subst}
use Rattle.std.specs.Prelude.{codes}
use Rattle.std.specs.Cmp.Lexicographic.{pointwise}
use Rattle.std.proofs.lemmas.Bool.{and_parts, eqb-true}
use Rattle.yarn_base.specs.Name.{continues_name}
use Rattle.yarn_expr.specs.declared.token.Token.{Token}
use Rattle.yarn_expr.specs.declared.token.Token.TheVariants as token
use Rattle.yarn_expr.specs.declared.token.Sign.TheVariants as sign
use Rattle.yarn_expr.specs.declared.tree.BinaryOp.{BinaryOp}
use Rattle.yarn_expr.specs.declared.tree.BinaryOp.TheVariants.{Mul, Div, Rem, Add, Sub}
use Rattle.yarn_expr.specs.Reading.{◌>>=◌, read_all}
use Rattle.yarn_expr.specs.Tokens.{is_blank, front, past, text_of, Next, next_token, tokens_of}
use Rattle.yarn_expr.specs.Word.{is_spelled}
use Rattle.yarn_expr.proofs.Sound.{read_all-sound}
use Rattle.yarn_expr.proofs.Steps.{bind_some}
use Rattle.yarn_value.specs.declared.value.Value.{Value}
use Rattle.yarn_value.specs.declared.value.Kind.{Kind}
use Rattle.yarn_value.specs.declared.value.Kind.TheVariants as kind
use Rattle.yarn_commands.specs.FirstWord.{first_word_of}
use Rattle.yarn_commands.specs.declared.word.FirstWord.{FirstWord}
use Rattle.yarn_commands.specs.declared.word.FirstWord.TheVariants as word
use Rattle.yarn_commands.specs.declared.command.Command.{Command}
use Rattle.yarn_commands.specs.declared.command.Command.TheVariants as command
use Rattle.yarn_commands.specs.declared.read.Found.{Found}
use Rattle.yarn_commands.specs.declared.read.Part.{Part}
use Rattle.yarn_commands.specs.declared.declaration.Declaration.{Declaration}
use Rattle.yarn_commands.specs.Command.{IsBlank, IsExpression, sign_text, HasSign, HasTo, literal_of, negative_of, kind_text, said, IsDeclared, is_call, IsMeant, IsCommand}
use Rattle.yarn_commands.specs.Reading.{whole, expression, is_empty, is_blank_only, alone, Assigned, arithmetic, with_operator, operator_sign, sign_at, is_to, to_here, sign_or_to, assignment, set_value, set_at, set, kind_of_word, with_kind, as_kind, kind_at, valued, value_at, declaration, declare_here, declare_value, declare_at, declare, before_brace, jump_to, named, jump_name, jump_at, jump, call_of, call, stop, behind, content}
use Rattle.yarn_commands.proofs.Braces.{eq_is, before_brace-some}

pub spelled-is : (w v : List ℕ) → is_spelled w v ≡ true → w ≡ v
spelled-is [] [] e = refl
spelled-is [] (d ∷ v) e = cc
spelled-is (c ∷ w) [] e = cc
spelled-is (c ∷ w) (d ∷ v) e = let both = and_parts (nat_eq c d) (pointwise nat_eq w v) e in ap (λ x. x ∷ w) (eqb-true c d both.0) ∙ ap (λ l. d ∷ l) (spelled-is w v both.1)

pub expression-sound : (cs : List ℕ) (p : Part) → expression cs ≡ Some p → IsExpression cs p.tokens p.expr
unfolding expression
expression-sound cs p e =
    let ts = bind_some (tokens_of cs) _ p e in
    let x = bind_some (read_all ts.0) _ p ts.2 in
    let sound = read_all-sound ts.0 x.0 x.1 in
    let same : ◌≡◌ {A = Part} (record { expr = x.0; tokens = ts.0 }) p = (let s = x.2 in cc) in
    subst (λ (q : Part). IsExpression cs q.tokens q.expr) same (record { tree = sound.tree; has = record { lexed = ts.1; expression = sound.expression }; is = sound.is })

pub empty-is : (cs : List ℕ) → is_empty cs ≡ true → cs ≡ []
empty-is [] e = refl
empty-is (c ∷ cs) e = cc

pub not_empty-is : (cs : List ℕ) → is_empty cs ≡ false → cs ≡ [] → ⊥
not_empty-is [] e same = cc
not_empty-is (c ∷ cs) e same = cc

alone-sound : (c : Command) (cs : List ℕ) (f : Found) → alone c cs ≡ Some f → (f ≡ whole c) × IsBlank cs
alone-sound c cs f e = by_test (is_blank_only cs) refl
  where
    by_test : (b : Bool) → is_blank_only cs ≡ b → (f ≡ whole c) × IsBlank cs
    by_test true is = let h = rw is at e in (cc, empty-is (past is_blank cs) is)
    by_test false is = let h = rw is at e in cc

-- ---- set

abbrev Sets : List ℕ → Assigned → Type 0
Sets start a = (sign : List ℕ) × (sign_text a.op ≡ Some sign) × (start ≡ sign ++ a.rest)

arithmetic-sound : (c : ℕ) (op : BinaryOp) → arithmetic c ≡ Some op → sign_text (Some op) ≡ Some (c ∷ 61 ∷ [])
arithmetic-sound c op e = by_plus (c == 43) refl
  where
    chosen : (d : ℕ) (o : BinaryOp) → c ≡ d → o ≡ op → sign_text (Some o) ≡ Some (d ∷ 61 ∷ []) → sign_text (Some op) ≡ Some (c ∷ 61 ∷ [])
    chosen d o here same text = ap (λ x. sign_text (Some x)) (sym same) ∙ text ∙ ap (λ x. Some (x ∷ 61 ∷ [])) (sym here)

    by_percent : (c == 43) ≡ false → (c == 45) ≡ false → (c == 42) ≡ false → (c == 47) ≡ false → (b : Bool) → (c == 37) ≡ b → sign_text (Some op) ≡ Some (c ∷ 61 ∷ [])
    by_percent p m t s true is = let h = rw (p, m, t, s, is) at e in let same : Rem ≡ op = cc in chosen 37 Rem (eq_is c 37 is) same refl
    by_percent p m t s false is = let h = rw (p, m, t, s, is) at e in cc

    by_slash : (c == 43) ≡ false → (c == 45) ≡ false → (c == 42) ≡ false → (b : Bool) → (c == 47) ≡ b → sign_text (Some op) ≡ Some (c ∷ 61 ∷ [])
    by_slash p m t true is = let h = rw (p, m, t, is) at e in let same : Div ≡ op = cc in chosen 47 Div (eq_is c 47 is) same refl
    by_slash p m t false is = by_percent p m t is (c == 37) refl

    by_star : (c == 43) ≡ false → (c == 45) ≡ false → (b : Bool) → (c == 42) ≡ b → sign_text (Some op) ≡ Some (c ∷ 61 ∷ [])
    by_star p m true is = let h = rw (p, m, is) at e in let same : Mul ≡ op = cc in chosen 42 Mul (eq_is c 42 is) same refl
    by_star p m false is = by_slash p m is (c == 47) refl

    by_minus : (c == 43) ≡ false → (b : Bool) → (c == 45) ≡ b → sign_text (Some op) ≡ Some (c ∷ 61 ∷ [])
    by_minus p true is = let h = rw (p, is) at e in let same : Sub ≡ op = cc in chosen 45 Sub (eq_is c 45 is) same refl
    by_minus p false is = by_star p is (c == 42) refl

    by_plus : (b : Bool) → (c == 43) ≡ b → sign_text (Some op) ≡ Some (c ∷ 61 ∷ [])
    by_plus true is = let h = rw is at e in let same : Add ≡ op = cc in chosen 43 Add (eq_is c 43 is) same refl
    by_plus false is = by_minus is (c == 45) refl

operator_sign-sound : (c : ℕ) (cs : List ℕ) (a : Assigned) → operator_sign c cs ≡ Some a → Sets (c ∷ cs) a
operator_sign-sound c [] a e = cc
operator_sign-sound c (d ∷ cs) a e = by_test (d == 61) refl
  where
    at : d ≡ 61 → (o : Option BinaryOp) → arithmetic c ≡ o → with_operator cs o ≡ Some a → Sets (c ∷ d ∷ cs) a
    at equal None is h = cc
    at equal (Some op) is h =
        let same : ◌≡◌ {A = Assigned} (record { op = Some op; rest = cs }) a = cc in
        subst (λ (b : Assigned). Sets (c ∷ d ∷ cs) b) same (c ∷ 61 ∷ [], arithmetic-sound c op is, ap (λ x. c ∷ x ∷ cs) equal)

    by_test : (b : Bool) → (d == 61) ≡ b → Sets (c ∷ d ∷ cs) a
    by_test true is = at (eq_is d 61 is) (arithmetic c) refl (rw is at e)
    by_test false is = let h = rw is at e in cc

pub sign_at-sound : (cs : List ℕ) (a : Assigned) → sign_at cs ≡ Some a → Sets cs a
sign_at-sound [] a e = cc
sign_at-sound (c ∷ cs) a e = by_test (c == 61) refl
  where
    by_test : (b : Bool) → (c == 61) ≡ b → Sets (c ∷ cs) a
    by_test true is =
        let h = rw is at e in
        let same : ◌≡◌ {A = Assigned} (record { op = None; rest = cs }) a = cc in
        subst (λ (b : Assigned). Sets (c ∷ cs) b) same (61 ∷ [], refl, ap (λ x. x ∷ cs) (eq_is c 61 is))
    by_test false is = operator_sign-sound c cs a (rw is at e)

pub is_to-sound : (t : Token) → is_to t ≡ true → t ≡ token.Word (codes "to")
is_to-sound (token.Word w) e = ap token.Word (spelled-is w (codes "to") e)
is_to-sound (token.Number digits) e = cc
is_to-sound (token.Fraction digits) e = cc
is_to-sound (token.Str text) e = cc
is_to-sound (token.Variable name) e = cc
is_to-sound (token.Sign s) e = cc

to_here-sound : (n : Next) (a : Assigned) → to_here n ≡ Some a → (a.op ≡ None) × (n ≡ record { token = token.Word (codes "to"); rest = a.rest })
to_here-sound n a e = by_test (is_to n.token) refl
  where
    by_test : (b : Bool) → is_to n.token ≡ b → (a.op ≡ None) × (n ≡ record { token = token.Word (codes "to"); rest = a.rest })
    by_test true is =
        let h = rw is at e in
        let same : ◌≡◌ {A = Assigned} (record { op = None; rest = n.rest }) a = cc in (
          sym (ap (λ (b : Assigned). b.op) same),
          ap (λ t. record { token = t; rest = n.rest }) (is_to-sound n.token is) ∙ ap (λ (b : Assigned). record { token = token.Word (codes "to"); rest = b.rest }) same,
        )
    by_test false is = let h = rw is at e in cc

assignment-sound : (cs : List ℕ) (a : Assigned) → assignment cs ≡ Some a → HasTo a.op cs a.rest ⊎ HasSign a.op cs a.rest
unfolding assignment
assignment-sound cs a e = at (sign_at (past is_blank cs)) refl e
  where
    at : (o : Option Assigned) → sign_at (past is_blank cs) ≡ o → sign_or_to (past is_blank cs) o ≡ Some a → HasTo a.op cs a.rest ⊎ HasSign a.op cs a.rest
    at (Some b) is h =
        let same : b ≡ a = cc in
        let s = sign_at-sound (past is_blank cs) a (is ∙ ap Some same) in
        inr (record { sign = s.0; spelled = s.1; stands = s.2 })
    at None is h =
        let n = bind_some (next_token (past is_blank cs)) to_here a h in
        let t = to_here-sound n.0 a n.2 in
        inl (t.0, n.1 ∙ ap Some t.1)

-- a variable stands next
abbrev Names : (List ℕ → List ℕ → Option Found) → Token → List ℕ → Found → Type 0
Names behind t rest f = (name : List ℕ) × (t ≡ token.Variable name) × (behind name rest ≡ Some f)

set_at-sound : (t : Token) (rest : List ℕ) (f : Found) → set_at t rest ≡ Some f → Names set_value t rest f
set_at-sound (token.Variable name) rest f e = (name, refl, e)
set_at-sound (token.Word w) rest f e = cc
set_at-sound (token.Number digits) rest f e = cc
set_at-sound (token.Fraction digits) rest f e = cc
set_at-sound (token.Str text) rest f e = cc
set_at-sound (token.Sign s) rest f e = cc

abbrev MeantBy : FirstWord → List ℕ → Found → Type 0
MeantBy w cs f = IsMeant w cs f.tokens f.command

set-sound : (cs : List ℕ) (f : Found) → set cs ≡ Some f → MeantBy word.Set cs f
unfolding set set_value
set-sound cs f e =
    let n = bind_some (next_token (past is_blank cs)) (λ n. set_at n.token n.rest) f e in
    let v = set_at-sound n.0.token n.0.rest f n.2 in
    let a = bind_some (assignment n.0.rest) _ f v.2 in
    let p = bind_some (expression a.0.rest) _ f a.2 in
    let same : ◌≡◌ {A = Found} (record { command = command.Set v.0 a.0.op p.0.expr; tokens = p.0.tokens }) f = (let s = p.2 in cc) in
    subst (MeantBy word.Set cs) same (
    record {
      piece = a.0.rest;
      assigned = record { behind = n.0.rest; variable = n.1 ∙ ap (λ t. Some (record { token = t; rest = n.0.rest })) v.1; assigns = assignment-sound n.0.rest a.0 a.1 };
      expression = expression-sound a.0.rest p.0 p.1;
    }
    )

-- ---- declare

kind_of_word-sound : (w : List ℕ) (k : Kind) → kind_of_word w ≡ Some k → w ≡ kind_text k
kind_of_word-sound w k e = by_number (is_spelled w (codes "number")) refl
  where
    by_bool : is_spelled w (codes "number") ≡ false → is_spelled w (codes "string") ≡ false → (b : Bool) → is_spelled w (codes "bool") ≡ b → w ≡ kind_text k
    by_bool n s true is = let h = rw (n, s, is) at e in let same : kind.Truth ≡ k = cc in spelled-is w (codes "bool") is ∙ ap kind_text same
    by_bool n s false is = let h = rw (n, s, is) at e in cc

    by_string : is_spelled w (codes "number") ≡ false → (b : Bool) → is_spelled w (codes "string") ≡ b → w ≡ kind_text k
    by_string n true is = let h = rw (n, is) at e in let same : kind.Str ≡ k = cc in spelled-is w (codes "string") is ∙ ap kind_text same
    by_string n false is = by_bool n is (is_spelled w (codes "bool")) refl

    by_number : (b : Bool) → is_spelled w (codes "number") ≡ b → w ≡ kind_text k
    by_number true is = let h = rw is at e in let same : kind.Number ≡ k = cc in spelled-is w (codes "number") is ∙ ap kind_text same
    by_number false is = by_string is (is_spelled w (codes "string")) refl

abbrev Kinds : Value → List Token → Declaration → Type 0
Kinds v ts d = (d.value ≡ v) × (ts ≡ said d.kind)

as_kind-sound : (v : Value) (w k : List ℕ) (d : Declaration) → as_kind v w k ≡ Some d → Kinds v (token.Word w ∷ token.Word k ∷ []) d
as_kind-sound v w k d e = by_test (is_spelled w (codes "as")) refl
  where
    at : w ≡ codes "as" → (o : Option Kind) → kind_of_word k ≡ o → with_kind v o ≡ Some d → Kinds v (token.Word w ∷ token.Word k ∷ []) d
    at here None is h = cc
    at here (Some x) is h =
        let same : ◌≡◌ {A = Declaration} (record { value = v; kind = Some x }) d = cc in
        subst (Kinds v (token.Word w ∷ token.Word k ∷ [])) same (refl, ap (λ l. token.Word l ∷ token.Word k ∷ []) here ∙ ap (λ l. token.Word (codes "as") ∷ token.Word l ∷ []) (kind_of_word-sound k x is))

    by_test : (b : Bool) → is_spelled w (codes "as") ≡ b → Kinds v (token.Word w ∷ token.Word k ∷ []) d
    by_test true is = at (spelled-is w (codes "as") is) (kind_of_word k) refl (rw is at e)
    by_test false is = let h = rw is at e in cc

kind_at-sound : (v : Value) (ts : List Token) (d : Declaration) → kind_at v ts ≡ Some d → Kinds v ts d
kind_at-sound v [] d e = let same : ◌≡◌ {A = Declaration} (record { value = v; kind = None }) d = cc in subst (Kinds v []) same (refl, refl)
kind_at-sound v (token.Word w ∷ token.Word k ∷ []) d e = as_kind-sound v w k d e
kind_at-sound v _ d e = cc

valued-sound : (o : Option Value) (ts : List Token) (d : Declaration) → valued o ts ≡ Some d → (o ≡ Some d.value) × (ts ≡ said d.kind)
valued-sound None ts d e = cc
valued-sound (Some v) ts d e = let k = kind_at-sound v ts d e in (ap Some (sym k.0), k.1)

plain-sound : (t : Token) (ts : List Token) (d : Declaration) → valued (literal_of t) ts ≡ Some d → IsDeclared (t ∷ ts) d.value d.kind
plain-sound t ts d e = let v = valued-sound (literal_of t) ts d e in record { own = t ∷ []; is = v.0; split = ap (λ l. t ∷ l) v.1 }

value_at-sound : (t : Token) (ts : List Token) (d : Declaration) → value_at t ts ≡ Some d → IsDeclared (t ∷ ts) d.value d.kind
value_at-sound (token.Sign sign.Minus) (t ∷ ts) d e =
    let v = valued-sound (negative_of t) ts d e in
    record { own = token.Sign sign.Minus ∷ t ∷ []; is = (refl, v.0); split = ap (λ l. token.Sign sign.Minus ∷ t ∷ l) v.1 }
value_at-sound (token.Number digits) ts d e = plain-sound (token.Number digits) ts d e
value_at-sound (token.Fraction digits) ts d e = plain-sound (token.Fraction digits) ts d e
value_at-sound (token.Str text) ts d e = plain-sound (token.Str text) ts d e
value_at-sound (token.Variable name) ts d e = plain-sound (token.Variable name) ts d e
value_at-sound (token.Word w) ts d e = plain-sound (token.Word w) ts d e
value_at-sound (token.Sign _) _ d e = cc

declaration-sound : (ts : List Token) (d : Declaration) → declaration ts ≡ Some d → IsDeclared ts d.value d.kind
declaration-sound [] d e = cc
declaration-sound (t ∷ ts) d e = value_at-sound t ts d e

abbrev declare_named : List ℕ → List ℕ → Option Found
declare_named name rest = assignment rest >>= λ a. declare_value name a.op a.rest

declare_at-sound : (t : Token) (rest : List ℕ) (f : Found) → declare_at t rest ≡ Some f → Names declare_named t rest f
declare_at-sound (token.Variable name) rest f e = (name, refl, e)
declare_at-sound (token.Word w) rest f e = cc
declare_at-sound (token.Number digits) rest f e = cc
declare_at-sound (token.Fraction digits) rest f e = cc
declare_at-sound (token.Str text) rest f e = cc
declare_at-sound (token.Sign s) rest f e = cc

declare_value-sound : (name : List ℕ) (op : Option BinaryOp) (cs : List ℕ) (f : Found) → declare_value name op cs ≡ Some f →
    (ts : List Token) × (d : Declaration) × (op ≡ None) × (tokens_of cs ≡ Some ts) × IsDeclared ts d.value d.kind × (f ≡ record { command = command.Declare name d.value d.kind; tokens = ts })
declare_value-sound name (Some op) cs f e = cc
declare_value-sound name None cs f e =
    let ts = bind_some (tokens_of cs) (declare_here name) f e in
    let d = bind_some (declaration ts.0) _ f ts.2 in
    (ts.0, d.0, refl, ts.1, declaration-sound ts.0 d.0 d.1, (let s = d.2 in cc))

declare-sound : (cs : List ℕ) (f : Found) → declare cs ≡ Some f → MeantBy word.Declare cs f
unfolding declare
declare-sound cs f e =
    let n = bind_some (next_token (past is_blank cs)) (λ n. declare_at n.token n.rest) f e in
    let v = declare_at-sound n.0.token n.0.rest f n.2 in
    let a = bind_some (assignment n.0.rest) _ f v.2 in
    let d = declare_value-sound v.0 a.0.op a.0.rest f a.2 in
    let none = d.2 in
    let assigns = subst (λ op. HasTo op n.0.rest a.0.rest ⊎ HasSign op n.0.rest a.0.rest) none (assignment-sound n.0.rest a.0 a.1) in
    subst (MeantBy word.Declare cs) (sym d.5) (
    record {
      piece = a.0.rest;
      assigned = record { behind = n.0.rest; variable = n.1 ∙ ap (λ t. Some (record { token = t; rest = n.0.rest })) v.1; assigns = assigns };
      lexed = d.3;
      declared = d.4;
    }
    )

-- ---- jump and call

named-sound : (ts : List Token) (f : Found) → named ts ≡ Some f → (name : List ℕ) × (ts ≡ token.Word name ∷ []) × (f ≡ whole (command.Jump name))
named-sound (token.Word name ∷ []) f e = (name, refl, cc)
named-sound _ f e = cc

jump_name-sound : (cs : List ℕ) (f : Found) → jump_name cs ≡ Some f → MeantBy word.Jump cs f
jump_name-sound cs f e =
    let ts = bind_some (tokens_of cs) named f e in
    let n = named-sound ts.0 f ts.2 in
    subst (MeantBy word.Jump cs) (sym n.2) (ts.1 ∙ ap Some n.1, refl)

jump_to-sound : (cs rest : List ℕ) (f : Found) → past is_blank cs ≡ 123 ∷ rest → jump_to rest ≡ Some f → MeantBy word.Jump cs f
jump_to-sound cs rest f begins e =
    let i = bind_some (before_brace rest) _ f e in
    let p = bind_some (expression i.0) _ f i.2 in
    let same : ◌≡◌ {A = Found} (record { command = command.JumpTo p.0.expr; tokens = p.0.tokens }) f = (let s = p.2 in cc) in
    subst (MeantBy word.Jump cs) same (record { piece = i.0; braces = begins ∙ ap (λ l. 123 ∷ l) (before_brace-some rest i.0 i.1); expression = expression-sound i.0 p.0 p.1 })

jump-sound : (cs : List ℕ) (f : Found) → jump cs ≡ Some f → MeantBy word.Jump cs f
unfolding jump
jump-sound cs f e = at (past is_blank cs) refl e
  where
    at : (start : List ℕ) → past is_blank cs ≡ start → jump_at cs start ≡ Some f → MeantBy word.Jump cs f
    at [] is h = jump_name-sound cs f h
    at (c ∷ rest) is h = by_test (c == 123) refl
      where
        by_test : (b : Bool) → (c == 123) ≡ b → MeantBy word.Jump cs f
        by_test true brace = jump_to-sound cs rest f (is ∙ ap (λ x. x ∷ rest) (eq_is c 123 brace)) (rw brace at h)
        by_test false other = jump_name-sound cs f (rw other at h)

call-sound : (cs : List ℕ) (f : Found) → call cs ≡ Some f → MeantBy word.Call cs f
unfolding call
call-sound cs f e = let p = bind_some (expression cs) call_of f e in by_test p.0 p.1 p.2 (is_call p.0.expr) refl
  where
    by_test : (p : Part) → expression cs ≡ Some p → call_of p ≡ Some f → (b : Bool) → is_call p.expr ≡ b → MeantBy word.Call cs f
    by_test p read h true is =
        let k = rw is at h in
        let same : ◌≡◌ {A = Found} (record { command = command.Call p.expr; tokens = p.tokens }) f = cc in
        subst (MeantBy word.Call cs) same (is, expression-sound cs p read)
    by_test p read h false is = let k = rw is at h in cc

-- ---- all commands

stop-sound : (cs : List ℕ) (f : Found) → Some (stop (is_blank_only cs)) ≡ Some f → MeantBy word.Stop cs f
stop-sound cs f e = by_test (is_blank_only cs) refl
  where
    by_test : (b : Bool) → is_blank_only cs ≡ b → MeantBy word.Stop cs f
    by_test true is = let h = rw is at e in let same : whole command.Stop ≡ f = cc in subst (MeantBy word.Stop cs) same (empty-is (past is_blank cs) is, refl)
    by_test false is = let h = rw is at e in let same : whole command.Game ≡ f = cc in subst (MeantBy word.Stop cs) same (not_empty-is (past is_blank cs) is, refl)

behind-sound : (w : FirstWord) (cs : List ℕ) (f : Found) → behind w cs ≡ Some f → MeantBy w cs f
unfolding behind
behind-sound word.If cs f e =
    let p = bind_some (expression cs) _ f e in
    let same : ◌≡◌ {A = Found} (record { command = command.If p.0.expr; tokens = p.0.tokens }) f = (let s = p.2 in cc) in
    subst (MeantBy word.If cs) same (expression-sound cs p.0 p.1)
behind-sound word.ElseIf cs f e =
    let p = bind_some (expression cs) _ f e in
    let same : ◌≡◌ {A = Found} (record { command = command.ElseIf p.0.expr; tokens = p.0.tokens }) f = (let s = p.2 in cc) in
    subst (MeantBy word.ElseIf cs) same (expression-sound cs p.0 p.1)
behind-sound word.Else cs f e = let a = alone-sound command.Else cs f e in subst (MeantBy word.Else cs) (sym a.0) (a.1, refl)
behind-sound word.EndIf cs f e = let a = alone-sound command.EndIf cs f e in subst (MeantBy word.EndIf cs) (sym a.0) (a.1, refl)
behind-sound word.Set cs f e = set-sound cs f e
behind-sound word.Declare cs f e = declare-sound cs f e
behind-sound word.Jump cs f e = jump-sound cs f e
behind-sound word.Stop cs f e = stop-sound cs f e
behind-sound word.Call cs f e = call-sound cs f e
behind-sound word.LeftOut cs f e = cc
behind-sound word.Other cs f e = let same : whole command.Game ≡ f = cc in subst (MeantBy word.Other cs) same refl

pub content-sound : (cs : List ℕ) (f : Found) → content cs ≡ Some f → IsCommand cs f.tokens f.command
unfolding content
content-sound [] f e = cc
content-sound (c ∷ cs) f e = behind-sound (first_word_of (text_of (front continues_name (c ∷ cs)))) (past continues_name (c ∷ cs)) f e
