-- The first look at one instruction is exact.
use Rattle.std.proofs.Common.{◌≡◌, ℕ, List, length, Option, Some, None, Bool, true, false, refl, sym, ap, ◌∙◌, subst, arith, Decides}
use Rattle.std.proofs.lemmas.Bool.{ltb-true, lt-ltb, false_from_ne_true}
use Rattle.yarn_value.specs.declared.value.Kind.{Kind}
use Rattle.yarn_value.specs.Signatures.{arity_of}
use Rattle.yarn_code.specs.declared.program.Instr.TheVariants as code
use Rattle.yarn_code.specs.declared.program.Instr.{Instr}
use Rattle.yarn_code.specs.declared.program.CodeNode.{CodeNode}
use Rattle.yarn_code.specs.declared.program.Program.{Program}
use Rattle.yarn_check.specs.Shapes.{kind_under, holes_under, IsVariable, PassesFirstLook}
use Rattle.yarn_check.specs.Faults.{CheckFault, BadLabel, BackwardJump, UnknownVariable, UnknownFunction, UnknownLine, NoShape, TooManyDeep, Count, counted, label_of, variable_of, call_of, line_of, LabelIsIn, LabelIsLater, VariableIsKnown, FunctionIsKnown, LineIsKnown, IsUnknown, IsLookFault}
use Rattle.yarn_check.specs.Pass.{unless, label_is_in, label_is_later, is_known, unknown_variable, is_count, unknown_count, look}
use Rattle.yarn_check.specs.PassLaws.{IsLookOf, LookIsExact}

unless_true : (b : Bool) (f : CheckFault) (rest : Option CheckFault) → b ≡ true → unless b f rest ≡ rest
unless_true true f rest e = refl
unless_true false f rest e = absurd cc

unless_false : (b : Bool) (f : CheckFault) (rest : Option CheckFault) → b ≡ false → unless b f rest ≡ Some f
unless_false true f rest e = absurd cc
unless_false false f rest e = refl

in_decides : (n : CodeNode) (o : Option ℕ) → Decides (label_is_in n o) (LabelIsIn n o)
in_decides n None = (λ e. tt, λ h. refl)
in_decides n (Some label) = (ltb-true label (length n.code), lt-ltb label (length n.code))

later_decides : (place : ℕ) (o : Option ℕ) → Decides (label_is_later place o) (LabelIsLater place o)
later_decides place None = (λ e. tt, λ h. refl)
later_decides place (Some label) = (ltb-true place label, lt-ltb place label)

known_decides : (p : Program) (name : List ℕ) → Decides (is_known (kind_under p name)) (IsVariable p name)
known_decides p name = (by_kind (kind_under p name) refl, λ h. ap is_known h.known)
  where
    by_kind : (o : Option Kind) → kind_under p name ≡ o → is_known o ≡ true → IsVariable p name
    by_kind None is e = absurd cc
    by_kind (Some k) is e = record { kind = k; known = is }

count_decides : (count : ℕ) (o : Option ℕ) → Decides (is_count count o) (o ≡ Some count)
count_decides count None = (λ e. absurd cc, λ e. absurd cc)
count_decides count (Some n) = (λ e. let same : n ≡ count = grind arith in ap (λ m. Some m) same, λ e. let same : n ≡ count = cc in grind arith)

not_false : (b : Bool) (D : Type 0) → Decides b D → (D → ⊥) → b ≡ false
not_false b D d never = false_from_ne_true b (λ e. never (d.0 e))

false_not : (b : Bool) (D : Type 0) → Decides b D → b ≡ false → D → ⊥
false_not b D d e h = let t = d.1 h in absurd (cc (t, e))

-- ---- a name that is known, or isn't

variable_known : (p : Program) (o : Option (List ℕ)) (rest : Option CheckFault) → VariableIsKnown p o → unknown_variable p o rest ≡ rest
variable_known p None rest h = refl
variable_known p (Some name) rest h = unless_true (is_known (kind_under p name)) (UnknownVariable name) rest ((known_decides p name).1 h)

variable_not : (p : Program) (o : Option (List ℕ)) (rest : Option CheckFault) (name : List ℕ) → o ≡ Some name → (VariableIsKnown p o → ⊥) → unknown_variable p o rest ≡ Some (UnknownVariable name)
variable_not p None rest name e never = absurd cc
variable_not p (Some other) rest name e never =
    let same : other ≡ name = cc in
    unless_false (is_known (kind_under p other)) (UnknownVariable other) rest (not_false (is_known (kind_under p other)) (IsVariable p other) (known_decides p other) never) ∙ ap (λ x. Some (UnknownVariable x)) same

module _ (under : List ℕ → Option ℕ) (fault : List ℕ → CheckFault) where
  -- the name has that count
  abbrev Known : Option Count → Type 0
  Known None = Unit {0}
  Known (Some c) = under c.name ≡ Some c.count

  count_known : (o : Option Count) (rest : Option CheckFault) → Known o → unknown_count under fault o rest ≡ rest
  count_known None rest h = refl
  count_known (Some c) rest h = unless_true (is_count c.count (under c.name)) (fault c.name) rest ((count_decides c.count (under c.name)).1 h)

  count_not : (o : Option Count) (rest : Option CheckFault) (name : List ℕ) (count : ℕ) → o ≡ Some (counted count name) → (Known o → ⊥) → unknown_count under fault o rest ≡ Some (fault name)
  count_not None rest name count e never = absurd cc
  count_not (Some c) rest name count e never =
      let whole : c ≡ counted count name = cc in
      let same : c.name ≡ name = ap (λ (x : Count). x.name) whole in
      unless_false (is_count c.count (under c.name)) (fault c.name) rest (not_false (is_count c.count (under c.name)) (under c.name ≡ Some c.count) (count_decides c.count (under c.name)) never) ∙ ap (λ x. Some (fault x)) same

  -- where what follows is so, so is the whole
  by_count : (P : Option CheckFault → Type 0) (o : Option Count) (rest : Option CheckFault) → (Known o → P rest) → ((c : Count) → o ≡ Some c → (Known o → ⊥) → P (Some (fault c.name))) → P (unknown_count under fault o rest)
  by_count P None rest more wrong = more tt
  by_count P (Some c) rest more wrong = by_test (is_count c.count (under c.name)) refl
    where
      by_test : (b : Bool) → is_count c.count (under c.name) ≡ b → P (unless b (fault c.name) rest)
      by_test true e = more ((count_decides c.count (under c.name)).0 e)
      by_test false e = wrong c refl (false_not (is_count c.count (under c.name)) (under c.name ≡ Some c.count) (count_decides c.count (under c.name)) e)

by_variable : (p : Program) (P : Option CheckFault → Type 0) (o : Option (List ℕ)) (rest : Option CheckFault) → (VariableIsKnown p o → P rest) → ((name : List ℕ) → o ≡ Some name → (VariableIsKnown p o → ⊥) → P (Some (UnknownVariable name))) → P (unknown_variable p o rest)
by_variable p P None rest more wrong = more tt
by_variable p P (Some name) rest more wrong = by_test (is_known (kind_under p name)) refl
  where
    by_test : (b : Bool) → is_known (kind_under p name) ≡ b → P (unless b (UnknownVariable name) rest)
    by_test true e = more ((known_decides p name).0 e)
    by_test false e = wrong name refl (false_not (is_known (kind_under p name)) (IsVariable p name) (known_decides p name) e)

by_bool : (P : Option CheckFault → Type 0) (b : Bool) (D : Type 0) (f : CheckFault) (rest : Option CheckFault) → Decides b D → (D → P rest) → ((D → ⊥) → P (Some f)) → P (unless b f rest)
by_bool P true D f rest d more wrong = more (d.0 refl)
by_bool P false D f rest d more wrong = wrong (false_not false D d refl)

-- ---- one instruction

-- all that the first look asks
pub record AllFine (p : Program) (n : CodeNode) (place : ℕ) (i : Instr) : Type 0 where
  pub inside : LabelIsIn n (label_of i)
  pub later : LabelIsLater place (label_of i)
  pub variable : VariableIsKnown p (variable_of i)
  pub function : FunctionIsKnown p (call_of i)
  pub line : LineIsKnown p (line_of i)

module _ (p : Program) where
  known_function : (o : Option Count) → Known (arity_of p.functions) UnknownFunction o → FunctionIsKnown p o
  known_function None h = tt
  known_function (Some c) h = h

  function_known : (o : Option Count) → FunctionIsKnown p o → Known (arity_of p.functions) UnknownFunction o
  function_known None h = tt
  function_known (Some c) h = h

  known_line : (o : Option Count) → Known (holes_under p.lines) UnknownLine o → LineIsKnown p o
  known_line None h = tt
  known_line (Some c) h = h

  line_known : (o : Option Count) → LineIsKnown p o → Known (holes_under p.lines) UnknownLine o
  line_known None h = tt
  line_known (Some c) h = h

module _ (p : Program) (n : CodeNode) (node place : ℕ) where
  module _ (i : Instr) where
    -- what an answer of the first look says
    abbrev Says : Option CheckFault → Type 0
    Says None = AllFine p n place i
    Says (Some f) = IsLookFault p n node place i f

    unknown_of : (P : Option Count → Type 0) (o : Option Count) (c : Count) → o ≡ Some c → (P o → ⊥) → IsUnknown P o c.name
    unknown_of P o c e never = record { count = c.count; names = e; unknown = never }

    says : Says (look p n node place i)
    says =
        by_bool Says (label_is_in n (label_of i)) (LabelIsIn n (label_of i)) (BadLabel node place) _ (in_decides n (label_of i))
        (λ inside. by_bool Says (label_is_later place (label_of i)) (LabelIsLater place (label_of i)) (BackwardJump node place) _ (later_decides place (label_of i))
        (λ later. by_variable p Says (variable_of i) _
        (λ variable. by_count (arity_of p.functions) UnknownFunction Says (call_of i) _
        (λ call. by_count (holes_under p.lines) UnknownLine Says (line_of i) None
        (λ line. record { inside = inside; later = later; variable = variable; function = known_function p (call_of i) call; line = known_line p (line_of i) line })
        (λ c e never. (inside, later, variable, known_function p (call_of i) call, unknown_of (LineIsKnown p) (line_of i) c e (λ h. never (line_known p (line_of i) h)))))
        (λ c e never. (inside, later, variable, unknown_of (FunctionIsKnown p) (call_of i) c e (λ h. never (function_known p (call_of i) h)))))
        (λ name e never. (inside, later, e, never)))
        (λ never. (refl, refl, inside, never)))
        (λ never. (refl, refl, never))

    look_known : (f : CheckFault) → IsLookFault p n node place i f → look p n node place i ≡ Some f
    look_known (BadLabel a b) h = unless_false (label_is_in n (label_of i)) (BadLabel node place) _ (not_false (label_is_in n (label_of i)) (LabelIsIn n (label_of i)) (in_decides n (label_of i)) h.2) ∙ ap (λ x. Some (BadLabel x place)) (sym h.0) ∙ ap (λ x. Some (BadLabel a x)) (sym h.1)
    look_known (BackwardJump a b) h =
        unless_true (label_is_in n (label_of i)) (BadLabel node place) _ ((in_decides n (label_of i)).1 h.2)
        ∙ unless_false (label_is_later place (label_of i)) (BackwardJump node place) _ (not_false (label_is_later place (label_of i)) (LabelIsLater place (label_of i)) (later_decides place (label_of i)) h.3)
        ∙ ap (λ x. Some (BackwardJump x place)) (sym h.0) ∙ ap (λ x. Some (BackwardJump a x)) (sym h.1)
    look_known (UnknownVariable name) h =
        unless_true (label_is_in n (label_of i)) (BadLabel node place) _ ((in_decides n (label_of i)).1 h.0)
        ∙ unless_true (label_is_later place (label_of i)) (BackwardJump node place) _ ((later_decides place (label_of i)).1 h.1)
        ∙ variable_not p (variable_of i) _ name h.2 h.3
    look_known (UnknownFunction name) h =
        unless_true (label_is_in n (label_of i)) (BadLabel node place) _ ((in_decides n (label_of i)).1 h.0)
        ∙ unless_true (label_is_later place (label_of i)) (BackwardJump node place) _ ((later_decides place (label_of i)).1 h.1)
        ∙ variable_known p (variable_of i) _ h.2
        ∙ count_not (arity_of p.functions) UnknownFunction (call_of i) _ name h.3.count h.3.names (λ k. h.3.unknown (known_function p (call_of i) k))
    look_known (UnknownLine name) h =
        unless_true (label_is_in n (label_of i)) (BadLabel node place) _ ((in_decides n (label_of i)).1 h.0)
        ∙ unless_true (label_is_later place (label_of i)) (BackwardJump node place) _ ((later_decides place (label_of i)).1 h.1)
        ∙ variable_known p (variable_of i) _ h.2
        ∙ count_known (arity_of p.functions) UnknownFunction (call_of i) _ (function_known p (call_of i) h.3)
        ∙ count_not (holes_under p.lines) UnknownLine (line_of i) None name h.4.count h.4.names (λ k. h.4.unknown (known_line p (line_of i) k))
    look_known (NoShape a b) h = absurd h
    look_known (TooManyDeep a b) h = absurd h

    look_none : AllFine p n place i → look p n node place i ≡ None
    look_none h =
        unless_true (label_is_in n (label_of i)) (BadLabel node place) _ ((in_decides n (label_of i)).1 h.inside)
        ∙ unless_true (label_is_later place (label_of i)) (BackwardJump node place) _ ((later_decides place (label_of i)).1 h.later)
        ∙ variable_known p (variable_of i) _ h.variable
        ∙ count_known (arity_of p.functions) UnknownFunction (call_of i) _ (function_known p (call_of i) h.function)
        ∙ count_known (holes_under p.lines) UnknownLine (line_of i) None (line_known p (line_of i) h.line)

  -- the same in the words of the first look of Shapes
  fine_from : (i : Instr) → AllFine p n place i → PassesFirstLook p n place i
  fine_from (code.JumpTo label) h = record { later = h.later; within = h.inside }
  fine_from code.Jump h = tt
  fine_from (code.RunLine count id) h = h.line
  fine_from (code.RunCommand count text) h = tt
  fine_from (code.AddOption count id label conditional) h = (record { later = h.later; within = h.inside }, h.line)
  fine_from code.ShowOptions h = tt
  fine_from (code.PushString text) h = tt
  fine_from (code.PushFloat number) h = tt
  fine_from (code.PushBool b) h = tt
  fine_from code.PushNull h = tt
  fine_from (code.JumpIfFalse label) h = record { later = h.later; within = h.inside }
  fine_from code.Pop h = tt
  fine_from (code.CallFunc count name) h = h.function
  fine_from (code.PushVariable name) h = h.variable
  fine_from (code.StoreVariable name) h = h.variable
  fine_from code.Stop h = tt
  fine_from code.RunNode h = tt

  fine_to : (i : Instr) → PassesFirstLook p n place i → AllFine p n place i
  fine_to (code.JumpTo label) h = record { inside = h.within; later = h.later; variable = tt; function = tt; line = tt }
  fine_to code.Jump h = record { inside = tt; later = tt; variable = tt; function = tt; line = tt }
  fine_to (code.RunLine count id) h = record { inside = tt; later = tt; variable = tt; function = tt; line = h }
  fine_to (code.RunCommand count text) h = record { inside = tt; later = tt; variable = tt; function = tt; line = tt }
  fine_to (code.AddOption count id label conditional) h = record { inside = h.0.within; later = h.0.later; variable = tt; function = tt; line = h.1 }
  fine_to code.ShowOptions h = record { inside = tt; later = tt; variable = tt; function = tt; line = tt }
  fine_to (code.PushString text) h = record { inside = tt; later = tt; variable = tt; function = tt; line = tt }
  fine_to (code.PushFloat number) h = record { inside = tt; later = tt; variable = tt; function = tt; line = tt }
  fine_to (code.PushBool b) h = record { inside = tt; later = tt; variable = tt; function = tt; line = tt }
  fine_to code.PushNull h = record { inside = tt; later = tt; variable = tt; function = tt; line = tt }
  fine_to (code.JumpIfFalse label) h = record { inside = h.within; later = h.later; variable = tt; function = tt; line = tt }
  fine_to code.Pop h = record { inside = tt; later = tt; variable = tt; function = tt; line = tt }
  fine_to (code.CallFunc count name) h = record { inside = tt; later = tt; variable = tt; function = h; line = tt }
  fine_to (code.PushVariable name) h = record { inside = tt; later = tt; variable = h; function = tt; line = tt }
  fine_to (code.StoreVariable name) h = record { inside = tt; later = tt; variable = h; function = tt; line = tt }
  fine_to code.Stop h = record { inside = tt; later = tt; variable = tt; function = tt; line = tt }
  fine_to code.RunNode h = record { inside = tt; later = tt; variable = tt; function = tt; line = tt }

  pub exact_look : (i : Instr) → IsLookOf p n node place i
  exact_look i = record {
    fine = λ e. fine_from i (subst (Says i) e (says i));
    none = λ h. look_none i (fine_to i h);
    fault = λ f e. subst (Says i) e (says i);
    first = λ f h. look_known i f h;
  }

pub look_is_exact : LookIsExact
look_is_exact p n node place i = exact_look p n node place i
