-- The host functions of a project's code are signatures of the project, and none comes again.
use Rattle.std.proofs.Common.{◌≡◌, ℕ, ◌+◌, ◌<◌, ◌≤◌, zero, suc, List, [], ◌∷◌, ◌++◌, length, nat_eq, if◌then◌else◌, Option, Some, None, is_some, refl, sym, ap, ◌∙◌, subst, arith, Bool, true, false, All}
use Rattle.std.specs.Prelude.{slice_get}
use Rattle.std.specs.Cmp.Lexicographic.{pointwise}
use Rattle.std.specs.Str.{bytes_eq}
use Rattle.std.proofs.lemmas.Bool.{false≢true}
use Rattle.std.proofs.lemmas.List.Elements.{All-nil, All-cons, All-head, All-tail}
use Rattle.std.proofs.lemmas.Slice.Eq.{bytes_eq-Decides}
use Rattle.yarn_value.specs.declared.signature.Signature.{Signature}
use Rattle.yarn_value.specs.Builtins.{Row, row_named, builtin_rows, builtin_named}
use Rattle.yarn_value.specs.Signatures.{signature_named, one_if, row_arity, declared_arity, builtin_or, arity_of}
use Rattle.yarn_code.specs.declared.program.Instr.TheVariants as code
use Rattle.yarn_code.specs.declared.program.Instr.{Instr}
use Rattle.yarn_code.specs.declared.program.Coded.{Coded}
use Rattle.yarn_code.specs.declared.program.CodeNode.{CodeNode}
use Rattle.yarn_code.specs.declared.program.Program.{Program}
use Rattle.yarn_code.specs.Fields.{IsFunctionField, IsNew, AreUnique, function_names}
use Rattle.yarn_check.specs.Shapes.{PassesFirstLook, IsValidNode}
use Rattle.yarn_compile.specs.Code.{Terms, with_signature, with_called, with_function, functions_after, functions_in}
use Rattle.yarn_compile.proofs.Parts.{Each, each_append}

-- a property of signatures that the first of a name has
signature_has : (P : Signature → Type 0) (signatures : List Signature) (name : List ℕ) (s : Signature) → Each P signatures →
    signature_named signatures name ≡ Some s → P s
signature_has P [] name s h e = absurd cc
signature_has P (one ∷ more) name s h e = by_name (pointwise nat_eq one.name name) e (signature_has P more name s h.1)
  where
    by_name : (b : Bool) → (if b then Some one else signature_named more name) ≡ Some s → (signature_named more name ≡ Some s → P s) → P s
    by_name true f g = let same : one ≡ s = cc in subst P same h.0
    by_name false f g = g f

-- functions that are fields, none of whose names comes again
pub record AreFields (known : List Signature) : Type 0 where
  pub each : Each IsFunctionField known
  pub differ : AreUnique (function_names known)

not_named : (known : List Signature) (name : List ℕ) → signature_named known name ≡ None → Each (λ (s : Signature). s.name ≡ name → ⊥) known
not_named [] name e = tt
not_named (one ∷ known) name e = by_name (pointwise nat_eq one.name name) refl e (not_named known name)
  where
    by_name : (b : Bool) → pointwise nat_eq one.name name ≡ b → (if b then Some one else signature_named known name) ≡ None →
        (signature_named known name ≡ None → Each (λ (s : Signature). s.name ≡ name → ⊥) known) → Each (λ (s : Signature). s.name ≡ name → ⊥) (one ∷ known)
    by_name true is f g = absurd cc
    by_name false is f g = (λ same. false≢true (sym is ∙ (bytes_eq-Decides one.name name).1 same), g f)

new_behind : (name : List ℕ) (known : List Signature) (one : Signature) → IsNew name (function_names known) → (name ≡ one.name → ⊥) →
    IsNew name (function_names (known ++ one ∷ []))
new_behind name [] one h g = All-cons (λ other. name ≡ other → ⊥) one.name [] g (All-nil (λ other. name ≡ other → ⊥))
new_behind name (s ∷ known) one h g = All-cons (λ other. name ≡ other → ⊥) s.name (function_names (known ++ one ∷ [])) (All-head (λ other. name ≡ other → ⊥) s.name (function_names known) h)
    (new_behind name known one (All-tail (λ other. name ≡ other → ⊥) s.name (function_names known) h) g)

differ_behind : (known : List Signature) (one : Signature) → AreUnique (function_names known) →
    Each (λ (s : Signature). s.name ≡ one.name → ⊥) known → AreUnique (function_names (known ++ one ∷ []))
differ_behind [] one h g = (All-nil (λ other. one.name ≡ other → ⊥), tt)
differ_behind (s ∷ known) one h g = (new_behind s.name known one h.0 g.0, differ_behind known one h.1 g.1)

module _ (terms : Terms) (proper : Each IsFunctionField terms.signatures) where
  signature_kept : (known : List Signature) (name : List ℕ) (o : Option Signature) → signature_named terms.signatures name ≡ o → AreFields known →
      AreFields (with_signature terms known o)
  signature_kept known name None is h = h
  signature_kept known name (Some one) is h = by_known (signature_named known one.name) refl
    where
      by_known : (o : Option Signature) → signature_named known one.name ≡ o → AreFields (if is_some o then known else known ++ one ∷ [])
      by_known (Some there) e = h
      by_known None e = record {
        each = each_append IsFunctionField known (one ∷ []) h.each (signature_has IsFunctionField terms.signatures name one proper is, tt);
        differ = differ_behind known one h.differ (not_named known one.name e);
      }

  called_kept : (known : List Signature) (row : Option Row) (name : List ℕ) → AreFields known → AreFields (with_called terms known row name)
  called_kept known (Some row) name h = h
  called_kept known None name h = signature_kept known name (signature_named terms.signatures name) refl h

  function_kept : (known : List Signature) (i : Instr) → AreFields known → AreFields (with_function terms known i)
  function_kept known (code.CallFunc count name) h = called_kept known (builtin_named name) name h
  function_kept known i h = h

  after_kept : (known : List Signature) (cs : List Coded) → AreFields known → AreFields (functions_after terms known cs)
  after_kept known [] h = h
  after_kept known (c ∷ cs) h = after_kept (with_function terms known c.instr) cs (function_kept known c.instr h)

  in_kept : (known : List Signature) (ns : List CodeNode) → AreFields known → AreFields (functions_in terms known ns)
  in_kept known [] h = h
  in_kept known (n ∷ ns) h = in_kept (functions_after terms known n.code) ns (after_kept known n.code h)

  -- the functions of code are fields
  pub functions_fields : (ns : List CodeNode) → AreFields (functions_in terms [] ns)
  functions_fields ns = in_kept [] ns (record { each = tt; differ = tt })

-- ---- counts of arguments

one_small : (b : Bool) → one_if b ≤ 1
one_small true = omega arith
one_small false = omega arith

row_small : (row : Row) → row_arity row ≤ 2
row_small row = omega (arith, one_small (is_some row.first), one_small (is_some row.second))

declared_small : (signatures : List Signature) (name : List ℕ) (count : ℕ) → Each IsFunctionField signatures →
    declared_arity signatures name ≡ Some count → count ≤ 16
declared_small [] name count h e = absurd cc
declared_small (s ∷ signatures) name count h e = by_name (bytes_eq s.name name) e (declared_small signatures name count h.1)
  where
    by_name : (b : Bool) → (if b then Some (length s.params) else declared_arity signatures name) ≡ Some count →
        (declared_arity signatures name ≡ Some count → count ≤ 16) → count ≤ 16
    by_name true f g = let same : length s.params ≡ count = cc in omega (arith, same, h.0.few)
    by_name false f g = g f

arity_small : (signatures : List Signature) (name : List ℕ) (count : ℕ) → Each IsFunctionField signatures → arity_of signatures name ≡ Some count →
    count ≤ 16
unfolding arity_of
arity_small signatures name count h e = by_row (row_named builtin_rows name) e
  where
    by_row : (o : Option Row) → builtin_or o (declared_arity signatures name) ≡ Some count → count ≤ 16
    by_row (Some row) f = let same : row_arity row ≡ count = cc in omega (arith, same, row_small row)
    by_row None f = declared_small signatures name count h f

-- a call has at most 16 arguments
abbrev pub IsShortCall : Instr → Type 0
IsShortCall (code.CallFunc count name) = count ≤ 16
IsShortCall _ = Unit {0}

short_call : (p : Program) (n : CodeNode) (place : ℕ) (i : Instr) → Each IsFunctionField p.functions → PassesFirstLook p n place i → IsShortCall i
short_call p n place (code.CallFunc count name) h is = arity_small p.functions name count h is
short_call p n place i h is = tt

-- of each item, by the places where it stands
each_at : {A : Type 0} (P : A → Type 0) (xs : List A) → ((place : ℕ) (x : A) → slice_get xs place ≡ Some x → P x) → Each P xs
each_at P [] f = tt
each_at P (x ∷ xs) f = (f zero x refl, each_at P xs (λ place y e. f (suc place) y e))

pub short_calls : (p : Program) → Each IsFunctionField p.functions → (n : CodeNode) → IsValidNode p n →
    Each (λ (c : Coded). IsShortCall c.instr) n.code
short_calls p h n valid = each_at (λ (c : Coded). IsShortCall c.instr) n.code (λ place c e. short_call p n place c.instr h (valid.fine place c e))
