-- A program knows each host function that its code calls as its project does.
use Rattle.std.proofs.Common.{◌≡◌, ℕ, zero, suc, ◌⊎◌, inl, inr, Bool, true, false, if◌then◌else◌, List, [], ◌∷◌, ◌++◌, nat_eq, slice_get, Option, Some, None, is_some, refl, sym, ap, ◌∙◌, subst}
use Rattle.std.specs.Cmp.Lexicographic.{pointwise}
use Rattle.std.specs.Option.{option_or}
use Rattle.std.proofs.lemmas.Slice.Eq.{bytes_eq-Decides}
use Rattle.yarn_value.specs.declared.signature.Signature.{Signature}
use Rattle.yarn_value.specs.Builtins.{Row, builtin_named}
use Rattle.yarn_value.specs.Signatures.{signature_named}
use Rattle.yarn_code.specs.declared.program.Instr.TheVariants as instr
use Rattle.yarn_code.specs.declared.program.Instr.{Instr}
use Rattle.yarn_code.specs.declared.program.Coded.{Coded}
use Rattle.yarn_code.specs.Parts.{coded, code_titled}
use Rattle.yarn_code.specs.declared.program.CodeNode.{CodeNode}
use Rattle.yarn_compile.specs.Code.{Terms, with_signature, with_called, with_function, functions_after, functions_in}

named_last : (known : List Signature) (one : Signature) (name : List ℕ) →
    signature_named (known ++ one ∷ []) name ≡ option_or (signature_named known name) (if pointwise nat_eq one.name name then Some one else None)
named_last [] one name = refl
named_last (s ∷ known) one name = by_name (pointwise nat_eq s.name name) (named_last known one name)
  where
    by_name : (b : Bool) →
        signature_named (known ++ one ∷ []) name ≡ option_or (signature_named known name)
        (if pointwise nat_eq one.name name then Some one else None) →
        (if b then Some s else signature_named (known ++ one ∷ []) name) ≡ option_or (if b then Some s else signature_named known name)
        (if pointwise nat_eq one.name name then Some one else None)
    by_name true e = refl
    by_name false e = e

-- a signature that is found has the name
found_name : (known : List Signature) (one : Signature) (name : List ℕ) → signature_named known name ≡ Some one → one.name ≡ name
found_name [] one name e = cc
found_name (s ∷ known) one name e = by_name (pointwise nat_eq s.name name) refl e (λ e1. found_name known one name e1)
  where
    by_name : (b : Bool) → pointwise nat_eq s.name name ≡ b → (if b then Some s else signature_named known name) ≡ Some one →
        (signature_named known name ≡ Some one → one.name ≡ name) → one.name ≡ name
    by_name true eb e' more = let same : s ≡ one = cc in ap (λ x. x.name) (sym same) ∙ (bytes_eq-Decides s.name name).0 eb
    by_name false eb e' more = more e'

module _ (terms : Terms) where
  -- known as the project knows it
  abbrev Settled : List Signature → List ℕ → Type 0
  Settled known name = signature_named known name ≡ signature_named terms.signatures name

  -- not known, or as the project knows it
  abbrev Fine : List Signature → List ℕ → Type 0
  Fine known name = (signature_named known name ≡ None) ⊎ Settled known name

  -- what one more instruction does
  record Step (known more : List Signature) : Type 0 where
    fine : (name : List ℕ) → Fine known name → Fine more name
    settled : (name : List ℕ) → Settled known name → Settled more name

  stays : (known : List Signature) → Step known known
  stays known = record { fine = λ name f. f; settled = λ name s. s }

  steps_on : (a b c : List Signature) → Step a b → Step b c → Step a c
  steps_on a b c x y = record { fine = λ name f. y.fine name (x.fine name f); settled = λ name s. y.settled name (x.settled name s) }

  -- one that is put last is one of the project
  last_fine : (one : Signature) (own name : List ℕ) → signature_named terms.signatures own ≡ Some one → (b : Bool) →
      pointwise nat_eq one.name name ≡ b →
      ((if b then Some one else None) ≡ None) ⊎ ((if b then Some one else None) ≡ signature_named terms.signatures name)
  last_fine one own name e true eb =
      let same : own ≡ name = sym (found_name terms.signatures one own e) ∙ (bytes_eq-Decides one.name name).0 eb in
      inr (sym e ∙ ap (signature_named terms.signatures) same)
  last_fine one own name e false eb = inl refl

  or_fine : (o last project : Option Signature) → (o ≡ None) ⊎ (o ≡ project) → (last ≡ None) ⊎ (last ≡ project) →
      (option_or o last ≡ None) ⊎ (option_or o last ≡ project)
  or_fine None last project h g = g
  or_fine (Some s) last project (inl e) g = absurd cc
  or_fine (Some s) last project (inr e) g = inr e

  or_settled : (o last project : Option Signature) → o ≡ project → (last ≡ None) ⊎ (last ≡ project) → option_or o last ≡ project
  or_settled None last project e (inl g) = g ∙ e
  or_settled None last project e (inr g) = g
  or_settled (Some s) last project e g = e

  put_last : (known : List Signature) (one : Signature) (own : List ℕ) → signature_named terms.signatures own ≡ Some one →
      Step known (known ++ one ∷ [])
  put_last known one own e = record {
    fine = λ name f. subst (λ o. (o ≡ None) ⊎ (o ≡ signature_named terms.signatures name)) (sym (named_last known one name))
        (or_fine (signature_named known name) (if pointwise nat_eq one.name name then Some one else None) (signature_named terms.signatures name) f
        (last_fine one own name e (pointwise nat_eq one.name name) refl));
    settled = λ name s. named_last known one name
        ∙ or_settled (signature_named known name) (if pointwise nat_eq one.name name then Some one else None)
        (signature_named terms.signatures name) s (last_fine one own name e (pointwise nat_eq one.name name) refl);
  }

  -- ---- a name that is called

  added : (known : List Signature) (one : Signature) (own : List ℕ) → signature_named terms.signatures own ≡ Some one → (b : Bool) →
      Step known (if b then known else known ++ one ∷ [])
  added known one own e true = stays known
  added known one own e false = put_last known one own e

  with_step : (known : List Signature) (name : List ℕ) (o : Option Signature) → signature_named terms.signatures name ≡ o →
      Step known (with_signature terms known o)
  with_step known name None e = stays known
  with_step known name (Some one) e = added known one name e (is_some (signature_named known one.name))

  called_step : (known : List Signature) (row : Option Row) (name : List ℕ) → Step known (with_called terms known row name)
  called_step known (Some row) name = stays known
  called_step known None name = with_step known name (signature_named terms.signatures name) refl

  function_step : (known : List Signature) (i : Instr) → Step known (with_function terms known i)
  function_step known (instr.CallFunc count name) = called_step known (builtin_named name) name
  function_step known (instr.JumpTo label) = stays known
  function_step known instr.Jump = stays known
  function_step known (instr.RunLine count id) = stays known
  function_step known (instr.RunCommand count text) = stays known
  function_step known (instr.AddOption count id label conditional) = stays known
  function_step known instr.ShowOptions = stays known
  function_step known (instr.PushString text) = stays known
  function_step known (instr.PushFloat number) = stays known
  function_step known (instr.PushBool b) = stays known
  function_step known instr.PushNull = stays known
  function_step known (instr.JumpIfFalse label) = stays known
  function_step known instr.Pop = stays known
  function_step known (instr.PushVariable name) = stays known
  function_step known (instr.StoreVariable name) = stays known
  function_step known instr.Stop = stays known
  function_step known instr.RunNode = stays known

  after_step : (known : List Signature) (cs : List Coded) → Step known (functions_after terms known cs)
  after_step known [] = stays known
  after_step known (c ∷ cs) =
      steps_on known (with_function terms known c.instr) (functions_after terms (with_function terms known c.instr) cs) (function_step known c.instr)
      (after_step (with_function terms known c.instr) cs)

  in_step : (known : List Signature) (ns : List CodeNode) → Step known (functions_in terms known ns)
  in_step known [] = stays known
  in_step known (n ∷ ns) =
      steps_on known (functions_after terms known n.code) (functions_in terms (functions_after terms known n.code) ns) (after_step known n.code)
      (in_step (functions_after terms known n.code) ns)

  -- the name that is called is settled
  settles : (known : List Signature) (name : List ℕ) (o : Option Signature) → signature_named terms.signatures name ≡ o → Fine known name →
      Settled (with_signature terms known o) name
  settles known name None e (inl f) = f ∙ sym e
  settles known name None e (inr f) = f
  settles known name (Some one) e f =
      let named : one.name ≡ name = found_name terms.signatures one name e in
      by_there (is_some (signature_named known one.name)) (ap (λ x. is_some (signature_named known x)) (sym named))
      (signature_named known name) refl f
    where
      of_last : pointwise nat_eq one.name name ≡ true → (o : Option Signature) → signature_named known name ≡ o → is_some o ≡ false →
          signature_named (known ++ one ∷ []) name ≡ signature_named terms.signatures name
      of_last t None h none = named_last known one name ∙ (λ i. option_or (h i) (if t i then Some one else None)) ∙ sym e
      of_last t (Some s) h none = cc

      by_there : (b : Bool) → is_some (signature_named known name) ≡ b → (o : Option Signature) → signature_named known name ≡ o →
          Fine known name → Settled (if b then known else known ++ one ∷ []) name
      by_there true there o h (inr f') = f'
      by_there true there o h (inl f') = let x : is_some (signature_named known name) ≡ false = ap is_some f' in absurd cc
      by_there false there o h f' =
          of_last ((bytes_eq-Decides one.name name).1 (found_name terms.signatures one name e)) (signature_named known name) refl there

  settles_call : (known : List Signature) (row : Option Row) (name : List ℕ) → row ≡ None → Fine known name →
      Settled (with_called terms known row name) name
  settles_call known None name e f = settles known name (signature_named terms.signatures name) refl f
  settles_call known (Some row) name e f = absurd cc

  -- ---- a call in the code

  in_code : (known : List Signature) (cs : List Coded) (pc count line : ℕ) (name : List ℕ) →
      slice_get cs pc ≡ Some (coded line (instr.CallFunc count name)) → builtin_named name ≡ None →
      ((x : List ℕ) → Fine known x) → Settled (functions_after terms known cs) name
  in_code known [] pc count line name h none fine = absurd cc
  in_code known (c ∷ cs) zero count line name h none fine =
      let same : c ≡ coded line (instr.CallFunc count name) = cc in
      let i : c.instr ≡ instr.CallFunc count name = ap (λ x. x.instr) same in
      (after_step (with_function terms known c.instr) cs).settled name
      (subst (λ x. Settled (with_function terms known x) name) (sym i) (settles_call known (builtin_named name) name none (fine name)))
  in_code known (c ∷ cs) (suc pc) count line name h none fine =
      in_code (with_function terms known c.instr) cs pc count line name h none (λ x. (function_step known c.instr).fine x (fine x))

  in_nodes : (known : List Signature) (ns : List CodeNode) (title : List ℕ) (n : CodeNode) → code_titled title ns ≡ Some n →
      (pc count line : ℕ) (name : List ℕ) →
      slice_get n.code pc ≡ Some (coded line (instr.CallFunc count name)) → builtin_named name ≡ None → ((x : List ℕ) → Fine known x) →
      Settled (functions_in terms known ns) name
  in_nodes known [] title n e pc count line name h none fine = absurd cc
  in_nodes known (x ∷ ns) title n e pc count line name h none fine =
      by_title (pointwise nat_eq x.title title) e
      (λ e1. in_nodes (functions_after terms known x.code) ns title n e1 pc count line name h none (λ y. (after_step known x.code).fine y (fine y)))
    where
      by_title : (b : Bool) → (if b then Some x else code_titled title ns) ≡ Some n →
          (code_titled title ns ≡ Some n → Settled (functions_in terms (functions_after terms known x.code) ns) name) →
          Settled (functions_in terms known (x ∷ ns)) name
      by_title true e' more =
          let same : x ≡ n = cc in
          let h' = subst (λ y. slice_get y.code pc ≡ Some (coded line (instr.CallFunc count name))) (sym same) h in
          (in_step (functions_after terms known x.code) ns).settled name (in_code known x.code pc count line name h' none fine)
      by_title false e' more = more e'

  -- each host function that the code of a node calls
  pub known_functions : (ns : List CodeNode) (title : List ℕ) (n : CodeNode) → code_titled title ns ≡ Some n → (pc count line : ℕ) (name : List ℕ) →
      slice_get n.code pc ≡ Some (coded line (instr.CallFunc count name)) → builtin_named name ≡ None →
      signature_named (functions_in terms [] ns) name ≡ signature_named terms.signatures name
  known_functions ns title n e pc count line name h none = in_nodes [] ns title n e pc count line name h none (λ x. inl refl)
