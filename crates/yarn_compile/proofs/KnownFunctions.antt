-- The host functions that are called are the program's.
use Rattle.std.proofs.Common.{◌≡◌, ℕ, List, [], ◌∷◌, ◌++◌, nat_eq, if◌then◌else◌, Option, Some, None, is_some, refl, sym, ap, ◌∙◌, subst, Bool, true, false}
use Rattle.std.specs.Cmp.Lexicographic.{pointwise}
use Rattle.std.proofs.lemmas.Slice.Eq.{bytes_eq-Decides}
use Rattle.yarn_value.specs.declared.signature.Signature.{Signature}
use Rattle.yarn_value.specs.Builtins.{Row, builtin_named}
use Rattle.yarn_value.specs.Signatures.{signature_named}
use Rattle.yarn_code.specs.declared.program.Instr.TheVariants as code
use Rattle.yarn_code.specs.declared.program.Instr.{Instr}
use Rattle.yarn_code.specs.declared.program.Coded.{Coded}
use Rattle.yarn_code.specs.declared.program.CodeNode.{CodeNode}
use Rattle.yarn_code.specs.declared.program.Program.{Program}
use Rattle.yarn_compile.specs.Code.{Terms, with_signature, with_called, with_function, functions_after, functions_in}
use Rattle.yarn_compile.proofs.Parts.{Each}
use Rattle.yarn_compile.proofs.ExpressionShapes.{IsKnown, AreKnown}

-- a list finds what the signatures have
abbrev FindsNo : List Signature → List Signature → Type 0
FindsNo signatures known = (name : List ℕ) (s : Signature) → signature_named known name ≡ Some s → signature_named signatures name ≡ Some s

-- the longer list finds all that the shorter one does
abbrev Keeps : List Signature → List Signature → Type 0
Keeps known more = (name : List ℕ) (s : Signature) → signature_named known name ≡ Some s → signature_named more name ≡ Some s

named : (signatures : List Signature) (name : List ℕ) (s : Signature) → signature_named signatures name ≡ Some s → s.name ≡ name
named [] name s e = absurd cc
named (one ∷ more) name s e = by_name (pointwise nat_eq one.name name) refl e (named more name s)
  where
    by_name : (b : Bool) → pointwise nat_eq one.name name ≡ b → (if b then Some one else signature_named more name) ≡ Some s → (signature_named more name ≡ Some s → s.name ≡ name) → s.name ≡ name
    by_name true is f g = let same : one ≡ s = cc in ap (λ (x : Signature). x.name) (sym same) ∙ (bytes_eq-Decides one.name name).0 is
    by_name false is f g = g f

keeps_append : (known : List Signature) (one : Signature) → Keeps known (known ++ one ∷ [])
keeps_append [] one name s e = absurd cc
keeps_append (x ∷ known) one name s e = by_name (pointwise nat_eq x.name name) e (keeps_append known one name s)
  where
    by_name : (b : Bool) → (if b then Some x else signature_named known name) ≡ Some s → (signature_named known name ≡ Some s → signature_named (known ++ one ∷ []) name ≡ Some s) →
        (if b then Some x else signature_named (known ++ one ∷ []) name) ≡ Some s
    by_name true f g = f
    by_name false f g = g f

new_last : (known : List Signature) (one : Signature) (name : List ℕ) → one.name ≡ name → signature_named known name ≡ None → signature_named (known ++ one ∷ []) name ≡ Some one
new_last [] one name is e = ap (λ b. if b then Some one else None) ((bytes_eq-Decides one.name name).1 is)
new_last (x ∷ known) one name is e = by_name (pointwise nat_eq x.name name) e (new_last known one name is)
  where
    by_name : (b : Bool) → (if b then Some x else signature_named known name) ≡ None → (signature_named known name ≡ None → signature_named (known ++ one ∷ []) name ≡ Some one) →
        (if b then Some x else signature_named (known ++ one ∷ []) name) ≡ Some one
    by_name true f g = absurd cc
    by_name false f g = g f

finds_append : (signatures known : List Signature) (one : Signature) → FindsNo signatures known → signature_named signatures one.name ≡ Some one → FindsNo signatures (known ++ one ∷ [])
finds_append signatures known one finds own name s e = by_known (signature_named known name) refl
  where
    by_last : (b : Bool) → pointwise nat_eq one.name name ≡ b → signature_named known name ≡ None → signature_named signatures name ≡ Some s
    by_last true is none =
        let same : one.name ≡ name = (bytes_eq-Decides one.name name).0 is in
        let found = new_last known one name same none in
        let eq : one ≡ s = cc (found, e) in
        ap (signature_named signatures) (sym same) ∙ own ∙ ap (λ (x : Signature). Some x) eq
    by_last false is none = absurd (past known none e)
      where
        past : (l : List Signature) → signature_named l name ≡ None → signature_named (l ++ one ∷ []) name ≡ Some s → ⊥
        past [] n f = let x : (if false then Some one else None) ≡ Some s = ap (λ b. if b then Some one else None) (sym is) ∙ f in cc
        past (x ∷ l) n f = by_name (pointwise nat_eq x.name name) n f (past l)
          where
            by_name : (b : Bool) → (if b then Some x else signature_named l name) ≡ None → (if b then Some x else signature_named (l ++ one ∷ []) name) ≡ Some s →
                (signature_named l name ≡ None → signature_named (l ++ one ∷ []) name ≡ Some s → ⊥) → ⊥
            by_name true n f g = cc
            by_name false n f g = g n f

    by_known : (o : Option Signature) → signature_named known name ≡ o → signature_named signatures name ≡ Some s
    by_known None is = by_last (pointwise nat_eq one.name name) refl is
    by_known (Some t) is =
        let kept = keeps_append known one name t is in
        let same : t ≡ s = cc (kept, e) in
        finds name t is ∙ ap (λ (x : Signature). Some x) same

module _ (terms : Terms) where
  -- a call whose function is found
  abbrev IsSeen : List Signature → Instr → Type 0
  IsSeen known (code.CallFunc count name) = builtin_named name ≡ None → (s : Signature) → signature_named terms.signatures name ≡ Some s → signature_named known name ≡ Some s
  IsSeen known _ = Unit {0}

  abbrev AreSeen : List Signature → List Coded → Type 0
  AreSeen known = Each (λ c. IsSeen known c.instr)

  record Step (known : List Signature) (i : Instr) (more : List Signature) : Type 0 where
    finds : FindsNo terms.signatures more
    keeps : Keeps known more
    seen : IsSeen more i

  seen_call : (known : List Signature) (count : ℕ) (name : List ℕ) → FindsNo terms.signatures known → Step known (code.CallFunc count name) (with_called terms known (builtin_named name) name)
  seen_call known count name finds = by_row (builtin_named name) refl
    where
      by_found : (one : Signature) → signature_named terms.signatures name ≡ Some one → (o : Option Signature) → signature_named known one.name ≡ o →
          Step known (code.CallFunc count name) (if is_some o then known else known ++ one ∷ [])
      by_found one is (Some t) there =
          let own = named terms.signatures name one is in
          let at : signature_named known name ≡ Some t = ap (signature_named known) (sym own) ∙ there in
          let same : signature_named terms.signatures name ≡ Some t = finds name t at in
          record {
            finds = finds;
            keeps = λ n s e. e;
            seen = λ none s e. let eq : t ≡ s = cc (same, e) in at ∙ ap (λ (x : Signature). Some x) eq;
          }
      by_found one is None there =
          let own = named terms.signatures name one is in
          record {
            finds = finds_append terms.signatures known one finds (ap (signature_named terms.signatures) own ∙ is);
            keeps = keeps_append known one;
            seen = λ none s e. let eq : one ≡ s = cc (is, e) in new_last known one name own (ap (signature_named known) (sym own) ∙ there) ∙ ap (λ (x : Signature). Some x) eq;
          }

      by_signature : (o : Option Signature) → signature_named terms.signatures name ≡ o → Step known (code.CallFunc count name) (with_signature terms known o)
      by_signature None is = record { finds = finds; keeps = λ n s e. e; seen = λ none s e. absurd (cc (is, e)) }
      by_signature (Some one) is = by_found one is (signature_named known one.name) refl

      by_row : (r : Option Row) → builtin_named name ≡ r → Step known (code.CallFunc count name) (with_called terms known r name)
      by_row (Some row) is = record { finds = finds; keeps = λ n s e. e; seen = λ none s e. absurd (cc (is, none)) }
      by_row None is = by_signature (signature_named terms.signatures name) refl

  seen_step : (known : List Signature) (i : Instr) → FindsNo terms.signatures known → Step known i (with_function terms known i)
  seen_step known (code.CallFunc count name) finds = seen_call known count name finds
  seen_step known i finds = record { finds = finds; keeps = λ n s e. e; seen = tt }

  seen_more : (known more : List Signature) (i : Instr) → Keeps known more → IsSeen known i → IsSeen more i
  seen_more known more (code.CallFunc count name) keeps seen = λ none s e. keeps name s (seen none s e)
  seen_more known more i keeps seen = tt

  seen_all_more : (known more : List Signature) (cs : List Coded) → Keeps known more → AreSeen known cs → AreSeen more cs
  seen_all_more known more [] keeps seen = tt
  seen_all_more known more (c ∷ cs) keeps seen = (seen_more known more c.instr keeps seen.0, seen_all_more known more cs keeps seen.1)

  record Steps (known : List Signature) (cs : List Coded) (more : List Signature) : Type 0 where
    finds : FindsNo terms.signatures more
    keeps : Keeps known more
    seen : AreSeen more cs

  steps : (known : List Signature) (cs : List Coded) → FindsNo terms.signatures known → Steps known cs (functions_after terms known cs)
  steps known [] finds = record { finds = finds; keeps = λ n s e. e; seen = tt }
  steps known (c ∷ cs) finds =
      let one = seen_step known c.instr finds in
      let next = with_function terms known c.instr in
      let all = steps next cs one.finds in
      record {
        finds = all.finds;
        keeps = λ n s e. all.keeps n s (one.keeps n s e);
        seen = (seen_more next (functions_after terms next cs) c.instr all.keeps one.seen, all.seen);
      }

  abbrev AllSeen : List Signature → List CodeNode → Type 0
  AllSeen known = Each (λ (n : CodeNode). AreSeen known n.code)

  record NodesSeen (known : List Signature) (ns : List CodeNode) (more : List Signature) : Type 0 where
    finds : FindsNo terms.signatures more
    keeps : Keeps known more
    seen : AllSeen more ns

  all_steps : (known : List Signature) (ns : List CodeNode) → FindsNo terms.signatures known → NodesSeen known ns (functions_in terms known ns)
  all_steps known [] finds = record { finds = finds; keeps = λ n s e. e; seen = tt }
  all_steps known (n ∷ ns) finds =
      let one = steps known n.code finds in
      let next = functions_after terms known n.code in
      let all = all_steps next ns one.finds in
      record {
        finds = all.finds;
        keeps = λ m s e. all.keeps m s (one.keeps m s e);
        seen = (seen_all_more next (functions_in terms next ns) n.code all.keeps one.seen, all.seen);
      }

  -- a call that is seen is known
  module _ (p : Program) (finds : FindsNo terms.signatures p.functions) where
    known_instr : (i : Instr) → IsSeen p.functions i → IsKnown terms.signatures p i
    known_instr (code.CallFunc count name) seen = λ none. by_signature seen none (signature_named terms.signatures name) refl ∙ refl
      where
        by_none : (o : Option Signature) → signature_named p.functions name ≡ o → signature_named terms.signatures name ≡ None → o ≡ None
        by_none None is e = refl
        by_none (Some s) is e = absurd (cc (finds name s is, e))

        by_signature : IsSeen p.functions (code.CallFunc count name) → builtin_named name ≡ None → (o : Option Signature) → signature_named terms.signatures name ≡ o → signature_named p.functions name ≡ o
        by_signature see none None e = by_none (signature_named p.functions name) refl e
        by_signature see none (Some s) e = see none s e
    known_instr i seen = tt

    known_code : (cs : List Coded) → AreSeen p.functions cs → AreKnown terms.signatures p cs
    known_code [] seen = tt
    known_code (c ∷ cs) seen = (known_instr c.instr seen.0, known_code cs seen.1)

    known_nodes : (ns : List CodeNode) → AllSeen p.functions ns → Each (λ (n : CodeNode). AreKnown terms.signatures p n.code) ns
    known_nodes [] seen = tt
    known_nodes (n ∷ ns) seen = (known_code n.code seen.0, known_nodes ns seen.1)

  -- the functions of a program that are those of its code
  pub functions_known : (p : Program) → p.functions ≡ functions_in terms [] p.nodes → Each (λ (n : CodeNode). AreKnown terms.signatures p n.code) p.nodes
  functions_known p is =
      let all = all_steps [] p.nodes (λ name s e. absurd cc) in
      known_nodes p (subst (FindsNo terms.signatures) (sym is) all.finds) p.nodes (subst (λ f. AllSeen f p.nodes) (sym is) all.seen)
