-- A reply of a host function is of the function's kind.
use Rattle.std.proofs.Common.{◌≡◌, ℕ, List, [], ◌∷◌, true, ◌&&◌, Some, sym, ap, ◌∙◌}
use Rattle.std.proofs.lemmas.Bool.{and_parts}
use Rattle.yarn_value.specs.declared.value.Value.{Value}
use Rattle.yarn_value.specs.declared.signature.Signature.{Signature}
use Rattle.yarn_value.specs.Values.{kind_of}
use Rattle.yarn_value.specs.Rows.{same_kind}
use Rattle.yarn_value.specs.Operations.{same_text}
use Rattle.yarn_value.specs.Signatures.{signature_named}
use Rattle.yarn_types.proofs.KindLemmas.{kind_same}
use Rattle.yarn_value.specs.Tape.{Tape}
use Rattle.yarn_value.specs.Replies.{is_short, is_reply_of, same_values, replied}
use Rattle.yarn_kinds.proofs.Evaluations.{IsOf, if_within}

module _ (functions : List Signature) (name : List ℕ) (s : Signature) (is : signature_named functions name ≡ Some s) where
  reply_kind : (v : Value) → is_reply_of (signature_named functions name) v ≡ true → kind_of v ≡ s.result
  reply_kind v h =
      let one : (same_kind s.result (kind_of v) && is_short v) ≡ true = ap (λ o. is_reply_of o v) (sym is) ∙ h in
      sym (kind_same s.result (kind_of v) (and_parts (same_kind s.result (kind_of v)) (is_short v) one).0)

  pub reply_gives : (args : List Value) (t : Tape) → IsOf s.result (replied functions name args t)
  reply_gives args [] = tt
  reply_gives args (r ∷ t) =
      if_within (λ v. kind_of v ≡ s.result) (same_text r.name name && same_values r.args args) _ _
      (λ same. if_within (λ v. kind_of v ≡ s.result) (is_reply_of (signature_named functions name) r.value) _ _ (reply_kind r.value) tt)
      tt
