-- What stands between joints, and lists that are joined.
use Rattle.std.proofs.Common.{◌≡◌, ℕ, suc, ◌+◌, ◌<◌, ◌≤◌, List, [], ◌∷◌, ◌++◌, length, take, drop, get_or, true, false, refl, sym, ap, ◌∙◌, drop-cons, add-one, take_all}
use Rattle.std.proofs.lemmas.List.{take_more, drop_all}
use Rattle.yarn_plural.specs.declared.token.Token.{Token}
use Rattle.yarn_plural.specs.declared.token.Joint.{Joint}
use Rattle.yarn_plural.specs.Steps.{pieces, onto, separates}

-- the tokens stand at the front of the first piece
abbrev pub onto_all : List Token → List (List Token) → List (List Token)
onto_all [] ps = ps
onto_all (t ∷ ts) ps = onto t (onto_all ts ps)

onto_all-push : (ts : List Token) (t : Token) (ps : List (List Token)) → onto_all (ts ++ t ∷ []) ps ≡ onto_all ts (onto t ps)
onto_all-push [] t ps = refl
onto_all-push (u ∷ ts) t ps = ap (λ l. onto u l) (onto_all-push ts t ps)

onto_all-empty : (ts : List Token) (ps : List (List Token)) → onto_all ts ([] ∷ ps) ≡ ts ∷ ps
onto_all-empty [] ps = refl
onto_all-empty (u ∷ ts) ps = ap (λ l. onto u l) (onto_all-empty ts ps)

-- no joint stands before this place
abbrev pub IsCutting : Joint → List Token → ℕ → Type 0
IsCutting j ts at = pieces j ts ≡ onto_all (take at ts) (pieces j (drop at ts))

pub cut-there : (j : Joint) (ts : List Token) (at : ℕ) (d : Token) → IsCutting j ts at → at < length ts → separates j (get_or ts at d) ≡ true →
    pieces j ts ≡ take at ts ∷ pieces j (drop (at + 1) ts)
cut-there j ts at d so_far lt is =
    so_far ∙ ap (λ l. onto_all (take at ts) (pieces j l)) (drop-cons ts at d lt) ∙ rw (is, add-one) (onto_all-empty (take at ts) (pieces j (drop (suc at) ts)))

pub cut-not : (j : Joint) (ts : List Token) (at : ℕ) (d : Token) → IsCutting j ts at → at < length ts → separates j (get_or ts at d) ≡ false →
    IsCutting j ts (at + 1)
cut-not j ts at d so_far lt is =
    so_far ∙ ap (λ l. onto_all (take at ts) (pieces j l)) (drop-cons ts at d lt)
    ∙ rw (is, take_more ts at d lt, add-one) (sym (onto_all-push (take at ts) (get_or ts at d) (pieces j (drop (suc at) ts))))

pub cut-none : (j : Joint) (ts : List Token) (at : ℕ) → IsCutting j ts at → length ts ≤ at → pieces j ts ≡ ts ∷ []
cut-none j ts at so_far le = so_far ∙ rw (take_all at ts le, drop_all at ts le) (onto_all-empty ts [])
